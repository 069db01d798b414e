use Rattle.content_store.proofs.Paths.{same_content_path}
use Rattle.content_store.proofs.path_of.names_apart.Goals as goal

pub returns : goal.returns
returns c dir is = same_content_path dir c.args.name.now c.args.other.now c.fits-name c.fits-other is
