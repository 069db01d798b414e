use Rattle.std.proofs.Common.{ap, ◌∙◌}
use Rattle.repo_index.specs.cny-base.Path.{is_path}
use Rattle.repo_load.proofs.FileNames.{content_is_path}
use Rattle.repo_load.proofs.names.content_path.Goals as goal

pub path_of-requires : goal.path_of-requires
path_of-requires c = ap is_path (c.as_str.ensures.value ∙ c.in_ok-text.ensures) ∙ content_is_path c.args.name.now c.told-name c.fits-name
