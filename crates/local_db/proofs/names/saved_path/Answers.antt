use Rattle.std.proofs.Common.{ap, ◌∙◌}
use Rattle.trove_stream.specs.cny-base.Path.{is_path}
use Rattle.local_db.proofs.FileNames.{saved_is_path}
use Rattle.local_db.proofs.names.saved_path.Goals as goal

pub path_of-requires : goal.path_of-requires
path_of-requires c = ap is_path (c.as_str.ensures.value ∙ c.in_ok-text.ensures) ∙ saved_is_path c.args.number c.ranges.number.fits
