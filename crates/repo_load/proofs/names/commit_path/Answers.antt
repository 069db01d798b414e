use Rattle.std.proofs.Common.{ap, ◌∙◌}
use Rattle.repo_index.specs.cny-base.Path.{is_path}
use Rattle.repo_load.proofs.FileNames.{commit_is_path}
use Rattle.repo_load.proofs.names.commit_path.Goals as goal

pub path_of-requires : goal.path_of-requires
path_of-requires c = ap is_path (c.as_str.ensures.value ∙ c.in_ok-text.ensures) ∙ commit_is_path c.args.number c.ranges.number.fits
