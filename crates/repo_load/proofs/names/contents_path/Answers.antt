use Rattle.repo_load.proofs.FileNames.{contents_is_path}
use Rattle.repo_load.proofs.names.contents_path.Goals as goal

pub path_of-requires : goal.path_of-requires
path_of-requires c = contents_is_path
