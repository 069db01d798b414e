use Rattle.local_db.proofs.FileNames.{base_is_path}
use Rattle.local_db.proofs.names.base_path.Goals as goal

pub path_of-requires : goal.path_of-requires
path_of-requires c = base_is_path
