use Rattle.local_db.proofs.FileNames.{database_is_path}
use Rattle.local_db.proofs.names.database_path.Goals as goal

pub path_of-requires : goal.path_of-requires
path_of-requires c = database_is_path
