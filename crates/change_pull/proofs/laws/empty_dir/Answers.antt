use Rattle.change_pull.proofs.EmptyDir.{no_files_in_empty, room_in_empty}
use Rattle.change_pull.proofs.laws.empty_dir.Goals as goal

pub returns-clause-room : goal.returns-clause-room
returns-clause-room c tree dir is = room_in_empty tree dir is

pub returns-clause-files : goal.returns-clause-files
returns-clause-files c tree dir is = no_files_in_empty tree dir is
