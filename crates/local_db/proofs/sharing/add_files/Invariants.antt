use Rattle.local_db.proofs.Apart.{AddedFiles}
use Rattle.local_db.proofs.sharing.add_files.Given as goal

abbrev pub invariant-loop-file : goal.invariant-loop-file
invariant-loop-file l = AddedFiles l.files l.file-index l.fn.kinds l.kinds
