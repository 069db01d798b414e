use Rattle.std.proofs.Common.{◌≡◌, All, take, true}
use Rattle.local_db.specs.Installed.{recorded}
use Rattle.past_jobs.specs.Table.{may_stand, troves_of}
use Rattle.past_jobs.proofs.table.may_join.Given as goal

abbrev pub invariant-loop-file : goal.invariant-loop-file
invariant-loop-file l = All (λ file. may_stand (recorded (troves_of l.table.troves) file.path) file.rec ≡ true) (take l.file-index l.trove.files)
