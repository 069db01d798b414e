use Rattle.std.proofs.Common.{take}
use Rattle.job_record.specs.Recorded.{HasNoted}
use Rattle.job_record.proofs.recorded.note_files.Given as goal

abbrev pub invariant-loop-file : goal.invariant-loop-file
invariant-loop-file l = HasNoted l.changes (take l.file-index l.files) l.fn.marks l.marks
