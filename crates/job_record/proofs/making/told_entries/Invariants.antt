use Rattle.std.proofs.Common.{◌≡◌, map, take}
use Rattle.job_record.specs.Telling.{told_with}
use Rattle.job_record.proofs.making.told_entries.Given as goal

abbrev pub invariant-loop-change : goal.invariant-loop-change
invariant-loop-change l = l.all.items ≡ map (told_with l.before l.after) (take l.change-index l.changes)
