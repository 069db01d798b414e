use Rattle.job_record.proofs.Leading.{MadeSoFar}
use Rattle.job_record.proofs.job_deltas.deltas_of.Given as goal

abbrev pub invariant-loop-name : goal.invariant-loop-name
invariant-loop-name l = MadeSoFar l.names l.after l.before l.deltas.items l.name-index
