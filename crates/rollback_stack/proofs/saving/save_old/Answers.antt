use Rattle.std.proofs.Common.{sym}
use Rattle.job_targets.proofs.tree-journal.Preparing.{prepares_weaker}
use Rattle.rollback_stack.proofs.Saved.{nothing_saved, own_name, own_saved, run_stopped}
use Rattle.rollback_stack.proofs.saving.save_old.Goals as goal

pub returns-in_default : goal.returns-in_default
returns-in_default g c = nothing_saved g.met.D.TreeDisk.laws c.args.dir.now c.args.entry.now.was c.args.disk.now (sym c.in_default.ensures)

pub save-requires-clause-free : goal.save-requires-clause-free
save-requires-clause-free g c = λ tells. c.requires.free tells c.in-Some.bytes.now (sym c.in-Some.ensures)

pub returns-in_err-save : goal.returns-in_err-save
returns-in_err-save g c = run_stopped _ (own_name c.args.dir.now c.in-Some.bytes.now c.args.entry.now.was (sym c.in-Some.ensures)) c.in_err-save.ensures c.from_residual.ensures.1

pub returns : goal.returns
returns g c =
    prepares_weaker (own_name c.args.dir.now c.in-Some.bytes.now c.args.entry.now.was (sym c.in-Some.ensures)) (own_saved c.args.dir.now c.in-Some.bytes.now c.args.entry.now.was (sym c.in-Some.ensures)) c.in_ok-save.ensures
