use Rattle.rollback_stack.proofs.Keeping.{base_ready, is_saved_job, keeps_system, saved_ready, saving_within}
use Rattle.job_targets.proofs.tree-journal.Preparing.{makes_stopped, prepares_stop, prepares_then}
use Rattle.std.proofs.Common.{arith}
use Rattle.job_targets.proofs.tree-disk.ConfinedLaws.{confined_then, confined_wider}
use Rattle.rollback_stack.proofs.saving.save_job.Goals as goal

pub returns-in_err-make_ready : goal.returns-in_err-make_ready
returns-in_err-make_ready g c = record {
  saves = makes_stopped _ (λ q h. h) c.in_err-make_ready.ensures.makes c.from_residual.ensures.1;
  keeps = λ f s next tells synced stores. keeps_system f s c.args.number c.args.dropped next (omega arith) (c.in_err-make_ready.ensures.makes.confined tells) synced stores;
}

pub save_all-requires-clause-base : goal.save_all-requires-clause-base
save_all-requires-clause-base g c tells =
    base_ready c.args.number c.args.dropped (g.D.TreeDisk.disk.reads c.args.disk.now) (g.D.TreeDisk.disk.reads c.make_ready.new.disk) (c.in_ok-make_ready.ensures.makes.ended tells)

pub save_all-requires-clause-bare : goal.save_all-requires-clause-bare
save_all-requires-clause-bare g c tells =
    saved_ready c.args.number c.args.dropped (g.D.TreeDisk.disk.reads c.args.disk.now) (g.D.TreeDisk.disk.reads c.make_ready.new.disk) (c.in_ok-make_ready.ensures.makes.ended tells)

pub returns-in_err-save_all : goal.returns-in_err-save_all
returns-in_err-save_all g c =
    let ready = c.in_ok-make_ready.ensures.makes in
    let run = c.in_err-save_all.ensures in record {
      saves = prepares_stop _ ready.later ready.confined run.later (λ tells. confined_wider (saving_within c.args.number c.args.dropped) (run.confined tells)) run.ends c.from_residual-in_err-save_all.ensures.1;
      keeps = λ f s next tells synced stores. keeps_system f s c.args.number c.args.dropped next (omega arith)
          (confined_then (ready.confined tells) (confined_wider (saving_within c.args.number c.args.dropped) (run.confined tells))) synced stores;
    }

pub returns : goal.returns
returns g c =
    let ready = c.in_ok-make_ready.ensures.makes in
    let run = c.in_ok-save_all.ensures in record {
      saves = prepares_then ready.later ready.confined run.later (λ tells. confined_wider (saving_within c.args.number c.args.dropped) (run.confined tells))
          (λ tells. is_saved_job c.args.number c.args.dropped c.args.entries.now (g.D.TreeDisk.disk.reads c.args.disk.now) (g.D.TreeDisk.disk.reads c.make_ready.new.disk) (g.D.TreeDisk.disk.reads c.save_all.new.disk)
          (omega arith) c.in_ok-make_ready.ensures.fits (ready.ended tells) (run.confined tells).reads (run.ends tells));
      keeps = λ f s next tells synced stores. keeps_system f s c.args.number c.args.dropped next (omega arith)
          (confined_then (ready.confined tells) (confined_wider (saving_within c.args.number c.args.dropped) (run.confined tells))) synced stores;
    }
