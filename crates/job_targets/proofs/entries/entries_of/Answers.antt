use Rattle.std.proofs.Common.{refl}
use Rattle.local_db.proofs.tree-disk.StepLaws.{tests_answer, tests_memory, tests_stop, tests_value}
use Rattle.job_targets.specs.Targets.{HasEntry}
use Rattle.job_targets.proofs.Listed.{at_next, small_at, zip_next}
use Rattle.tree_scan.proofs.tree-disk.Deciding.{tests_next}
use Rattle.job_targets.proofs.entries.entries_of.Goals as goal

pub planned_entry-requires-clause-small : goal.planned_entry-requires-clause-small
planned_entry-requires-clause-small g c = small_at c.args.planned.now c.loop-one.one-index c.one-item.result c.loop-one-test.true c.one-item.is c.requires.small

pub loop-one-preserved : goal.loop-one-preserved
loop-one-preserved g c =
    let run = tests_next g.met.T.TreeDisk.laws c.loop-one.invariant.so_far c.in_ok-entry.ensures.tests in
    record {
      so_far = tests_answer run (λ tells. refl);
      are = λ tells. at_next (g.T.TreeDisk.disk.reads c.args.root.now) c.args.planned.now c.loop-one.one-index c.one-item.result c.loop-one.entries.items c.in_ok-entry.entry c.push.new.self.items
          c.loop-one-test.true c.one-item.is c.in_ok-push.ensures.items (c.loop-one.invariant.are tells) (tests_value run tells);
      have = zip_next HasEntry c.args.planned.now c.loop-one.one-index c.one-item.result c.loop-one.entries.items c.in_ok-entry.entry c.push.new.self.items
          c.loop-one-test.true c.one-item.is c.in_ok-push.ensures.items c.loop-one.invariant.have c.in_ok-entry.ensures.has;
    }

pub returns-in_err-entry-clause-tests : goal.returns-in_err-entry-clause-tests
returns-in_err-entry-clause-tests g c =
    tests_stop (tests_next g.met.T.TreeDisk.laws c.loop-one.invariant.so_far c.in_err-entry.ensures.tests) c.from_residual.ensures.1 (λ tells why is. absurd (cc is))

pub returns-in_err-push-clause-tests : goal.returns-in_err-push-clause-tests
returns-in_err-push-clause-tests g c =
    tests_memory (tests_next g.met.T.TreeDisk.laws c.loop-one.invariant.so_far c.in_ok-entry.ensures.tests) c.from_residual-in_err-push.ensures.1
