use Rattle.std.proofs.Common.{refl, sym, ap, ◌∙◌, arith, Ok, Some}
use Rattle.local_db.proofs.tree-disk.StepLaws.{tests_answer, tests_value}
use Rattle.tree_scan.proofs.tree-disk.Deciding.{tests_next}
use Rattle.past_jobs.specs.Seen.{test_of}
use Rattle.past_jobs.proofs.Firsts.{path_found, path_next}
use Rattle.past_jobs.proofs.obstacles.first_with.Goals as goal

pub loop-change-preserved : goal.loop-change-preserved
loop-change-preserved g c =
    let tree = g.D.TreeDisk.disk.reads c.args.disk.now in
    let run = tests_next g.met.D.TreeDisk.laws c.loop-change.invariant.so_far c.in_ok-there.ensures.tests in
    record {
      so_far = tests_answer run (λ tells. refl);
      rest = λ tells. c.loop-change.invariant.rest tells
          ∙ path_next (test_of c.args.obstacle c.args.found.now c.args.changes.now tree) c.args.changes.now c.loop-change.change-index c.change-item.result (omega arith) c.change-item.is (sym (tests_value run tells) ∙ c.if-there.false);
    }

pub returns-then-there-clause-tests : goal.returns-then-there-clause-tests
returns-then-there-clause-tests g c =
    let tree = g.D.TreeDisk.disk.reads c.args.disk.now in
    let run = tests_next g.met.D.TreeDisk.laws c.loop-change.invariant.so_far c.in_ok-there.ensures.tests in
    tests_answer run (λ tells. ap Ok (c.loop-change.invariant.rest tells
    ∙ path_found (test_of c.args.obstacle c.args.found.now c.args.changes.now tree) c.args.changes.now c.loop-change.change-index c.change-item.result (omega arith) c.change-item.is (sym (tests_value run tells) ∙ c.if-there.true)
    ∙ ap Some (sym c.path.ensures ∙ sym c.in_ok-path.ensures)))
