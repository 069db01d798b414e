use Rattle.std.proofs.Common.{refl, sym, ap, subst, ◌∙◌, arith, reverse, take}
use Rattle.tree_scan.proofs.tree-disk.StepLaws.{tests_answer, tests_value}
use Rattle.conflict_plan.specs.Orphans.{least_orphan, lesser, IsSeenPlan}
use Rattle.conflict_plan.proofs.Sighted.{least_more, seen_item}
use Rattle.tree_scan.proofs.tree-disk.Deciding.{tests_next}
use Rattle.conflict_plan.proofs.orphans.first_orphan.Goals as goal

pub orphan_by-requires : goal.orphan_by-requires
orphan_by-requires g c tells =
    subst (λ t. IsSeenPlan t c.planned-item.result) (sym (c.loop-planned.invariant.so_far.same tells).same.reads)
    (seen_item (g.D.TreeDisk.disk.reads c.args.disk.now) c.planned-all.result.now c.args.plan.now c.loop-planned.planned-index c.planned-item.result c.planned-all.ensures (omega arith) c.planned-item.is (c.requires tells))

pub loop-planned-preserved : goal.loop-planned-preserved
loop-planned-preserved g c =
    let tree = g.D.TreeDisk.disk.reads c.args.disk.now in
    let run = tests_next g.met.D.TreeDisk.laws c.loop-planned.invariant.so_far c.in_ok-orphan.ensures.tests in
    record {
      so_far = tests_answer run (λ tells. refl);
      least = λ tells. c.lesser-less.ensures ∙ ap (λ o. lesser o c.in_ok-orphan.orphan) (c.loop-planned.invariant.least tells)
          ∙ ap (lesser (least_orphan c.args.plan.now tree (reverse (take c.loop-planned.planned-index c.planned-all.result.now)))) (tests_value run tells)
          ∙ sym (least_more c.args.plan.now tree c.planned-all.result.now c.loop-planned.planned-index c.planned-item.result (omega arith) c.planned-item.is);
    }
