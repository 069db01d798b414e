use Rattle.std.proofs.Common.{Some, refl, sym, ap, ◌∙◌}
use Rattle.std.proofs.lemmas.List.Elements.{All-pop}
use Rattle.tree_scan.proofs.tree-disk.StepLaws.{tests_answer, tests_value}
use Rattle.conflict_plan.specs.Settled.{settled_on, IsSeen}
use Rattle.conflict_plan.proofs.Sighted.{settled_push}
use Rattle.conflict_plan.proofs.Picking.{keeps_one}
use Rattle.tree_scan.proofs.tree-disk.Deciding.{tests_next}
use Rattle.conflict_plan.proofs.settling.settle_all.Goals as goal

pub drafts-preserved : goal.drafts-preserved
drafts-preserved g c =
    let tree = g.D.TreeDisk.disk.reads c.args.disk.now in
    let run = tests_next g.met.D.TreeDisk.laws c.drafts.invariant.so_far c.in_ok-next.ensures.tests in
    record {
      so_far = tests_answer run (λ tells. refl);
      rest = λ tells. c.drafts.invariant.rest tells ∙ ap (λ l. settled_on tree l c.drafts.plan) c.in-Some.ensures.items
          ∙ settled_push tree c.pop.new.self.items c.in-Some.draft c.drafts.plan
          ∙ ap (settled_on tree c.pop.new.self.items) (sym (tests_value run tells));
      seen = λ tells. (All-pop (IsSeen tree) c.drafts.drafts.items c.pop.new.self.items (Some c.in-Some.draft) c.in-Some.ensures.items (c.drafts.invariant.seen tells)).0;
      keeps = keeps_one c.args.drafts.items c.drafts.drafts.items c.pop.new.self.items c.in-Some.draft c.drafts.plan c.in_ok-next.next c.in-Some.ensures.items c.in_ok-next.ensures.kept c.drafts.invariant.keeps;
    }
