use Rattle.std.proofs.Common.{◌+◌, ℕ, Ok, drop, length, refl, sym, ap, ◌∙◌, subst}
use Rattle.std.proofs.lemmas.Iterator.Adapters.{YieldsList-from_vec}
use Rattle.std.proofs.lemmas.Iterator.Consumers.{YieldsList-turn}
use Rattle.std.proofs.lemmas.List.{length_push}
use Rattle.tree_scan.proofs.tree-disk.StepLaws.{tests_answer, tests_stop}
use Rattle.conflict_plan.specs.Drafts.{drafts_of}
use Rattle.conflict_plan.specs.Picked.{IsPickedDraft}
use Rattle.conflict_plan.proofs.Ahead.{ahead_of, one_ahead, other_ahead, refused_ahead}
use Rattle.conflict_plan.proofs.Picking.{picks_none, picks_one, PicksOn}
use Rattle.tree_scan.proofs.tree-disk.Deciding.{tests_next}
use Rattle.conflict_plan.proofs.drafting.drafts_of.Goals as goal

pub returns-in_err-draft-clause-tests : goal.returns-in_err-draft-clause-tests
returns-in_err-draft-clause-tests g c =
    let tree = g.D.TreeDisk.disk.reads c.args.disk.now in
    let item = c.in-Some.entry in
    let gives = c.into_iter-entry-iterator.ensures.into_iter_gives in
    let turn = YieldsList-turn (YieldsList-from_vec {s = c.into_iter-entry-iterator.result} c.args.entries.items gives.0 (gives.1 ∙ c.args.entries.ok.0)) c.loop-entry.yielded c.loop-entry.entry-iterator c.loop-entry.yielded_by _ c.next.new.self item c.in-Some.is c.next.ensures.steps in
    tests_stop (tests_next g.met.D.TreeDisk.laws c.loop-entry.invariant.so_far c.in_err-draft.ensures.tests) c.from_residual.ensures.1
    (λ tells why is. c.loop-entry.invariant.ahead tells
    ∙ refused_ahead c.args.options.now tree c.args.entries.items (length c.loop-entry.yielded) item turn.0 turn.1 c.loop-entry.drafts.items why is)

pub loop-entry-preserved-in-Continue-branch-3 : goal.loop-entry-preserved-in-Continue-branch-3
loop-entry-preserved-in-Continue-branch-3 g c =
    let tree = g.D.TreeDisk.disk.reads c.args.disk.now in
    let item = c.in-Some.entry in
    let gives = c.into_iter-entry-iterator.ensures.into_iter_gives in
    let turn = YieldsList-turn (YieldsList-from_vec {s = c.into_iter-entry-iterator.result} c.args.entries.items gives.0 (gives.1 ∙ c.args.entries.ok.0)) c.loop-entry.yielded c.loop-entry.entry-iterator c.loop-entry.yielded_by _ c.next.new.self item c.in-Some.is c.next.ensures.steps in
    let run = tests_next g.met.D.TreeDisk.laws c.loop-entry.invariant.so_far c.in_ok-draft.ensures.tests in
    record {
      so_far = tests_answer run (λ tells. refl);
      ahead = λ tells. c.loop-entry.invariant.ahead tells
          ∙ one_ahead c.args.options.now tree c.args.entries.items (length c.loop-entry.yielded) item turn.0 turn.1 c.loop-entry.drafts.items c.in-Some-2.draft (run.found tells ∙ ap Ok c.in-Some-2.is)
          ∙ ap (λ l. ahead_of l (drafts_of c.args.options.now tree (drop (length c.loop-entry.yielded + 1) c.args.entries.items))) (sym c.in_ok-push.ensures.items)
          ∙ ap (λ (k : ℕ). ahead_of c.push.new.self.items (drafts_of c.args.options.now tree (drop k c.args.entries.items))) (sym (length_push c.loop-entry.yielded item));
      picks = subst (λ (k : ℕ). PicksOn c.args.entries.items k c.push.new.self.items) (sym (length_push c.loop-entry.yielded item))
          (subst (PicksOn c.args.entries.items (length c.loop-entry.yielded + 1)) (sym c.in_ok-push.ensures.items)
          (picks_one c.args.entries.items (length c.loop-entry.yielded) item turn.0 turn.1 c.loop-entry.drafts.items c.in-Some-2.draft
          (subst (IsPickedDraft item) c.in-Some-2.is c.in_ok-draft.ensures.picked) c.loop-entry.invariant.picks));
    }

pub loop-entry-preserved : goal.loop-entry-preserved
loop-entry-preserved g c =
    let tree = g.D.TreeDisk.disk.reads c.args.disk.now in
    let item = c.in-Some.entry in
    let gives = c.into_iter-entry-iterator.ensures.into_iter_gives in
    let turn = YieldsList-turn (YieldsList-from_vec {s = c.into_iter-entry-iterator.result} c.args.entries.items gives.0 (gives.1 ∙ c.args.entries.ok.0)) c.loop-entry.yielded c.loop-entry.entry-iterator c.loop-entry.yielded_by _ c.next.new.self item c.in-Some.is c.next.ensures.steps in
    let run = tests_next g.met.D.TreeDisk.laws c.loop-entry.invariant.so_far c.in_ok-draft.ensures.tests in
    record {
      so_far = tests_answer run (λ tells. refl);
      ahead = λ tells. c.loop-entry.invariant.ahead tells
          ∙ other_ahead c.args.options.now tree c.args.entries.items (length c.loop-entry.yielded) item turn.0 turn.1 c.loop-entry.drafts.items (run.found tells ∙ ap Ok c.in_default.is)
          ∙ ap (λ (k : ℕ). ahead_of c.loop-entry.drafts.items (drafts_of c.args.options.now tree (drop k c.args.entries.items))) (sym (length_push c.loop-entry.yielded item));
      picks = subst (λ (k : ℕ). PicksOn c.args.entries.items k c.loop-entry.drafts.items) (sym (length_push c.loop-entry.yielded item))
          (picks_none c.args.entries.items (length c.loop-entry.yielded) item turn.0 turn.1 c.loop-entry.drafts.items c.loop-entry.invariant.picks);
    }
