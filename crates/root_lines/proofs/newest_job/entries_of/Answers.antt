use Rattle.std.proofs.Common.{◌≡◌, false, [], ◌++◌, ◌∷◌, All, ap, sym, ◌∙◌, subst}
use Rattle.std.proofs.lemmas.List.{map_push}
use Rattle.std.proofs.lemmas.List.Elements.{All-nil, All-push}
use Rattle.job_targets.specs.declared.entry.Entry.{Entry}
use Rattle.job_targets.specs.Old.{is_staged}
use Rattle.rollback_stack.specs.Entries as spec
use Rattle.root_lines.proofs.newest_job.entries_of.Goals as goal

pub loop-change-init : goal.loop-change-init
loop-change-init c =
    let none = c.new-entries.ensures.items in
    record {
      same = ap spec.entries_of none;
      given = subst (All (λ (e : Entry). is_staged e.was ≡ false)) (sym none) (All-nil (λ (e : Entry). is_staged e.was ≡ false));
    }

pub loop-change-preserved : goal.loop-change-preserved
loop-change-preserved c =
    let so_far = c.loop-change.invariant in
    let entry = c.in_ok-entry_of.field-0 in
    let es = c.loop-change.entries.items in
    let pushed = c.in_ok-push.ensures.items in
    let same = so_far.same in
    let next = c.in_ok-entry_of.ensures.entry in
    record {
      same = ap spec.entries_of pushed ∙ map_push spec.entry_of es entry ∙ (λ i. same i ++ next i ∷ []);
      given = subst (All (λ (e : Entry). is_staged e.was ≡ false)) (sym pushed)
          (All-push (λ (e : Entry). is_staged e.was ≡ false) es entry so_far.given c.in_ok-entry_of.ensures.given);
    }
