use Rattle.std.proofs.Common.{◌≡◌, ℕ, List, true, false, true≢false, Some, inl, inr, refl, sym, ap, subst, ◌∙◌}
use Rattle.change_set.specs.trove-stream.Installed.{IsNameless, trove_of}
use Rattle.change_set.specs.trove-parts.declared.id.TroveId.{TroveId}
use Rattle.change_set.specs.trove-stream.declared.parts.TroveParts.{TroveParts}
use Rattle.update_job.specs.declared.comparing.Change.TheVariants.{Installed, Updated}
use Rattle.update_job.specs.Changes.{HasNoted}
use Rattle.update_job.proofs.Noting.{nameless_from, found_in, never_fresh}
use Rattle.update_job.proofs.comparing.note_fresh.Goals as goal

pub returns-in_default-clause-noted : goal.returns-in_default-clause-noted
returns-in_default-clause-noted c =
    let t = c.args.trove.now in
    let before = c.args.before.now in
    let own : c.id-id.result.now.name ≡ t.id.name = ap (λ (id : TroveId). id.name) c.id-id.ensures.value in
    let made = c.in_ok-copy.field-0 in
    inl (
      Installed made,
      inl (
        subst (λ (n : List ℕ). IsNameless n before) own (nameless_from before c.id-id.result.now.name (sym c.in_default.ensures)),
        ap (λ (id : TroveId). Installed id) (c.in_ok-copy.ensures ∙ c.id-id.ensures.value),
      ),
      subst (λ (n : List ℕ). HasNoted n (Installed made) c.args.changes.now c.note.new.changes) own c.in_ok-note.ensures.noted,
    )

pub returns-then-branch-clause-noted : goal.returns-then-branch-clause-noted
returns-then-branch-clause-noted c =
    let t = c.args.trove.now in
    let before = c.args.before.now in
    let own : c.id-id.result.now.name ≡ t.id.name = ap (λ (id : TroveId). id.name) c.id-id.ensures.value in
    let same : c.in-Some.old.now ≡ t = c.in_ok-are_equal.ensures.0 c.if-branch.true in
    let some : trove_of t.id.name before ≡ Some t = ap (λ (n : List ℕ). trove_of n before) (sym own) ∙ sym c.in-Some.ensures ∙ ap (λ (v : TroveParts). Some v) same in
    inr (λ change fresh. never_fresh before c.troves-all.ensures.rising t some change fresh, λ other. refl)

pub returns-clause-noted : goal.returns-clause-noted
returns-clause-noted c =
    let t = c.args.trove.now in
    let before = c.args.before.now in
    let own : c.id-id.result.now.name ≡ t.id.name = ap (λ (id : TroveId). id.name) c.id-id.ensures.value in
    let made = c.in_ok-copy-2.field-0 in
    let here = found_in before c.id-id.result.now.name c.in-Some.old.now (sym c.in-Some.ensures) in
    inl (
      Updated made,
      inr (
        record {
          was = c.in-Some.old.now;
          there = here.0;
          same_name = here.1 ∙ own;
          differs = λ same. true≢false (sym (c.in_ok-are_equal.ensures.1 same) ∙ c.if-branch.false);
        },
        ap (λ (id : TroveId). Updated id) (c.in_ok-copy-2.ensures ∙ c.id-id.ensures.value),
      ),
      subst (λ (n : List ℕ). HasNoted n (Updated made) c.args.changes.now c.note-2.new.changes) own c.in_ok-note-2.ensures.noted,
    )
