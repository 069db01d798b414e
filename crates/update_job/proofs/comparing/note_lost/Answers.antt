use Rattle.std.proofs.Common.{◌≡◌, ℕ, List, inl, inr, refl, ap, subst, ◌∙◌}
use Rattle.change_set.specs.trove-stream.Installed.{IsPlaceOf, IsNameless}
use Rattle.change_set.specs.trove-parts.declared.id.TroveId.{TroveId}
use Rattle.update_job.specs.declared.comparing.Change.TheVariants.{Erased}
use Rattle.update_job.specs.Changes.{HasNoted}
use Rattle.update_job.proofs.Noting.{never_lost}
use Rattle.update_job.proofs.comparing.note_lost.Goals as goal

pub returns-in-Some-clause-noted : goal.returns-in-Some-clause-noted
returns-in-Some-clause-noted c =
    let t = c.args.trove.now in
    let own : c.id-id.result.now.name ≡ t.id.name = ap (λ (id : TroveId). id.name) c.id-id.ensures.value in
    inr (λ change lost. never_lost c.args.after.now t c.in-Some._place (subst (λ (n : List ℕ). IsPlaceOf n c.args.after.now c.in-Some._place) own c.in-Some.ensures.some) change lost, λ other. refl)

pub returns-clause-noted : goal.returns-clause-noted
returns-clause-noted c =
    let t = c.args.trove.now in
    let own : c.id-id.result.now.name ≡ t.id.name = ap (λ (id : TroveId). id.name) c.id-id.ensures.value in
    let made = c.in_ok-copy.field-0 in
    inl (
      Erased made,
      record {
        none = subst (λ (n : List ℕ). IsNameless n c.args.after.now) own c.in_default.ensures.none;
        change_is = ap (λ (id : TroveId). Erased id) (c.in_ok-copy.ensures ∙ c.id-id.ensures.value);
      },
      subst (λ (n : List ℕ). HasNoted n (Erased made) c.args.changes.now c.note.new.changes) own c.in_ok-note.ensures.noted,
    )
