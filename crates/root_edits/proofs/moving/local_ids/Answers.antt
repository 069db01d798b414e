use Rattle.std.proofs.Common.{◌≡◌, ◌+◌, ◌<◌, ◌≤◌, List, [], ◌∷◌, ◌++◌, length, take, drop, map, All, Option, sym, ap, subst, ◌∙◌}
use Rattle.std.proofs.lemmas.List.{at_drop_more}
use Rattle.std.proofs.lemmas.List.Elements.{All-push}
use Rattle.update_job.specs.cny-base.declared.limits.TheConstants.{VERSION_LIMIT}
use Rattle.update_job.specs.cny-base.declared.refusal.Refusal.{Refusal}
use Rattle.update_job.specs.trove-parts.declared.id.TroveId.{TroveId}
use Rattle.update_job.specs.trove-parts.Id.{IsTroveId}
use Rattle.update_job.specs.trove-stream.declared.parts.TroveParts.{TroveParts}
use Rattle.root_edits.specs.Moved.{local_id, local_size, too_long}
use Rattle.root_edits.specs.Steps.{IsTooLong}
use Rattle.root_edits.proofs.Members.{next_one}
use Rattle.root_edits.proofs.MovedIds.{next_fault, next_fits}
use Rattle.cny_version.specs.cny-base.Refusals.{IsRefusalOrMemory}
use Rattle.cny_version.proofs.cny-base.Faults.{handed_on}
use Rattle.cny_version.proofs.cny-base.Lists.{map_push}
use Rattle.root_edits.proofs.moving.local_ids.Goals as goal

pub loop-trove-preserved : goal.loop-trove-preserved
loop-trove-preserved c =
    let troves = c.args.troves.now in
    let i = c.loop-trove.trove-index in
    let x = c.trove-item.result in
    let rest = drop (i + 1) troves in
    let within : i < length troves = c.loop-trove-test.true in
    let made : c.in_ok-id.id ≡ local_id x.id = c.in_ok-id.ensures.value ∙ ap local_id c.id.ensures.value in
    let fits : local_size x.id ≤ VERSION_LIMIT = subst (λ (id : TroveId). local_size id ≤ VERSION_LIMIT) c.id.ensures.value c.in_ok-id.ensures.fits in record {
      label_is = c.loop-trove.invariant.label_is;
      ids_are = c.in_ok-push.ensures.items ∙ ap (λ (l : List TroveId). l ++ c.in_ok-id.id ∷ []) c.loop-trove.invariant.ids_are
          ∙ ap (λ (id : TroveId). map (λ (t : TroveParts). local_id t.id) (take i troves) ++ id ∷ []) made
          ∙ sym (ap (map (λ (t : TroveParts). local_id t.id)) (next_one troves i x within c.trove-item.is) ∙ map_push (λ (t : TroveParts). local_id t.id) (take i troves) x);
      valid = subst (All IsTroveId) (sym c.in_ok-push.ensures.items) (All-push IsTroveId c.loop-trove.ids.items c.in_ok-id.id c.loop-trove.invariant.valid c.in_ok-id.ensures.valid);
      rest = sym (next_fits x rest fits) ∙ ap (λ (t : TroveParts). too_long (t ∷ rest)) c.trove-item.is ∙ sym (at_drop_more too_long troves i x within) ∙ c.loop-trove.invariant.rest;
    }

pub returns-in_err-id-clause-fault : goal.returns-in_err-id-clause-fault
returns-in_err-id-clause-fault c =
    let troves = c.args.troves.now in
    let i = c.loop-trove.trove-index in
    let x = c.trove-item.result in
    let rest = drop (i + 1) troves in
    let within : i < length troves = c.loop-trove-test.true in
    let fault = c.in_err-id.field-0.0 in
    let here : too_long (x ∷ rest) ≡ too_long troves = ap (λ (t : TroveParts). too_long (t ∷ rest)) c.trove-item.is ∙ sym (at_drop_more too_long troves i x within) ∙ c.loop-trove.invariant.rest in
    let long : IsTooLong x.id fault = subst (λ (id : TroveId). IsTooLong id fault) c.id.ensures.value c.in_err-id.ensures.fault in
    handed_on (IsRefusalOrMemory (too_long troves)) c.from_residual-in_err-id.result fault c.from_residual-in_err-id.ensures.1
    (subst (λ (o : Option Refusal). IsRefusalOrMemory o fault) here (next_fault x rest fault long))
