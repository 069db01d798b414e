use Rattle.std.proofs.Common.{◌≡◌, ◌+◌, ◌<◌, List, [], ◌∷◌, ◌++◌, length, take, drop, Option, sym, ap, subst, ◌∙◌, arith}
use Rattle.std.proofs.lemmas.List.{take_more, at_drop_more}
use Rattle.repo_index.specs.cny-base.declared.refusal.Refusal.{Refusal}
use Rattle.repo_index.specs.trove-parts.declared.id.TroveId.{TroveId}
use Rattle.repo_index.specs.trove-stream.declared.parts.TroveParts.{TroveParts}
use Rattle.repo_shadow.specs.Moved.{moved_version, moved_id, moved_ids, too_large}
use Rattle.repo_shadow.specs.Steps.{Fits, IsTooLongOrMemory}
use Rattle.repo_shadow.proofs.Refusals.{next_fits, next_fault}
use Rattle.cny_version.specs.cny-base.Refusals.{IsRefusalOrMemory}
use Rattle.cny_version.proofs.cny-base.Faults.{handed_on}
use Rattle.cny_version.proofs.cny-base.Lists.{map_push as map-push}
use Rattle.repo_shadow.proofs.refusing.moved_ids.Goals as goal

pub loop-trove-preserved : goal.loop-trove-preserved
loop-trove-preserved c =
    let way = c.args.way in
    let label = c.args.label.now in
    let troves = c.args.troves.now in
    let i = c.loop-trove.trove-index in
    let x = c.trove-item.result in
    let rest = drop (i + 1) troves in
    let within : i < length troves = omega arith in
    let made = moved_id way label c.id.result.now in
    let is : made ≡ moved_id way label x.id = ap (moved_id way label) c.id.ensures.value in
    let fits : Fits way label x.id = subst (λ (id : TroveId). Fits way label id) c.id.ensures.value c.in_ok-add_moved.ensures.fits in
    let longer : moved_ids way label (take (i + 1) troves) ≡ moved_ids way label (take i troves) ++ moved_id way label x.id ∷ [] =
    ap (moved_ids way label) (take_more troves i x within ∙ ap (λ (t : TroveParts). take i troves ++ t ∷ []) (sym c.trove-item.is))
    ∙ map-push (λ (t : TroveParts). moved_id way label t.id) (take i troves) x in
    let here : too_large (moved_ids way label (drop i troves)) ≡ too_large (moved_ids way label (x ∷ rest)) =
    at_drop_more (λ (l : List TroveParts). too_large (moved_ids way label l)) troves i x within
    ∙ ap (λ (t : TroveParts). too_large (moved_ids way label (t ∷ rest))) (sym c.trove-item.is) in record {
      ids_are = c.in_ok-add_moved.ensures.added ∙ ap (λ (l : List TroveId). l ++ made ∷ []) c.loop-trove.invariant.ids_are
          ∙ ap (λ (id : TroveId). moved_ids way label (take i troves) ++ id ∷ []) is ∙ sym longer;
      rest = sym (next_fits way label x rest fits) ∙ sym here ∙ c.loop-trove.invariant.rest;
    }

pub returns-in_err-add_moved-clause-fault : goal.returns-in_err-add_moved-clause-fault
returns-in_err-add_moved-clause-fault c =
    let way = c.args.way in
    let label = c.args.label.now in
    let troves = c.args.troves.now in
    let i = c.loop-trove.trove-index in
    let x = c.trove-item.result in
    let rest = drop (i + 1) troves in
    let within : i < length troves = omega arith in
    let fault = c.in_err-add_moved.field-0.0 in
    let here : too_large (moved_ids way label (drop i troves)) ≡ too_large (moved_ids way label (x ∷ rest)) =
    at_drop_more (λ (l : List TroveParts). too_large (moved_ids way label l)) troves i x within
    ∙ ap (λ (t : TroveParts). too_large (moved_ids way label (t ∷ rest))) (sym c.trove-item.is) in
    let long : IsTooLongOrMemory (moved_version way label x.id.version) fault =
    subst (λ (id : TroveId). IsTooLongOrMemory (moved_version way label id.version) fault) c.id.ensures.value c.in_err-add_moved.ensures.fault in
    handed_on (IsRefusalOrMemory (too_large (moved_ids way label troves))) c.from_residual.result fault c.from_residual.ensures.1
    (subst (λ (o : Option Refusal). IsRefusalOrMemory o fault) (sym here ∙ c.loop-trove.invariant.rest) (next_fault way label x rest fault long))
