use Rattle.std.proofs.Common.{◌≡◌, List, slice_get, Some, false, sym, ap, ◌∙◌}
use Rattle.std.specs.Option.{option_copied}
use Rattle.update_job.specs.trove-parts.declared.id.TroveId.{TroveId}
use Rattle.update_job.specs.trove-parts.Order.{id_eq}
use Rattle.update_job.specs.trove-stream.declared.parts.TroveParts.{TroveParts}
use Rattle.root_edits.proofs.MovedIds.{nameless_stays, other_stays}
use Rattle.change_rel.proofs.trove-stream.Places.{item_at}
use Rattle.cny_version.proofs.cny-base.Faults.{if_none as stays_unless}
use Rattle.root_edits.proofs.moving.place_of_id.Goals as goal

pub returns-in_err-place-clause-none : goal.returns-in_err-place-clause-none
returns-in_err-place-clause-none c = stays_unless c.from_residual.result _ (nameless_stays c.args.troves.now c.args.id.now c.in_err-place.ensures.none)

pub returns-else-eq-clause-none : goal.returns-else-eq-clause-none
returns-else-eq-clause-none c =
    let place = c.in_ok-place.place in
    let t : TroveParts = c.in_ok-get.field-0.now in
    let at : slice_get c.args.troves.now place ≡ Some t =
    ap (λ (l : List TroveParts). slice_get l place) (sym c.troves.ensures.value) ∙ sym (item_at c.troves.result.now place c.get.result c.get.ensures.lookup) ∙ ap option_copied c.in_ok-get.was in
    let differs : id_eq t.id c.args.id.now ≡ false = ap (λ (i : TroveId). id_eq i c.args.id.now) (sym c.id-other.ensures.value) ∙ sym c.eq.ensures ∙ c.if-eq.false in
    other_stays c.args.troves.now c.args.id.now place t at c.in_ok-place.ensures.only differs
