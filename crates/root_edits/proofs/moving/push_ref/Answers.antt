use Rattle.std.proofs.Common.{◌≡◌, [], ◌∷◌, ◌++◌, All, Option, sym, ap, subst, ◌∙◌}
use Rattle.std.specs.List.{cons_option}
use Rattle.std.proofs.lemmas.List.Elements.{All-push}
use Rattle.update_job.specs.trove-parts.declared.id.TroveId.{TroveId}
use Rattle.update_job.specs.trove-parts.Id.{IsTroveId}
use Rattle.root_edits.specs.Moved.{local_id}
use Rattle.root_edits.proofs.MovedIds.{id_moves, new_id_at, new_id_in, ref_moves}
use Rattle.root_edits.proofs.moving.push_ref.Goals as goal

pub returns-in-Some-clause-pushed : goal.returns-in-Some-clause-pushed
returns-in-Some-clause-pushed c =
    let troves = c.args.troves.now in
    let id = c.args.id.now in
    let old = c.args.refs.now.items in
    let made : c.in_ok-copy.field-0 ≡ local_id id = c.in_ok-copy.ensures ∙ new_id_at troves c.args.ids.now id c.in-Some.place c.index-ids-place.result c.requires.ids c.in-Some.ensures.some c.index-ids-place.is in
    c.in_ok-push.ensures.items ∙ ap (λ (i : TroveId). old ++ i ∷ []) made
    ∙ ap (λ (o : Option TroveId). old ++ cons_option o []) (sym (ref_moves c.args.keeps troves id (id_moves troves id c.in-Some.place c.in-Some.ensures.some)))

pub returns-in-Some-clause-valid : goal.returns-in-Some-clause-valid
returns-in-Some-clause-valid c =
    λ valid.
    let troves = c.args.troves.now in
    let made : IsTroveId c.in_ok-copy.field-0 = subst IsTroveId (sym c.in_ok-copy.ensures) (new_id_in troves c.args.ids.now c.args.id.now c.in-Some.place c.index-ids-place.result c.requires.ids c.requires.valid c.in-Some.ensures.some c.index-ids-place.is) in
    subst (All IsTroveId) (sym c.in_ok-push.ensures.items) (All-push IsTroveId c.args.refs.now.items c.in_ok-copy.field-0 valid made)

pub returns-in_ok-push-2-clause-valid : goal.returns-in_ok-push-2-clause-valid
returns-in_ok-push-2-clause-valid c =
    λ valid.
    let made : IsTroveId c.in_ok-copy-2.field-0 = subst IsTroveId (sym c.in_ok-copy-2.ensures) c.is_valid.ensures in
    subst (All IsTroveId) (sym c.in_ok-push-2.ensures.items) (All-push IsTroveId c.args.refs.now.items c.in_ok-copy-2.field-0 valid made)
