use Rattle.std.proofs.Common.{◌≡◌, map, All, sym, ap, subst, ◌∙◌}
use Rattle.repo_index.specs.trove-parts.Id.{IsTroveId}
use Rattle.repo_index.specs.trove-stream.declared.parts.TroveParts.{TroveParts}
use Rattle.repo_index.specs.trove-stream.Trove.{IsTrove}
use Rattle.repo_shadow.specs.Moved.{moved_id}
use Rattle.repo_shadow.specs.Steps.{Fits, CanMove, wholly_moved}
use Rattle.repo_shadow.proofs.Troves.{moved_is_trove}
use Rattle.repo_shadow.proofs.moving.moved_trove.Goals as goal

pub moved_refs-requires : goal.moved_refs-requires
moved_refs-requires c =
    subst (All (Fits c.args.way c.args.label.now)) (sym (c.get.ensures ∙ ap (λ (t : TroveParts). t.refs) c.into_parts-id.ensures.value)) c.requires.refs_fit

pub from_parts-requires : goal.from_parts-requires
from_parts-requires c =
    let way = c.args.way in
    let label = c.args.label.now in
    let t : TroveParts = c.into_parts-id.result in
    let can : CanMove way label t = subst (CanMove way label) (sym c.into_parts-id.ensures.value) c.requires in
    let id : moved_id way label t.id ≡ c.in_ok-id.id = sym c.in_ok-id.ensures.value in
    let refs : map (moved_id way label) t.refs ≡ c.in_ok-refs.refs = sym (c.in_ok-refs.ensures.value ∙ ap (map (moved_id way label)) c.get.ensures) in
    let same : wholly_moved way label t ≡ record { id = c.in_ok-id.id; files = t.files; refs = c.in_ok-refs.refs; requires_ = t.requires_; provides = t.provides } =
    (λ i. record { id = id i; files = t.files; refs = refs i; requires_ = t.requires_; provides = t.provides }) in
    subst IsTrove same
    (moved_is_trove way label t c.into_parts-id.ensures.trove (subst IsTroveId (sym id) c.in_ok-id.ensures.valid) (subst (All IsTroveId) (sym refs) c.in_ok-refs.ensures.valid) can.apart)
