use Rattle.std.proofs.Common.{◌≡◌, sym, ap, subst, ◌∙◌}
use Rattle.update_job.specs.trove-parts.Id.{IsTroveId}
use Rattle.update_job.specs.trove-stream.declared.parts.TroveParts.{TroveParts}
use Rattle.update_job.specs.trove-stream.Trove.{IsTrove}
use Rattle.root_edits.specs.Moved.{local_id}
use Rattle.root_edits.proofs.Troves.{made_is_trove}
use Rattle.root_edits.proofs.moving.moved_trove.Goals as goal

pub from_parts-requires : goal.from_parts-requires
from_parts-requires c =
    let t = c.args.trove.now in
    let whole : c.into_parts-id.result ≡ t = c.into_parts-id.ensures.value ∙ c.in_ok-copy.ensures in
    let id : local_id t.id ≡ c.in_ok-id.id = sym (c.in_ok-id.ensures ∙ c.requires.id) in
    let required = ap (λ (u : TroveParts). u.requires_) (sym whole) in
    let provided = ap (λ (u : TroveParts). u.provides) (sym whole) in
    let same : (let made : TroveParts = record { id = local_id t.id; files = c.args.files; refs = c.in_ok-refs.refs; requires_ = t.requires_; provides = t.provides } in
    made ≡ record { id = c.in_ok-id.id; files = c.args.files; refs = c.in_ok-refs.refs; requires_ = c.into_parts-id.result.requires_; provides = c.into_parts-id.result.provides }) =
    (λ i. record { id = id i; files = c.args.files; refs = c.in_ok-refs.refs; requires_ = required i; provides = provided i }) in
    subst IsTrove same
    (made_is_trove c.args.troves.now t c.in_ok-refs.refs c.in_ok-refs.ensures.refs c.args.files (subst IsTrove whole c.into_parts-id.ensures.trove) (subst IsTroveId c.requires.id c.is_valid.ensures) c.requires.files
    c.requires.few c.requires.none c.in_ok-refs.ensures.valid c.in_ok-refs.ensures.few)
