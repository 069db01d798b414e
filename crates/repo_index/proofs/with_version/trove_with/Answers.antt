use Rattle.std.proofs.Common.{◌≡◌, All, is_some, sym, subst}
use Rattle.trove_stream.specs.trove-parts.Id.{IsTroveId}
use Rattle.trove_stream.specs.declared.parts.TroveParts.{TroveParts}
use Rattle.trove_stream.specs.Trove.{has_build, IsTrove}
use Rattle.repo_index.specs.Next.{id_with, refs_with, trove_with}
use Rattle.repo_index.proofs.Renewed.{renewed_is_trove}
use Rattle.repo_index.proofs.with_version.trove_with.Goals as goal

pub from_parts-requires : goal.from_parts-requires
from_parts-requires c =
    let v = c.args.version.now in
    let t : TroveParts = c.into_parts-id.result in
    let build : is_some v.revision.build ≡ has_build t.id = subst (λ (p : TroveParts). is_some v.revision.build ≡ has_build p.id) (sym c.into_parts-id.ensures.value) c.requires in
    let id : id_with v t.id ≡ c.in_ok-id.id = sym c.in_ok-id.ensures.value in
    let refs : refs_with v t.id t.refs ≡ c.in_ok-refs.refs = sym c.in_ok-refs.ensures.value in
    let same : trove_with v t ≡ record { id = c.in_ok-id.id; files = t.files; refs = c.in_ok-refs.refs; requires_ = t.requires_; provides = t.provides } =
    (λ i. record { id = id i; files = t.files; refs = refs i; requires_ = t.requires_; provides = t.provides }) in
    subst IsTrove same
    (renewed_is_trove v t c.into_parts-id.ensures.trove (subst IsTroveId (sym id) c.in_ok-id.ensures.valid) (subst (All IsTroveId) (sym refs) c.in_ok-refs.ensures.valid) build)
