use Rattle.std.proofs.Common.{◌≡◌, ℕ, true, false, List, filter, None, option_copied, sym, ap, ◌∙◌}
use Rattle.std.specs.List.{last_or}
use Rattle.trove_stream.specs.trove-parts.declared.id.TroveId.{TroveId}
use Rattle.repo_index.specs.Catalogue.{is_of, is_revision_of}
use Rattle.repo_index.specs.Places.{troves_at}
use Rattle.repo_index.proofs.PlacesLaws.{last_at-none, last_at-other, last_at-found}
use Rattle.repo_index.proofs.search.latest_among.Goals as goal

pub returns-then-is_revision_of : goal.returns-then-is_revision_of
returns-then-is_revision_of c =
    let troves = c.args.troves.now in
    let of = is_of c.args.branch.now c.args.upstream.now (option_copied c.args.source) in
    let passes : of c.in-Some-trove_at.trove.now ≡ true =
    ap (λ (id : TroveId). is_revision_of c.args.branch.now c.args.upstream.now (option_copied c.args.source) id.version) (sym c.id.ensures.value)
    ∙ sym c.is_revision_of.ensures ∙ c.if-is_revision_of.true in
    sym (last_at-found troves of c.in-Some.before.now c.in-Some.place.now c.in-Some-trove_at.trove.now (sym c.in-Some-trove_at.ensures) passes)
    ∙ ap (λ (l : List ℕ). last_or None (filter of (troves_at troves l))) (sym c.in-Some.ensures.cases.0)
    ∙ c.loop-place.invariant

pub loop-place-preserved-else-is_revision_of : goal.loop-place-preserved-else-is_revision_of
loop-place-preserved-else-is_revision_of c =
    let troves = c.args.troves.now in
    let of = is_of c.args.branch.now c.args.upstream.now (option_copied c.args.source) in
    let fails : of c.in-Some-trove_at.trove.now ≡ false =
    ap (λ (id : TroveId). is_revision_of c.args.branch.now c.args.upstream.now (option_copied c.args.source) id.version) (sym c.id.ensures.value)
    ∙ sym c.is_revision_of.ensures ∙ c.if-is_revision_of.false in
    sym (last_at-other troves of c.in-Some.before.now c.in-Some.place.now c.in-Some-trove_at.trove.now (sym c.in-Some-trove_at.ensures) fails)
    ∙ ap (λ (l : List ℕ). last_or None (filter of (troves_at troves l))) (sym c.in-Some.ensures.cases.0)
    ∙ c.loop-place.invariant

pub loop-place-preserved : goal.loop-place-preserved
loop-place-preserved c =
    let troves = c.args.troves.now in
    let of = is_of c.args.branch.now c.args.upstream.now (option_copied c.args.source) in
    sym (last_at-none troves of c.in-Some.before.now c.in-Some.place.now (sym c.in_default-trove_at.ensures))
    ∙ ap (λ (l : List ℕ). last_or None (filter of (troves_at troves l))) (sym c.in-Some.ensures.cases.0)
    ∙ c.loop-place.invariant
