use Rattle.std.proofs.Common.{◌≡◌, ℕ, true, false, List, None, option_copied, sym, ap, ◌∙◌}
use Rattle.std.specs.List.{last_or}
use Rattle.repo_index.specs.Places.{troves_at}
use Rattle.repo_index.proofs.PlacesLaws.{last_at-none, last_at-other, last_at-found}
use Rattle.trove_spec.specs.Resolve.{is_candidate, candidates_of}
use Rattle.trove_spec.proofs.candidates.last_candidate.Goals as goal

pub returns-then-is_candidate : goal.returns-then-is_candidate
returns-then-is_candidate c =
    let troves = c.args.catalogue.now.troves in
    let label = option_copied c.args.label in
    let version = option_copied c.args.version in
    let test = is_candidate label version c.args.system.now in
    let passes : test c.in-Some-trove_at.trove.now ≡ true = sym c.is_candidate.ensures ∙ c.if-is_candidate.true in
    sym (last_at-found troves test c.in-Some.before.now c.in-Some.place.now c.in-Some-trove_at.trove.now (sym c.in-Some-trove_at.ensures) passes)
    ∙ ap (λ (l : List ℕ). last_or None (candidates_of label version c.args.system.now (troves_at troves l))) (sym c.in-Some.ensures.cases.0)
    ∙ c.loop-place.invariant

pub loop-place-preserved-else-is_candidate : goal.loop-place-preserved-else-is_candidate
loop-place-preserved-else-is_candidate c =
    let troves = c.args.catalogue.now.troves in
    let label = option_copied c.args.label in
    let version = option_copied c.args.version in
    let test = is_candidate label version c.args.system.now in
    let fails : test c.in-Some-trove_at.trove.now ≡ false = sym c.is_candidate.ensures ∙ c.if-is_candidate.false in
    sym (last_at-other troves test c.in-Some.before.now c.in-Some.place.now c.in-Some-trove_at.trove.now (sym c.in-Some-trove_at.ensures) fails)
    ∙ ap (λ (l : List ℕ). last_or None (candidates_of label version c.args.system.now (troves_at troves l))) (sym c.in-Some.ensures.cases.0)
    ∙ c.loop-place.invariant

pub loop-place-preserved : goal.loop-place-preserved
loop-place-preserved c =
    let troves = c.args.catalogue.now.troves in
    let label = option_copied c.args.label in
    let version = option_copied c.args.version in
    let test = is_candidate label version c.args.system.now in
    sym (last_at-none troves test c.in-Some.before.now c.in-Some.place.now (sym c.in_default-trove_at.ensures))
    ∙ ap (λ (l : List ℕ). last_or None (candidates_of label version c.args.system.now (troves_at troves l))) (sym c.in-Some.ensures.cases.0)
    ∙ c.loop-place.invariant
