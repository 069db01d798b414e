-- Lists of troves with the next version of the first one.
use Rattle.std.proofs.Common.{◌≡◌, ◌<◌, length, get_or, arith, List, [], ◌∷◌, map, is_some, All, Option, None, Ok, refl, sym, ap, subst, ◌∙◌}
use Rattle.trove_stream.specs.cny-base.declared.refusal.Fault.{Fault}
use Rattle.trove_stream.specs.cny-base.declared.refusal.Fault.TheVariants.{Refused, Memory}
use Rattle.trove_stream.specs.cny-base.declared.refusal.Refusal.{Refusal}
use Rattle.cny_version.specs.Version.{WholeVersion}
use Rattle.trove_stream.specs.trove-parts.declared.id.TroveId.{TroveId}
use Rattle.trove_stream.specs.declared.parts.TroveParts.{TroveParts}
use Rattle.trove_stream.specs.Trove.{has_build}
use Rattle.repo_index.specs.Next.{next_refusal, next_troves, next_version, trove_with, unless_refused, HasOneVersion}
use Rattle.repo_index.specs.Steps.{IsErrOrMemory}
use Rattle.repo_index.proofs.Renewed.{next_build}
use Rattle.cny_version.specs.cny-base.Refusals.{IsRefusalOrMemory}

module _ (committed : List TroveParts) where
  pub none_next : (l : List TroveParts) → l ≡ [] → next_troves committed l ≡ Ok l
  none_next l none = subst (λ (x : List TroveParts). next_troves committed x ≡ Ok x) (sym none) refl

  module _ (id : TroveId) (first : TroveParts) (rest l : List TroveParts) (is : l ≡ first ∷ rest) (own : id ≡ first.id) where
    -- each has a build count where the next version has one
    pub all_builds : HasOneVersion l → (v : WholeVersion) → v ≡ next_version id committed → All (λ (t : TroveParts). is_some v.revision.build ≡ has_build t.id) l
    all_builds one v next =
        let ones : HasOneVersion (first ∷ rest) = subst HasOneVersion is one in
        let build : is_some v.revision.build ≡ has_build first.id = ap (λ (w : WholeVersion). is_some w.revision.build) next ∙ next_build id committed ∙ ap has_build own in
        subst (All (λ (t : TroveParts). is_some v.revision.build ≡ has_build t.id)) (sym is)
        (λ k d within. build ∙ sym (ap (λ (w : WholeVersion). is_some w.revision.build) (ones k d within)))

    pub next_is : (v : WholeVersion) (made : List TroveParts) → next_refusal id committed ≡ None → v ≡ next_version id committed → made ≡ map (trove_with v) l → next_troves committed l ≡ Ok made
    next_is v made none next made_is =
        let all : List TroveParts = map (trove_with (next_version first.id committed)) (first ∷ rest) in
        let same : all ≡ made = ap (λ (w : WholeVersion). map (trove_with w) (first ∷ rest)) (sym (next ∙ ap (λ (i : TroveId). next_version i committed) own)) ∙ ap (map (trove_with v)) (sym is) ∙ sym made_is in
        ap (next_troves committed) is
        ∙ ap (λ (o : Option Refusal). unless_refused o all) (sym (ap (λ (i : TroveId). next_refusal i committed) own) ∙ none)
        ∙ ap Ok same

    pub next_refused : (e : Fault) → IsRefusalOrMemory (next_refusal id committed) e → IsErrOrMemory (next_troves committed l) e
    next_refused (Refused r) found =
        ap (next_troves committed) is
        ∙ ap (λ (o : Option Refusal). unless_refused o (map (trove_with (next_version first.id committed)) (first ∷ rest))) (sym (ap (λ (i : TroveId). next_refusal i committed) own) ∙ found)
    next_refused Memory found = tt

-- ---- the first of a list

pub first_of : (l : List TroveParts) (first : TroveParts) → 0 < length l → first ≡ get_or l 0 first → (rest : List TroveParts) × (l ≡ first ∷ rest)
first_of [] first some is = absurd (omega (arith, some))
first_of (x ∷ rest) first some is = (rest, ap (λ (t : TroveParts). t ∷ rest) (sym is))

pub none_of : (l : List TroveParts) → length l < 1 → l ≡ []
none_of [] few = refl
none_of (x ∷ rest) few = absurd (omega (arith, few))
