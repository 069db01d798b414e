-- One answer alone says what is missing.
use Rattle.std.proofs.Common.{◌≡◌, ◌⊎◌, inl, inr, ⊎_elim, List, [], ◌∷◌, ◌++◌, length, take, drop, map, Some, None, Result, Ok, Err, refl, sym, ap, ◌∙◌, append-nil}
use Rattle.change_set.specs.cny-base.declared.refusal.Refusal.{Refusal}
use Rattle.change_set.specs.trove-parts.declared.id.TroveId.{TroveId}
use Rattle.change_set.specs.trove-stream.declared.parts.TroveParts.{TroveParts}
use Rattle.repo_load.specs.State.{troves_of, Commit}
use Rattle.repo_mirror.specs.Missing.{commits_of, missing_of, too_much, AreMissing, IsMissing, IsTooMuch}
use Rattle.repo_mirror.proofs.Gathering.{missing-append, missing_behind}
use Rattle.repo_mirror.proofs.Lengthening.{room_front}

-- ---- two beginnings of one list

-- the second goes on where the first ends
record GoesOn (a b c d : List Commit) : Type 0 where
  more : List Commit
  longer : c ≡ a ++ more
  rest : b ≡ more ++ d

two_fronts : (a b c d : List Commit) → a ++ b ≡ c ++ d → GoesOn a b c d ⊎ GoesOn c d a b
two_fronts [] b c d is = inl (record { more = c; longer = refl; rest = is })
two_fronts (x ∷ a) b [] d is = inr (record { more = x ∷ a; longer = refl; rest = sym is })
two_fronts (x ∷ a) b (y ∷ c) d is =
    let heads : x ≡ y = cc is in
    let tails : a ++ b ≡ c ++ d = cc is in
    ⊎_elim
    (λ (on : GoesOn a b c d). inl (record { more = on.more; longer = λ i. sym heads i ∷ on.longer i; rest = on.rest }))
    (λ (on : GoesOn c d a b). inr (record { more = on.more; longer = λ i. heads i ∷ on.longer i; rest = on.rest }))
    (two_fronts a b c d tails)

-- ---- what is missing of more commits

nothing_left : (x y : List TroveParts) → x ++ y ≡ [] → x ≡ []
nothing_left [] y is = refl
nothing_left (t ∷ x) y is = absurd (cc is)

nothing_behind : (x y : List TroveParts) → x ++ y ≡ [] → y ≡ []
nothing_behind [] y is = is
nothing_behind (t ∷ x) y is = absurd (cc is)

too_few : (troves : List TroveParts) (refusal : Refusal) → troves ≡ [] → too_much troves ≡ Some refusal → ⊥
too_few troves refusal none much = let nothing : too_much troves ≡ None = ap too_much none in absurd (cc (much, nothing))

module _ (ids : List TroveId) where
  head_none : (c : Commit) (more : List Commit) → missing_of ids (troves_of (c ∷ more)) ≡ [] → missing_of ids c ≡ []
  head_none c more none = nothing_left (missing_of ids c) (missing_of ids (troves_of more)) (sym (missing-append ids c (troves_of more)) ∙ none)

  front_none : (a b : List Commit) → missing_of ids (troves_of (a ++ b)) ≡ [] → missing_of ids (troves_of a) ≡ []
  front_none a b none = nothing_left (missing_of ids (troves_of a)) (missing_of ids (troves_of b)) (sym (missing_behind ids a b) ∙ none)

  back_none : (a b : List Commit) → missing_of ids (troves_of (a ++ b)) ≡ [] → missing_of ids (troves_of b) ≡ []
  back_none a b none = nothing_behind (missing_of ids (troves_of a)) (missing_of ids (troves_of b)) (sym (missing_behind ids a b) ∙ none)

  module _ (commits : List Commit) where
    -- ---- two that are sent

    same_sent : (a b : List TroveParts) (p : AreMissing ids commits a) (q : AreMissing ids commits b) → GoesOn p.first p.rest q.first q.rest → a ≡ b
    same_sent a b p q on = by on.more on.longer on.rest
      where
        by : (more : List Commit) → q.first ≡ p.first ++ more → p.rest ≡ more ++ q.rest → a ≡ b
        by [] longer rest = p.are ∙ ap (λ (l : List Commit). missing_of ids (troves_of l)) (sym (longer ∙ append-nil p.first)) ∙ sym q.are
        by (c ∷ more) longer rest =
            let fit : too_much (missing_of ids (troves_of (p.first ++ c ∷ more))) ≡ None =
            ap (λ (l : List Commit). too_much (missing_of ids (troves_of l))) (sym longer) ∙ ap too_much (sym q.are) ∙ q.fit in
            absurd (p.longest (c ∷ more) q.rest rest (λ (none : c ∷ more ≡ []). absurd (cc none)) fit)

    -- ---- two that are refused

    same_refused : (a b : Refusal) (p : IsTooMuch ids commits a) (q : IsTooMuch ids commits b) → GoesOn p.before (p.commit ∷ p.after) q.before (q.commit ∷ q.after) → a ≡ b
    same_refused a b p q on = by on.more on.longer on.rest
      where
        by : (more : List Commit) → q.before ≡ p.before ++ more → p.commit ∷ p.after ≡ more ++ q.commit ∷ q.after → a ≡ b
        by [] longer rest =
            let same : p.commit ≡ q.commit = cc rest in
            let both : Some a ≡ Some b = sym p.refused ∙ ap (λ (c : Commit). too_much (missing_of ids c)) same ∙ q.refused in
            cc both
        by (c ∷ more) longer rest =
            let same : p.commit ≡ c = cc rest in
            let none = back_none p.before (c ∷ more) (ap (λ (l : List Commit). missing_of ids (troves_of l)) (sym longer) ∙ q.none) in
            absurd (too_few (missing_of ids p.commit) a (ap (missing_of ids) same ∙ head_none c more none) p.refused)

    -- ---- one that is sent and one that is refused

    module _ (troves : List TroveParts) (refusal : Refusal) (p : AreMissing ids commits troves) (q : IsTooMuch ids commits refusal) where
      not_none : missing_of ids (troves_of p.first) ≡ [] → ⊥
      not_none none =
          let all = p.some (p.are ∙ none) in
          let behind = back_none q.before (q.commit ∷ q.after) (ap (λ (l : List Commit). missing_of ids (troves_of l)) (sym q.split) ∙ all) in
          too_few (missing_of ids q.commit) refusal (head_none q.commit q.after behind) q.refused

      pub apart : ⊥
      apart = ⊎_elim
          (λ (on : GoesOn p.first p.rest q.before (q.commit ∷ q.after)). not_none (front_none p.first on.more (ap (λ (l : List Commit). missing_of ids (troves_of l)) (sym on.longer) ∙ q.none)))
          (λ (on : GoesOn q.before (q.commit ∷ q.after) p.first p.rest). by on.more on.longer on.rest)
          (two_fronts p.first p.rest q.before (q.commit ∷ q.after) (sym p.split ∙ q.split))
        where
          by : (more : List Commit) → p.first ≡ q.before ++ more → q.commit ∷ q.after ≡ more ++ p.rest → ⊥
          by [] longer rest = not_none (ap (λ (l : List Commit). missing_of ids (troves_of l)) (longer ∙ append-nil q.before) ∙ q.none)
          by (c ∷ more) longer rest =
              let same : q.commit ≡ c = cc rest in
              let all : troves ≡ missing_of ids c ++ missing_of ids (troves_of more) =
              p.are ∙ ap (λ (l : List Commit). missing_of ids (troves_of l)) longer ∙ missing_behind ids q.before (c ∷ more)
              ∙ ap (λ (l : List TroveParts). l ++ missing_of ids (troves_of (c ∷ more))) q.none ∙ missing-append ids c (troves_of more) in
              let fit : too_much (missing_of ids c) ≡ None = room_front (missing_of ids c) (missing_of ids (troves_of more)) (ap too_much (sym all) ∙ p.fit) in
              let much : too_much (missing_of ids c) ≡ Some refusal = ap (λ (d : Commit). too_much (missing_of ids d)) (sym same) ∙ q.refused in
              absurd (cc (fit, much))

    pub one_answer : (a b : Result (List TroveParts) Refusal) → IsMissing ids commits a → IsMissing ids commits b → a ≡ b
    one_answer (Ok a) (Ok b) p q =
        ap (λ (l : List TroveParts). Ok l) (⊎_elim (λ (on : GoesOn p.first p.rest q.first q.rest). same_sent a b p q on) (λ (on : GoesOn q.first q.rest p.first p.rest). sym (same_sent b a q p on))
        (two_fronts p.first p.rest q.first q.rest (sym p.split ∙ q.split)))
    one_answer (Ok a) (Err b) p q = absurd (apart a b p q)
    one_answer (Err a) (Ok b) p q = absurd (apart b a q p)
    one_answer (Err a) (Err b) p q =
        ap (λ (r : Refusal). Err r) (⊎_elim (λ (on : GoesOn p.before (p.commit ∷ p.after) q.before (q.commit ∷ q.after)). same_refused a b p q on) (λ (on : GoesOn q.before (q.commit ∷ q.after) p.before (p.commit ∷ p.after)). sym (same_refused b a q p on))
        (two_fronts p.before (p.commit ∷ p.after) q.before (q.commit ∷ q.after) (sym p.split ∙ q.split)))

-- ---- commits, told by their troves and numbers

front_part : (a b : List TroveParts) → take (length a) (a ++ b) ≡ a
front_part [] b = refl
front_part (x ∷ a) b = ap (λ (l : List TroveParts). x ∷ l) (front_part a b)

back_part : (a b : List TroveParts) → drop (length a) (a ++ b) ≡ b
back_part [] b = refl
back_part (x ∷ a) b = back_part a b

pub told : (commits : List Commit) → commits_of (troves_of commits) (map (λ (troves : Commit). length troves) commits) ≡ commits
told [] = refl
told (c ∷ commits) =
    let counts = map (λ (troves : Commit). length troves) commits in
    ap (λ (d : Commit). d ∷ commits_of (drop (length c) (c ++ troves_of commits)) counts) (front_part c (troves_of commits))
    ∙ ap (λ (l : List TroveParts). c ∷ commits_of l counts) (back_part c (troves_of commits))
    ∙ ap (λ (l : List Commit). c ∷ l) (told commits)
