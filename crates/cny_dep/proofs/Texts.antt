-- The flags' text as it is written.
use Rattle.std.proofs.Common.{◌≡◌, ℕ, ◌-◌, ◌≤◌, List, [], ◌∷◌, ◌++◌, length, take, drop, get_or, ap, ◌∙◌, append_assoc, arith}
use Rattle.std.specs.List.{flat_map, join_with_byte}
use Rattle.std.proofs.lemmas.List.{append-nil, take_rest}
use Rattle.cny_dep.specs.Dep.{flags_text}

-- the first, and each other behind a space
spaced_join : (f : List ℕ) (fs : List (List ℕ)) → f ++ flat_map (λ flag. 32 ∷ flag) fs ≡ join_with_byte 32 (f ∷ fs)
spaced_join f [] = append-nil f
spaced_join f (g ∷ gs) = ap (λ l. f ++ 32 ∷ l) (spaced_join g gs)

-- the texts after each of the four steps
pub pushed_flags : (old opened begun spaced closed first : List ℕ) (flags : List (List ℕ)) → 1 ≤ length flags → first ≡ get_or flags 0 first
    → opened ≡ old ++ 40 ∷ [] → begun ≡ opened ++ first → spaced ≡ begun ++ flat_map (λ flag. 32 ∷ flag) (take (length flags - 1) (drop 1 flags)) → closed ≡ spaced ++ 41 ∷ []
    → closed ≡ old ++ flags_text flags
pushed_flags old opened begun spaced closed first [] some is a b d e = absurd (omega arith)
pushed_flags old opened begun spaced closed first (f ∷ fs) some is a b d e =
    let rest : flat_map (λ flag. 32 ∷ flag) (take (length (f ∷ fs) - 1) (drop 1 (f ∷ fs))) ≡ flat_map (λ flag. 32 ∷ flag) fs = ap (flat_map (λ flag. 32 ∷ flag)) (take_rest (f ∷ fs) 1) in
    e
    ∙ ap (λ l. l ++ 41 ∷ []) (d ∙ ap (λ l. l ++ flat_map (λ flag. 32 ∷ flag) (take (length (f ∷ fs) - 1) (drop 1 (f ∷ fs)))) (b ∙ ap (λ l. l ++ first) a ∙ ap (λ l. (old ++ 40 ∷ []) ++ l) is) ∙ ap (λ l. ((old ++ 40 ∷ []) ++ f) ++ l) rest)
    ∙ regrouped
    ∙ ap (λ l. old ++ 40 ∷ (l ++ 41 ∷ [])) (spaced_join f fs)
  where
    regrouped : (((old ++ 40 ∷ []) ++ f) ++ flat_map (λ flag. 32 ∷ flag) fs) ++ 41 ∷ [] ≡ old ++ 40 ∷ ((f ++ flat_map (λ flag. 32 ∷ flag) fs) ++ 41 ∷ [])
    regrouped = simp append_assoc
