-- Lists in the order of their words, which is that of their bytes.
use Rattle.std.specs.Prelude.{ℕ, Bool, true, ◌&&◌, List, [], ◌∷◌, if◌then◌else◌}
use Rattle.std.specs.Ordering.{nat_cmp, is_lt}
use Rattle.std.specs.Cmp.Lexicographic.{slice_cmp}

abbrev pub precedes : List ℕ → List ℕ → Bool
precedes a b = is_lt (slice_cmp nat_cmp a b)

abbrev pub rise_after : {X : Type 0} → (X → List ℕ) → List ℕ → List X → Bool
rise_after word before [] = true
rise_after word before (x ∷ xs) = precedes before (word x) && rise_after word (word x) xs

-- whether the words strictly rise
abbrev pub rise : {X : Type 0} → (X → List ℕ) → List X → Bool
rise word [] = true
rise word (x ∷ xs) = rise_after word (word x) xs

-- a list in order with one more item, before the first whose word doesn't precede its own
abbrev pub put : {X : Type 0} → (X → List ℕ) → X → List X → List X
put word x [] = x ∷ []
put word x (y ∷ ys) = if precedes (word y) (word x) then y ∷ put word x ys else x ∷ y ∷ ys

-- a list in order with further items
abbrev pub put_all : {X : Type 0} → (X → List ℕ) → List X → List X → List X
put_all word [] ys = ys
put_all word (x ∷ xs) ys = put word x (put_all word xs ys)

-- the items in the order of their words
abbrev pub in_order : {X : Type 0} → (X → List ℕ) → List X → List X
in_order word xs = put_all word xs []
