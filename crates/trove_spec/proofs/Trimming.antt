-- Bytes without blanks or a CR at their end, byte by byte from the back.
use Rattle.std.proofs.Common.{◌≡◌, ℕ, Bool, true, false, cond, ◌==◌, List, [], ◌∷◌, ◌++◌, refl, ap, ◌∙◌}
use Rattle.trove_spec.specs.Config.{is_blank, kept_before, without_back, without_cr}

kept_long : (x : ℕ) (xs : List ℕ) (b : ℕ) → kept_before x (xs ++ b ∷ []) ≡ x ∷ (xs ++ b ∷ [])
kept_long x [] b = refl
kept_long x (y ∷ ys) b = refl

kept_by : (x : ℕ) (xs : List ℕ) (b : ℕ) (c : Bool) → kept_before x (cond c (without_back xs) (xs ++ b ∷ [])) ≡ cond c (kept_before x (without_back xs)) (x ∷ (xs ++ b ∷ []))
kept_by x xs b true = refl
kept_by x xs b false = kept_long x xs b

pub without_back-push : (xs : List ℕ) (b : ℕ) → without_back (xs ++ b ∷ []) ≡ cond (is_blank b) (without_back xs) (xs ++ b ∷ [])
without_back-push [] b = refl
without_back-push (x ∷ xs) b = ap (kept_before x) (without_back-push xs b) ∙ kept_by x xs b (is_blank b)

cut_by : (x : ℕ) (xs ys : List ℕ) (c : Bool) → x ∷ cond c xs ys ≡ cond c (x ∷ xs) (x ∷ ys)
cut_by x xs ys true = refl
cut_by x xs ys false = refl

pub without_cr-push : (xs : List ℕ) (b : ℕ) → without_cr (xs ++ b ∷ []) ≡ cond (b == 13) xs (xs ++ b ∷ [])
without_cr-push [] b = refl
without_cr-push (x ∷ []) b = cut_by x [] (b ∷ []) (b == 13)
without_cr-push (x ∷ y ∷ ys) b = ap (λ (l : List ℕ). x ∷ l) (without_cr-push (y ∷ ys) b) ∙ cut_by x (y ∷ ys) (y ∷ (ys ++ b ∷ [])) (b == 13)
