-- Differing places, counted piece by piece.
use Rattle.std.specs.Prelude.{◌==◌}
use Rattle.std.proofs.Common.{◌≡◌, Bool, true, false, cond, not, ℕ, zero, suc, ◌+◌, ◌-◌, min, ◌≤◌, List, [], ◌∷◌, ◌++◌, length, take, take-add, drop, refl, sym, ◌∙◌, ap, arith}
use Rattle.std.proofs.lemmas.List.{length-take, length-drop, take-take}
use Rattle.std.proofs.lemmas.List.Sums.{sum_by-cons}
use Rattle.tree_disk.specs.cny-base.Compare.{count_of_differing, differing}
use Rattle.tree_disk.proofs.cny-base.Lists.{rest_is}

pub differing_none : (a : List ℕ) → count_of_differing a [] ≡ 0
differing_none [] = refl
differing_none (x ∷ a) = refl

none_dropped : (n : ℕ) → drop n (let l : List ℕ = [] in l) ≡ []
none_dropped zero = refl
none_dropped (suc n) = refl

step : (x : ℕ) (a : List ℕ) (y : ℕ) (b : List ℕ) → count_of_differing (x ∷ a) (y ∷ b) ≡ cond (not (x == y)) 1 0 + count_of_differing a b
step x a y b = sum_by-cons (λ (d : Bool). cond d 1 0) (not (x == y)) (differing a b)

-- two pieces, one behind the other
pub differing_split : (a x y : List ℕ) → count_of_differing a (x ++ y) ≡ count_of_differing a x + count_of_differing (drop (length x) a) y
differing_split a [] y =
    let e = differing_none a in
    omega (arith, e)
differing_split [] (b ∷ x) y =
    let e : count_of_differing (drop (length (b ∷ x)) []) y ≡ 0 = ap (λ l. count_of_differing l y) (none_dropped (length (b ∷ x))) in
    omega (arith, e)
differing_split (c ∷ a) (b ∷ x) y =
    step c a b (x ++ y)
    ∙ one (cond (not (c == b)) 1 0) (count_of_differing a (x ++ y)) (count_of_differing a x) (count_of_differing (drop (length x) a) y) (differing_split a x y)
    ∙ ap (λ (k : ℕ). k + count_of_differing (drop (length x) a) y) (sym (step c a b x))
  where
    one : (t p q r : ℕ) → p ≡ q + r → t + p ≡ (t + q) + r
    one t p q r is = omega arith

-- the common length of both is enough
pub differing_common : (a b : List ℕ) (n : ℕ) → n ≡ min (length b) (length a) → count_of_differing (take n a) (take n b) ≡ count_of_differing a b
differing_common [] b n is = none_both n b
  where
    none_both : (n : ℕ) (b : List ℕ) → count_of_differing (take n []) (take n b) ≡ count_of_differing [] b
    none_both zero b = refl
    none_both (suc n) b = refl
differing_common (x ∷ a) [] zero is = refl
differing_common (x ∷ a) [] (suc n) is = absurd (omega arith)
differing_common (x ∷ a) (y ∷ b) zero is = absurd (omega arith)
differing_common (x ∷ a) (y ∷ b) (suc n) is =
    step x (take n a) y (take n b) ∙ ap (λ (k : ℕ). cond (not (x == y)) 1 0 + k) (differing_common a b n (omega arith)) ∙ sym (step x a y b)

-- the front of the second, as long as the first is
pub differing_front : (a b : List ℕ) (n : ℕ) → n ≡ min (length a) (length b) → count_of_differing a (take n b) ≡ count_of_differing a b
differing_front [] b n is = refl
differing_front (x ∷ a) [] zero is = refl
differing_front (x ∷ a) [] (suc n) is = absurd (omega arith)
differing_front (x ∷ a) (y ∷ b) zero is = absurd (omega arith)
differing_front (x ∷ a) (y ∷ b) (suc n) is =
    step x a y (take n b) ∙ ap (λ (k : ℕ). cond (not (x == y)) 1 0 + k) (differing_front a b n (omega arith)) ∙ sym (step x a y b)

-- behind the end of the first nothing is compared
pub differing_past : (a b : List ℕ) (n : ℕ) → length a ≤ n → count_of_differing a (take n b) ≡ count_of_differing a b
differing_past [] b n le = refl
differing_past (x ∷ a) b zero le = absurd (omega arith)
differing_past (x ∷ a) [] (suc n) le = refl
differing_past (x ∷ a) (y ∷ b) (suc n) le =
    step x a y (take n b) ∙ ap (λ (k : ℕ). cond (not (x == y)) 1 0 + k) (differing_past a b n (omega (arith, le))) ∙ sym (step x a y b)

-- no more places than the second has
pub few_differing : (a b : List ℕ) → count_of_differing a b ≤ length b
few_differing [] b = omega arith
few_differing (x ∷ a) [] = omega arith
few_differing (x ∷ a) (y ∷ b) =
    let most = at_most_one (not (x == y)) in
    let few = few_differing a b in
    let is = step x a y b in
    omega (arith, most, few, is)
  where
    at_most_one : (t : Bool) → cond t 1 0 ≤ 1
    at_most_one true = omega arith
    at_most_one false = omega arith

-- of a piece, as much as the file has there is enough
pub piece_read : (file bytes : List ℕ) (at room read count : ℕ) → read ≡ min (length (take room (take (length bytes - at) (drop at bytes)))) (length file - at)
    → count ≡ count_of_differing (drop at file) (take room (take (length bytes - at) (drop at bytes)))
    → count ≡ count_of_differing (drop at file) (take read (take (length bytes - at) (drop at bytes)))
piece_read file bytes at room read count is counted =
    let rest = take (length bytes - at) (drop at bytes) in
    let few : read ≤ room = omega (arith, is, length-take room rest) in
    counted
    ∙ sym (differing_front (drop at file) (take room rest) read (omega (arith, is, length-drop at file)))
    ∙ ap (count_of_differing (drop at file)) (take-take read room rest few)

-- one more piece
pub counted_on : (file bytes : List ℕ) (at n count more : ℕ) → at ≤ length bytes → count ≡ count_of_differing file (take at bytes)
    → more ≡ count_of_differing (drop at file) (take n (take (length bytes - at) (drop at bytes))) → count + more ≡ count_of_differing file (take (at + n) bytes)
counted_on file bytes at n count more within so_far is =
    let front : length (take at bytes) ≡ at = omega (arith, length-take at bytes) in
    let piece : more ≡ count_of_differing (drop (length (take at bytes)) file) (take n (drop at bytes)) =
    is ∙ ap (count_of_differing (drop at file)) (rest_is bytes at n) ∙ ap (λ (k : ℕ). count_of_differing (drop k file) (take n (drop at bytes))) (sym front) in
    let split = differing_split file (take at bytes) (take n (drop at bytes)) in
    let whole : count_of_differing file (take (at + n) bytes) ≡ count_of_differing file (take at bytes ++ take n (drop at bytes)) = ap (count_of_differing file) (take-add at n bytes) in
    omega (arith, so_far, piece, split, whole)
