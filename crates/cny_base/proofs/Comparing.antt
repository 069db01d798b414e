-- Parts of the list that tells at each place whether two lists of bytes differ there.
use Rattle.std.proofs.Common.{◌≡◌, ◌≢◌, ⊎_elim, ◌≤◌, ◌<◌, ◌+◌, ◌^◌, w64, ◌-◌, true, false, ℕ, zero, suc, List, [], ◌∷◌, Bool, cond, length, get_or, take, map, not, eqb, sym, subst, ap, refl, ◌∙◌, arith}
use Rattle.std.proofs.lemmas.List.{map-id, length-take}
use Rattle.std.proofs.lemmas.Simd.{ones-mask_l, length-zip2, get_or-zip2, trailing_mask_l, run_in_chunk_fails, run_in_chunk_stops, none_from_empty_mask, length-chunk, mask_l-lt}
use Rattle.std.proofs.lemmas.Nat.Bits.{bit_at-trailing_zeros}
use Rattle.std.proofs.lemmas.Bool.{cases_lt}
use Rattle.std.proofs.lemmas.List.Sums.{count_by-le-length, sum_by-append, count_by_more_yes, count_by_more_no}
use Rattle.std.proofs.Math.Seq.{take-add}
use Rattle.std.specs.List.{count_by, prefix_len}
use Rattle.std.specs.Simd.Lanes.{mask_l}
use lib.Count.{ones, count_trailing_zeros}
use lib.Lanes.{chunk}
use Rattle.cny_base.specs.Compare.{differing, AreSameBefore, IsFirstDifference}

taken : (n : ℕ) (a b : List ℕ) → length a ≡ length b → differing (take n a) (take n b) ≡ take n (differing a b)
taken zero a b same = refl
taken (suc n) [] [] same = refl
taken (suc n) (x ∷ a) [] same = absurd (omega arith)
taken (suc n) [] (y ∷ b) same = absurd (omega arith)
taken (suc n) (x ∷ a) (y ∷ b) same = ap (λ (ds : List Bool). not (eqb x y) ∷ ds) (taken n a b (omega arith))

-- the differences of a run of places are a run of the differences
pub chunk_of_differing : (at n : ℕ) (a b : List ℕ) → length a ≡ length b → differing (chunk at n a) (chunk at n b) ≡ chunk at n (differing a b)
chunk_of_differing zero n a b same = taken n a b same
chunk_of_differing (suc at) n [] [] same = taken n [] [] same
chunk_of_differing (suc at) n (x ∷ a) [] same = absurd (omega arith)
chunk_of_differing (suc at) n [] (y ∷ b) same = absurd (omega arith)
chunk_of_differing (suc at) n (x ∷ a) (y ∷ b) same = chunk_of_differing at n a b (omega arith)

-- the set bits of a step are its differences
pub ones_of_marks : (ds : List Bool) → ones (mask_l ds) ≡ count_by (λ (d : Bool). d) ds
ones_of_marks ds = subst (λ (it : List Bool). ones (mask_l it) ≡ count_by (λ (d : Bool). d) ds) (map-id ds) (ones-mask_l (λ (d : Bool). d) ds)

-- the counts of two runs that follow each other add up
pub counts_add : (m n : ℕ) (ds : List Bool) → count_by (λ (d : Bool). d) (take (m + n) ds) ≡ count_by (λ (d : Bool). d) (take m ds) + count_by (λ (d : Bool). d) (chunk m n ds)
counts_add m n ds = ap (count_by (λ (d : Bool). d)) (take-add m n ds) ∙ sum_by-append (λ (d : Bool). cond d 1 0) (take m ds) (chunk m n ds)

-- no more places are counted than there are
pub counted_below : (n : ℕ) (a b : List ℕ) → length a ≡ length b → n < length a → count_by (λ (d : Bool). d) (take n (differing a b)) < length a
counted_below n a b same inside = omega (arith, count_by-le-length (λ (d : Bool). d) (take n (differing a b)), length-take n (differing a b))

pub counted_le : (n : ℕ) (a b : List ℕ) → length a ≡ length b → count_by (λ (d : Bool). d) (take n (differing a b)) ≤ length a
counted_le n a b same = omega (arith, count_by-le-length (λ (d : Bool). d) (take n (differing a b)), length-take n (differing a b), length-zip2 (λ (x y : ℕ). not (eqb x y)) a b same)

pub length-differing : (a b : List ℕ) → length a ≡ length b → length (differing a b) ≡ length a
length-differing a b same = length-zip2 (λ (x y : ℕ). not (eqb x y)) a b same

-- what is told of one place
pub differing_at_place : (a b : List ℕ) (k : ℕ) → length a ≡ length b → k < length a → get_or (differing a b) k false ≡ not (eqb (get_or a k 0) (get_or b k 0))
differing_at_place a b k same inside = get_or-zip2 (λ (x y : ℕ). not (eqb x y)) a b k 0 0 false inside (omega arith)

marked_at : (x y : ℕ) → x ≢ y → not (eqb x y) ≡ true
marked_at x y differs = grind arith

unmarked_at : (x y : ℕ) → x ≡ y → not (eqb x y) ≡ false
unmarked_at x y same = grind arith

same_at : (x y : ℕ) → not (eqb x y) ≡ false → x ≡ y
same_at x y same = grind arith

differ_at : (x y : ℕ) → not (eqb x y) ≡ true → x ≢ y
differ_at x y differs = grind arith

-- no place differs in a run without marks
pub same_in_run : (at n : ℕ) (a b : List ℕ) → length a ≡ length b → at + n ≤ length a → AreSameBefore a b at → mask_l (chunk at n (differing a b)) ≡ 0 → AreSameBefore a b (at + n)
same_in_run at n a b same room before none k below =
    ⊎_elim (λ (lt : k < at). before k lt)
    (λ (ge : at ≤ k). same_at (get_or a k 0) (get_or b k 0)
    (sym (differing_at_place a b k same (omega arith))
    ∙ none_from_empty_mask (λ (d : Bool). d) (differing a b) at n false (omega (arith, length-differing a b same)) (ap mask_l (map-id (chunk at n (differing a b))) ∙ none) k ge below))
    (cases_lt k at)

-- the lowest mark of a run is the first difference
pub first_in_run : (at : ℕ) (a b : List ℕ) → length a ≡ length b → at + 64 ≤ length a → AreSameBefore a b at → 0 < mask_l (chunk at 64 (differing a b)) → IsFirstDifference a b (at + count_trailing_zeros 64 (mask_l (chunk at 64 (differing a b))))
first_in_run at a b same room before some =
    let ds = differing a b in
    let run = chunk at 64 ds in
    let inside : at + 64 ≤ length ds = omega (arith, length-differing a b same) in
    let long : length run ≡ 64 = length-chunk at 64 ds inside in
    let marks : map (λ (d : Bool). d) run ≡ run = map-id run in
    let counted : count_trailing_zeros 64 (mask_l run) ≡ prefix_len (λ (d : Bool). not d) run =
    subst (λ (it : List Bool). count_trailing_zeros 64 (mask_l it) ≡ prefix_len (λ (d : Bool). not d) run) marks
    (trailing_mask_l (λ (d : Bool). d) 64 run (omega arith) (subst (λ (it : List Bool). 0 < mask_l it) (sym marks) some)) in
    let near : count_trailing_zeros 64 (mask_l run) < 64 = (bit_at-trailing_zeros w64 (mask_l run) some (subst (λ (n : ℕ). mask_l run < 2 ^ n) long (mask_l-lt run))).0 in
    record {
      within = omega arith;
      before = λ k below. ⊎_elim (λ (lt : k < at). before k lt)
          (λ (ge : at ≤ k). same_at (get_or a k 0) (get_or b k 0)
          (sym (differing_at_place a b k same (omega arith)) ∙ run_in_chunk_fails (λ (d : Bool). d) ds at 64 (count_trailing_zeros 64 (mask_l run)) false inside counted k ge below))
          (cases_lt k at);
      differs = differ_at (get_or a (at + count_trailing_zeros 64 (mask_l run)) 0) (get_or b (at + count_trailing_zeros 64 (mask_l run)) 0)
          (sym (differing_at_place a b (at + count_trailing_zeros 64 (mask_l run)) same (omega arith)) ∙ run_in_chunk_stops (λ (d : Bool). d) ds at 64 (count_trailing_zeros 64 (mask_l run)) false inside counted near);
    }

-- one more place that differs, and one that doesn't
pub one_more : (a b : List ℕ) (k : ℕ) → length a ≡ length b → k < length a → get_or a k 0 ≢ get_or b k 0 → count_by (λ (d : Bool). d) (take (k + 1) (differing a b)) ≡ count_by (λ (d : Bool). d) (take k (differing a b)) + 1
one_more a b k same inside differs = count_by_more_yes (λ (d : Bool). d) (differing a b) k false (omega (arith, length-differing a b same)) (differing_at_place a b k same inside ∙ marked_at (get_or a k 0) (get_or b k 0) differs)

pub none_more : (a b : List ℕ) (k : ℕ) → length a ≡ length b → k < length a → get_or a k 0 ≡ get_or b k 0 → count_by (λ (d : Bool). d) (take (k + 1) (differing a b)) ≡ count_by (λ (d : Bool). d) (take k (differing a b))
none_more a b k same inside equal = count_by_more_no (λ (d : Bool). d) (differing a b) k false (omega (arith, length-differing a b same)) (differing_at_place a b k same inside ∙ unmarked_at (get_or a k 0) (get_or b k 0) equal)
