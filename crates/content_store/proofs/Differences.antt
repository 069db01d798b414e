-- The first difference of two lists, found piece by piece.
use Rattle.std.proofs.Common.{◌≡◌, ◌≢◌, ◌⊎◌, ⊎_elim, inl, inr, ℕ, zero, suc, ◌+◌, ◌-◌, min, ◌≤◌, ◌<◌, Bool, true, false, cond, List, [], ◌∷◌, ◌++◌, length, take, drop, Option, Some, None, refl, sym, ◌∙◌, ap, arith}
use Rattle.std.specs.Prelude.{◌==◌, is_some, MatchOption}
use Rattle.std.proofs.lemmas.Bool.{cases_lt}
use Rattle.std.proofs.lemmas.List.{length-take, length-drop, drop-drop, drop_all, take_min}
use Rattle.tree_disk.specs.cny-base.Compare.{IsFirstDifference}
use Rattle.content_store.specs.Difference.{first_difference, shifted}
use Rattle.tree_disk.proofs.cny-base.Below.{test_equal as equal_test}
use Rattle.tree_disk.proofs.cny-base.ByteLists.{read_front}
use Rattle.tree_disk.proofs.cny-base.Counts.{number_same as same_test}

other_test : (x y : ℕ) → (x ≡ y → ⊥) → (x == y) ≡ false
other_test x y differ = at (x == y) refl
  where
    at : (b : Bool) → (x == y) ≡ b → (x == y) ≡ false
    at true is = absurd (differ (equal_test x y is))
    at false is = is

-- ---- places

pub shifted_zero : (o : Option ℕ) → shifted 0 o ≡ o
shifted_zero None = refl
shifted_zero (Some at) = let is : 0 + at ≡ at = omega arith in ap Some is

pub shifted_twice : (m n : ℕ) (o : Option ℕ) → shifted m (shifted n o) ≡ shifted (m + n) o
shifted_twice m n None = refl
shifted_twice m n (Some at) = let is : m + (n + at) ≡ (m + n) + at = omega arith in ap Some is

none_shifted : (n : ℕ) (o : Option ℕ) → shifted n o ≡ None → o ≡ None
none_shifted n None is = refl
none_shifted n (Some at) is = absurd (cc is)

-- ---- no difference

pub same_lists : (a b : List ℕ) → first_difference a b ≡ None → a ≡ b
same_lists [] [] is = refl
same_lists [] (y ∷ b) is = absurd (cc is)
same_lists (x ∷ a) [] is = absurd (cc is)
same_lists (x ∷ a) (y ∷ b) is = at (λ h. same_lists a b h) (x == y) refl is
  where
    at : (first_difference a b ≡ None → a ≡ b) → (v : Bool) → (x == y) ≡ v → cond v (shifted 1 (first_difference a b)) (Some 0) ≡ None → x ∷ a ≡ y ∷ b
    at more true same is = ap (λ (n : ℕ). n ∷ a) (equal_test x y same) ∙ ap (λ l. y ∷ l) (more (none_shifted 1 (first_difference a b) is))
    at more false same is = absurd (cc is)

here : (x y : ℕ) (a b : List ℕ) → x ≡ y → first_difference (x ∷ a) (y ∷ b) ≡ shifted 1 (first_difference a b)
here x y a b is = ap (λ v. cond v (shifted 1 (first_difference a b)) (Some 0)) (same_test x y is)

there : (x y : ℕ) (a b : List ℕ) → (x ≡ y → ⊥) → first_difference (x ∷ a) (y ∷ b) ≡ Some 0
there x y a b differ = ap (λ v. cond v (shifted 1 (first_difference a b)) (Some 0)) (other_test x y differ)

pub none_of_same : (a : List ℕ) → first_difference a a ≡ None
none_of_same [] = refl
none_of_same (x ∷ a) = here x x a a refl ∙ ap (shifted 1) (none_of_same a)

-- ---- a front that is the same

pub behind_front : (n : ℕ) (a b : List ℕ) → take n a ≡ take n b → n ≤ length a → n ≤ length b
    → first_difference a b ≡ shifted n (first_difference (drop n a) (drop n b))
behind_front zero a b same in_a in_b = sym (shifted_zero (first_difference a b))
behind_front (suc n) [] b same in_a in_b = absurd (omega arith)
behind_front (suc n) (x ∷ a) [] same in_a in_b = absurd (omega arith)
behind_front (suc n) (x ∷ a) (y ∷ b) same in_a in_b =
    here x y a b (cc same)
    ∙ ap (shifted 1) (behind_front n a b (cc same) (omega arith) (omega arith))
    ∙ shifted_twice 1 n (first_difference (drop n a) (drop n b))
    ∙ ap (λ k. shifted k (first_difference (drop n a) (drop n b))) (one_more n)
  where
    one_more : (n : ℕ) → 1 + n ≡ suc n
    one_more n = omega arith

-- a difference within the first n places
pub within_front : (n : ℕ) (a b : List ℕ) (k : ℕ) → first_difference (take n a) (take n b) ≡ Some k → first_difference a b ≡ Some k
within_front zero a b k is = absurd (cc is)
within_front (suc n) [] [] k is = absurd (cc is)
within_front (suc n) [] (y ∷ b) k is = is
within_front (suc n) (x ∷ a) [] k is = is
within_front (suc n) (x ∷ a) (y ∷ b) k is = at (λ j h. within_front n a b j h) (x == y) is
  where
    on : (o : Option ℕ) → ((j : ℕ) → o ≡ Some j → first_difference a b ≡ Some j) → shifted 1 o ≡ Some k → shifted 1 (first_difference a b) ≡ Some k
    on None more is = absurd (cc is)
    on (Some j) more is = ap (shifted 1) (more j refl) ∙ is

    at : ((j : ℕ) → first_difference (take n a) (take n b) ≡ Some j → first_difference a b ≡ Some j) → (v : Bool)
        → cond v (shifted 1 (first_difference (take n a) (take n b))) (Some 0) ≡ Some k → cond v (shifted 1 (first_difference a b)) (Some 0) ≡ Some k
    at more true is = on (first_difference (take n a) (take n b)) more is
    at more false is = is

-- ---- two lists of one length, by the kernel

pub by_kernel : (a b : List ℕ) (at : ℕ) → length a ≡ length b → IsFirstDifference a b at → first_difference a b ≡ Some at
by_kernel [] [] at same first = let within = first.within in absurd (omega (arith, within))
by_kernel [] (y ∷ b) at same first = absurd (omega arith)
by_kernel (x ∷ a) [] at same first = absurd (omega arith)
by_kernel (x ∷ a) (y ∷ b) zero same first = there x y a b first.differs
by_kernel (x ∷ a) (y ∷ b) (suc at) same first =
    let within = first.within in
    here x y a b (first.before 0 (omega arith))
    ∙ ap (shifted 1) (by_kernel a b at (omega arith) (record {
      within = omega (arith, within);
      before = λ k below. first.before (suc k) (omega (arith, below));
      differs = first.differs;
    }))
    ∙ ap Some (one_more at)
  where
    one_more : (n : ℕ) → 1 + n ≡ suc n
    one_more n = omega arith

-- ---- piece by piece

-- where the pieces before a place were the same, what differs lies behind it
abbrev pub IsBehind : List ℕ → List ℕ → ℕ → Type 0
IsBehind file bytes at = first_difference file bytes ≡ shifted at (first_difference (drop at file) (drop at bytes))

-- a piece of the bytes, by its own length
own_front : (own l : List ℕ) (n : ℕ) → own ≡ take n l → take (length own) l ≡ own
own_front own l n is = ap (λ (k : ℕ). take k l) (ap length is ∙ length-take n l) ∙ take_min n l ∙ sym is

pub behind_on : (file bytes own : List ℕ) (at n : ℕ) → IsBehind file bytes at → own ≡ take n (drop at bytes) → n ≤ length (drop at bytes)
    → first_difference (take (length own) (drop at file)) own ≡ None → IsBehind file bytes (at + n)
behind_on file bytes own at n so_far is room none =
    let sized : length own ≡ n = omega (arith, ap length is, length-take n (drop at bytes), room) in
    let same : take n (drop at file) ≡ take n (drop at bytes) = ap (λ (k : ℕ). take k (drop at file)) (sym sized) ∙ same_lists (take (length own) (drop at file)) own none ∙ is in
    let long : length (take n (drop at file)) ≡ length (take n (drop at bytes)) = ap length same in
    let front = behind_front n (drop at file) (drop at bytes) same
    (omega (arith, long, room, length-take n (drop at file), length-take n (drop at bytes))) room in
    so_far ∙ ap (shifted at) front
    ∙ shifted_twice at n (first_difference (drop n (drop at file)) (drop n (drop at bytes)))
    ∙ ap (λ l. shifted (at + n) (first_difference l (drop n (drop at bytes)))) (drop-drop n at file)
    ∙ ap (λ l. shifted (at + n) (first_difference (drop (at + n) file) l)) (drop-drop n at bytes)

pub behind_found : (file bytes own : List ℕ) (at n k : ℕ) → IsBehind file bytes at → own ≡ take n (drop at bytes)
    → first_difference (take (length own) (drop at file)) own ≡ Some k → first_difference file bytes ≡ Some (at + k)
behind_found file bytes own at n k so_far is found =
    so_far ∙ ap (shifted at) (within_front (length own) (drop at file) (drop at bytes) k (ap (first_difference (take (length own) (drop at file))) (own_front own (drop at bytes) n is) ∙ found))

-- the same, where both pieces are cut to a length
pub behind_on_both : (file other : List ℕ) (at n : ℕ) → IsBehind file other at → n ≤ length (drop at other)
    → first_difference (take n (drop at file)) (take n (drop at other)) ≡ None → IsBehind file other (at + n)
behind_on_both file other at n so_far room none =
    behind_on file other (take n (drop at other)) at n so_far refl room (ap (λ (k : ℕ). first_difference (take k (drop at file)) (take n (drop at other))) (length-take n (drop at other) ∙ least n (length (drop at other)) room) ∙ none)
  where
    least : (m k : ℕ) → m ≤ k → min m k ≡ m
    least m k le = omega arith

pub behind_found_both : (file other : List ℕ) (at n k : ℕ) → IsBehind file other at
    → first_difference (take n (drop at file)) (take n (drop at other)) ≡ Some k → first_difference file other ≡ Some (at + k)
behind_found_both file other at n k so_far found = so_far ∙ ap (shifted at) (within_front n (drop at file) (drop at other) k found)

rest_longer : (l : List ℕ) → 0 < length l → first_difference l [] ≡ Some 0
rest_longer [] some = absurd (omega arith)
rest_longer (x ∷ l) some = refl

-- the second list has ended, and the first goes on
pub behind_longer : (file bytes : List ℕ) (at : ℕ) → IsBehind file bytes at → length bytes ≤ at → at < length file → first_difference file bytes ≡ Some at
behind_longer file bytes at so_far ended more =
    let zero_more : at + 0 ≡ at = omega arith in
    so_far
    ∙ ap (λ l. shifted at (first_difference (drop at file) l)) (drop_all at bytes ended)
    ∙ ap (shifted at) (rest_longer (drop at file) (omega (arith, more, length-drop at file)))
    ∙ ap Some zero_more

-- ---- lists of any lengths, by their common part

-- the kernel finds it there
pub common_found : (a b p q : List ℕ) (n k : ℕ) → p ≡ take n a → q ≡ take n b → n ≤ length a → n ≤ length b → IsFirstDifference p q k → first_difference a b ≡ Some k
common_found a b p q n k is_p is_q in_a in_b first =
    within_front n a b k (ap (λ l. first_difference l (take n b)) (sym is_p) ∙ ap (first_difference p) (sym is_q) ∙ by_kernel p q k long first)
  where
    long : length p ≡ length q
    long = omega (arith, ap length is_p, ap length is_q, length-take n a, length-take n b, in_a, in_b)

one_longer : (x y : List ℕ) → length x ≢ length y → (length x ≡ 0) ⊎ (length y ≡ 0) → first_difference x y ≡ Some 0
one_longer [] [] other one = absurd (other refl)
one_longer [] (y ∷ ys) other one = refl
one_longer (x ∷ xs) [] other one = refl
one_longer (x ∷ xs) (y ∷ ys) other one = ⊎_elim (λ none. absurd (omega (arith, none))) (λ none. absurd (omega (arith, none))) one

-- the common part is the same, and one goes on
pub common_longer : (a b p q : List ℕ) (n : ℕ) → p ≡ take n a → q ≡ take n b → n ≡ min (length a) (length b) → p ≡ q → length a ≢ length b → first_difference a b ≡ Some n
common_longer a b p q n is_p is_q least same other =
    let zero_more : n + 0 ≡ n = omega arith in
    let apart : length (drop n a) ≢ length (drop n b) = λ is. other (omega (arith, is, least, length-drop n a, length-drop n b)) in
    let one : (length (drop n a) ≡ 0) ⊎ (length (drop n b) ≡ 0) = ⊎_elim
    (λ (lt : length a < length b). inl (omega (arith, lt, least, length-drop n a)))
    (λ (ge : length b ≤ length a). inr (omega (arith, ge, least, length-drop n b)))
    (cases_lt (length a) (length b)) in
    behind_front n a b (sym is_p ∙ same ∙ is_q) (omega (arith, least)) (omega (arith, least))
    ∙ ap (shifted n) (one_longer (drop n a) (drop n b) apart one) ∙ ap Some zero_more

-- the common part is the same, and both end there
pub common_same : (a b p q : List ℕ) (n : ℕ) → p ≡ take n a → q ≡ take n b → n ≡ min (length a) (length b) → p ≡ q → length a ≡ length b → first_difference a b ≡ None
common_same a b p q n is_p is_q least same long =
    behind_front n a b (sym is_p ∙ same ∙ is_q) (omega (arith, least)) (omega (arith, least))
    ∙ ap (λ l. shifted n (first_difference l (drop n b))) (drop_all n a (omega (arith, least, long)))
    ∙ ap (λ l. shifted n (first_difference [] l)) (drop_all n b (omega (arith, least, long)))

-- ---- what a read left in a buffer

-- two pieces that were read
pub pieces_read : (f g b_old b_new o_old o_new : List ℕ) (at kept count : ℕ) → length b_old ≡ length o_old
    → kept ≡ min (length b_old) (length f - at) → b_new ≡ take kept (drop at f) ++ drop kept b_old
    → count ≡ min (length o_old) (length g - at) → o_new ≡ take count (drop at g) ++ drop count o_old
    → first_difference (take (length o_old) (drop at f)) (take (length o_old) (drop at g)) ≡ first_difference (take kept b_new) (take count o_new)
pieces_read f g b_old b_new o_old o_new at kept count long most is other_most other_is =
    ap (λ (n : ℕ). first_difference (take n (drop at f)) (take (length o_old) (drop at g))) (sym long)
    ∙ ap (λ l. first_difference l (take (length o_old) (drop at g))) (sym (read_front f b_old b_new at kept most is))
    ∙ ap (first_difference (take kept b_new)) (sym (read_front g o_old o_new at count other_most other_is))

-- ---- what the kernel answers

pub by_common : (a b p q : List ℕ) (n : ℕ) (found : Option ℕ) → p ≡ take n a → q ≡ take n b → n ≡ min (length a) (length b)
    → MatchOption found (p ≡ q) (IsFirstDifference p q) → (found ≡ None → length a ≡ length b) → found ≡ first_difference a b
by_common a b p q n (Some k) is_p is_q least first long = sym (common_found a b p q n k is_p is_q (omega (arith, least)) (omega (arith, least)) first)
by_common a b p q n None is_p is_q least same long = sym (common_same a b p q n is_p is_q least same (long refl))

pub by_common_longer : (a b p q : List ℕ) (n : ℕ) (found : Option ℕ) → p ≡ take n a → q ≡ take n b → n ≡ min (length a) (length b)
    → MatchOption found (p ≡ q) (IsFirstDifference p q) → is_some found ≡ false → length a ≢ length b → Some n ≡ first_difference a b
by_common_longer a b p q n (Some k) is_p is_q least first none other = absurd (cc none)
by_common_longer a b p q n None is_p is_q least same none other = sym (common_longer a b p q n is_p is_q least same other)
