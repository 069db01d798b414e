-- The numbers of staged files in a set, as numbers are added to it.
use Rattle.std.proofs.Common.{◌≡◌, ℕ, ◌<◌, ◌^◌, Bool, true, false, cond, ◌||◌, ◌==◌, List, [], ◌∷◌, refl, sym, ap, ◌∙◌, subst, arith}
use Rattle.std.specs.BTreeSet.{BTreeSet, contains, Updates}
use Rattle.std.specs.List.{list_any}
use Rattle.std.specs.Ordering.{nat_cmp, is_eq}
use Rattle.std.proofs.lemmas.Bool.Decides.{nat_tests}
use Rattle.journal_log.specs.Staged.{NumbersFit}
use Rattle.tree_disk.proofs.cny-base.Bools.{written}
use Rattle.tree_disk.proofs.cny-base.Below.{test_equal as same_number}
use Rattle.tree_disk.proofs.cny-base.Counts.{equal_numbers as same_numbers}

equal_numbers : (m n : ℕ) → is_eq (nat_cmp m n) ≡ (n == m)
equal_numbers m n = grind (arith, nat_tests)

alike : (p q : ℕ → Bool) → ((k : ℕ) → p k ≡ q k) → (keys : List ℕ) → list_any p keys ≡ list_any q keys
alike p q same [] = refl
alike p q same (k ∷ keys) = ap (λ (b : Bool). b || list_any p keys) (same k) ∙ ap (λ (b : Bool). q k || b) (alike p q same keys)

-- what a look-up answers
pub looked_up : (keys : BTreeSet ℕ) (n : ℕ) → contains nat_cmp keys n ≡ list_any (λ m. m == n) keys.keys
looked_up keys n = alike (λ (m : ℕ). is_eq (nat_cmp n m)) (λ m. m == n) (λ m. equal_numbers n m) keys.keys

-- one more number
pub one_more : (old new : BTreeSet ℕ) (added : ℕ) → Updates nat_cmp old new added true → (n : ℕ) → list_any (λ m. m == n) new.keys ≡ (list_any (λ m. m == n) old.keys || (added == n))
one_more old new added updates n =
    sym (looked_up new n)
    ∙ updates.0 n
    ∙ ap (λ (x : Bool). cond (is_eq (nat_cmp added n)) true x) (looked_up old n)
    ∙ ap (λ (b : Bool). cond b true (list_any (λ m. m == n) old.keys)) (same_numbers added n)
    ∙ written (added == n) (list_any (λ m. m == n) old.keys)

-- they still fit, if the one that is added does
pub still_fit : (old new : BTreeSet ℕ) (added : ℕ) → Updates nat_cmp old new added true → added < 2 ^ 32 → NumbersFit old.keys → NumbersFit new.keys
still_fit old new added updates small fit n has =
    by (list_any (λ m. m == n) old.keys) (added == n) refl refl (sym (one_more old new added updates n) ∙ has)
  where
    by : (x y : Bool) → list_any (λ m. m == n) old.keys ≡ x → (added == n) ≡ y → (x || y) ≡ true → n < 2 ^ 32
    by true y was is either = fit n was
    by false true was is either = subst (λ (k : ℕ). k < 2 ^ 32) (same_number added n is) small
    by false false was is either = absurd (cc either)
