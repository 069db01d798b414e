-- The names that begin with a text and a slash stand together in the order of names.
use Rattle.std.proofs.Common.{◌≡◌, ℕ, Bool, true, false, cond, not, ◌&&◌, ◌==◌, List, [], ◌∷◌, ◌++◌, filter, refl, sym, ◌∙◌, ap, arith, String, string_bytes, is_gt, is_eq}
use Rattle.std.proofs.lemmas.Bool.Decides.{nat_tests}
use Rattle.std.specs.declared.alloc.Global.{Global}
use Rattle.std.specs.declared.cmp.Ordering.{Ordering}
use Rattle.std.specs.declared.cmp.Ordering.TheVariants.{Less, Equal, Greater}
use Rattle.std.specs.Ordering.{nat_cmp, ordering_then, is_le}
use Rattle.std.specs.Cmp.Lexicographic.{slice_cmp}
use Rattle.std.specs.String.{string_cmp}
use Rattle.tree_disk.specs.cny-base.Below.{begins_with}
use Rattle.tree_disk.specs.cny-base.declared.node.Node.{Node}
use Rattle.tree_disk.specs.Tree.{Name}
use Rattle.tree_nodes.specs.Below.{front, has_prefix, entries_with_prefix}
use Rattle.tree_disk.proofs.cny-base.Below.{same_cmp}

abbrev pub R : Name → Name → Ordering
R = slice_cmp nat_cmp

-- from the text with a slash on, and before the text with the next byte
abbrev pub within : List ℕ → Name → Bool
within f q = is_le (R (f ++ 47 ∷ []) q) && not (is_le (R (f ++ 48 ∷ []) q))

empty_first : (bs : Name) → is_le (R [] bs) ≡ true
empty_first [] = refl
empty_first (b ∷ bs) = refl

tie : (a b : ℕ) → (a == b) ≡ is_eq (nat_cmp a b)
tie a b = grind (arith, nat_tests)

-- `0` is the byte after `/`
after_less : (b : ℕ) → nat_cmp 47 b ≡ Less → is_le (nat_cmp 48 b) ≡ true
after_less b h = grind (arith, nat_tests)

after_equal : (b : ℕ) → nat_cmp 47 b ≡ Equal → nat_cmp 48 b ≡ Greater
after_equal b h = grind (arith, nat_tests)

then_le : (o r : Ordering) → is_le o ≡ true → is_le r ≡ true → is_le (ordering_then o r) ≡ true
then_le Less r h le = refl
then_le Equal r h le = le
then_le Greater r h le = absurd (cc h)

at_end : (o s r : Ordering) → is_le r ≡ true → (o ≡ Less → is_le s ≡ true) → (o ≡ Equal → s ≡ Greater) → (is_le (ordering_then o r) && not (is_le (ordering_then s r))) ≡ (is_eq o && true)
at_end Less s r le less equal = ap not (then_le s r (less refl) le)
at_end Equal s r le less equal = ap (λ b. b && not (is_le (ordering_then s r))) le ∙ ap (λ t. not (is_le (ordering_then t r))) (equal refl)
at_end Greater s r le less equal = refl

at_byte : (o x y : Ordering) (v : Bool) → (is_le x && not (is_le y)) ≡ v → (is_le (ordering_then o x) && not (is_le (ordering_then o y))) ≡ (is_eq o && v)
at_byte Less x y v rest = refl
at_byte Equal x y v rest = rest
at_byte Greater x y v rest = refl

pub within_begins : (f : List ℕ) (q : Name) → within f q ≡ begins_with (f ++ 47 ∷ []) q
within_begins [] [] = refl
within_begins [] (b ∷ q) = at_end (nat_cmp 47 b) (nat_cmp 48 b) (R [] q) (empty_first q) (after_less b) (after_equal b) ∙ ap (λ t. t && true) (sym (tie 47 b))
within_begins (a ∷ f) [] = refl
within_begins (a ∷ f) (b ∷ q) =
    at_byte (nat_cmp a b) (R (f ++ 47 ∷ []) q) (R (f ++ 48 ∷ []) q) (begins_with (f ++ 47 ∷ []) q) (within_begins f q)
    ∙ ap (λ t. t && begins_with (f ++ 47 ∷ []) q) (sym (tie a b))

-- the range doesn't run backwards
pub forward : (f : List ℕ) → is_gt (R (f ++ 47 ∷ []) (f ++ 48 ∷ [])) ≡ false
forward [] = refl
forward (a ∷ f) = ap (λ o. is_gt (ordering_then o (R (f ++ 47 ∷ []) (f ++ 48 ∷ [])))) (same_cmp a) ∙ forward f

-- ---- the same of the entries of a map, with texts for the two ends
filter_same : {X : Type 0} (f g : X → Bool) (xs : List X) → ((x : X) → f x ≡ g x) → filter f xs ≡ filter g xs
filter_same f g [] same = refl
filter_same f g (x ∷ xs) same = λ i. cond (same x i) (x ∷ filter_same f g xs same i) (filter_same f g xs same i)

module _ (p : Name) (lower upper : String Global) (low : string_bytes lower ≡ front p ++ 47 ∷ []) (high : string_bytes upper ≡ front p ++ 48 ∷ []) where
  pub forward_at : is_gt (string_cmp lower upper) ≡ false
  forward_at = (λ i. is_gt (R (low i) (high i))) ∙ forward (front p)

  pub prefix_at : (entries : List (String Global × Node)) → filter (λ e. is_le (string_cmp lower e.0) && not (is_le (string_cmp upper e.0))) entries ≡ entries_with_prefix p entries
  prefix_at entries =
      filter_same _ (λ e. has_prefix p (string_bytes e.0)) entries
      (λ e. (λ i. is_le (R (low i) (string_bytes e.0)) && not (is_le (R (high i) (string_bytes e.0)))) ∙ within_begins (front p) (string_bytes e.0))
