-- A group of flags, as it is spelled and as it is cut at its separators.
use Rattle.std.proofs.Common.{◌≡◌, ℕ, ◌≤◌, Bool, true, false, cond, List, [], ◌∷◌, ◌++◌, length, map, refl, sym, ap, ◌∙◌, subst, arith, ◌||◌, ◌==◌}
use Rattle.std.specs.Cmp.{first_so, second_so}
use Rattle.std.specs.Cmp.Lexicographic.{nat_list_cmp_total}
use Rattle.std.specs.FinMap.{nat_cmp-IsAntisymmetric, slice_cmp-IsAntisymmetric}
use Rattle.std.specs.List.{list_all, slice_split, onto_first, join_with_byte, All}
use Rattle.std.specs.List.Sorted.{IsStrictlySortedBy, IsPermutation, IsSorted}
use Rattle.std.specs.Ordering.{eq_by_cmp}
use Rattle.std.proofs.lemmas.Bool.{false≢true}
use Rattle.std.proofs.lemmas.Bool.Decides.{nat_tests}
use Rattle.std.proofs.lemmas.Cmp.{eq_by_cmp_equiv}
use Rattle.std.proofs.lemmas.List.Elements.{All-nil, All-cons}
use Rattle.std.proofs.lemmas.List.Sums.{AllPass-from_list_all, list_all-from_AllPass}
use Rattle.std.proofs.lemmas.List.Splits.{slice_split_none, slice_split_at, join_with_byte-slice_split}
use Rattle.std.proofs.lemmas.List.Sorted.{IsPermutation-sym, IsPermutation-trans, All-permutation, length_permutation}
use Rattle.std.proofs.lemmas.Map.Keys.{IsDistinct-from_sorted, IsDistinct-IsPermutation}
use Rattle.cny_dep.specs.Listing.{is_separator, IsListing}
use Rattle.cny_dep.specs.Part.{is_part_byte, is_flag}
use Rattle.cny_dep.specs.Relaxed.{space_for_comma}
use Rattle.cny_dep.proofs.PartBytes.{flag_bytes}
use Rattle.cny_dep.proofs.Sorted.{one_order, rising_from_distinct}
use Rattle.cny_dep.proofs.Found.{R}

abbrev is_space : ℕ → Bool
is_space b = b == 32

-- ---- commas as spaces

cell_by : (v w : Bool) (b : ℕ) (parts : List (List ℕ)) → (b == 32) ≡ w
    → cond (w || v) ([] ∷ parts) (onto_first b parts) ≡ cond (is_space (cond v 32 b)) ([] ∷ parts) (onto_first (cond v 32 b) parts)
cell_by true true b parts w_is = refl
cell_by true false b parts w_is = refl
cell_by false true b parts w_is = sym (ap (λ t. cond t ([] ∷ parts) (onto_first b parts)) w_is)
cell_by false false b parts w_is = sym (ap (λ t. cond t ([] ∷ parts) (onto_first b parts)) w_is)

spaced_parts : (group : List ℕ) → slice_split is_separator group ≡ slice_split is_space (map space_for_comma group)
spaced_parts [] = refl
spaced_parts (b ∷ bs) =
    ap (λ parts. cond (is_separator b) ([] ∷ parts) (onto_first b parts)) (spaced_parts bs)
    ∙ cell_by (b == 44) (b == 32) b (slice_split is_space (map space_for_comma bs)) refl

-- with spaces alone a group is its parts, joined
pub spaced_group : (group : List ℕ) → map space_for_comma group ≡ join_with_byte 32 (slice_split is_separator group)
spaced_group group = sym (join_with_byte-slice_split 32 (map space_for_comma group)) ∙ ap (join_with_byte 32) (sym (spaced_parts group))

other_bytes : (bytes : List ℕ) → list_all is_part_byte bytes ≡ true → All (λ b. is_space b ≡ false) bytes
other_bytes [] all = All-nil (λ b. is_space b ≡ false)
other_bytes (b ∷ bs) all =
    All-cons (λ b. is_space b ≡ false) b bs (other b (first_so (is_part_byte b) (list_all is_part_byte bs) all)) (other_bytes bs (second_so (is_part_byte b) (list_all is_part_byte bs) all))
  where
    other : (b : ℕ) → is_part_byte b ≡ true → is_space b ≡ false
    other b is = grind (arith, nat_tests)

joined_parts : (flag : List ℕ) (flags : List (List ℕ)) → list_all is_flag (flag ∷ flags) ≡ true → slice_split is_space (join_with_byte 32 (flag ∷ flags)) ≡ flag ∷ flags
joined_parts flag [] all = slice_split_none is_space flag (other_bytes flag (flag_bytes flag (first_so (is_flag flag) true all)))
joined_parts flag (next ∷ flags) all =
    slice_split_at is_space flag 32 (join_with_byte 32 (next ∷ flags)) (other_bytes flag (flag_bytes flag (first_so (is_flag flag) (list_all is_flag (next ∷ flags)) all))) refl
    ∙ ap (λ l. flag ∷ l) (joined_parts next flags (second_so (is_flag flag) (list_all is_flag (next ∷ flags)) all))

-- and what is joined is the parts
pub listed_parts : (group flag : List ℕ) (flags : List (List ℕ)) → list_all is_flag (flag ∷ flags) ≡ true → map space_for_comma group ≡ join_with_byte 32 (flag ∷ flags)
    → slice_split is_separator group ≡ flag ∷ flags
listed_parts group flag flags all is = spaced_parts group ∙ ap (slice_split is_space) is ∙ joined_parts flag flags all

-- ---- the parentheses

pub parted : (f : ℕ → ℕ) (xs ys zs : List ℕ) → map f xs ≡ ys ++ zs → (us : List ℕ) × (vs : List ℕ) × (xs ≡ us ++ vs) × (map f us ≡ ys) × (map f vs ≡ zs)
parted f xs [] zs e = ([], xs, refl, refl, e)
parted f [] (y ∷ ys) zs e = absurd (cc)
parted f (x ∷ xs) (y ∷ ys) zs e =
    let heads : f x ≡ y = cc in
    let tails : map f xs ≡ ys ++ zs = cc in
    let more = parted f xs ys zs tails in
    (x ∷ more.0, more.1, ap (λ l. x ∷ l) more.2, ap (λ (n : ℕ). n ∷ map f more.0) heads ∙ ap (λ l. y ∷ l) more.3, more.4)

kept_by : (v : Bool) (b c : ℕ) → cond v 32 b ≡ c → (c == 32) ≡ false → b ≡ c
kept_by true b c e other = absurd (false≢true (sym other ∙ ap (λ (n : ℕ). n == 32) (sym e)))
kept_by false b c e other = e

-- a byte that is no space stays
kept : (b c : ℕ) → space_for_comma b ≡ c → (c == 32) ≡ false → b ≡ c
kept b c e other = kept_by (b == 44) b c e other

kept_byte : (bytes : List ℕ) (c : ℕ) → map space_for_comma bytes ≡ c ∷ [] → (c == 32) ≡ false → bytes ≡ c ∷ []
kept_byte [] c e other = absurd (cc)
kept_byte (b ∷ []) c e other = let head : space_for_comma b ≡ c = cc in ap (λ (n : ℕ). n ∷ []) (kept b c head other)
kept_byte (b ∷ d ∷ bytes) c e other = absurd (cc)

pub empty_text : (group : List ℕ) → map space_for_comma group ≡ [] → group ≡ []
empty_text [] e = refl
empty_text (b ∷ group) e = absurd (cc)

-- what becomes text in parentheses stands in parentheses
pub in_parentheses : (group inner : List ℕ) → map space_for_comma group ≡ 40 ∷ (inner ++ 41 ∷ []) → (bytes : List ℕ) × (group ≡ 40 ∷ (bytes ++ 41 ∷ [])) × (map space_for_comma bytes ≡ inner)
in_parentheses group inner e =
    let outer = parted space_for_comma group (40 ∷ []) (inner ++ 41 ∷ []) e in
    let front : outer.0 ≡ 40 ∷ [] = kept_byte outer.0 40 outer.3 refl in
    let rest = parted space_for_comma outer.1 inner (41 ∷ []) outer.4 in
    let back : rest.1 ≡ 41 ∷ [] = kept_byte rest.1 41 rest.4 refl in
    (rest.0, outer.2 ∙ ap (λ l. l ++ outer.1) front ∙ ap (λ l. 40 ∷ l) (rest.2 ∙ ap (λ l. rest.0 ++ l) back), rest.3)

-- ---- lists of flags

pub moved_valid : (xs ys : List (List ℕ)) → IsPermutation xs ys → list_all is_flag xs ≡ true → list_all is_flag ys ≡ true
moved_valid xs ys moved all = list_all-from_AllPass is_flag ys (All-permutation (λ flag. is_flag flag ≡ true) xs ys moved (AllPass-from_list_all is_flag xs all))

-- a group lists one list of flags
pub one_listing : (group : List ℕ) (xs ys : List (List ℕ)) → IsListing group xs → IsListing group ys → xs ≡ ys
one_listing group xs ys lx ly =
    one_order nat_list_cmp_total (slice_cmp-IsAntisymmetric nat_cmp-IsAntisymmetric) (slice_split is_separator group) xs ys lx.rising ly.rising lx.order ly.order

pub listing_few : (group : List ℕ) (flags : List (List ℕ)) → IsListing group flags → length (slice_split is_separator group) ≤ 64
listing_few group flags listing = omega (arith, length_permutation flags (slice_split is_separator group) listing.order, listing.few)

pub listing_valid : (group : List ℕ) (flags : List (List ℕ)) → IsListing group flags → list_all is_flag (slice_split is_separator group) ≡ true
listing_valid group flags listing = moved_valid flags (slice_split is_separator group) listing.order listing.valid

pub make_listing : (group : List ℕ) (read made : List (List ℕ)) → read ≡ slice_split is_separator group → list_all is_flag read ≡ true → length read ≤ 64
    → IsPermutation read made → IsStrictlySortedBy R made → IsListing group made
make_listing group read made is valid few moved rising =
    record {
      valid = moved_valid read made moved valid;
      few = omega (arith, length_permutation read made moved, few);
      rising = rising;
      order = subst (IsPermutation made) is (IsPermutation-sym read made moved);
    }

-- flags that don't rise when they are sorted are no list of flags
pub unsorted : (group : List ℕ) (read made : List (List ℕ)) → read ≡ slice_split is_separator group → IsPermutation read made → IsSorted R made
    → (IsStrictlySortedBy R made → ⊥) → (flags : List (List ℕ)) → IsListing group flags → ⊥
unsorted group read made is moved sorted never flags listing =
    let order : IsPermutation flags read = subst (IsPermutation flags) (sym is) listing.order in
    let all_moved : IsPermutation flags made = IsPermutation-trans flags read made order moved in
    let apart = IsDistinct-IsPermutation (eq_by_cmp R) (eq_by_cmp_equiv nat_list_cmp_total).symm flags made all_moved (IsDistinct-from_sorted R flags listing.rising) in
    never (rising_from_distinct nat_list_cmp_total made [] sorted apart)
