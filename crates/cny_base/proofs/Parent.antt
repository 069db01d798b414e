-- The parent of a path is a path, and so is a path with further parts where it isn't too long.
use Rattle.std.specs.Prelude.{◌≡◌, ℕ, ◌+◌, Bool, true, false, cond, ◌||◌, ◌&&◌, List, [], ◌∷◌, ◌++◌, length, refl, nat_le, ◌==◌}
use Rattle.std.proofs.Common.{suc, sym, ◌∙◌, ap, arith, length-append}
use Rattle.std.proofs.lemmas.Bool.Decides.{nat_tests}
use Rattle.std.specs.Cmp.{first_so, second_so}
use Rattle.std.specs.Cmp.Derive.{both_true}
use Rattle.std.specs.List.{slice_split, onto_first, list_all}
use Rattle.cny_base.specs.Path.{is_slash, or_root, parent, join, is_path, is_path, is_part, are_parts}
use Rattle.cny_base.proofs.Joins.{not_zero}
use Rattle.cny_base.proofs.Below.{path_parts}

-- ---- parts round a slash

abbrev HasFirst : List (List ℕ) → Type 0
HasFirst parts = (first : List ℕ) × (rest : List (List ℕ)) × (parts ≡ first ∷ rest)

split_first : (bytes : List ℕ) → HasFirst (slice_split is_slash bytes)
split_first [] = ([], [], refl)
split_first (b ∷ bs) = at (is_slash b) (split_first bs)
  where
    at : (v : Bool) → HasFirst (slice_split is_slash bs) → HasFirst (cond v ([] ∷ slice_split is_slash bs) (onto_first b (slice_split is_slash bs)))
    at true more = ([], slice_split is_slash bs, refl)
    at false more = (b ∷ more.0, more.1, ap (onto_first b) more.2)

onto_first-append : (b : ℕ) (parts more : List (List ℕ)) → HasFirst parts → onto_first b (parts ++ more) ≡ onto_first b parts ++ more
onto_first-append b [] more first = absurd (cc first.2)
onto_first-append b (part ∷ parts) more first = refl

-- the parts before a slash, and those behind it
split-append : (bytes more : List ℕ) → slice_split is_slash (bytes ++ 47 ∷ more) ≡ slice_split is_slash bytes ++ slice_split is_slash more
split-append [] more = refl
split-append (b ∷ bs) more = at (is_slash b) (split-append bs more)
  where
    at : (v : Bool) → slice_split is_slash (bs ++ 47 ∷ more) ≡ slice_split is_slash bs ++ slice_split is_slash more
        → cond v ([] ∷ slice_split is_slash (bs ++ 47 ∷ more)) (onto_first b (slice_split is_slash (bs ++ 47 ∷ more)))
        ≡ cond v ([] ∷ slice_split is_slash bs) (onto_first b (slice_split is_slash bs)) ++ slice_split is_slash more
    at true same = ap (λ l. [] ∷ l) same
    at false same = ap (onto_first b) same ∙ onto_first-append b (slice_split is_slash bs) (slice_split is_slash more) (split_first bs)

and_assoc : (x y z : Bool) → (x && (y && z)) ≡ ((x && y) && z)
and_assoc true y z = refl
and_assoc false y z = refl

list_all-append : (test : List ℕ → Bool) (xs ys : List (List ℕ)) → list_all test (xs ++ ys) ≡ (list_all test xs && list_all test ys)
list_all-append test [] ys = refl
list_all-append test (x ∷ xs) ys = ap (λ b. test x && b) (list_all-append test xs ys) ∙ and_assoc (test x) (list_all test xs) (list_all test ys)

pub are_parts-append : (bytes more : List ℕ) → are_parts (bytes ++ 47 ∷ more) ≡ (are_parts bytes && are_parts more)
are_parts-append bytes more = ap (list_all is_part) (split-append bytes more) ∙ list_all-append is_part (slice_split is_slash bytes) (slice_split is_slash more)

-- ---- the tests of a path

abbrev rest_passes : List ℕ → Bool
rest_passes bytes = length bytes == 0 || (nat_le (length bytes) 1023 && are_parts bytes)

with_slash_some : (bytes more : List ℕ) → (length (bytes ++ 47 ∷ more) == 0) ≡ false
with_slash_some bytes more =
    let long : length (bytes ++ 47 ∷ more) ≡ length bytes + length (47 ∷ more) = length-append bytes (47 ∷ more) in
    grind (arith, nat_tests)

front_short : (bytes more : List ℕ) → nat_le (length (bytes ++ 47 ∷ more)) 1023 ≡ true → nat_le (length bytes) 1023 ≡ true
front_short bytes more short =
    let long : length (bytes ++ 47 ∷ more) ≡ length bytes + length (47 ∷ more) = length-append bytes (47 ∷ more) in
    grind (arith, nat_tests)

one_less : (n : ℕ) → nat_le (suc n) 1024 ≡ true → nat_le n 1023 ≡ true
one_less n short = grind (arith, nat_tests)

-- what is known of the bytes after the first slash, where there are some
pub after_slash : (x e n p : Bool) → e ≡ false → (x && (e || (n && p))) ≡ true → (n ≡ true) × (p ≡ true)
after_slash x true n p some is = absurd (cc some)
after_slash x false n p some is = let both = second_so x (n && p) is in (first_so n p both, second_so n p both)

passes : (x e n p : Bool) → x ≡ true → n ≡ true → p ≡ true → (x && (e || (n && p))) ≡ true
passes x true n p slash short parts = both_true slash refl
passes x false n p slash short parts = both_true slash (both_true short parts)

-- ---- the parent

before_is_path : (b : ℕ) (before last : List ℕ) → is_path ((b ∷ before) ++ 47 ∷ last) ≡ true → is_path (b ∷ before) ≡ true
before_is_path b before last path =
    let all = before ++ 47 ∷ last in
    let after = after_slash (b == 47) (length all == 0) (nat_le (length all) 1023) (are_parts all) (with_slash_some before last) path in
    passes (b == 47) (length before == 0) (nat_le (length before) 1023) (are_parts before)
    (first_so (b == 47) (rest_passes all) path)
    (front_short before last after.0)
    (first_so (are_parts before) (are_parts last) (sym (are_parts-append before last) ∙ after.1))

pub parent_is_path : (q : List ℕ) → is_path q ≡ true → is_path (parent q) ≡ true
parent_is_path q path = let parts = path_parts q path in at parts.before parts.last parts.whole parts.above
  where
    at : (before last : List ℕ) → q ≡ before ++ 47 ∷ last → parent q ≡ or_root before → is_path (parent q) ≡ true
    at [] last whole above = ap is_path above
    at (b ∷ before) last whole above = ap is_path above ∙ before_is_path b before last (ap is_path (sym whole) ∙ path)

-- ---- joined parts

pub join_is_path : (p last : List ℕ) → is_path p ≡ true → are_parts last ≡ true → nat_le (length (join p last)) 1024 ≡ true → is_path (join p last) ≡ true
join_is_path [] last path parts short = absurd (cc path)
join_is_path (b ∷ []) last path parts short =
    passes (b == 47) (length last == 0) (nat_le (length last) 1023) (are_parts last) (first_so (b == 47) true path) (one_less (length last) short) parts
join_is_path (b ∷ c ∷ front) last path parts short =
    let own = c ∷ front in
    let all = own ++ 47 ∷ last in
    let after = after_slash (b == 47) (length own == 0) (nat_le (length own) 1023) (are_parts own) (not_zero (length front)) path in
    passes (b == 47) (length all == 0) (nat_le (length all) 1023) (are_parts all)
    (first_so (b == 47) (rest_passes own) path)
    (one_less (length all) short)
    (are_parts-append own last ∙ both_true after.1 parts)
