-- The text of a dependency as its reader takes it apart.
use Rattle.std.proofs.Common.{◌≡◌, ℕ, ◌<◌, ◌≤◌, true, List, [], ◌∷◌, ◌++◌, length, map, refl, sym, ap, ◌∙◌, subst, arith, Option, Some, None}
use Rattle.std.specs.Cmp.{first_so, second_so}
use Rattle.std.proofs.lemmas.Bool.Decides.{nat_tests}
use Rattle.std.specs.Cmp.Lexicographic.{slice_cmp}
use Rattle.std.specs.List.{list_all, slice_split, join_with_byte}
use Rattle.std.specs.List.Sorted.{IsStrictlySortedBy, IsPermutation}
use Rattle.std.specs.Ordering.{nat_cmp}
use Rattle.std.proofs.lemmas.List.{map-append}
use Rattle.std.proofs.lemmas.List.Splits.{length-slice_split}
use Rattle.std.proofs.lemmas.List.Sorted.{IsPermutation-refl, length_permutation}
use Rattle.cny_dep.specs.declared.class.Class.{Class}
use Rattle.cny_dep.specs.Dep.{Dependency, IsDependency, class_text, flags_text, with_group, dep_text}
use Rattle.cny_dep.specs.Listing.{is_separator, group_text, Lists}
use Rattle.cny_dep.specs.Part.{is_dep_name, is_part_byte, is_flag}
use Rattle.cny_dep.specs.Relaxed.{space_for_comma, IsRelaxedText}
use Rattle.cny_dep.proofs.PartBytes.{name_bytes, flag_bytes}
use Rattle.cny_dep.proofs.Cuts.{same_cut, same_class, class_lacks, name_lacks, same_group}
use Rattle.cny_dep.proofs.Separated.{spaced_group, listed_parts, empty_text, in_parentheses, moved_valid, one_listing}

pub record Parts (text : List ℕ) (dep : Dependency) : Type 0 where
  pub group : Option (List ℕ)
  pub spelled : text ≡ with_group dep.class dep.name (group_text group)
  pub lists : Lists group dep.flags

-- ---- from a relaxed text

no_flags : (flags : List (List ℕ)) → IsPermutation flags [] → flags ≡ []
no_flags [] moved = refl
no_flags (flag ∷ flags) moved = absurd (omega (arith, length_permutation (flag ∷ flags) [] moved))

group_parts : (group : List ℕ) (flags listed : List (List ℕ)) → list_all is_flag flags ≡ true → length flags ≤ 64 → IsStrictlySortedBy (slice_cmp nat_cmp) flags
    → IsPermutation flags listed → map space_for_comma group ≡ flags_text listed → (o : Option (List ℕ)) × (group ≡ group_text o) × Lists o flags
group_parts group flags [] valid few rising order spaced = (None, empty_text group spaced, no_flags flags order)
group_parts group flags (flag ∷ listed) valid few rising order spaced =
    let inner = in_parentheses group (join_with_byte 32 (flag ∷ listed)) spaced in
    let is : slice_split is_separator inner.0 ≡ flag ∷ listed = listed_parts inner.0 flag listed (moved_valid flags (flag ∷ listed) order valid) inner.2 in
    (Some inner.0, inner.1, record { valid = valid; few = few; rising = rising; order = subst (IsPermutation flags) (sym is) order })

pub relaxed_parts : (text : List ℕ) (dep : Dependency) → IsDependency dep → IsRelaxedText text dep → Parts text dep
relaxed_parts text dep is relaxed =
    let found = group_parts relaxed.group dep.flags relaxed.listed is.flags is.few is.rising relaxed.order relaxed.spaced in
    record { group = found.0; spelled = relaxed.spelled ∙ ap (with_group dep.class dep.name) found.1; lists = found.2 }

-- ---- to a relaxed text

full_text : (listed : List (List ℕ)) → 0 < length listed → 40 ∷ (join_with_byte 32 listed ++ 41 ∷ []) ≡ flags_text listed
full_text [] some = absurd (omega arith)
full_text (flag ∷ listed) some = refl

map_last : (group : List ℕ) → map space_for_comma (group ++ 41 ∷ []) ≡ map space_for_comma group ++ 41 ∷ []
map_last [] = refl
map_last (b ∷ group) = ap (λ l. space_for_comma b ∷ l) (map_last group)

some_parts : (group : List ℕ) → 0 < length (slice_split is_separator group)
some_parts group = omega (arith, length-slice_split is_separator group)

group_spaced : (group : List ℕ) → map space_for_comma (40 ∷ (group ++ 41 ∷ [])) ≡ flags_text (slice_split is_separator group)
group_spaced group =
    ap (λ l. 40 ∷ l) (map_last group ∙ ap (λ l. l ++ 41 ∷ []) (spaced_group group)) ∙ full_text (slice_split is_separator group) (some_parts group)

pub relaxed_by : (text : List ℕ) (dep : Dependency) (group : Option (List ℕ)) → text ≡ with_group dep.class dep.name (group_text group) → Lists group dep.flags → IsRelaxedText text dep
relaxed_by text dep None spelled none =
    record { listed = []; order = subst (λ l. IsPermutation l []) (sym none) (IsPermutation-refl []); group = []; spaced = refl; spelled = spelled }
relaxed_by text dep (Some group) spelled listing =
    record { listed = slice_split is_separator group; order = listing.order; group = 40 ∷ (group ++ 41 ∷ []); spaced = group_spaced group; spelled = spelled }

-- ---- the dependency

pub dependency_by : (class : Class) (name : List ℕ) (flags : List (List ℕ)) (group : Option (List ℕ)) → is_dep_name name ≡ true → Lists group flags
    → IsDependency (record { class = class; name = name; flags = flags })
unfolding IsStrictlySortedBy
dependency_by class name flags None valid none = no_flagged flags none
  where
    no_flagged : (flags : List (List ℕ)) → flags ≡ [] → IsDependency (record { class = class; name = name; flags = flags })
    no_flagged [] e = record { name = valid; flags = refl; few = omega arith; rising = tt }
    no_flagged (flag ∷ flags) e = absurd (cc)
dependency_by class name flags (Some group) valid listing = record { name = valid; flags = listing.valid; few = listing.few; rising = listing.rising }

-- ---- one text, one dependency

pub one_list : (group : Option (List ℕ)) (xs ys : List (List ℕ)) → Lists group xs → Lists group ys → xs ≡ ys
one_list None xs ys x y = x ∙ sym y
one_list (Some group) xs ys x y = one_listing group xs ys x y

-- the fields are those of the dependency
pub record SameParts (a b : Dependency) : Type 0 where
  pub class : a.class ≡ b.class
  pub name : a.name ≡ b.name
  pub flags : a.flags ≡ b.flags

pub same_dep : (a b : Dependency) → SameParts a b → a ≡ b
same_dep a b same = λ i. record { class = same.class i; name = same.name i; flags = same.flags i }

-- a class, a name and a group are spelled in one way
pub record SpelledAs (c d : Class) (m n : List ℕ) (x y : Option (List ℕ)) : Type 0 where
  pub class : c ≡ d
  pub name : m ≡ n
  pub group : x ≡ y

pub spelled_once : (c d : Class) (m n : List ℕ) (x y : Option (List ℕ)) → is_dep_name m ≡ true → is_dep_name n ≡ true
    → with_group c m (group_text x) ≡ with_group d n (group_text y) → SpelledAs c d m n x y
spelled_once c d m n x y valid_m valid_n e =
    let outer = same_cut 58 (class_text c) (class_text d) (32 ∷ (m ++ group_text x)) (32 ∷ (n ++ group_text y)) (class_lacks c) (class_lacks d) e in
    let rest : m ++ group_text x ≡ n ++ group_text y = cc (outer.1) in
    let inner = same_group m n x y (name_lacks m (name_bytes m valid_m)) (name_lacks n (name_bytes n valid_n)) rest in
    record { class = same_class c d outer.0; name = inner.0; group = inner.1 }

pub one_dep : (text : List ℕ) (a b : Dependency) → IsDependency a → IsDependency b → IsRelaxedText text a → IsRelaxedText text b → a ≡ b
one_dep text a b is_a is_b relaxed_a relaxed_b =
    let pa = relaxed_parts text a is_a relaxed_a in
    let pb = relaxed_parts text b is_b relaxed_b in
    let same = spelled_once a.class b.class a.name b.name pa.group pb.group is_a.name is_b.name (sym pa.spelled ∙ pb.spelled) in
    same_dep a b (record {
      class = same.class;
      name = same.name;
      flags = one_list pb.group a.flags b.flags (subst (λ o. Lists o a.flags) same.group pa.lists) pb.lists;
    })

-- ---- the canonical text

same_byte : (b : ℕ) → is_part_byte b ≡ true → space_for_comma b ≡ b
same_byte b is = grind (arith, nat_tests)

same_bytes : (bytes : List ℕ) → list_all is_part_byte bytes ≡ true → map space_for_comma bytes ≡ bytes
same_bytes [] all = refl
same_bytes (b ∷ bs) all =
    ap (λ (n : ℕ). n ∷ map space_for_comma bs) (same_byte b (first_so (is_part_byte b) (list_all is_part_byte bs) all))
    ∙ ap (λ l. b ∷ l) (same_bytes bs (second_so (is_part_byte b) (list_all is_part_byte bs) all))

same_join : (flags : List (List ℕ)) → list_all is_flag flags ≡ true → map space_for_comma (join_with_byte 32 flags) ≡ join_with_byte 32 flags
same_join [] all = refl
same_join (flag ∷ []) all = same_bytes flag (flag_bytes flag (first_so (is_flag flag) true all))
same_join (flag ∷ next ∷ flags) all =
    map-append space_for_comma flag (32 ∷ join_with_byte 32 (next ∷ flags))
    ∙ ap (λ l. l ++ 32 ∷ map space_for_comma (join_with_byte 32 (next ∷ flags))) (same_bytes flag (flag_bytes flag (first_so (is_flag flag) (list_all is_flag (next ∷ flags)) all)))
    ∙ ap (λ l. flag ++ 32 ∷ l) (same_join (next ∷ flags) (second_so (is_flag flag) (list_all is_flag (next ∷ flags)) all))

same_text : (flags : List (List ℕ)) → list_all is_flag flags ≡ true → map space_for_comma (flags_text flags) ≡ flags_text flags
same_text [] all = refl
same_text (flag ∷ flags) all = ap (λ l. 40 ∷ l) (map_last (join_with_byte 32 (flag ∷ flags)) ∙ ap (λ l. l ++ 41 ∷ []) (same_join (flag ∷ flags) all))

-- the canonical text is one of the texts
pub canonical_relaxed : (text : List ℕ) (dep : Dependency) → IsDependency dep → text ≡ dep_text dep → IsRelaxedText text dep
canonical_relaxed text dep is spelled =
    record { listed = dep.flags; order = IsPermutation-refl dep.flags; group = flags_text dep.flags; spaced = same_text dep.flags is.flags; spelled = spelled }

-- so no other dependency has that text
pub one_canonical : (a b : Dependency) → IsDependency a → IsDependency b → dep_text a ≡ dep_text b → a ≡ b
one_canonical a b is_a is_b same = one_dep (dep_text a) a b is_a is_b (canonical_relaxed (dep_text a) a is_a refl) (canonical_relaxed (dep_text a) b is_b same)
