-- A content that a binary search finds by its name.
use Rattle.std.proofs.Common.{◌≡◌, Ordering, ℕ, zero, suc, ◌<◌, Bool, true, false, ◌&&◌, ◌||◌, List, [], ◌∷◌, length, map, get_or, ⊎_elim, refl, sym, ◌∙◌, ap, subst, arith}
use Rattle.std.specs.Prelude.{◌==◌, nat_eq}
use Rattle.std.proofs.lemmas.Bool.Decides.{nat_tests}
use Rattle.std.proofs.lemmas.List.{get_or-map, length-map}
use Rattle.std.proofs.lemmas.List.Elements.{All-get_or, Contains-get_or}
use Rattle.std.specs.List.{list_any, AllByRecursion, HoldsAt}
use Rattle.std.specs.List.Sorted.{IsStrictlySortedBy, IsNonDecreasingBy, IsPartitionPoint}
use Rattle.std.specs.Ordering.{is_eq, ordering_index}
use Rattle.std.specs.declared.cmp.Ordering.TheVariants.{Less, Equal, Greater}
use Rattle.std.specs.Str.{bytes_eq}
use Rattle.std.proofs.lemmas.Bool.{cases_Bool}
use Rattle.journal_log.specs.tree-disk.Laws.{same_means}
use Rattle.journal_log.specs.tree-disk.Tree.{Name, Tree}
use Rattle.change_set.specs.declared.change.Carried.{Carried}
use Rattle.change_set.specs.ChangeSet.{content_cmp}
use Rattle.change_set.proofs.Carrying.{against, rec_at}
use Rattle.change_set.proofs.cny-base.ByteLists.{equal_bytes, same_bytes}
use Rattle.change_set.proofs.cny-base.Keyed.{by_key, nowhere}
use Rattle.change_set.proofs.cny-base.Keyed as keyed
use Rattle.change_set.proofs.cny-base.Lists.{one_passes as any_found}
use Rattle.journal_log.proofs.tree-disk.ClearLaws.{or_cases as or_either}
use Rattle.journal_log.proofs.tree-disk.Nodes.{left_true as and_first}
use Rattle.journal_log.proofs.tree-disk.Order.{not_before}
use Rattle.change_pull.specs.declared.staged.Staged.{Staged}
use Rattle.change_pull.specs.Files.{carried_in}
use Rattle.change_pull.specs.Incoming.{is_carried, AreStaged, IsStaged}

abbrev carried_name : Carried → List ℕ
carried_name content = content.name

abbrev pub staged_name : Staged → List ℕ
staged_name one = one.name

-- behind a content of a name none has it
pub none_behind : (c : Carried) (name : List ℕ) (size : ℕ) (cs : List Carried) → c.name ≡ name → AllByRecursion (λ (d : Carried). content_cmp c d ≡ Less) cs → list_any (is_carried name size) cs ≡ true → ⊥
none_behind c name size [] is rises h = absurd (cc h)
none_behind c name size (d ∷ ds) is rises h = ⊎_elim
    (λ here. not_before c.name d.name (is ∙ sym (same_bytes d.name name (and_first (bytes_eq d.name name) (length d.bytes == size) here))) rises.0)
    (λ there. none_behind c name size ds is rises.1 there)
    (or_either (is_carried name size d) (list_any (is_carried name size) ds) h)

or_false : (a b : Bool) → b ≡ false → (a || b) ≡ a
or_false true b is = refl
or_false false b is = is

false_or : (a b : Bool) → a ≡ false → (a || b) ≡ b
false_or true b is = absurd (cc is)
false_or false b is = refl

false_and : (a b : Bool) → a ≡ false → (a && b) ≡ false
false_and true b is = absurd (cc is)
false_and false b is = refl

-- a content of a name has this size exactly where one of this name and size is carried
one_size : (name : List ℕ) (size : ℕ) (cs : List Carried) (i : ℕ) (e : Carried) → IsStrictlySortedBy content_cmp cs → i < length cs → e ≡ get_or cs i e → e.name ≡ name
    → (length e.bytes == size) ≡ list_any (is_carried name size) cs
unfolding IsStrictlySortedBy
one_size name size [] i e rises lt is named = absurd (omega arith)
one_size name size (c ∷ cs) zero e rises lt is named =
    let same : c.name ≡ name = ap (λ (d : Carried). d.name) (sym is) ∙ named in
    let here : is_carried name size c ≡ (length c.bytes == size) = ap (λ (b : Bool). b && (length c.bytes == size)) (equal_bytes c.name name same) in
    let none : list_any (is_carried name size) cs ≡ false = ⊎_elim (λ some. absurd (none_behind c name size cs same rises.0 some)) (λ n. n) (cases_Bool (list_any (is_carried name size) cs)) in
    ap (λ (d : Carried). length d.bytes == size) is ∙ sym here ∙ sym (or_false (is_carried name size c) (list_any (is_carried name size) cs) none)
one_size name size (c ∷ cs) (suc i) e rises lt is named =
    let less : content_cmp c e ≡ Less = rec_at (λ (d : Carried). content_cmp c d ≡ Less) cs i e rises.0 (omega arith) is in
    let other : bytes_eq c.name name ≡ false = ⊎_elim (λ same. absurd (not_before c.name e.name (same_bytes c.name name same ∙ sym named) less)) (λ n. n) (cases_Bool (bytes_eq c.name name)) in
    one_size name size cs i e rises.1 (omega arith) is named ∙ sym (false_or (is_carried name size c) (list_any (is_carried name size) cs) (false_and (bytes_eq c.name name) (length c.bytes == size) other))

pub same_test : (a b : ℕ) → nat_eq a b ≡ (a == b)
same_test a b = grind (arith, nat_tests)

-- ---- in memory

module _ (cs : List Carried) (name : List ℕ) (size : ℕ) (rises : IsStrictlySortedBy content_cmp cs) where
  pub found_size : (place : ℕ) (e : Carried) → place < length cs → e ≡ get_or cs place e → HoldsAt (λ y. against name y ≡ Equal) cs place → (length e.bytes == size) ≡ list_any (is_carried name size) cs
  found_size place e within is holds =
      one_size name size cs place e rises within is (same_means e.name name (ap is_eq (subst (λ (d : Carried). against name d ≡ Equal) (sym is) (holds e))))

  never : (place : ℕ) → (IsNonDecreasingBy (λ y. ordering_index (against name y)) cs → IsPartitionPoint (λ y. against name y ≡ Less) (λ y. against name y ≡ Greater) cs place) → list_any (is_carried name size) cs ≡ true → ⊥
  never place search' some =
      let h = any_found (is_carried name size) cs some in
      nowhere carried_name cs name rises place search' h.0 h.1 (same_bytes h.0.name name (and_first (bytes_eq h.0.name name) (length h.0.bytes == size) h.2))

  pub missed_size : (place : ℕ) → (IsNonDecreasingBy (λ y. ordering_index (against name y)) cs → IsPartitionPoint (λ y. against name y ≡ Less) (λ y. against name y ≡ Greater) cs place) → false ≡ list_any (is_carried name size) cs
  missed_size place search' = sym (⊎_elim (λ some. absurd (never place search' some)) (λ none. none) (cases_Bool (list_any (is_carried name size) cs)))

-- ---- in files

-- how the name of a staged content compares with the one that is looked for
abbrev pub staged_against : List ℕ → Staged → Ordering
staged_against name one = keyed.against staged_name name one

no_staged : Staged
no_staged = record { name = []; size = 0; path = [] }

below_all : (tree : Tree) (one : Staged) (contents : List Staged) → AllByRecursion (λ (d : Carried). content_cmp (carried_in tree one) d ≡ Less) (map (carried_in tree) contents) → AllByRecursion (λ (other : Staged). by_key staged_name one other ≡ Less) contents
below_all tree one [] rises = tt
below_all tree one (other ∷ contents) rises = (rises.0, below_all tree one contents rises.1)

rising_names : (tree : Tree) (contents : List Staged) → IsStrictlySortedBy content_cmp (map (carried_in tree) contents) → IsStrictlySortedBy (by_key staged_name) contents
unfolding IsStrictlySortedBy
rising_names tree [] rises = tt
rising_names tree (one ∷ contents) rises = (below_all tree one contents rises.0, rising_names tree contents rises.1)

module _ (dir : Name) (contents : List Staged) (tree : Tree) (name : List ℕ) (size : ℕ) (staged : AreStaged dir tree contents) (rises : IsStrictlySortedBy content_cmp (map (carried_in tree) contents)) where
  pub staged_found : (place : ℕ) (one : Staged) → place < length contents → one ≡ get_or contents place one → HoldsAt (λ y. staged_against name y ≡ Equal) contents place
      → (one.size == size) ≡ list_any (is_carried name size) (map (carried_in tree) contents)
  staged_found place one within is holds =
      let listed = map (carried_in tree) contents in
      let it : Carried = carried_in tree one in
      let at : it ≡ get_or listed place it = ap (carried_in tree) is ∙ sym (get_or-map (carried_in tree) contents place one it within) in
      let named : one.name ≡ name = same_means one.name name (ap is_eq (subst (λ (d : Staged). staged_against name d ≡ Equal) (sym is) (holds one))) in
      let sized : length it.bytes ≡ one.size = (subst (IsStaged dir tree) (sym is) (All-get_or (IsStaged dir tree) contents place one within staged)).size in
      ap (λ (n : ℕ). n == size) (sym sized) ∙ one_size name size listed place it rises (omega (arith, within, length-map contents (carried_in tree))) at named

  staged_never : (place : ℕ) → (IsNonDecreasingBy (λ y. ordering_index (staged_against name y)) contents → IsPartitionPoint (λ y. staged_against name y ≡ Less) (λ y. staged_against name y ≡ Greater) contents place)
      → list_any (is_carried name size) (map (carried_in tree) contents) ≡ true → ⊥
  staged_never place search' some =
      let listed = map (carried_in tree) contents in
      let h = any_found (is_carried name size) listed some in
      let k = h.1.0 in
      let within : k < length contents = omega (arith, h.1.1, length-map contents (carried_in tree)) in
      let one : Staged = get_or contents k no_staged in
      let is : carried_in tree one ≡ h.0 = sym (get_or-map (carried_in tree) contents k no_staged h.0 within) ∙ h.1.2 in
      nowhere staged_name contents name (rising_names tree contents rises) place search' one (Contains-get_or contents k no_staged within)
      (ap (λ (c : Carried). c.name) is ∙ same_bytes h.0.name name (and_first (bytes_eq h.0.name name) (length h.0.bytes == size) h.2))

  pub staged_missed : (place : ℕ) → (IsNonDecreasingBy (λ y. ordering_index (staged_against name y)) contents → IsPartitionPoint (λ y. staged_against name y ≡ Less) (λ y. staged_against name y ≡ Greater) contents place)
      → false ≡ list_any (is_carried name size) (map (carried_in tree) contents)
  staged_missed place search' = sym (⊎_elim (λ some. absurd (staged_never place search' some)) (λ none. none) (cases_Bool (list_any (is_carried name size) (map (carried_in tree) contents))))
