-- Names in their order.
use Rattle.std.proofs.Common.{◌≡◌, Bool, true, false, ◌||◌, List, [], ◌∷◌, ℕ, Contains, Ordering, refl, sym, ap, ◌∙◌, ⊎_elim}
use Rattle.std.specs.BTreeMap.{is_at}
use Rattle.std.specs.BTreeSet.{insert_key}
use Rattle.std.specs.Cmp.Lexicographic.{slice_cmp, nat_list_cmp_total}
use Rattle.std.specs.List.{list_any, AllByRecursion}
use Rattle.std.specs.List.Sorted.{IsStrictlySortedBy}
use Rattle.std.specs.Ordering.{nat_cmp, match_ordering, ordering_reverse, is_eq}
use Rattle.std.specs.declared.cmp.Ordering.TheVariants.{Less, Equal, Greater}
use Rattle.std.proofs.lemmas.Cmp.{tied_itself}
use Rattle.std.proofs.lemmas.List.Elements.{All-from_recursion, recursion_from_All}
use Rattle.std.proofs.lemmas.Map.Views.{All-insert_key}
use Rattle.repo_index.proofs.cny-base.Bools.{or_left, or_right}
use Rattle.repo_index.proofs.cny-base.Lists.{contains_cases, nothing_in}

abbrev by_bytes : List ℕ → List ℕ → Ordering
by_bytes = slice_cmp nat_cmp

-- the name is there
abbrev pub is_in : List ℕ → List (List ℕ) → Bool
is_in name names = list_any (is_at (by_bytes name)) names

-- ---- a name more

above_all : (name next : List ℕ) (names : List (List ℕ)) → by_bytes name next ≡ Less → AllByRecursion (λ (n : List ℕ). by_bytes next n ≡ Less) names → AllByRecursion (λ (n : List ℕ). by_bytes name n ≡ Less) names
above_all name next [] less all = tt
above_all name next (n ∷ names) less all = (nat_list_cmp_total.trans name next n less all.0, above_all name next names less all.1)

rising_insert : (names : List (List ℕ)) (name : List ℕ) → IsStrictlySortedBy by_bytes names → IsStrictlySortedBy by_bytes (insert_key by_bytes names name)
unfolding IsStrictlySortedBy
rising_insert [] name rises = (tt, tt)
rising_insert (x ∷ names) name rises = at (rising_insert names name rises.1) (by_bytes name x) refl
  where
    at : IsStrictlySortedBy by_bytes (insert_key by_bytes names name) → (o : Ordering) → by_bytes name x ≡ o → IsStrictlySortedBy by_bytes (match_ordering o (name ∷ x ∷ names) (x ∷ names) (x ∷ insert_key by_bytes names name))
    at rest Less is = ((is, above_all name x names is rises.0), rises)
    at rest Equal is = rises
    at rest Greater is =
        let below : by_bytes x name ≡ Less = nat_list_cmp_total.antisymm x name ∙ ap ordering_reverse is in (
          recursion_from_All (λ (n : List ℕ). by_bytes x n ≡ Less) (insert_key by_bytes names name)
              (All-insert_key by_bytes name (λ (n : List ℕ). by_bytes x n ≡ Less) names (All-from_recursion (λ (n : List ℕ). by_bytes x n ≡ Less) names rises.0) below),
          rest,
        )

kept_insert : (names : List (List ℕ)) (name other : List ℕ) → is_in other names ≡ true → is_in other (insert_key by_bytes names name) ≡ true
kept_insert [] name other h = absurd (cc h)
kept_insert (x ∷ names) name other h = at (λ among. kept_insert names name other among) (by_bytes name x)
  where
    later : (is_in other names ≡ true → is_in other (insert_key by_bytes names name) ≡ true) → (b : Bool) → is_at (by_bytes other) x ≡ b → (is_at (by_bytes other) x || is_in other names) ≡ true → (is_at (by_bytes other) x || is_in other (insert_key by_bytes names name)) ≡ true
    later rest true is among = or_left (is_at (by_bytes other) x) (is_in other (insert_key by_bytes names name)) is
    later rest false is among =
        or_right (is_at (by_bytes other) x) (is_in other (insert_key by_bytes names name))
        (rest (sym (ap (λ (b : Bool). b || is_in other names) is) ∙ among))

    at : (is_in other names ≡ true → is_in other (insert_key by_bytes names name) ≡ true) → (o : Ordering) → is_in other (match_ordering o (name ∷ x ∷ names) (x ∷ names) (x ∷ insert_key by_bytes names name)) ≡ true
    at rest Less = or_right (is_at (by_bytes other) name) (is_in other (x ∷ names)) h
    at rest Equal = h
    at rest Greater = later rest (is_at (by_bytes other) x) refl h

own_insert : (names : List (List ℕ)) (name : List ℕ) → is_in name (insert_key by_bytes names name) ≡ true
own_insert [] name = or_left (is_at (by_bytes name) name) false (ap is_eq (tied_itself nat_list_cmp_total name))
own_insert (x ∷ names) name = at (own_insert names name) (by_bytes name x) refl
  where
    at : is_in name (insert_key by_bytes names name) ≡ true → (o : Ordering) → by_bytes name x ≡ o → is_in name (match_ordering o (name ∷ x ∷ names) (x ∷ names) (x ∷ insert_key by_bytes names name)) ≡ true
    at rest Less is = or_left (is_at (by_bytes name) name) (is_in name (x ∷ names)) (ap is_eq (tied_itself nat_list_cmp_total name))
    at rest Equal is = or_left (is_at (by_bytes name) x) (is_in name names) (ap is_eq is)
    at rest Greater is = or_right (is_at (by_bytes name) x) (is_in name (insert_key by_bytes names name)) rest

-- ---- all of them

-- these names, strictly rising
pub record Arranged (names : List (List ℕ)) : Type 0 where
  pub list : List (List ℕ)
  pub rising : IsStrictlySortedBy by_bytes list
  pub all : (name : List ℕ) → Contains names name → is_in name list ≡ true

none_rising : IsStrictlySortedBy by_bytes []
unfolding IsStrictlySortedBy
none_rising = tt

pub arranged : (names : List (List ℕ)) → Arranged names
arranged [] = record { list = []; rising = none_rising; all = λ name h. absurd (nothing_in name h) }
arranged (x ∷ names) =
    let rest = arranged names in
    record {
      list = insert_key by_bytes rest.list x;
      rising = rising_insert rest.list x rest.rising;
      all = λ name h. ⊎_elim
          (λ same. same_in name rest.list same)
          (λ later. kept_insert rest.list x name (rest.all name later))
          (contains_cases x name names h);
    }
  where
    same_in : (name : List ℕ) (list : List (List ℕ)) → x ≡ name → is_in name (insert_key by_bytes list x) ≡ true
    same_in name list same = ap (λ (n : List ℕ). is_in n (insert_key by_bytes list x)) (sym same) ∙ own_insert list x
