-- Names of packages and of their components.
use Rattle.std.proofs.Common.{◌≡◌, ℕ, Bool, true, false, ◌&&◌, nat_eq, List, [], ◌∷◌, length, take, drop, refl, sym, ap, ◌∙◌, Contains, None, Option, Ordering, Some, cond, subst, unwrap_or, ⊎_elim}
use Rattle.std.specs.Cmp.Lexicographic.{pointwise, nat_list_cmp_total, slice_cmp}
use Rattle.trove_stream.specs.Trove.{begins_with_colon, is_component_of}
use Rattle.std.proofs.lemmas.List.Elements.{All-contains, All-from_recursion}
use Rattle.std.specs.List.{AllByRecursion}
use Rattle.std.specs.declared.cmp.Ordering.TheVariants.{Equal, Greater, Less}
use Rattle.trove_stream.specs.Installed.{IsRising, by_name, trove_of}
use Rattle.trove_stream.specs.declared.parts.TroveParts.{TroveParts}
use Rattle.cny_version.proofs.cny-base.ByteLists.{begins_by, bytes_itself, bytes_mean, not_less_itself}
use Rattle.std.specs.Str.{bytes_eq}
use Rattle.std.specs.Ordering.{nat_cmp, ordering_reverse}
use Rattle.std.specs.FinMap.{nat_cmp-IsAntisymmetric, slice_cmp-IsAntisymmetric}
use Rattle.std.proofs.lemmas.Option.{none-some}
use Rattle.std.proofs.lemmas.Map.Keys.{sorted_head, sorted_tail}
use Rattle.cny_version.proofs.cny-base.Lists.{contains_first as first, contains_cases as first_or_later, contains_rest as later, nothing_in}

pub goes_on : (whole name rest : List ℕ) → pointwise nat_eq (take (length whole) name) whole ≡ true → rest ≡ drop (length whole) name → begins_with_colon rest ≡ is_component_of whole name
goes_on whole name rest is same = ap begins_with_colon same ∙ sym (ap (λ b. b && begins_with_colon (drop (length whole) name)) (sym (begins_by whole name) ∙ is))

pub other_front : (whole name : List ℕ) → pointwise nat_eq (take (length whole) name) whole ≡ false → false ≡ is_component_of whole name
other_front whole name is = sym (ap (λ b. b && begins_with_colon (drop (length whole) name)) (sym (begins_by whole name) ∙ is))

-- no trove of a list whose names are all above this one has it
pub none_named : (name : List ℕ) (list : List TroveParts) → AllByRecursion (λ (u : TroveParts). slice_cmp nat_cmp name u.id.name ≡ Less) list → trove_of name list ≡ None
none_named name [] all = refl
none_named name (u ∷ us) all = at (none_named name us all.1) (bytes_eq u.id.name name) refl
  where
    at : trove_of name us ≡ None → (b : Bool) → bytes_eq u.id.name name ≡ b → cond b (Some u) (trove_of name us) ≡ None
    at none true is = absurd (not_less_itself name (ap (slice_cmp nat_cmp name) (sym (bytes_mean u.id.name name is)) ∙ all.0))
    at none false is = none

pub found_first : (t : TroveParts) (list : List TroveParts) → trove_of t.id.name (t ∷ list) ≡ Some t
found_first t list = ap (λ (b : Bool). cond b (Some t) (trove_of t.id.name list)) (bytes_itself t.id.name)

pub found_other : (t : TroveParts) (list : List TroveParts) (name : List ℕ) → bytes_eq t.id.name name ≡ false → trove_of name (t ∷ list) ≡ trove_of name list
found_other t list name other = ap (λ (b : Bool). cond b (Some t) (trove_of name list)) other

-- a trove that is found is in the list
pub is_there : (list : List TroveParts) (name : List ℕ) (t : TroveParts) → trove_of name list ≡ Some t → Contains list t
is_there [] name t found = absurd (none-some t found)
is_there (x ∷ xs) name t found = at (is_there xs name t) (bytes_eq x.id.name name) refl
  where
    at : (trove_of name xs ≡ Some t → Contains xs t) → (b : Bool) → bytes_eq x.id.name name ≡ b → Contains (x ∷ xs) t
    at rest true is =
        let one : x ≡ t = ap (λ (o : Option TroveParts). unwrap_or o x) (sym (ap (λ (b : Bool). cond b (Some x) (trove_of name xs)) is) ∙ found) in
        subst (Contains (x ∷ xs)) one (first x xs)
    at rest false is = later x t xs (rest (sym (found_other x xs name is) ∙ found))

-- and has the name
pub is_named : (list : List TroveParts) (name : List ℕ) (t : TroveParts) → trove_of name list ≡ Some t → t.id.name ≡ name
is_named [] name t found = absurd (none-some t found)
is_named (x ∷ xs) name t found = at (is_named xs name t) (bytes_eq x.id.name name) refl
  where
    at : (trove_of name xs ≡ Some t → t.id.name ≡ name) → (b : Bool) → bytes_eq x.id.name name ≡ b → t.id.name ≡ name
    at rest true is =
        let one : x ≡ t = ap (λ (o : Option TroveParts). unwrap_or o x) (sym (ap (λ (b : Bool). cond b (Some x) (trove_of name xs)) is) ∙ found) in
        subst (λ (u : TroveParts). u.id.name ≡ name) one (bytes_mean x.id.name name is)
    at rest false is = rest (sym (found_other x xs name is) ∙ found)

-- a trove of a rising list is found by its name
pub contained : (list : List TroveParts) → IsRising list → (t : TroveParts) → Contains list t → trove_of t.id.name list ≡ Some t
contained [] rises t h = absurd (nothing_in t h)
contained (x ∷ xs) rises t h = ⊎_elim
    (λ e. subst (λ (u : TroveParts). trove_of u.id.name (x ∷ xs) ≡ Some u) e (found_first x xs))
    (λ there. at (contained xs (sorted_tail by_name x xs rises) t there) there (bytes_eq x.id.name t.id.name) refl)
    (first_or_later x t xs h)
  where
    at : trove_of t.id.name xs ≡ Some t → Contains xs t → (b : Bool) → bytes_eq x.id.name t.id.name ≡ b → trove_of t.id.name (x ∷ xs) ≡ Some t
    at rest there true is =
        let less : slice_cmp nat_cmp x.id.name t.id.name ≡ Less = All-contains (λ (u : TroveParts). slice_cmp nat_cmp x.id.name u.id.name ≡ Less) xs t (All-from_recursion (λ (u : TroveParts). slice_cmp nat_cmp x.id.name u.id.name ≡ Less) xs (sorted_head by_name x xs rises)) there in
        absurd (not_less_itself x.id.name (ap (slice_cmp nat_cmp x.id.name) (bytes_mean x.id.name t.id.name is) ∙ less))
    at rest there false is = found_other x xs t.id.name is ∙ rest

pub behind : (name next : List ℕ) (list : List TroveParts) → slice_cmp nat_cmp name next ≡ Less → AllByRecursion (λ (u : TroveParts). slice_cmp nat_cmp next u.id.name ≡ Less) list
    → AllByRecursion (λ (u : TroveParts). slice_cmp nat_cmp name u.id.name ≡ Less) list
behind name next [] less all = tt
behind name next (u ∷ us) less all = (nat_list_cmp_total.trans name next u.id.name less all.0, behind name next us less all.1)

-- rising lists in which each name finds the same are equal
pub one_list : (xs ys : List TroveParts) → IsRising xs → IsRising ys → ((name : List ℕ) → trove_of name xs ≡ trove_of name ys) → xs ≡ ys
one_list [] [] rx ry alike = refl
one_list [] (y ∷ ys) rx ry alike = absurd (none-some y (alike y.id.name ∙ found_first y ys))
one_list (x ∷ xs) [] rx ry alike = absurd (none-some x (sym (alike x.id.name) ∙ found_first x xs))
one_list (x ∷ xs) (y ∷ ys) rx ry alike = at (one_list xs ys (sorted_tail by_name x xs rx) (sorted_tail by_name y ys ry)) (slice_cmp nat_cmp x.id.name y.id.name) refl
  where
    rest : x.id.name ≡ y.id.name → (name : List ℕ) (b : Bool) → bytes_eq x.id.name name ≡ b → trove_of name xs ≡ trove_of name ys
    rest names name true is =
        ap (λ (n : List ℕ). trove_of n xs) (sym (bytes_mean x.id.name name is)) ∙ none_named x.id.name xs (sorted_head by_name x xs rx)
        ∙ sym (ap (λ (n : List ℕ). trove_of n ys) (sym (bytes_mean x.id.name name is) ∙ names) ∙ none_named y.id.name ys (sorted_head by_name y ys ry))
    rest names name false is = sym (found_other x xs name is) ∙ alike name ∙ found_other y ys name (ap (λ (n : List ℕ). bytes_eq n name) (sym names) ∙ is)

    at : (((name : List ℕ) → trove_of name xs ≡ trove_of name ys) → xs ≡ ys) → (o : Ordering) → slice_cmp nat_cmp x.id.name y.id.name ≡ o → x ∷ xs ≡ y ∷ ys
    at tails Less less = absurd (none-some x (sym (none_named x.id.name (y ∷ ys) (less, behind x.id.name y.id.name ys less (sorted_head by_name y ys ry))) ∙ sym (alike x.id.name) ∙ found_first x xs))
    at tails Greater more =
        let less : slice_cmp nat_cmp y.id.name x.id.name ≡ Less = nat_list_cmp_total.antisymm y.id.name x.id.name ∙ ap ordering_reverse more in
        absurd (none-some y (sym (none_named y.id.name (x ∷ xs) (less, behind y.id.name x.id.name xs less (sorted_head by_name x xs rx))) ∙ alike y.id.name ∙ found_first y ys))
    at tails Equal equal =
        let names : x.id.name ≡ y.id.name = slice_cmp-IsAntisymmetric nat_cmp-IsAntisymmetric x.id.name y.id.name equal in
        let found : Some x ≡ Some y = sym (found_first x xs) ∙ alike x.id.name ∙ ap (λ (n : List ℕ). trove_of n (y ∷ ys)) names ∙ found_first y ys in
        let one : x ≡ y = ap (λ (o : Option TroveParts). unwrap_or o x) found in
        ap (λ (z : TroveParts). z ∷ xs) one
        ∙ ap (λ (l : List TroveParts). y ∷ l) (tails (λ name. rest names name (bytes_eq x.id.name name) refl))
