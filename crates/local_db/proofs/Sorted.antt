-- Lists in order with the same elements, or the same look-ups, are equal.
use Rattle.std.proofs.Common.{◌≡◌, ⊎_elim, Bool, true, false, cond, ◌||◌, List, [], ◌∷◌, Some, Contains, refl, sym, ◌∙◌, ap, subst}
use Rattle.std.proofs.lemmas.Map.Keys.{sorted_tail}
use Rattle.std.proofs.lemmas.Bool.{cases_Bool}
use Rattle.std.proofs.lemmas.Cmp.{on_total}
use Rattle.std.proofs.lemmas.Slice.Eq.{bytes_eq-Decides}
use Rattle.std.specs.Str.{bytes_eq}
use Rattle.std.specs.Cmp.{IsTotalOrder}
use Rattle.std.specs.Cmp.Lexicographic.{slice_cmp, nat_list_cmp_total}
use Rattle.std.specs.List.Sorted.{IsStrictlySortedBy}
use Rattle.std.specs.Ordering.{nat_cmp}
use Rattle.std.specs.declared.cmp.Ordering.TheVariants.{Less}
use Rattle.trove_stream.specs.declared.parts.TroveParts.{TroveParts}
use Rattle.tree_journal.specs.tree-disk.Tree.{Name, same_name}
use Rattle.tree_journal.specs.tree-disk.Laws.{same_means}
use Rattle.tree_journal.proofs.tree-disk.Laws.{same_itself}
use Rattle.trove_stream.specs.Installed.{by_name, trove_of}
use Rattle.local_db.specs.SystemState.{is_listed}
use Rattle.trove_stream.proofs.Places.{name_of}
use Rattle.trove_stream.proofs.cny-base.Lists.{contains_cases, contains_first, contains_rest, nothing_in}
use Rattle.trove_stream.proofs.cny-base.Sorted.{later_less, not_less_itself}
use Rattle.trove_stream.proofs.Members.{same_members}
use Rattle.trove_stream.proofs.cny-base.OptionValues.{same_some as some_same}

-- ---- troves by their names

pub trove_total : IsTotalOrder by_name
trove_total = on_total name_of nat_list_cmp_total

trove_in : (list : List TroveParts) (name : Name) (t : TroveParts) → trove_of name list ≡ Some t → Contains list t
trove_in [] name t e = absurd (cc e)
trove_in (u ∷ list) name t e = by (trove_in list name t) (bytes_eq (name_of u) name) refl
  where
    by : (trove_of name list ≡ Some t → Contains list t) → (b : Bool) → bytes_eq (name_of u) name ≡ b → Contains (u ∷ list) t
    by later true is =
        let here : u ≡ t = some_same u t (ap (λ b. cond b (Some u) (trove_of name list)) (sym is) ∙ e) in
        subst (Contains (u ∷ list)) here (contains_first u list)
    by later false is = contains_rest u t list (later (ap (λ b. cond b (Some u) (trove_of name list)) (sym is) ∙ e))

differs : (u t : TroveParts) → by_name u t ≡ Less → bytes_eq (name_of u) (name_of t) ≡ false
differs u t less = ⊎_elim
    (λ same. absurd (not_less_itself by_name trove_total u (ap (slice_cmp nat_cmp (name_of u)) ((bytes_eq-Decides (name_of u) (name_of t)).0 same) ∙ less)))
    (λ other. other) (cases_Bool (bytes_eq (name_of u) (name_of t)))

in_trove : (list : List TroveParts) → IsStrictlySortedBy by_name list → (t : TroveParts) → Contains list t → trove_of (name_of t) list ≡ Some t
in_trove [] s t h = absurd (nothing_in t h)
in_trove (u ∷ list) s t h = ⊎_elim
    (λ e. ap (λ b. cond b (Some u) (trove_of (name_of t) list)) ((bytes_eq-Decides (name_of u) (name_of t)).1 (ap name_of e)) ∙ ap (λ (v : TroveParts). Some v) e)
    (λ later. ap (λ b. cond b (Some u) (trove_of (name_of t) list)) (differs u t (later_less by_name trove_total u list s t later)) ∙ in_trove list (sorted_tail by_name u list s) t later)
    (contains_cases u t list h)

pub same_troves : (xs ys : List TroveParts) → IsStrictlySortedBy by_name xs → IsStrictlySortedBy by_name ys → ((name : Name) → trove_of name xs ≡ trove_of name ys) → xs ≡ ys
same_troves xs ys s t same = same_members by_name trove_total xs ys s t
    (λ z. (λ h. trove_in ys (name_of z) z (sym (same (name_of z)) ∙ in_trove xs s z h), λ h. trove_in xs (name_of z) z (same (name_of z) ∙ in_trove ys t z h)))

-- ---- lists of paths

pub listed_in : (paths : List Name) (q : Name) → is_listed paths q ≡ true → Contains paths q
listed_in [] q h = absurd (cc h)
listed_in (p ∷ paths) q h = by (listed_in paths q) (same_name q p) refl
  where
    by : (is_listed paths q ≡ true → Contains paths q) → (b : Bool) → same_name q p ≡ b → Contains (p ∷ paths) q
    by later true is = subst (Contains (p ∷ paths)) (sym (same_means q p is)) (contains_first p paths)
    by later false is = contains_rest p q paths (later (ap (λ b. b || is_listed paths q) (sym is) ∙ h))

pub in_listed : (paths : List Name) (q : Name) → Contains paths q → is_listed paths q ≡ true
in_listed [] q h = absurd (nothing_in q h)
in_listed (p ∷ paths) q h = ⊎_elim
    (λ e. ap (λ b. b || is_listed paths q) (ap (same_name q) e ∙ same_itself q))
    (λ later. right (same_name q p) (is_listed paths q) (in_listed paths q later))
    (contains_cases p q paths h)
  where
    right : (a b : Bool) → b ≡ true → (a || b) ≡ true
    right true b is = refl
    right false b is = is
