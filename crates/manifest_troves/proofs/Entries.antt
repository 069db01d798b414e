-- No entry of a component or a package is lost.
use Rattle.std.proofs.Common.{◌≡◌, ℕ, Bool, true, false, cond, ◌||◌, List, [], ◌∷◌, map, refl, sym, ap, ◌∙◌, subst, inl, inr}
use Rattle.std.specs.Prelude.{◌⊎◌, ◌≢◌}
use Rattle.std.specs.List.{filter, list_any}
use Rattle.std.specs.Str.{bytes_eq}
use Rattle.std.proofs.lemmas.Bool.{true≢false}
use Rattle.change_set.specs.cny-base.Name.{kind_of_name}
use Rattle.change_set.specs.cny-base.declared.name.NameKind.{NameKind}
use Rattle.change_set.specs.cny-base.declared.name.NameKind.TheVariants.{Component, Package, Group}
use Rattle.change_set.specs.trove-parts.declared.files.FileAt.{FileAt}
use Rattle.manifest_troves.specs.declared.lines.TroveLines.{TroveLines}
use Rattle.manifest_troves.specs.Troves.{entry_component, component_names, falls_to, component_trove, package_troves, troves_of, has_entry, KeepsEntries}
use Rattle.manifest_troves.proofs.Names.{has, or_true}
use Rattle.manifest_troves.proofs.Components.{troves_of_kind}
use Rattle.manifest_troves.proofs.Sharing.{used_is}
use Rattle.change_set.proofs.cny-base.ByteLists.{bytes_mean as bytes_are, equal_bytes}
use Rattle.change_set.proofs.cny-base.Bools.{or_left as or_first}

-- ---- elements of a list

abbrev IsIn : {A : Type 0} → A → List A → Type 0
IsIn x [] = ⊥
IsIn x (y ∷ ys) = (y ≡ x) ⊎ IsIn x ys

record Passes {A : Type 0} (test : A → Bool) (xs : List A) : Type 0 where
  x : A
  is_in : IsIn x xs
  passes : test x ≡ true

one_passes : {A : Type 0} (test : A → Bool) (xs : List A) → list_any test xs ≡ true → Passes test xs
one_passes test [] e = absurd (true≢false (sym e))
one_passes {A} test (x ∷ xs) e = at (test x) refl (λ given. one_passes test xs given) e
  where
    at : (b : Bool) → test x ≡ b → (list_any test xs ≡ true → Passes test xs) → (b || list_any test xs) ≡ true → Passes test (x ∷ xs)
    at true is later given = record { x = x; is_in = inl refl; passes = is }
    at false is later given = let one = later given in record { x = one.x; is_in = inr one.is_in; passes = one.passes }

any_passes : {A : Type 0} (test : A → Bool) (x : A) (xs : List A) → IsIn x xs → test x ≡ true → list_any test xs ≡ true
any_passes test x [] none e = absurd none
any_passes test x (y ∷ ys) (inl same) e = ap (λ (b : Bool). b || list_any test ys) (ap test same ∙ e)
any_passes test x (y ∷ ys) (inr more) e = ap (λ (b : Bool). test y || b) (any_passes test x ys more e) ∙ or_true (test y)

filter_keeps : {A : Type 0} (p : A → Bool) (x : A) (xs : List A) → IsIn x xs → p x ≡ true → IsIn x (filter p xs)
filter_keeps p x [] none e = absurd none
filter_keeps {A} p x (y ∷ ys) is_in e = at (p y) refl (λ more. filter_keeps p x ys more e) is_in
  where
    at : (b : Bool) → p y ≡ b → (IsIn x ys → IsIn x (filter p ys)) → (y ≡ x) ⊎ IsIn x ys → IsIn x (cond b (y ∷ filter p ys) (filter p ys))
    at true is later (inl same) = inl same
    at true is later (inr more) = inr (later more)
    at false is later (inl same) = absurd (true≢false (sym e ∙ ap p (sym same) ∙ is))
    at false is later (inr more) = later more

-- ---- an entry of a component

component_has : (l : TroveLines) (test : FileAt → Bool) (name : List ℕ) (names : List (List ℕ)) → has name names ≡ true → has_entry test (component_trove l name) ≡ true
    → list_any (has_entry test) (map (component_trove l) names) ≡ true
component_has l test name [] among passes = absurd (true≢false (sym among))
component_has l test name (n ∷ names) among passes = at (bytes_eq n name) refl (λ given. component_has l test name names given passes) among
  where
    at : (b : Bool) → bytes_eq n name ≡ b → (has name names ≡ true → list_any (has_entry test) (map (component_trove l) names) ≡ true) → (b || has name names) ≡ true → (has_entry test (component_trove l n) || list_any (has_entry test) (map (component_trove l) names)) ≡ true
    at true same later given =
        ap (λ (b : Bool). b || list_any (has_entry test) (map (component_trove l) names))
        (subst (λ (m : List ℕ). has_entry test (component_trove l m) ≡ true) (sym (bytes_are n name same)) passes)
    at false other later given = ap (λ (b : Bool). has_entry test (component_trove l n) || b) (later given) ∙ or_true (has_entry test (component_trove l n))

package_keeps : (l : TroveLines) (test : FileAt → Bool) → list_any test l.files ≡ true → list_any (has_entry test) (package_troves l (component_names l)) ≡ true
package_keeps l test any =
    let one = one_passes test l.files any in
    let name : List ℕ = entry_component l.id.name one.x in
    let falls : falls_to l.id.name name one.x ≡ true = equal_bytes name name refl in
    let files : list_any (falls_to l.id.name name) l.files ≡ true = any_passes (falls_to l.id.name name) one.x l.files one.is_in falls in
    let among : has name (component_names l) ≡ true =
    used_is l.id.name l.files l.requires_ l.provides name
    ∙ or_first (list_any (falls_to l.id.name name) l.files || _) _ (or_first (list_any (falls_to l.id.name name) l.files) _ files) in
    component_has l test name (component_names l) among
    (any_passes test one.x (filter (falls_to l.id.name name) l.files) (filter_keeps (falls_to l.id.name name) one.x l.files one.is_in falls) one.passes)

by_kind : (kind : NameKind) (l : TroveLines) (test : FileAt → Bool) → kind_of_name l.id.name ≡ kind → kind_of_name l.id.name ≢ Group → list_any test l.files ≡ true → list_any (has_entry test) (troves_of l) ≡ true
by_kind Component l test e other any = rw (troves_of_kind l Component e) (ap (λ (b : Bool). b || false) any)
by_kind Group l test e other any = absurd (other e)
by_kind Package l test e other any = rw (troves_of_kind l Package e) (package_keeps l test any)

pub entries_kept : (l : TroveLines) → KeepsEntries l (troves_of l)
entries_kept l test other any = by_kind (kind_of_name l.id.name) l test refl other any
