-- The names of the troves that are made strictly rise.
use Rattle.std.proofs.Common.{◌≡◌, ℕ, true, ◌&&◌, List, [], ◌∷◌, length, drop, map, refl, sym, ap, subst, ◌∙◌}
use Rattle.std.specs.Prelude.{◌==◌, All}
use Rattle.std.specs.Cmp.{first_so, second_so}
use Rattle.std.specs.Cmp.Lexicographic.{slice_cmp}
use Rattle.std.specs.List.{AllByRecursion}
use Rattle.std.specs.List.Sorted.{IsStrictlySortedBy}
use Rattle.std.specs.Ordering.{nat_cmp, ordering_then}
use Rattle.std.specs.declared.cmp.Ordering.{Ordering}
use Rattle.std.specs.declared.cmp.Ordering.TheVariants.{Less, Equal}
use Rattle.std.proofs.lemmas.Bool.{true≢false, eqb-true}
use Rattle.std.proofs.lemmas.Cmp.{tied_itself, nat_cmp_total}
use Rattle.std.proofs.lemmas.List.Elements.{All-head, All-tail}
use Rattle.change_set.specs.cny-base.Below.{begins_with}
use Rattle.change_set.specs.cny-base.Name.{kind_of_name}
use Rattle.change_set.specs.cny-base.declared.name.NameKind.{NameKind}
use Rattle.change_set.specs.cny-base.declared.name.NameKind.TheVariants.{Component, Package, Group}
use Rattle.change_set.specs.trove-parts.declared.id.TroveId.{TroveId}
use Rattle.change_set.specs.trove-stream.declared.parts.TroveParts.{TroveParts}
use Rattle.change_set.specs.trove-stream.Trove.{begins_with_colon, is_component_of, IsComponentOf, KeepsKind, IsTrove}
use Rattle.manifest_troves.specs.declared.lines.TroveLines.{TroveLines}
use Rattle.manifest_troves.specs.Troves.{with_name, component_names, component_trove, package_of, package_troves, whole_component, group_trove, troves_of, AreTroves}
use Rattle.manifest_troves.proofs.Names.{by_bytes}
use Rattle.manifest_troves.proofs.Components.{troves_of_kind}
use Rattle.manifest_troves.proofs.Sharing.{used_sorted}
use Rattle.change_set.specs.trove-stream.NameOrder.{by_name_cmp, HasRisingNames}

-- ---- a package is below its components

same_first : (a b : ℕ) → (a == b) ≡ true → nat_cmp a b ≡ Equal
same_first a b e = subst (λ (n : ℕ). nat_cmp a n ≡ Equal) (eqb-true a b e) (tied_itself nat_cmp_total a)

below : (whole name : List ℕ) → is_component_of whole name ≡ true → by_bytes whole name ≡ Less
below [] [] is = absurd (true≢false (sym is))
below [] (b ∷ name) is = refl
below (a ∷ whole) [] is = absurd (true≢false (sym is))
below (a ∷ whole) (b ∷ name) is =
    let front : ((a == b) && begins_with whole name) ≡ true = first_so ((a == b) && begins_with whole name) (begins_with_colon (drop (length whole) name)) is in
    let colon : begins_with_colon (drop (length whole) name) ≡ true = second_so ((a == b) && begins_with whole name) (begins_with_colon (drop (length whole) name)) is in
    let rest : is_component_of whole name ≡ true = rw (second_so (a == b) (begins_with whole name) front) colon in
    ap (λ (o : Ordering). ordering_then o (slice_cmp nat_cmp whole name)) (same_first a b (first_so (a == b) (begins_with whole name) front)) ∙ below whole name rest

abbrev IsBelow : TroveParts → TroveParts → Type 0
IsBelow t u = by_name_cmp t u ≡ Less

below_components : (l : TroveLines) (t : TroveParts) (names : List (List ℕ)) → t.id ≡ l.id → All (IsComponentOf l.id) (map (with_name l.id) names) → AllByRecursion (IsBelow t) (map (component_trove l) names)
below_components l t [] same are = tt
below_components l t (n ∷ names) same are =
    let first : IsComponentOf l.id (with_name l.id n) = All-head (IsComponentOf l.id) (with_name l.id n) (map (with_name l.id) names) are in (
      subst (λ (id : TroveId). by_bytes id.name n ≡ Less) (sym same) (below l.id.name n first.name),
      below_components l t names same (All-tail (IsComponentOf l.id) (with_name l.id n) (map (with_name l.id) names) are),
    )

-- ---- components in name order

above_mapped : (l : TroveLines) (n : List ℕ) (names : List (List ℕ)) → AllByRecursion (λ (m : List ℕ). by_bytes n m ≡ Less) names → AllByRecursion (IsBelow (component_trove l n)) (map (component_trove l) names)
above_mapped l n [] all = tt
above_mapped l n (m ∷ names) all = (all.0, above_mapped l n names all.1)

components_rise : (l : TroveLines) (names : List (List ℕ)) → IsStrictlySortedBy by_bytes names → HasRisingNames (map (component_trove l) names)
unfolding IsStrictlySortedBy
components_rise l [] s = tt
components_rise l (n ∷ names) s = (above_mapped l n names s.0, components_rise l names s.1)

one_rises : (t : TroveParts) → HasRisingNames (t ∷ [])
unfolding IsStrictlySortedBy
one_rises t = (tt, tt)

more_rise : (t : TroveParts) (ts : List TroveParts) → AllByRecursion (IsBelow t) ts → HasRisingNames ts → HasRisingNames (t ∷ ts)
unfolding IsStrictlySortedBy
more_rise t ts below s = (below, s)

-- ---- all of them

refs_are : (kind : NameKind) (t : TroveParts) → kind ≡ Package → KeepsKind kind t → All (IsComponentOf t.id) t.refs
refs_are Package t e keeps = keeps.1
refs_are Component t e keeps = absurd (cc)
refs_are Group t e keeps = absurd (cc)

package_rises : (l : TroveLines) (names : List (List ℕ)) → kind_of_name l.id.name ≡ Package → IsStrictlySortedBy by_bytes names → All IsTrove (package_troves l names) → HasRisingNames (package_troves l names)
package_rises l names kind sorted are =
    let whole : TroveParts = package_of l.id names in
    let is : IsTrove whole = All-head IsTrove whole (map (component_trove l) names) are in
    more_rise whole (map (component_trove l) names) (below_components l whole names refl (refs_are (kind_of_name l.id.name) whole kind is.rules.kind)) (components_rise l names sorted)

by_kind : (kind : NameKind) (l : TroveLines) → kind_of_name l.id.name ≡ kind → AreTroves l → HasRisingNames (troves_of l)
by_kind Component l e are = subst HasRisingNames (sym (troves_of_kind l Component e)) (one_rises (whole_component l))
by_kind Group l e are = subst HasRisingNames (sym (troves_of_kind l Group e)) (one_rises (group_trove l))
by_kind Package l e are =
    subst HasRisingNames (sym (troves_of_kind l Package e))
    (package_rises l (component_names l) e (used_sorted l.id.name l.files l.requires_ l.provides) (subst (All IsTrove) (troves_of_kind l Package e) are))

pub troves_rise : (l : TroveLines) → AreTroves l → HasRisingNames (troves_of l)
troves_rise l are = by_kind (kind_of_name l.id.name) l refl are
