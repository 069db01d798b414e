-- Equality and order of ids: by the name, then the text of the version, then that of the flavor, each by its bytes.
use Rattle.std.specs.Prelude.{◌≡◌, Bool, ◌&&◌, List, ℕ, Some}
use Rattle.std.specs.Cmp.{IsEquivalence, IsPartialOrder, IsTotalOrder, po, tied_then}
use Rattle.std.specs.Cmp.Lexicographic.{slice_cmp, nat_list_cmp_total, nat_list_eq_equiv, texts_ties}
use Rattle.std.specs.Ordering.{nat_cmp, ordering_then, eq_by_cmp, is_eq}
use Rattle.std.specs.Str.{bytes_eq}
use Rattle.std.specs.declared.cmp.Ordering.{Ordering}
use Rattle.std.proofs.Common.{ap, ◌∙◌}
use Rattle.std.proofs.lemmas.Cmp.{on_equiv, on_total, and_equiv, then_total}
use Rattle.cny_dep.specs.Canonical.{flavor_text}
use Rattle.cny_version.specs.Version.{version_text}
use Rattle.trove_parts.specs.declared.id.TroveId.{TroveId}

abbrev pub bytes_cmp : List ℕ → List ℕ → Ordering
bytes_cmp x y = slice_cmp nat_cmp x y

abbrev pub name_of : TroveId → List ℕ
name_of id = id.name

abbrev pub version_of : TroveId → List ℕ
version_of id = version_text id.version

abbrev pub flavor_of : TroveId → List ℕ
flavor_of id = flavor_text id.flavor

-- whether name, version text and flavor text are equal
abbrev pub id_eq : TroveId → TroveId → Bool
id_eq x y = (bytes_eq (name_of x) (name_of y) && bytes_eq (version_of x) (version_of y)) && bytes_eq (flavor_of x) (flavor_of y)

abbrev pub id_cmp : TroveId → TroveId → Ordering
id_cmp x y = ordering_then (ordering_then (bytes_cmp (name_of x) (name_of y)) (bytes_cmp (version_of x) (version_of y))) (bytes_cmp (flavor_of x) (flavor_of y))

pub id_equiv : IsEquivalence id_eq
id_equiv = and_equiv (and_equiv (on_equiv name_of nat_list_eq_equiv) (on_equiv version_of nat_list_eq_equiv)) (on_equiv flavor_of nat_list_eq_equiv)

pub id_total : IsTotalOrder id_cmp
id_total = then_total (then_total (on_total name_of nat_list_cmp_total) (on_total version_of nat_list_cmp_total)) (on_total flavor_of nat_list_cmp_total)

-- the test of two keys, from those of each
both_tied : (a b : Bool) (o p : Ordering) → a ≡ is_eq o → b ≡ is_eq p → (a && b) ≡ is_eq (ordering_then o p)
both_tied a b o p first second = ap (λ t. t && b) first ∙ ap (λ t. is_eq o && t) second ∙ tied_then o p

pub id_ties : (x y : TroveId) → id_eq x y ≡ eq_by_cmp id_cmp x y
id_ties x y =
    both_tied (bytes_eq (name_of x) (name_of y) && bytes_eq (version_of x) (version_of y)) (bytes_eq (flavor_of x) (flavor_of y))
    (ordering_then (bytes_cmp (name_of x) (name_of y)) (bytes_cmp (version_of x) (version_of y))) (bytes_cmp (flavor_of x) (flavor_of y))
    (both_tied (bytes_eq (name_of x) (name_of y)) (bytes_eq (version_of x) (version_of y)) (bytes_cmp (name_of x) (name_of y)) (bytes_cmp (version_of x) (version_of y))
    (texts_ties (name_of x) (name_of y)) (texts_ties (version_of x) (version_of y)))
    (texts_ties (flavor_of x) (flavor_of y))

pub id_po : IsPartialOrder id_eq (λ x y. Some (id_cmp x y))
id_po = po id_total id_ties
