-- Places that are kept under the hashes of ids.
use Rattle.std.proofs.Common.{◌≡◌, ℕ, Bool, true, false, ◌&&◌, ◌||◌, ◌==◌, Contains, nat_eq, refl, subst}
use Rattle.std.specs.Cmp.{first_so, second_so}
use Rattle.std.specs.List.{list_any}
use Rattle.std.specs.Str.{bytes_eq}
use Rattle.std.proofs.lemmas.Bool.{eqb-true}
use Rattle.cny_version.specs.Version.{version_text}
use Rattle.cny_version.proofs.cny-base.ByteLists.{bytes_mean}
use Rattle.cny_version.proofs.cny-base.Lists.{one_passes}
use Rattle.indexmap.specs.IndexMap.{get}
use Rattle.trove_stream.specs.cny-dep.Canonical.{flavor_text}
use Rattle.trove_stream.specs.trove-parts.declared.id.TroveId.{TroveId}
use Rattle.trove_stream.specs.trove-parts.Order.{id_eq}
use Rattle.repo_index.specs.declared.places_by_id.PlacesById.{PlacesById}
use Rattle.repo_index.specs.Hashes.{hash_of, is_kept}
use Rattle.repo_index.specs.Keys.{is_number}

-- ---- ids of the same texts have one hash

pub same_hash : (x y : TroveId) → id_eq x y ≡ true → hash_of x ≡ hash_of y
unfolding hash_of
same_hash x y same =
    let names = bytes_eq x.name y.name in
    let versions = bytes_eq (version_text x.version) (version_text y.version) in
    let flavors = bytes_eq (flavor_text x.flavor) (flavor_text y.flavor) in
    let front = first_so (names && versions) flavors same in
    let name : x.name ≡ y.name = bytes_mean x.name y.name (first_so names versions front) in
    let version : version_text x.version ≡ version_text y.version = bytes_mean (version_text x.version) (version_text y.version) (second_so names versions front) in
    let flavor : flavor_text x.flavor ≡ flavor_text y.flavor = bytes_mean (flavor_text x.flavor) (flavor_text y.flavor) (second_so (names && versions) flavors same) in
    cc

-- ---- a place that is kept, but not as the first one, is one of the others

either : (a b : Bool) → (a || b) ≡ true → (a ≡ true → ⊥) → b ≡ true
either true b some never = absurd (never refl)
either false b some never = some

pub kept_among : (places : PlacesById) (hash place : ℕ) → is_kept places hash place ≡ true → (is_number (get nat_eq places.firsts hash) place ≡ true → ⊥) → Contains places.others.items place
kept_among places hash place kept never =
    let others = places.others.items in
    let any = either (is_number (get nat_eq places.firsts hash) place) (list_any (λ (other : ℕ). other == place) others) kept never in
    let one = one_passes (λ (other : ℕ). other == place) others any in
    subst (λ (n : ℕ). Contains others n) (eqb-true one.0 place one.2) one.1
