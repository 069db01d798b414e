-- Hashes of ids, and the places that are kept under them.
use Rattle.std.specs.Prelude.{ℕ, Bool, ◌==◌, ◌||◌, List, fold, nat_eq, IsTrue}
use Rattle.std.specs.List.{list_any}
use Rattle.std.specs.Hash as fed
use Rattle.std.specs.Hash.DefaultHasher as sip
use Rattle.std.specs.declared.hash.DefaultHasher.{DefaultHasher}
use Rattle.cny_version.specs.Version.{version_text}
use Rattle.indexmap.specs.IndexMap.{get}
use Rattle.trove_stream.specs.cny-dep.Canonical.{flavor_text}
use Rattle.trove_stream.specs.trove-parts.declared.id.TroveId.{TroveId}
use Rattle.repo_index.specs.declared.places_by_id.PlacesById.{PlacesById}
use Rattle.repo_index.specs.Keys.{is_number}

abbrev pub with_text : DefaultHasher → List ℕ → DefaultHasher
with_text state text = fold sip.write state (fed.str text)

-- the hash of the three texts of an id
unfoldable pub hash_of : TroveId → ℕ
hash_of id = sip.finish (with_text (with_text (with_text sip.initial id.name) (version_text id.version)) (flavor_text id.flavor))

-- the place is kept under the hash, as its first one or as one of the others
abbrev pub is_kept : PlacesById → ℕ → ℕ → Bool
is_kept places hash place = is_number (get nat_eq places.firsts hash) place || list_any (λ (other : ℕ). other == place) places.others.items

-- what was kept is kept
abbrev pub KeepsAll : PlacesById → PlacesById → Type 0
KeepsAll old new = (hash place : ℕ) → IsTrue (is_kept old hash place) → IsTrue (is_kept new hash place)
