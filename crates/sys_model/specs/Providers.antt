-- Where the troves stand that provide something of a name.
use Rattle.std.specs.Prelude.{◌≡◌, ℕ, List, [], Some, Contains, slice_get, String, Vec}
use Rattle.std.specs.Option.{option_map_or}
use Rattle.indexmap.specs.IndexMap.{IndexMap, get_by_text}
use Rattle.cny_dep.specs.Dep.{Dependency}
use Rattle.repo_index.specs.trove-stream.declared.parts.TroveParts.{TroveParts}
use Rattle.dep_closure.specs.Closed.{provides_of}
use Rattle.sys_model.specs.declared.providers.Providers.{Providers}

-- the places beside a name; none where the name isn't there
abbrev pub places_in : {Y Z S : Type 0} → IndexMap (String Y) (Vec ℕ Z) S → List ℕ → List ℕ
places_in {Z} names name = option_map_or (λ (places : Vec ℕ Z). places.items) (get_by_text names name) []

-- the place stands beside the name of each of these
abbrev pub IsBesideAll : {Y Z S : Type 0} → IndexMap (String Y) (Vec ℕ Z) S → List Dependency → ℕ → Type 0
IsBesideAll names deps place = (dep : Dependency) → Contains deps dep → Contains (places_in names dep.name) place

-- The place of each of the troves stands beside the names of all that it provides.
abbrev pub AreNoted : List TroveParts → Providers → Type 0
AreNoted troves providers = (place : ℕ) (t : TroveParts) → slice_get troves place ≡ Some t → IsBesideAll providers.names (provides_of t) place
