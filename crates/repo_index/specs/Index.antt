-- When an index is that of some troves.
use Rattle.std.specs.Prelude.{◌≡◌, ℕ, List, Some, slice_get, IsTrue}
use Rattle.trove_stream.specs.declared.parts.TroveParts.{TroveParts}
use Rattle.repo_index.specs.declared.index.Index.{Index}
use Rattle.repo_index.specs.declared.places_by_id.PlacesById.{PlacesById}
use Rattle.repo_index.specs.Catalogue.{places_of, has_content, records_content, HasDistinctIds}
use Rattle.repo_index.specs.Hashes.{hash_of, is_kept}
use Rattle.repo_index.specs.Keys.{places_in, knows, knows_sized}

-- the place of each trove is kept under its hash
abbrev pub AreKept : List TroveParts → PlacesById → Type 0
AreKept troves places = (place : ℕ) (t : TroveParts) → slice_get troves place ≡ Some t → IsTrue (is_kept places (hash_of t.id) place)

-- the place of each trove is kept under its hash, each name has its places there, and each content that is recorded is known, by its name
-- and with its size
pub record IsIndexOf (troves : List TroveParts) (index : Index) : Type 0 where
  pub ids : AreKept troves index.ids
  pub places : (name : List ℕ) → places_in index.names name ≡ places_of name troves
  pub contents : (name : List ℕ) → knows index.contents name ≡ has_content name troves
  pub sizes : (name : List ℕ) (size : ℕ) → knows_sized index.contents index.others name size ≡ records_content name size troves

-- the index of troves of which no two have one id
pub record IsIndexed (troves : List TroveParts) (index : Index) : Type 0 where
  pub distinct : HasDistinctIds troves
  pub index_is : IsIndexOf troves index
