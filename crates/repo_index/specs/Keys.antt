-- What the maps of an index hold.
use Rattle.std.specs.Prelude.{◌≡◌, ℕ, Bool, false, ◌&&◌, ◌||◌, ◌==◌, List, [], ◌++◌, Option, Some, None, is_some, String, Vec}
use Rattle.std.specs.Option.{option_map_or}
use Rattle.std.specs.Str.{bytes_eq}
use Rattle.indexmap.specs.IndexMap.{IndexMap, get, get_by_text}
use Rattle.indexmap.specs.IndexSet.{IndexSet, contains}
use Rattle.repo_index.specs.declared.index.Content.{Content}

-- the places of a name; none where the name isn't there
abbrev pub places_in : {Y Z S : Type 0} → IndexMap (String Y) (Vec ℕ Z) S → List ℕ → List ℕ
places_in {Z} names name = option_map_or (λ (places : Vec ℕ Z). places.items) (get_by_text names name) []

-- the name of a content is among them
abbrev pub knows : {S : Type 0} → IndexMap (List ℕ) ℕ S → List ℕ → Bool
knows contents name = is_some (get bytes_eq contents name)

-- a number that there may be is this one
abbrev pub is_number : Option ℕ → ℕ → Bool
is_number None number = false
is_number (Some first) number = first == number

-- the same size and the same name
abbrev pub same_content : Content → Content → Bool
same_content a b = a.size == b.size && bytes_eq a.name b.name

-- a content of this name and this size is among them, as the first one of its name or as another one
abbrev pub knows_sized : {S T : Type 0} → IndexMap (List ℕ) ℕ S → IndexSet Content T → List ℕ → ℕ → Bool
knows_sized contents others name size = is_number (get bytes_eq contents name) size || contains same_content others (record { size = size; name = name })

-- those that were there stand first
pub record Extends {K S : Type 0} (old new : IndexSet K S) : Type 0 where
  pub more : List K
  pub keys_are : new.keys ≡ old.keys ++ more

pub record ExtendsMap {K V S : Type 0} (old new : IndexMap K V S) : Type 0 where
  pub more : List (K × V)
  pub entries_are : new.entries ≡ old.entries ++ more
