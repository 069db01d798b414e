-- The change set that leads from some troves to others.
use Rattle.std.specs.Prelude.{◌≡◌, ◌↔◌, ℕ, List, [], ◌∷◌, length, map, All, Contains, Option, Some, None}
use Rattle.std.specs.List.{cons_option}
use Rattle.std.specs.List.Sorted.{IsStrictlySortedBy}
use Rattle.std.specs.Option.{option_map_or}
use Rattle.sha1.specs.Sha1.{sha1}
use Rattle.repo_load.specs.trove-parts.declared.files.FileAt.{FileAt}
use Rattle.repo_load.specs.trove-stream.declared.parts.TroveParts.{TroveParts}
use Rattle.change_rel.specs.trove-stream.Leads.{Leads}
use Rattle.change_rel.specs.Sending.{content_of, SendsName}
use Rattle.change_set.specs.declared.change.Part.{Part}
use Rattle.change_set.specs.declared.change.Part.TheVariants.{Whole, Relative}
use Rattle.change_set.specs.declared.change.Carried.{Carried}
use Rattle.change_set.specs.declared.change.ChangeSet.{ChangeSet}
use Rattle.change_set.specs.ChangeSet.{content_cmp}
use Rattle.repo_load.specs.trove-stream.Installed.{trove_of}
use Rattle.repo_load.specs.tree-disk.Tree.{Tree}
use Rattle.repo_load.specs.content-store.Store.{stored}
use Rattle.repo_load.specs.Files.{contents_dir}

-- ---- parts

-- What is told of a new trove beside the old one of its name: nothing of the same one, else what leads from the one to the other;
-- and where there is no old one, the whole trove.
abbrev pub IsPartOf : Option TroveParts → TroveParts → Option Part → Type 0
IsPartOf (Some old) fresh None = old.id ≡ fresh.id
IsPartOf (Some old) fresh (Some (Relative rel)) = Leads rel old fresh
IsPartOf (Some old) fresh (Some (Whole trove)) = ⊥
IsPartOf None fresh None = ⊥
IsPartOf None fresh (Some (Relative rel)) = ⊥
IsPartOf None fresh (Some (Whole trove)) = trove ≡ fresh

-- the old trove of its name, if there is one
abbrev pub old_trove_of : List TroveParts → TroveParts → Option TroveParts
old_trove_of old fresh = trove_of fresh.id.name old

-- what is told of each of the new troves, in their order
abbrev pub ArePartsBetween : List TroveParts → List TroveParts → List Part → Type 0
ArePartsBetween old [] parts = parts ≡ []
ArePartsBetween old (t ∷ fresh) parts = (part : Option Part) × (rest : List Part) × IsPartOf (old_trove_of old t) t part × ArePartsBetween old fresh rest × (parts ≡ cons_option part rest)

-- ---- contents

-- the files of the old trove of its name; none where there is no such trove
abbrev pub old_files : List TroveParts → TroveParts → List FileAt
old_files old fresh = option_map_or (λ (t : TroveParts). t.files) (old_trove_of old fresh) []

-- A content of this name is sent: one of the new troves has a file with a content of this name, which the old trove of that name
-- doesn't record at the file's path.
pub record SendsContent (old fresh : List TroveParts) (name : List ℕ) : Type 0 where
  pub trove : TroveParts
  pub there : Contains fresh trove
  pub sends : SendsName (old_files old trove) trove.files name

-- a file of one of the troves has a content of this name and this size
pub record RecordsContent (troves : List TroveParts) (name : List ℕ) (size : ℕ) : Type 0 where
  pub trove : TroveParts
  pub there : Contains troves trove
  pub file : FileAt
  pub among : Contains trove.files file
  pub content : content_of file.rec ≡ Some (name, size)

-- the bytes have this name, and the size that each record of the new troves tells with it
pub record IsSoundContent (fresh : List TroveParts) (name bytes : List ℕ) : Type 0 where
  pub named : sha1 bytes ≡ name
  pub sized : (size : ℕ) → RecordsContent fresh name size → length bytes ≡ size

abbrev pub carried_name : Carried → List ℕ
carried_name content = content.name

-- just the contents that are sent, by strictly rising names, each sound
pub record AreContents (old fresh : List TroveParts) (contents : List Carried) : Type 0 where
  pub rising : IsStrictlySortedBy content_cmp contents
  pub each : (name : List ℕ) → Contains (map carried_name contents) name ↔ SendsContent old fresh name
  pub sound : All (λ (content : Carried). IsSoundContent fresh content.name content.bytes) contents

-- ---- the set

-- The change set leads from the old troves to the new ones: the parts of the new ones, and the contents that are sent with them.
pub record LeadsBetween (old fresh : List TroveParts) (set : ChangeSet) : Type 0 where
  pub parts : ArePartsBetween old fresh set.parts
  pub contents : AreContents old fresh set.contents

-- each content is that which stands under its name in the repository
abbrev pub AreStoredIn : Tree → List Carried → Type 0
AreStoredIn tree contents = All (λ (content : Carried). stored tree contents_dir content.name ≡ Some content.bytes) contents

abbrev pub HasStored : Tree → ChangeSet → Type 0
HasStored tree set = AreStoredIn tree set.contents
