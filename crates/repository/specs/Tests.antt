-- The tests of a commit behind those of its parts, and the first one that fails.
use Rattle.std.specs.Prelude.{◌≡◌, ◌⊎◌, ℕ, Bool, ◌&&◌, ◌||◌, ◌==◌, nat_lt, if◌then◌else◌, List, [], ◌∷◌, ◌++◌, length, flat_map, Option, Some, None, is_some}
use Rattle.std.specs.List.{list_any}
use Rattle.std.specs.Option.{option_or}
use Rattle.std.specs.Str.{bytes_eq}
use Rattle.repo_load.specs.cny-base.declared.limits.TheConstants.{COMMITS_LIMIT}
use Rattle.repo_load.specs.cny-base.declared.refusal.Refusal.{Refusal}
use Rattle.repo_load.specs.cny-base.declared.refusal.Refusal.TheVariants.{Collision, MissingContent, MissingRef, TooLarge}
use Rattle.repo_load.specs.cny-base.declared.refusal.What.TheVariants.{Commits}
use Rattle.repo_load.specs.cny-stream.declared.record.FileRec.{FileRec}
use Rattle.repo_load.specs.cny-stream.declared.record.FileRec.TheVariants.{Dir, File, Link}
use Rattle.repo_load.specs.trove-parts.declared.id.TroveId.{TroveId}
use Rattle.repo_load.specs.trove-parts.Id.{id_text_of}
use Rattle.repo_load.specs.trove-parts.declared.files.FileAt.{FileAt}
use Rattle.repo_load.specs.trove-stream.declared.parts.TroveParts.{TroveParts}
use Rattle.change_set.specs.declared.change.Carried.{Carried}
use Rattle.change_set.specs.declared.change.ChangeSet.{ChangeSet}
use Rattle.repo_load.specs.content-store.Contents.{ContentMap}
use Rattle.repo_load.specs.content-store.Difference.{first_difference}
use Rattle.repo_index.specs.Catalogue.{CatalogueParts, found}
use Rattle.repo_load.specs.State.{records_content}
use Rattle.repository.specs.Parts.{AreMade, IsFirstRefused}
pub use Rattle.change_rel.specs.trove-stream.FilesOf.{files_of}
pub use Rattle.change_pull.specs.Incoming.{is_carried}

-- ---- references

-- the first of these ids that no trove has
abbrev pub missing_ref : List TroveParts → List TroveId → Option Refusal
missing_ref troves [] = None
missing_ref troves (id ∷ ids) = if is_some (found id troves) then missing_ref troves ids else Some (MissingRef (id_text_of id))

-- the references of troves, trove by trove
abbrev pub refs_of : List TroveParts → List TroveId
refs_of troves = flat_map (λ (t : TroveParts). t.refs) troves

-- ---- contents

-- a content of this name and this size is carried, or a committed trove records one
abbrev pub has_content_source : List TroveParts → List Carried → List ℕ → ℕ → Bool
has_content_source committed contents name size = list_any (is_carried name size) contents || records_content name size committed

-- a record of a content that is neither carried nor committed
abbrev pub lacks_content : List TroveParts → List Carried → FileRec → Option Refusal
lacks_content committed contents (Dir mode owner) = None
lacks_content committed contents (File mode owner flags size name) = if has_content_source committed contents name size then None else Some (MissingContent name)
lacks_content committed contents (Link target) = None

-- the first such record
abbrev pub missing_content : List TroveParts → List Carried → List FileAt → Option Refusal
missing_content committed contents [] = None
missing_content committed contents (file ∷ files) = option_or (lacks_content committed contents file.rec) (missing_content committed contents files)

abbrev pub collision_at : List ℕ → Option ℕ → Option Refusal
collision_at name None = None
collision_at name (Some at) = Some (Collision name at)

-- a content that differs from the committed one of its name
abbrev pub collides : Option (List ℕ) → Carried → Option Refusal
collides None content = None
collides (Some bytes) content = collision_at content.name (first_difference bytes content.bytes)

-- the first one
abbrev pub collision : ContentMap → List Carried → Option Refusal
collision held [] = None
collision held (content ∷ contents) = option_or (collides (held content.name) content) (collision held contents)

-- ---- all tests

-- one commit too many
abbrev pub too_many : ℕ → Option Refusal
too_many commits = if nat_lt commits COMMITS_LIMIT then None else Some (TooLarge Commits COMMITS_LIMIT)

-- The first of these tests that fails: of references, of contents that are missing, of contents that collide with committed
-- ones, and of the number of commits. With no troves nothing is tested.
abbrev pub later_refusal : CatalogueParts → ContentMap → List Carried → List TroveParts → Option Refusal
later_refusal c held contents [] = None
later_refusal c held contents (trove ∷ troves) =
    option_or (missing_ref (c.troves ++ trove ∷ troves) (refs_of (trove ∷ troves)))
    (option_or (missing_content c.troves contents (files_of (trove ∷ troves)))
    (option_or (collision held contents) (too_many c.commits)))

-- The change set makes these troves of a catalogue and its contents, and no test fails.
pub record Passes (c : CatalogueParts) (held : ContentMap) (change : ChangeSet) (troves : List TroveParts) : Type 0 where
  pub made : AreMade c.troves change.parts troves
  pub passed : later_refusal c held change.contents troves ≡ None

-- the parts make troves, and this is why a test of them fails
pub record FailsLater {Why : Type 0} (test : List TroveParts → Option Why) (c : CatalogueParts) (change : ChangeSet) (why : Why) : Type 0 where
  pub troves : List TroveParts
  pub made : AreMade c.troves change.parts troves
  pub fails : test troves ≡ Some why

-- the first of the later tests that fails
abbrev pub IsLaterRefused : CatalogueParts → ContentMap → ChangeSet → Refusal → Type 0
IsLaterRefused c held change refusal = FailsLater (later_refusal c held change.contents) c change refusal

-- The first test of a commit that fails: part by part those of its base, its id and its paths, and then the others.
abbrev pub IsRefused : CatalogueParts → ContentMap → ChangeSet → Refusal → Type 0
IsRefused c held change refusal = IsFirstRefused c.troves change.parts refusal ⊎ IsLaterRefused c held change refusal
