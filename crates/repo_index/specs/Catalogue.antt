-- The catalogue, and what is searched for in it. Each look-up is a search of the whole list.
use Rattle.std.specs.Prelude.{◌≡◌, ℕ, ◌+◌, Bool, true, false, ◌&&◌, if◌then◌else◌, List, [], ◌∷◌, ◌++◌, filter, slice_get, Contains, Option, Some, None, IsSome, IsTrue}
use Rattle.std.specs.List.{find, last_or, list_any}
use Rattle.std.specs.Str.{bytes_eq}
use Rattle.trove_stream.specs.cny-base.declared.refusal.Fault.{Fault}
use Rattle.trove_stream.specs.cny-base.declared.refusal.Fault.TheVariants.{Refused, Memory}
use Rattle.trove_stream.specs.cny-base.declared.refusal.Refusal.TheVariants.{Exists}
use Rattle.cny_version.specs.Version.{WholeVersion, branch_text}
use Rattle.trove_stream.specs.cny-stream.declared.record.FileRec.{FileRec}
use Rattle.trove_stream.specs.cny-stream.declared.record.FileRec.TheVariants.{Dir, File, Link}
use Rattle.trove_stream.specs.cny-stream.Record.{has_name_and_size}
use Rattle.trove_stream.specs.trove-parts.declared.id.TroveId.{TroveId}
use Rattle.trove_stream.specs.trove-parts.Id.{id_text_of}
use Rattle.trove_stream.specs.trove-parts.Order.{id_eq}
use Rattle.trove_stream.specs.trove-parts.declared.files.FileAt.{FileAt}
use Rattle.trove_stream.specs.declared.parts.TroveParts.{TroveParts}
pub use Rattle.trove_stream.specs.Installed.{has_name}

-- how many commits there are, and the troves in the order in which they were committed
pub record CatalogueParts : Type 0 where
  pub commits : ℕ
  pub troves : List TroveParts

abbrev pub no_commits : CatalogueParts
no_commits = record { commits = 0; troves = [] }

-- one trove more, behind the others
abbrev pub with_trove : CatalogueParts → TroveParts → CatalogueParts
with_trove c t = record { commits = c.commits; troves = c.troves ++ t ∷ [] }

-- each of the troves is one of those that are committed
abbrev pub AreCommitted : List TroveParts → List TroveParts → Type 0
AreCommitted committed troves = (t : TroveParts) → Contains troves t → Contains committed t

-- one commit more
abbrev pub with_commit : CatalogueParts → CatalogueParts
with_commit c = record { commits = c.commits + 1; troves = c.troves }

-- ---- by id

abbrev pub has_id : TroveId → TroveParts → Bool
has_id id t = id_eq t.id id

-- the trove of this id, if there is one
abbrev pub found : TroveId → List TroveParts → Option TroveParts
found id troves = find (has_id id) troves

-- no two of the troves have one id
abbrev pub HasDistinctIds : List TroveParts → Type 0
HasDistinctIds troves = (i j : ℕ) (t u : TroveParts) → slice_get troves i ≡ Some t → slice_get troves j ≡ Some u → IsTrue (has_id u.id t) → i ≡ j

-- A trove of this id stands there, and the refusal has its text; or memory ran out.
abbrev pub IsExistsOrMemory : List TroveParts → TroveId → Fault → Type 0
IsExistsOrMemory troves id (Refused refusal) = (refusal ≡ Exists (id_text_of id)) × IsSome (found id troves)
IsExistsOrMemory troves id Memory = Unit {0}

-- ---- by name

-- the places of the items that pass the test, where the first has the place n
abbrev pub places_from : {A : Type 0} → ℕ → (A → Bool) → List A → List ℕ
places_from n test [] = []
places_from n test (x ∷ xs) = if test x then n ∷ places_from (n + 1) test xs else places_from (n + 1) test xs

-- the places of the troves of this name
abbrev pub places_of : List ℕ → List TroveParts → List ℕ
places_of name troves = places_from 0 (has_name name) troves

-- the troves of this name
abbrev pub named : List ℕ → List TroveParts → List TroveParts
named name troves = filter (has_name name) troves

-- ---- by branch and revision

-- the source count, where one is given
abbrev pub has_source : Option (List ℕ) → List ℕ → Bool
has_source None source = true
has_source (Some given) source = bytes_eq source given

-- on the branch of this text, with this upstream and, where one is given, this source count
abbrev pub is_revision_of : List ℕ → List ℕ → Option (List ℕ) → WholeVersion → Bool
is_revision_of branch upstream source v =
    (bytes_eq (branch_text v.branch) branch && bytes_eq v.revision.upstream upstream) && has_source source v.revision.source

abbrev pub is_of : List ℕ → List ℕ → Option (List ℕ) → TroveParts → Bool
is_of branch upstream source t = is_revision_of branch upstream source t.id.version

-- the last trove of this name for which that holds
abbrev pub latest : List ℕ → List ℕ → List ℕ → Option (List ℕ) → List TroveParts → Option TroveParts
latest name branch upstream source troves = last_or None (filter (is_of branch upstream source) (named name troves))

-- ---- by content

-- the record of a file whose contents have this name
abbrev pub is_content : List ℕ → FileRec → Bool
is_content name (Dir mode owner) = false
is_content name (File mode owner flags size of_name) = bytes_eq of_name name
is_content name (Link target) = false

abbrev pub is_file_of : List ℕ → FileAt → Bool
is_file_of name file = is_content name file.rec

-- the trove records a file whose contents have this name
abbrev pub names_content : List ℕ → TroveParts → Bool
names_content name t = list_any (is_file_of name) t.files

-- one of the troves does
abbrev pub has_content : List ℕ → List TroveParts → Bool
has_content name troves = list_any (names_content name) troves

-- the record of the file has this name and this size
abbrev pub is_file_sized : List ℕ → ℕ → FileAt → Bool
is_file_sized name size file = has_name_and_size name size file.rec

-- the trove records a file whose contents have this name and this size
abbrev pub trove_records : List ℕ → ℕ → TroveParts → Bool
trove_records name size t = list_any (is_file_sized name size) t.files

-- one of the troves does
abbrev pub records_content : List ℕ → ℕ → List TroveParts → Bool
records_content name size troves = list_any (trove_records name size) troves
