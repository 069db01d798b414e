-- What bytes spell a manifest, apart from any reading of them.
--
-- A manifest is a value: whether it names owners, an id, and lists of references, dependencies, entries and contents. Its lines
-- stand in one order, each with a line feed behind it, and behind the line of a file its content and a line feed. Two spellings
-- of one value differ only in the texts of the version, the flavor and the dependencies, which may be relaxed ones.
use Rattle.std.specs.Prelude.{◌≡◌, ℕ, ◌≤◌, Bool, true, false, IsTrue, List, [], ◌∷◌, ◌++◌, length, map, flat_map, All, codes}
use Rattle.std.specs.Fmt.{decimal}
use Rattle.std.specs.List.Sorted.{IsStrictlySortedBy}
use Rattle.sha1.specs.Sha1.{sha1}
use Rattle.manifest_troves.specs.cny-base.Name.{is_name, kind_of_name}
use Rattle.manifest_troves.specs.cny-base.Number.{octal_text}
use Rattle.manifest_troves.specs.cny-base.Path.{is_path}
use Rattle.manifest_troves.specs.cny-base.Target.{is_target}
use Rattle.manifest_troves.specs.cny-base.declared.limits.TheConstants.{CONTENT_LIMIT}
use Rattle.manifest_troves.specs.cny-base.declared.name.NameKind.{NameKind}
use Rattle.manifest_troves.specs.cny-base.declared.name.NameKind.TheVariants.{Group}
use Rattle.cny_dep.specs.declared.parts.Parts.{Parts}
use Rattle.cny_dep.specs.Canonical.{no_parts}
use Rattle.manifest_troves.specs.cny-stream.declared.record.Flags.{Flags}
use Rattle.manifest_troves.specs.cny-stream.declared.record.FileRec.TheVariants as rec
use Rattle.manifest_troves.specs.cny-stream.Owner.{OwnerNames, is_owner, root_owner}
use Rattle.manifest_troves.specs.trove-parts.declared.id.TroveId.{TroveId}
use Rattle.manifest_troves.specs.trove-parts.Id.{id_text_of}
use Rattle.manifest_troves.specs.trove-parts.declared.files.FileAt.{FileAt}
use Rattle.manifest_troves.specs.trove-parts.Files.{file_cmp}
use Rattle.manifest_troves.specs.trove-parts.Items.{IsRisingList}
use Rattle.manifest_troves.specs.trove-parts.Refs.{AreRefs}
use Rattle.manifest_troves.specs.change-set.declared.change.Carried.{Carried}
use Rattle.manifest_troves.specs.declared.lines.DepLine.{DepLine}
use Rattle.cny_manifest.specs.Body.{Body, is_own_by, dep_line_cmp}
use Rattle.cny_manifest.specs.Grammar.{kind_word, IsVersionField, IsFlavorField, IsDepField, IsLine}
use Rattle.cny_manifest.specs.Lines.{with_feed}
use Rattle.cny_manifest.specs.Made.{CanEnd}

-- ---- lines

-- the first line
abbrev pub magic_line : Bool → List ℕ
magic_line false = codes "manifest 1"
magic_line true = codes "manifest 2"

-- the word of the name's kind, and the name
abbrev pub name_line : List ℕ → List ℕ
name_line name = kind_word (kind_of_name name) ++ 32 ∷ name

abbrev pub version_line : List ℕ → List ℕ
version_line text = codes "version " ++ text

abbrev pub ref_line : TroveId → List ℕ
ref_line id = codes "ref " ++ id_text_of id

-- no line where the flavor is empty, else one with a text of it
abbrev pub IsFlavorPart : Parts → List (List ℕ) → Type 0
IsFlavorPart flavor [] = flavor ≡ no_parts
IsFlavorPart flavor (line ∷ []) = (text : List ℕ) × IsFlavorField text flavor × (line ≡ codes "flavor " ++ text) × IsLine line
IsFlavorPart flavor _ = ⊥

-- the word, a name, and a text of a dependency
pub record IsDepLine (word : List ℕ) (dep : DepLine) (line : List ℕ) : Type 0 where
  pub text : List ℕ
  pub is : IsDepField text dep.dep
  pub spelled : line ≡ word ++ 32 ∷ (dep.name ++ 32 ∷ text)
  pub fits : IsLine line

-- one line for each of them
abbrev pub AreDepLines : List ℕ → List DepLine → List (List ℕ) → Type 0
AreDepLines word [] [] = Unit {0}
AreDepLines word (dep ∷ deps) (line ∷ lines) = IsDepLine word dep line × AreDepLines word deps lines
AreDepLines word _ _ = ⊥

-- ---- entries

-- a directory, a file with its content, or a link
pub data Entry : Type 0 where
  DirEntry : List ℕ → ℕ → OwnerNames → Entry
  FileEntry : List ℕ → ℕ → OwnerNames → Flags → List ℕ → Entry
  LinkEntry : List ℕ → List ℕ → Entry

-- what it records at its path
abbrev pub file_at : Entry → FileAt
file_at (DirEntry path mode owner) = record { path = path; rec = rec.Dir mode owner }
file_at (FileEntry path mode owner flags content) = record { path = path; rec = rec.File mode owner flags (length content) (sha1 content) }
file_at (LinkEntry path target) = record { path = path; rec = rec.Link target }

-- the content of a file, under its SHA-1
abbrev pub contents_in : Entry → List Carried
contents_in (FileEntry path mode owner flags content) = record { name = sha1 content; bytes = content } ∷ []
contents_in _ = []

-- `USER:GROUP` and a space, where owners are named
abbrev pub owner_words : Bool → OwnerNames → List ℕ
owner_words false owner = []
owner_words true owner = owner.user ++ 58 ∷ (owner.group ++ 32 ∷ [])

abbrev pub word_if : Bool → List ℕ → List ℕ
word_if false word = []
word_if true word = word

-- the words of the flags that are set, each with a space
abbrev pub flag_words : Flags → List ℕ
flag_words flags =
    word_if flags.config (codes "config ") ++ (word_if flags.initial (codes "initial ") ++ word_if flags.transient (codes "transient "))

abbrev pub dir_line : Bool → List ℕ → ℕ → OwnerNames → List ℕ
dir_line owners path mode owner = codes "dir " ++ (octal_text mode ++ 32 ∷ (owner_words owners owner ++ path))

abbrev pub file_line : Bool → List ℕ → ℕ → OwnerNames → Flags → ℕ → List ℕ
file_line owners path mode owner flags size =
    codes "file " ++ (octal_text mode ++ 32 ∷ (decimal size ++ 32 ∷ (owner_words owners owner ++ (flag_words flags ++ path))))

abbrev pub link_line : List ℕ → List ℕ
link_line path = codes "link " ++ path

abbrev pub target_line : List ℕ → List ℕ
target_line target = codes "target " ++ target

-- the line of an entry, and the content of a file or the line with the target of a link
abbrev pub entry_items : Bool → Entry → List (List ℕ)
entry_items owners (DirEntry path mode owner) = dir_line owners path mode owner ∷ []
entry_items owners (FileEntry path mode owner flags content) = file_line owners path mode owner flags (length content) ∷ content ∷ []
entry_items owners (LinkEntry path target) = link_line path ∷ target_line target ∷ []

-- any owner where owners are named, else root
abbrev pub IsOwnerHere : Bool → OwnerNames → Type 0
IsOwnerHere false owner = owner ≡ root_owner
IsOwnerHere true owner = IsTrue (is_owner owner)

-- A path, a mode of four octal digits, an owner, a content within its limit, a target; and its lines are lines.
abbrev pub IsEntry : Bool → Entry → Type 0
IsEntry owners (DirEntry path mode owner) = IsTrue (is_path path) × (mode ≤ 4095) × IsOwnerHere owners owner × IsLine (dir_line owners path mode owner)
IsEntry owners (FileEntry path mode owner flags content) =
    IsTrue (is_path path) × (mode ≤ 4095) × IsOwnerHere owners owner × (length content ≤ CONTENT_LIMIT)
    × IsLine (file_line owners path mode owner flags (length content))
IsEntry owners (LinkEntry path target) = IsTrue (is_path path) × IsTrue (is_target target) × IsLine (link_line path) × IsLine (target_line target)

-- ---- the value

-- a group has references alone, and nothing else has any
abbrev pub KeepsToKind : NameKind → Body → Type 0
KeepsToKind Group b = (b.requires_ ≡ []) × (b.provides ≡ []) × (b.files ≡ [])
KeepsToKind kind b = b.refs ≡ []

-- of the component itself, or of a component of the package
abbrev pub IsOwnLine : List ℕ → DepLine → Type 0
IsOwnLine whole line = IsTrue (is_name line.name) × IsTrue (is_own_by (kind_of_name whole) whole line.name)

-- Lists that strictly rise: references by their ids, dependencies by name and then canonical text, entries by path.
pub record HasRisingLists (b : Body) : Type 0 where
  pub name : IsTrue (is_name b.id.name)
  pub kind : KeepsToKind (kind_of_name b.id.name) b
  pub refs : AreRefs b.refs
  pub requires_ : IsRisingList (IsOwnLine b.id.name) dep_line_cmp b.requires_
  pub provides : IsRisingList (IsOwnLine b.id.name) dep_line_cmp b.provides
  pub files : IsStrictlySortedBy file_cmp b.files

-- ---- spellings

-- the lines and contents in front of the line `end`
pub record AreItems (items : List (List ℕ)) (b : Body) : Type 0 where
  pub version : List ℕ
  pub flavor : List (List ℕ)
  pub requires_ : List (List ℕ)
  pub provides : List (List ℕ)
  pub entries : List Entry
  pub name_fits : IsLine (name_line b.id.name)
  pub version_is : IsVersionField version b.id.version
  pub version_fits : IsLine (version_line version)
  pub flavor_is : IsFlavorPart b.id.flavor flavor
  pub refs_fit : All (λ id. IsLine (ref_line id)) b.refs
  pub requires_are : AreDepLines (codes "requires") b.requires_ requires_
  pub provides_are : AreDepLines (codes "provides") b.provides provides
  pub entries_are : All (IsEntry b.owners) entries
  pub files_are : b.files ≡ map file_at entries
  pub contents_are : b.contents ≡ flat_map contents_in entries
  pub spelled : items ≡ magic_line b.owners ∷ name_line b.id.name ∷ version_line version ∷ (flavor ++ (map ref_line b.refs ++ (requires_ ++ (provides ++ flat_map (entry_items b.owners) entries))))

-- The bytes are a spelling of the value: its lines and contents and then `end`, each with a line feed. Its lists rise, and each
-- trove that it makes keeps the rules of troves.
pub record IsSpelling (bytes : List ℕ) (b : Body) : Type 0 where
  pub items : List (List ℕ)
  pub are : AreItems items b
  pub lists : HasRisingLists b
  pub troves : CanEnd b
  pub spelled : bytes ≡ flat_map with_feed (items ++ codes "end" ∷ [])
