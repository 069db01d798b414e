-- The texts of manifests, line by line, and what each stands for.
use Rattle.std.specs.Prelude.{◌≡◌, ◌⊎◌, ℕ, ◌<◌, Bool, true, false, ◌&&◌, nat_le, IsTrue, if◌then◌else◌, List, [], ◌∷◌, length, get_or, flat_map, Option, Some, None, codes}
use Rattle.std.specs.Str.{bytes_eq, is_utf8}
use Rattle.manifest_troves.specs.cny-base.Name.{is_name, kind_of_name}
use Rattle.manifest_troves.specs.cny-base.declared.name.NameKind.{NameKind}
use Rattle.manifest_troves.specs.cny-base.declared.name.NameKind.TheVariants.{Component, Package, Group}
use Rattle.manifest_troves.specs.cny-base.declared.limits.TheConstants.{CONTENT_LIMIT}
use Rattle.cny_version.specs.Version.{WholeVersion, IsVersion}
use Rattle.cny_version.specs.Filled.{IsAbbreviationOf}
use Rattle.cny_dep.specs.declared.parts.Parts.{Parts}
use Rattle.cny_dep.specs.Canonical.{flavor_text}
use Rattle.cny_dep.specs.Spelling as flavor
use Rattle.cny_dep.specs.Dep.{Dependency, IsDependency}
use Rattle.cny_dep.specs.Relaxed as dep
use Rattle.manifest_troves.specs.trove-parts.declared.id.TroveId.{TroveId}
use Rattle.manifest_troves.specs.trove-parts.Id.{IsTroveId, id_text_of}
use Rattle.manifest_troves.specs.declared.lines.DepLine.{DepLine}
use Rattle.cny_manifest.specs.declared.entries.FileLine.{FileLine}
use Rattle.cny_manifest.specs.declared.words.Word.{Word}
use Rattle.cny_manifest.specs.declared.words.Word.TheVariants as word
use Rattle.cny_manifest.specs.declared.words.WholeLine.TheVariants as whole
use Rattle.cny_manifest.specs.Lines.{◌&>◌, is_line_feed, line_room, with_feed, field_at, after, word_at}
use Rattle.cny_manifest.specs.Entries.{dir_of, target_of}
use Rattle.cny_manifest.specs.Body.{Body, is_empty, body_of, with_flavor, with_ref, with_requirement, with_provided, with_dir, with_link, with_file, can_have_flavor, can_refer, can_require, can_provide, can_record, path_next, file_next}
use Rattle.cny_manifest.specs.Made.{CanEnd}

-- ---- where a reader of items stands

-- In front of the first, the second or the third line; behind the third or a whole entry; behind the line of a file or of a
-- link; and behind the line `end`.
pub data Progress : Type 0 where
  AtMagic : Progress
  AtName : Bool → Progress
  AtVersion : Bool → List ℕ → Progress
  InBody : Body → Progress
  InContent : Body → FileLine → Progress
  InTarget : Body → List ℕ → Progress
  Ended : Body → Progress

-- ---- the first three lines

-- whether owners are named, by the first line
unfoldable pub magic_of : List ℕ → Option Bool
magic_of text =
    if bytes_eq text (codes "manifest 1") then Some false
    else if bytes_eq text (codes "manifest 2") then Some true
    else None

abbrev pub kind_word : NameKind → List ℕ
kind_word Component = codes "component"
kind_word Package = codes "package"
kind_word Group = codes "group"

-- the word of a name's kind, and the name
abbrev pub name_if : List ℕ × List ℕ → Option (List ℕ)
name_if front = if is_name front.1 && bytes_eq front.0 (kind_word (kind_of_name front.1)) then Some front.1 else None

unfoldable pub name_of : List ℕ → Option (List ℕ)
name_of text = field_at text &> name_if

-- the text of a version, in which labels may be abbreviated
pub record IsVersionField (text : List ℕ) (version : WholeVersion) : Type 0 where
  pub utf8 : IsTrue (is_utf8 text)
  pub valid : IsVersion version
  pub spelled : IsAbbreviationOf version text

pub record IsVersionLine (text : List ℕ) (version : WholeVersion) : Type 0 where
  pub field : List ℕ
  pub word : after (codes "version ") text ≡ Some field
  pub is : IsVersionField field version

-- ---- fields with values of other crates

-- a relaxed text of a flavor that isn't empty
pub record IsFlavorField (text : List ℕ) (parts : Parts) : Type 0 where
  pub utf8 : IsTrue (is_utf8 text)
  pub spelled : flavor.IsRelaxedText text parts
  pub some : is_empty (flavor_text parts) ≡ false

-- the text of an id
pub record IsRefField (text : List ℕ) (id : TroveId) : Type 0 where
  pub utf8 : IsTrue (is_utf8 text)
  pub valid : IsTroveId id
  pub spelled : text ≡ id_text_of id

-- a relaxed text of a dependency
pub record IsDepField (text : List ℕ) (value : Dependency) : Type 0 where
  pub utf8 : IsTrue (is_utf8 text)
  pub valid : IsDependency value
  pub spelled : dep.IsRelaxedText text value

-- a name and a dependency
pub record IsDepFields (text : List ℕ) (line : DepLine) : Type 0 where
  pub rest : List ℕ
  pub split : field_at text ≡ Some (line.name, rest)
  pub name : IsTrue (is_name line.name)
  pub dep : IsDepField rest line.dep

-- ---- the lines behind the version

-- There is a value of which this holds, it may come next, and it leads there.
abbrev pub LineOf : {X : Type 0} → (X → Type 0) → (X → Bool) → (X → Progress) → Progress → Type 0
LineOf {X} Q can next q = (x : X) × Q x × (can x ≡ true) × (q ≡ next x)

-- What a line with this word and these fields leads to.
abbrev pub IsWordLine : Body → Word → List ℕ → Progress → Type 0
IsWordLine b (word.Whole whole.Flavor) fields q = LineOf (IsFlavorField fields) (λ parts. can_have_flavor b) (λ parts. InBody (with_flavor b parts)) q
IsWordLine b (word.Whole whole.Ref) fields q = LineOf (IsRefField fields) (can_refer b) (λ id. InBody (with_ref b id)) q
IsWordLine b (word.Whole whole.Requires) fields q = LineOf (IsDepFields fields) (can_require b) (λ line. InBody (with_requirement b line)) q
IsWordLine b (word.Whole whole.Provides) fields q = LineOf (IsDepFields fields) (can_provide b) (λ line. InBody (with_provided b line)) q
IsWordLine b (word.Whole whole.Dir) fields q =
    LineOf (λ line. dir_of b.owners fields ≡ Some line) (λ line. can_record b line.path) (λ line. InBody (with_dir b line)) q
IsWordLine b word.File fields q = LineOf (λ line. file_next b fields ≡ Some line) (λ line. nat_le line.size CONTENT_LIMIT) (λ line. InContent b line) q
IsWordLine b word.Link fields q = LineOf (λ path. path_next b fields ≡ Some path) (λ path. true) (λ path. InTarget b path) q

abbrev pub IsEndLine : Body → List ℕ → Progress → Type 0
IsEndLine b text q = (text ≡ codes "end") × CanEnd b × (q ≡ Ended b)

abbrev pub IsBodyLine : Body → List ℕ → Progress → Type 0
IsBodyLine b text q = IsEndLine b text q ⊎ ((word : Word) × (fields : List ℕ) × (word_at text ≡ Some (word, fields)) × IsWordLine b word fields q)

-- ---- items

-- What a line, or a content, leads to.
abbrev pub IsItem : Progress → List ℕ → Progress → Type 0
IsItem AtMagic text q = LineOf (λ owners. magic_of text ≡ Some owners) (λ owners. true) AtName q
IsItem (AtName owners) text q = LineOf (λ name. name_of text ≡ Some name) (λ name. true) (AtVersion owners) q
IsItem (AtVersion owners name) text q = LineOf (IsVersionLine text) (λ version. true) (λ version. InBody (body_of owners name version)) q
IsItem (InBody b) text q = IsBodyLine b text q
IsItem (InContent b line) text q = (length text ≡ line.size) × (q ≡ InBody (with_file b line text))
IsItem (InTarget b path) text q = LineOf (λ target. target_of text ≡ Some target) (λ target. true) (λ target. InBody (with_link b path target)) q
IsItem (Ended b) text q = ⊥

-- a line has no line feed, and fewer bytes than its room
pub record IsLine (text : List ℕ) : Type 0 where
  pub short : length text < line_room
  pub no_feed : (k : ℕ) → k < length text → is_line_feed (get_or text k 0) ≡ false

-- a content may have any bytes
abbrev pub FitsItem : Progress → List ℕ → Type 0
FitsItem (InContent b line) text = Unit {0}
FitsItem p text = IsLine text

-- the line, or the content, is a good next item, and leads there
pub record IsNext (p : Progress) (text : List ℕ) (q : Progress) : Type 0 where
  pub fits : FitsItem p text
  pub item : IsItem p text q

-- good items, one behind the other, lead from here to there
abbrev pub Lead : Progress → List (List ℕ) → Progress → Type 0
Lead p [] q = p ≡ q
Lead p (text ∷ texts) q = (r : Progress) × IsNext p text r × Lead r texts q

-- The bytes are a manifest with this body: good items up to the line `end`, each with a line feed behind it, and nothing else.
pub record IsManifest (bytes : List ℕ) (b : Body) : Type 0 where
  pub texts : List (List ℕ)
  pub good : Lead AtMagic texts (Ended b)
  pub spelled : bytes ≡ flat_map with_feed texts
