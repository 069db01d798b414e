-- What the readers of lines and items answer.
use Rattle.std.specs.Prelude.{◌≡◌, ℕ, ◌≤◌, false, List, [], ◌∷◌, ◌++◌, length, flat_map, Option, Some, None, Result, Ok, Err, codes}
use Rattle.std.specs.Str.{bytes_eq}
use Rattle.manifest_troves.specs.cny-base.declared.limits.TheConstants.{CONTENT_LIMIT}
use Rattle.manifest_troves.specs.cny-base.declared.text.TextFault.{TextFault}
use Rattle.manifest_troves.specs.cny-base.declared.text.TextFault.TheVariants as text
use Rattle.cny_manifest.specs.declared.entries.FileLine.{FileLine}
use Rattle.cny_manifest.specs.declared.fault.Unread.{Unread}
use Rattle.cny_manifest.specs.declared.fault.Unread.TheVariants.{At}
use Rattle.cny_manifest.specs.declared.fault.ReadError.{ReadError}
use Rattle.cny_manifest.specs.declared.fault.ReadError.TheVariants as errors
use Rattle.cny_manifest.specs.declared.words.Word.{Word}
use Rattle.cny_manifest.specs.Body.{Body, file_next}
use Rattle.cny_manifest.specs.Grammar.{Progress, AtMagic, InBody, Ended, IsNext}
use Rattle.cny_manifest.specs.FirstFault.{NoneNext, GoesOn, fault_of, fault_by_size, too_large_by}
use Rattle.cny_manifest.specs.Made.{lines_of}
use Rattle.manifest_troves.specs.Troves.{troves_of, KeepsEntries}
use Rattle.manifest_troves.specs.trove-stream.declared.parts.TroveParts.{TroveParts}
use Rattle.manifest_troves.specs.change-set.declared.change.Carried.{Carried}
use Rattle.cny_manifest.specs.Lines.{with_feed, line_at, word_at}
use Rattle.manifest_troves.specs.trove-stream.NameOrder.{HasRisingNames}

-- ---- one value

-- what was found is the one of which this holds
abbrev pub IsOnly : {X : Type 0} → (X → Type 0) → X → Type 0
IsOnly {X} P x = P x × ((y : X) → P y → y ≡ x)

-- What was read is the one of which this holds, or it holds of none, or memory ran out.
abbrev pub ReadsOnly : {X : Type 0} → (X → Type 0) → Result X TextFault → Type 0
ReadsOnly P (Ok x) = IsOnly P x
ReadsOnly {X} P (Err text.Bad) = (y : X) → P y → ⊥
ReadsOnly P (Err text.Memory) = Unit {0}

-- What was read is what is there, or nothing is, or memory ran out.
abbrev pub ReadsAs : {X : Type 0} → Option X → Result X TextFault → Type 0
ReadsAs found (Ok x) = found ≡ Some x
ReadsAs found (Err text.Bad) = found ≡ None
ReadsAs found (Err text.Memory) = Unit {0}

-- what was read, seen by view
abbrev pub ReadsBy : {X Y : Type 0} → (X → Y) → Option Y → Result X TextFault → Type 0
ReadsBy view found (Ok x) = found ≡ Some (view x)
ReadsBy view found (Err text.Bad) = found ≡ None
ReadsBy view found (Err text.Memory) = Unit {0}

-- What was taken leads to the one of which this holds, or it holds of none, or memory ran out.
abbrev pub Takes : {X : Type 0} → (X → Type 0) → X → Result Unit TextFault → Type 0
Takes P x (Ok u) = IsOnly P x
Takes {X} P x (Err text.Bad) = (y : X) → P y → ⊥
Takes P x (Err text.Memory) = Unit {0}

-- ---- functions that answer without memory

-- What a function returned, seen by view, is what reading gives, unless memory ran out.
abbrev pub Fails : {Y : Type 0} → ReadError → Result Y Unread → Type 0
Fails errors.Memory read = Unit {0}
Fails (errors.Unread f) read = read ≡ Err f

abbrev pub Gives : {X Y : Type 0} → (X → Y) → Result X ReadError → Result Y Unread → Type 0
Gives view (Ok x) read = read ≡ Ok (view x)
Gives view (Err e) read = Fails e read

-- What a function found, seen by view, is what is there.
abbrev pub Finds : {X Y : Type 0} → (X → Y) → Option X → Option Y → Type 0
Finds view None found = found ≡ None
Finds view (Some x) found = found ≡ Some (view x)

-- ---- items

-- the good items lead from here to there, and nowhere else
abbrev pub LeadOnly : Progress → List (List ℕ) → Progress → Type 0
LeadOnly p [] q = p ≡ q
LeadOnly p (text ∷ texts) q = (r : Progress) × IsOnly (IsNext p text) r × LeadOnly r texts q

-- the good items at the front of the bytes lead from here to there, and behind them the rest is left
pub record Runs (p : Progress) (bytes : List ℕ) (q : Progress) (rest : List ℕ) : Type 0 where
  pub texts : List (List ℕ)
  pub good : LeadOnly p texts q
  pub spelled : bytes ≡ flat_map with_feed texts ++ rest

-- behind good items at the front of the bytes no good item follows
pub record Stops (p : Progress) (bytes : List ℕ) (fault : Unread) : Type 0 where
  pub last : Progress
  pub rest : List ℕ
  pub runs : Runs p bytes last rest
  pub stops : NoneNext last rest
  pub goes_on : GoesOn last rest
  pub refused : fault ≡ fault_of last rest

abbrev pub StopsBy : Progress → List ℕ → ReadError → Type 0
StopsBy p bytes errors.Memory = Unit {0}
StopsBy p bytes (errors.Unread fault) = Stops p bytes fault

-- ---- lines behind the version

-- a line at the front of the rest, which isn't `end`, with its word and its fields, and what is behind it
pub record IsWordAt (word : Word) (rest line fields behind : List ℕ) : Type 0 where
  pub line_is : line_at rest ≡ Ok (line, behind)
  pub goes_on : bytes_eq line (codes "end") ≡ false
  pub word_is : word_at line ≡ Some (word, fields)

-- the line wasn't taken, and is at fault at its first byte
abbrev pub IsFaultAt : List ℕ → Result Unit TextFault → ReadError → Type 0
IsFaultAt rest taken errors.Memory = Unit {0}
IsFaultAt rest taken (errors.Unread fault) = (taken ≡ Err text.Bad) × (fault ≡ At (length rest))

-- what a `file` line says that may come next
pub record IsFile (b : Body) (fields : List ℕ) (line : FileLine) : Type 0 where
  pub found : file_next b fields ≡ Some line
  pub small : line.size ≤ CONTENT_LIMIT

-- The fault where none may come next.
abbrev pub NoFile : Body → List ℕ → List ℕ → ReadError → Type 0
NoFile b fields rest errors.Memory = Unit {0}
NoFile b fields rest (errors.Unread fault) = ((line : FileLine) → IsFile b fields line → ⊥) × (fault ≡ fault_by_size rest (too_large_by (file_next b fields)))

-- ---- the end

-- the line `end` at the front, and nothing behind it, with the troves and contents of what was read before
pub record IsEndOf (b : Body) (rest : List ℕ) (troves : List TroveParts) (contents : List Carried) : Type 0 where
  pub runs : Runs (InBody b) rest (Ended b) []
  pub troves_are : troves ≡ troves_of (lines_of b)
  pub rising : HasRisingNames troves
  pub entries : KeepsEntries (lines_of b) troves
  pub contents_are : contents ≡ b.contents

-- the troves and contents of the manifest that the bytes are
pub record IsReadOf (bytes : List ℕ) (troves : List TroveParts) (contents : List Carried) : Type 0 where
  pub body : Body
  pub runs : Runs AtMagic bytes (Ended body) []
  pub troves_are : troves ≡ troves_of (lines_of body)
  pub rising : HasRisingNames troves
  pub entries : KeepsEntries (lines_of body) troves
  pub contents_are : contents ≡ body.contents
