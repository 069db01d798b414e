-- The first fault of bytes that are no manifest: its kind and its place.
--
-- The bytes are taken item by item from the front, as long as each is a good next one. An item is a line with its line feed, or
-- a content with its line feed. What follows is at fault, by the first of these rules that holds:
-- 1. A `file` line that were good if its size were 0, with a size above the limit of a content, is too large.
-- 2. A line without a line feed among its first 2,049 bytes is at fault at its first byte, where so many are there.
-- 3. Where the bytes end inside the item, or before it, the place is their length.
-- 4. Any other item is at fault at its first byte.
-- Behind the line `end` the first further byte is at fault. Bytes that are a manifest are refused where two contents with one
-- name differ.
use Rattle.std.specs.Prelude.{◌≡◌, ◌≢◌, ◌⊎◌, ℕ, ◌-◌, nat_lt, if◌then◌else◌, List, [], ◌++◌, length, flat_map, Option, Some, None, Result, Ok, Err}
use Rattle.manifest_troves.specs.cny-base.declared.limits.TheConstants.{CONTENT_LIMIT}
use Rattle.manifest_troves.specs.cny-base.declared.refusal.Refusal.{Refusal}
use Rattle.manifest_troves.specs.cny-base.declared.refusal.Refusal.TheVariants as refusal
use Rattle.manifest_troves.specs.cny-base.declared.refusal.What.TheVariants.{Content}
use Rattle.manifest_troves.specs.cny-base.declared.refusal.Fault.{Fault}
use Rattle.manifest_troves.specs.cny-base.declared.refusal.Fault.TheVariants as fault
use Rattle.cny_manifest.specs.declared.entries.FileLine.{FileLine}
use Rattle.cny_manifest.specs.declared.fault.Unread.{Unread}
use Rattle.cny_manifest.specs.declared.fault.Unread.TheVariants.{At, TooLarge}
use Rattle.cny_manifest.specs.declared.fault.ReadError.{ReadError}
use Rattle.cny_manifest.specs.declared.fault.ReadError.TheVariants as errors
use Rattle.cny_manifest.specs.declared.words.Word.{Word}
use Rattle.cny_manifest.specs.declared.words.Word.TheVariants as word
use Rattle.cny_manifest.specs.Lines.{with_feed, line_at, content_at, word_at}
use Rattle.cny_manifest.specs.Body.{Body, file_next}
use Rattle.cny_manifest.specs.Grammar.{Progress, AtMagic, InBody, InContent, Ended, IsNext, Lead}
use Rattle.cny_manifest.specs.Spelling.{IsSpelling}
use Rattle.manifest_troves.specs.Contents.{first_collision}
pub use Rattle.manifest_troves.specs.change-set.FirstFault.{IsRefusalOrMemory}

-- ---- the rules

abbrev pub too_large_by : Option FileLine → Option ℕ
too_large_by None = None
too_large_by (Some line) = if nat_lt CONTENT_LIMIT line.size then Some line.size else None

-- the size of a `file` line that is good but for its size
abbrev pub too_large : Body → Option (Word × List ℕ) → Option ℕ
too_large b (Some (word.File, fields)) = too_large_by (file_next b fields)
too_large b _ = None

abbrev pub fault_by_size : List ℕ → Option ℕ → Unread
fault_by_size rest None = At (length rest)
fault_by_size rest (Some size) = TooLarge size

-- the fault of a line that isn't good, behind these items
abbrev pub line_fault : Progress → List ℕ → List ℕ → Unread
line_fault (InBody b) line rest = fault_by_size rest (too_large b (word_at line))
line_fault p line rest = At (length rest)

abbrev pub fault_by_line : Progress → List ℕ → Result (List ℕ × List ℕ) Unread → Unread
fault_by_line p rest (Err fault) = fault
fault_by_line p rest (Ok line) = line_fault p line.0 rest

abbrev pub fault_by_content : List ℕ → Result (List ℕ × List ℕ) Unread → Unread
fault_by_content rest (Err fault) = fault
fault_by_content rest (Ok content) = At (length rest)

-- the fault of what is left, where no good item begins it
unfoldable pub fault_of : Progress → List ℕ → Unread
fault_of (InContent b line) rest = fault_by_content rest (content_at line.size rest)
fault_of (Ended b) rest = At (length rest)
fault_of p rest = fault_by_line p rest (line_at rest)

-- ---- the first fault

-- what is left begins with no good item
abbrev pub NoneNext : Progress → List ℕ → Type 0
NoneNext p rest = (text more : List ℕ) (q : Progress) → rest ≡ with_feed text ++ more → IsNext p text q → ⊥

abbrev pub GoesOn : Progress → List ℕ → Type 0
GoesOn (Ended b) rest = rest ≢ []
GoesOn p rest = Unit {0}

-- Behind good items no good item follows, and the manifest hasn't just ended.
pub record StopsBehind (bytes : List ℕ) (fault : Unread) : Type 0 where
  pub texts : List (List ℕ)
  pub rest : List ℕ
  pub last : Progress
  pub spelled : bytes ≡ flat_map with_feed texts ++ rest
  pub good : Lead AtMagic texts last
  pub stops : NoneNext last rest
  pub goes_on : GoesOn last rest
  pub refused : fault ≡ fault_of last rest

-- the refusal of a fault of so many bytes
abbrev pub refusal_of : ℕ → Unread → Refusal
refusal_of total (At left) = refusal.Malformed (total - left)
refusal_of total (TooLarge size) = refusal.TooLarge Content size

abbrev pub fault_from : ℕ → ReadError → Fault
fault_from total (errors.Unread f) = fault.Refused (refusal_of total f)
fault_from total errors.Memory = fault.Memory

pub record IsUnread (bytes : List ℕ) (refusal : Refusal) : Type 0 where
  pub fault : Unread
  pub stops : StopsBehind bytes fault
  pub refused : refusal ≡ refusal_of (length bytes) fault

-- a spelling of a value of which two contents with one name differ
pub record HasCollision (bytes : List ℕ) (refused : Refusal) : Type 0 where
  pub body : Body
  pub spelled : IsSpelling bytes body
  pub name : List ℕ
  pub at : ℕ
  pub first : first_collision body.contents ≡ Some (name, at)
  pub refusal_is : refused ≡ refusal.Collision name at

abbrev pub IsFirstFault : List ℕ → Refusal → Type 0
IsFirstFault bytes refused = IsUnread bytes refused ⊎ HasCollision bytes refused

-- the refusal is the first fault, or memory ran out
abbrev pub IsFaultOf : List ℕ → Fault → Type 0
IsFaultOf bytes (fault.Refused refused) = IsFirstFault bytes refused
IsFaultOf bytes fault.Memory = Unit {0}
