-- The first fault of bytes that are no batch, by its place.
--
-- The bytes are taken item by item from the front, as long as each is a good next one. An item is a line with its line feed, or
-- the input of a line with its line feed. What follows is at fault, by the first of these rules that holds:
-- 1. Behind as many lines as a batch can have, the first further byte is at fault.
-- 2. A line without a line feed among its first 65,537 bytes is at fault at its first byte, where so many are there.
-- 3. Where the bytes end inside the item, or before an input, the place is their length.
-- 4. Any other item is at fault at its first byte.
use Rattle.std.specs.Prelude.{◌≡◌, ◌≢◌, ℕ, ◌+◌, ◌-◌, ◌<◌, Bool, ◌&&◌, not, nat_lt, nat_le, List, [], ◌∷◌, ◌++◌, length, take, flat_map, Option, Some, None, is_some, if◌then◌else◌}
use Rattle.std.specs.List.{position}
use Rattle.cny_base.specs.declared.refusal.Refusal.TheVariants.{Malformed}
use Rattle.cny_base.specs.declared.refusal.Fault.{Fault}
use Rattle.cny_base.specs.declared.refusal.Fault.TheVariants as fault
use Rattle.cny_batch.specs.declared.limits.TheConstants.{LINES_LIMIT, LINE_ROOM}
use Rattle.cny_batch.specs.Words.{input_size}
use Rattle.cny_batch.specs.Batch.{is_feed, with_feed, IsLine}

-- ---- good items

-- Behind so many lines with their inputs; or behind so many and the text of one more, whose input of this size comes next.
pub data Progress : Type 0 where
  AtLine : ℕ → Progress
  AtInput : ℕ → ℕ → Progress

-- behind the text of one more line
abbrev pub behind_text : ℕ → Option ℕ → Progress
behind_text lines None = AtLine (lines + 1)
behind_text lines (Some size) = AtInput lines size

-- with its line feed the text is a good next item, and leads from here to there
abbrev pub IsNext : Progress → List ℕ → Progress → Type 0
IsNext (AtLine lines) text next = (lines < LINES_LIMIT) × IsLine text × (next ≡ behind_text lines (input_size text))
IsNext (AtInput lines size) text next = (length text ≡ size) × (next ≡ AtLine (lines + 1))

-- the items are good ones, one behind the other, and lead from here to there
abbrev pub Lead : Progress → List (List ℕ) → Progress → Type 0
Lead here [] there = here ≡ there
Lead here (text ∷ texts) there = (next : Progress) × IsNext here text next × Lead next texts there

-- what is left begins with no good item
abbrev pub NoneNext : Progress → List ℕ → Type 0
NoneNext here rest = (text behind : List ℕ) (next : Progress) → rest ≡ with_feed text ++ behind → IsNext here text next → ⊥

-- a batch may end behind each line with its input
abbrev pub GoesOn : Progress → List ℕ → Type 0
GoesOn (AtLine lines) rest = rest ≢ []
GoesOn (AtInput lines size) rest = Unit {0}

-- ---- the rules

-- a line feed is among the bytes for which a line has room
abbrev pub has_feed : List ℕ → Bool
has_feed rest = is_some (position is_feed (take LINE_ROOM rest))

-- the bytes end inside the next item
abbrev pub ends_inside : Progress → List ℕ → Bool
ends_inside (AtLine lines) rest = nat_lt lines LINES_LIMIT && (nat_lt (length rest) LINE_ROOM && not (has_feed rest))
ends_inside (AtInput lines size) rest = nat_le (length rest) size

-- how many bytes stand from the fault on, where no good item begins the rest
unfoldable pub left_at : Progress → List ℕ → ℕ
left_at here rest = if ends_inside here rest then 0 else length rest

-- ---- the first fault

-- behind good items, where no good one follows and the batch hasn't just ended
pub record IsFirstFault (bytes : List ℕ) (place : ℕ) : Type 0 where
  pub items : List (List ℕ)
  pub rest : List ℕ
  pub last : Progress
  pub spelled : bytes ≡ flat_map with_feed items ++ rest
  pub good : Lead (AtLine 0) items last
  pub stops : NoneNext last rest
  pub goes_on : GoesOn last rest
  pub at_place : place ≡ length bytes - left_at last rest

-- the bytes are refused as malformed at their first fault, or memory ran out
abbrev pub IsFaultOf : List ℕ → Fault → Type 0
IsFaultOf bytes (fault.Refused refusal) = (place : ℕ) × (refusal ≡ Malformed place) × IsFirstFault bytes place
IsFaultOf bytes fault.Memory = Unit {0}
