-- Where a stream that comes in pieces stands, and what its next bytes give.
--
-- A stream is a magic of eight bytes, and items one behind the other. What was given of it is the magic and whole items, and
-- behind them a position: what there is of the next one.
use Rattle.std.specs.Prelude.{◌≡◌, ◌≢◌, ℕ, ◌+◌, ◌<◌, ◌≤◌, ◌^◌, ◌==◌, Bool, true, false, IsTrue, List, [], ◌∷◌, ◌++◌, length, take}
use Rattle.std.specs.Int.{w32, to_be_bytes}
use Rattle.cny_stream.specs.Item.{is_expected, begins_unexpected}
use Rattle.cny_stream.specs.declared.cutter.Cutter.{Cutter}
use Rattle.cny_stream.specs.declared.cutter.Place.TheVariants as place
use Rattle.cny_stream.specs.declared.cutter.Event.{Event}
use Rattle.cny_stream.specs.declared.cutter.Event.TheVariants.{More, Begun, Head, Value, NoMagic, Unexpected}

-- the head of an item: its tag, and the length of its value
abbrev pub head_of : ℕ → ℕ → List ℕ
head_of tag len = tag ∷ to_be_bytes w32 len

-- Some of the magic; some of the head of an item; or the head of an item with this tag and this length, and some of its value.
pub data Position : Type 0 where
  InMagic : List ℕ → Position
  InHead : List ℕ → Position
  InValue : ℕ → ℕ → List ℕ → Position

-- the bytes of a position
abbrev pub open_bytes : Position → List ℕ
open_bytes (InMagic front) = front
open_bytes (InHead front) = front
open_bytes (InValue tag len value) = head_of tag len ++ value

-- ---- where a cutter stands

-- some of the magic was given, but not all of it
pub record StandsInMagic (cutter : Cutter) (whole front : List ℕ) : Type 0 where
  pub place : cutter.place ≡ place.Magic
  pub first : whole ≡ []
  pub there : front ≡ take cutter.have cutter.front
  pub few : length front < 8

-- some of a head was given, but not all of it
pub record StandsInHead (cutter : Cutter) (front : List ℕ) : Type 0 where
  pub place : cutter.place ≡ place.Head
  pub there : front ≡ take cutter.have cutter.front
  pub few : length front < 5

-- a head was given, and some of its value, but not all of it
pub record StandsInValue (cutter : Cutter) (len : ℕ) (value : List ℕ) : Type 0 where
  pub place : cutter.place ≡ place.Value
  pub left : length value + cutter.left ≡ len
  pub some : length value < len
  pub fits : len < 2 ^ 32

abbrev pub IsAt : Cutter → List ℕ → Position → Type 0
IsAt cutter whole (InMagic front) = StandsInMagic cutter whole front
IsAt cutter whole (InHead front) = StandsInHead cutter front
IsAt cutter whole (InValue tag len value) = StandsInValue cutter len value

-- A cutter of streams with this magic was given these bytes, the magic and whole items, and behind them those of a position.
pub record Stands (magic : List ℕ) (cutter : Cutter) (whole : List ℕ) (position : Position) : Type 0 where
  pub begins : cutter.magic ≡ magic
  pub is_at : IsAt cutter whole position

-- It has met this fault.
abbrev pub IsLost : Cutter → Event → Type 0
IsLost cutter NoMagic = cutter.place ≡ place.NoMagic
IsLost cutter Unexpected = cutter.place ≡ place.Unexpected
IsLost cutter _ = ⊥

-- ---- what the next bytes give

-- behind a head with so much of its value: where that is all of it, the item is whole
abbrev pub StandsBehind : List ℕ → Cutter → List ℕ → ℕ → ℕ → List ℕ → Bool → Type 0
StandsBehind magic cutter whole tag len value true = Stands magic cutter (whole ++ (head_of tag len ++ value)) (InHead [])
StandsBehind magic cutter whole tag len value false = Stands magic cutter whole (InValue tag len value)

-- in the magic
abbrev pub PushedMagic : List ℕ → Cutter → List ℕ → List ℕ → List ℕ → Event → Type 0
PushedMagic magic cutter whole front taken More = Stands magic cutter whole (InMagic (front ++ taken))
PushedMagic magic cutter whole front taken Begun = (front ++ taken ≡ magic) × Stands magic cutter (front ++ taken) (InHead [])
PushedMagic magic cutter whole front taken NoMagic = (length (front ++ taken) ≡ 8) × (front ++ taken ≢ magic) × IsLost cutter NoMagic
PushedMagic magic cutter whole front taken _ = ⊥

-- the bytes of a whole head, under a tag that is expected
pub record IsHead (tags : List ℕ) (tag len : ℕ) (bytes : List ℕ) : Type 0 where
  pub spelled : bytes ≡ head_of tag len
  pub expected : IsTrue (is_expected tags tag)
  pub fits : len < 2 ^ 32

-- in a head
abbrev pub PushedHead : List ℕ → List ℕ → Cutter → List ℕ → List ℕ → List ℕ → Event → Type 0
PushedHead magic tags cutter whole front taken More =
    (begins_unexpected tags (front ++ taken) ≡ false) × Stands magic cutter whole (InHead (front ++ taken))
PushedHead magic tags cutter whole front taken Unexpected = (begins_unexpected tags (front ++ taken) ≡ true) × IsLost cutter Unexpected
PushedHead magic tags cutter whole front taken (Head tag len) =
    IsHead tags tag len (front ++ taken) × StandsBehind magic cutter whole tag len [] (0 == len)
PushedHead magic tags cutter whole front taken _ = ⊥

-- in a value
abbrev pub PushedValue : List ℕ → Cutter → List ℕ → ℕ → ℕ → List ℕ → Event → Type 0
PushedValue magic cutter whole tag len value (Value all) =
    (length value ≤ len) × (all ≡ (length value == len)) × StandsBehind magic cutter whole tag len value all
PushedValue magic cutter whole tag len value _ = ⊥

-- What bytes gave that a cutter used, and where it stands with them.
abbrev pub Pushed : List ℕ → List ℕ → Cutter → List ℕ → Position → List ℕ → Event → Type 0
Pushed magic tags cutter whole (InMagic front) taken event = PushedMagic magic cutter whole front taken event
Pushed magic tags cutter whole (InHead front) taken event = PushedHead magic tags cutter whole front taken event
Pushed magic tags cutter whole (InValue tag len value) taken event = PushedValue magic cutter whole tag len (value ++ taken) event
