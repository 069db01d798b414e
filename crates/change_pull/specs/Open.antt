-- What a reading stands for: the bytes that were given, as long as they decide nothing.
use Rattle.std.specs.Prelude.{◌≡◌, ◌⊎◌, ℕ, ◌+◌, ◌<◌, ◌≤◌, ◌^◌, ◌==◌, Bool, true, false, IsTrue, List, [], ◌++◌, length, drop, Option, Some, None}
use Rattle.cny_stream.specs.Item.{FitsItem, item_bytes, is_expected, begins_unexpected}
use Rattle.cny_stream.specs.Cut.{Position, InMagic, InHead, InValue, Stands, StandsBehind, Pushed, PushedMagic, PushedHead, open_bytes}
use Rattle.cny_stream.specs.declared.cutter.Event.{Event}
use Rattle.cny_stream.specs.declared.cutter.Event.TheVariants.{Value}
use Rattle.journal_log.specs.tree-disk.Tree.{Name}
use Rattle.journal_log.specs.tree-disk.Disk.{DiskModel}
use Rattle.change_set.specs.cny-base.declared.limits.TheConstants.{CONTENT_ITEM_LIMIT}
use Rattle.change_set.specs.declared.change.Carried.{Carried}
use Rattle.change_set.specs.declared.change.ChangeSet.{ChangeSet}
use Rattle.change_set.specs.ChangeSet.{magic, change_bytes, IsChangeSet}
use Rattle.change_set.specs.Index.{IsIndexOf}
use Rattle.change_pull.specs.declared.item.Item.{Item}
use Rattle.change_pull.specs.declared.reading.Reading.{Reading}
use Rattle.change_pull.specs.Files.{HoldsFiles, files_of, staged_of}
use Rattle.change_pull.specs.Front.{front_bytes, tags_behind_set}
use Rattle.change_pull.specs.Gathered.{IsGathered}

-- the change set of no parts and no contents
abbrev pub no_set : ChangeSet
no_set = record { parts = []; contents = [] }

-- ---- what was kept

-- the parts that were read, and the contents that were written below a directory
pub record HasKept (reading : Reading) (dir : Name) (set : ChangeSet) : Type 0 where
  pub parts : reading.parts.items ≡ set.parts
  pub staged : reading.staged.items ≡ staged_of dir set.contents
  pub index : IsIndexOf set.parts reading.index

-- the value of an item that isn't whole
pub record IsOpenValue (set : ChangeSet) (item : Item) (tag len : ℕ) (value : List ℕ) (written : Option (List ℕ)) : Type 0 where
  pub expected : IsTrue (is_expected (tags_behind_set set) tag)
  pub small : tag ≡ 0x12 → len ≤ CONTENT_ITEM_LIMIT
  pub fits : len < 2 ^ 32
  pub gathered : IsGathered item tag len value written

-- ---- where it stands

-- before the magic, with so much of it
pub record InTheMagic (reading : Reading) (front : List ℕ) : Type 0 where
  pub count : reading.given ≡ length front
  pub start : reading.start ≡ 0
  pub goes_on : reading.ended ≡ false

-- behind the items of a change set, with so many bytes of the next one
pub record BehindItems (reading : Reading) (set : ChangeSet) (more : ℕ) : Type 0 where
  pub set_is : IsChangeSet set
  pub start : reading.start ≡ length (front_bytes set)
  pub count : reading.given ≡ length (front_bytes set) + more
  pub goes_on : reading.ended ≡ false

-- behind the end of a change set, with so many bytes more
pub record BehindEnd (reading : Reading) (set : ChangeSet) (more : ℕ) : Type 0 where
  pub set_is : IsChangeSet set
  pub start : reading.start ≡ length (change_bytes set)
  pub count : reading.given ≡ length (change_bytes set) + more
  pub ended : reading.ended ≡ true

-- what there is of the next item, and what of it was written
abbrev pub IsNextOpen : ChangeSet → Item → Position → Option (List ℕ) → Type 0
IsNextOpen set item (InMagic front) written = ⊥
IsNextOpen set item (InHead front) written = (begins_unexpected (tags_behind_set set) front ≡ false) × (written ≡ None)
IsNextOpen set item (InValue tag len value) written = IsOpenValue set item tag len value written

-- Some of the magic was given; or the items of a change set, and some of the next one; or a whole change set.
abbrev pub IsOpenAt : Reading → List ℕ → ChangeSet → Option (List ℕ) → Type 0
IsOpenAt reading given set written =
    ((set ≡ no_set) × (written ≡ None) × Stands magic reading.cutter [] (InMagic given) × InTheMagic reading given)
    ⊎ ((position : Position) × Stands magic reading.cutter (front_bytes set) position × BehindItems reading set (length (open_bytes position))
    × IsNextOpen set reading.item position written × (given ≡ front_bytes set ++ open_bytes position))
    ⊎ ((written ≡ None) × Stands magic reading.cutter (change_bytes set) (InHead []) × BehindEnd reading set 0 × (given ≡ change_bytes set))

-- These bytes were given, and below this directory the contents are to stand that are whole, and what was written of the next.
pub record IsOpen (reading : Reading) (dir : Name) (given : List ℕ) : Type 0 where
  pub set : ChangeSet
  pub written : Option (List ℕ)
  pub kept : HasKept reading dir set
  pub is_at : IsOpenAt reading given set written

-- the files that are to stand
abbrev pub files : {reading : Reading} {dir : Name} {given : List ℕ} → IsOpen reading dir given → List (List ℕ)
files it = files_of it.set.contents it.written

-- these bytes were given, and these files are to stand
abbrev pub IsOpenWith : Reading → Name → List ℕ → List (List ℕ) → Type 0
IsOpenWith reading dir given wanted = (it : IsOpen reading dir given) × (files it ≡ wanted)

-- ---- the next bytes, before what they give is decided

-- all bytes of a content were written
abbrev pub IsWritten : ℕ → List ℕ → Option (List ℕ) → Type 0
IsWritten tag value written = tag ≡ 0x12 → 20 ≤ length value → written ≡ Some (drop 20 value)

-- where the value is whole
abbrev pub IfWhole : Event → Type 0 → Type 0
IfWhole (Value true) P = P
IfWhole _ P = Unit {0}

-- the value that they belong to has them
abbrev pub HasTaken : ChangeSet → Item → Position → List ℕ → Event → Option (List ℕ) → Type 0
HasTaken set item (InMagic front) taken event written = ⊥
HasTaken set item (InHead front) taken event written = written ≡ None
HasTaken set item (InValue tag len value) taken event written =
    IsOpenValue set item tag len (value ++ taken) written × IfWhole event (IsWritten tag (value ++ taken) written)

abbrev pub IsPushedAt : Reading → List ℕ → Event → ChangeSet → Option (List ℕ) → Type 0
IsPushedAt reading given event set written =
    ((set ≡ no_set) × (written ≡ None) × ((front taken : List ℕ) × PushedMagic magic reading.cutter [] front taken event × (given ≡ front ++ taken)) × InTheMagic reading given)
    ⊎ ((position : Position) × (taken : List ℕ) × Pushed magic (tags_behind_set set) reading.cutter (front_bytes set) position taken event
    × BehindItems reading set (length (open_bytes position) + length taken) × HasTaken set reading.item position taken event written × (given ≡ front_bytes set ++ (open_bytes position ++ taken)))
    ⊎ ((taken : List ℕ) × (written ≡ None) × PushedHead magic [] reading.cutter (change_bytes set) [] taken event × BehindEnd reading set (length taken) × (given ≡ change_bytes set ++ taken))

-- These bytes were given, and what they gave isn't decided yet.
pub record IsPushed (reading : Reading) (dir : Name) (given : List ℕ) (event : Event) (wanted : List (List ℕ)) : Type 0 where
  pub set : ChangeSet
  pub written : Option (List ℕ)
  pub kept : HasKept reading dir set
  pub is_at : IsPushedAt reading given event set written
  pub files : files_of set.contents written ≡ wanted

-- ---- an item

-- the head of the next item is whole, with this tag and this length
pub record IsBegun (reading : Reading) (dir : Name) (set : ChangeSet) (tag len : ℕ) : Type 0 where
  pub kept : HasKept reading dir set
  pub behind : BehindItems reading set 5
  pub expected : IsTrue (is_expected (tags_behind_set set) tag)
  pub fits : len < 2 ^ 32
  pub cutter : StandsBehind magic reading.cutter (front_bytes set) tag len [] (0 == len)

-- the next item is whole, with this tag and this value
pub record IsWhole (reading : Reading) (dir : Name) (set : ChangeSet) (tag : ℕ) (value : List ℕ) (written : Option (List ℕ)) : Type 0 where
  pub kept : HasKept reading dir set
  pub behind : BehindItems reading set (5 + length value)
  pub item : IsOpenValue set reading.item tag (length value) value written
  pub fits : FitsItem value
  pub all : IsWritten tag value written
  pub cutter : Stands magic reading.cutter (front_bytes set ++ item_bytes tag value) (InHead [])

-- ---- feeding

-- Where these contents stand, and so much of the next one, they stand with so much more of it afterwards.
abbrev pub FilesGrow : {D : Type 0} → DiskModel D → Name → D → D → ℕ → Option (List ℕ) → Option (List ℕ) → Type 0
FilesGrow disk dir old new count written more =
    IsTrue disk.tells → (contents : List Carried) → length contents ≡ count
    → HoldsFiles (disk.reads old) dir (files_of contents written) → HoldsFiles (disk.reads new) dir (files_of contents more)

-- What is kept of the item's value gains these bytes; where it is a content's and whole, all of its bytes were written.
abbrev pub Gains : {D : Type 0} → DiskModel D → Name → D → D → Reading → Reading → List ℕ → Bool → Type 0
Gains disk dir old new before after bytes whole =
    (tag len : ℕ) (value : List ℕ) (written : Option (List ℕ)) → IsGathered before.item tag len value written
    → (now : Option (List ℕ)) × IsGathered after.item tag len (value ++ bytes) now
    × (whole ≡ true → IsWritten tag (value ++ bytes) now)
    × FilesGrow disk dir old new (length before.staged.items) written now

-- the same for what bytes gave: only those of a value are kept
abbrev pub Gathers : {D : Type 0} → DiskModel D → Name → D → D → Reading → Reading → List ℕ → Event → Type 0
Gathers disk dir old new before after bytes (Value whole) = Gains disk dir old new before after bytes whole
Gathers disk dir old new before after bytes _ = (after ≡ before) × (IsTrue disk.tells → disk.reads new ≡ disk.reads old)

-- From the bytes that were given to more of them, and of the files that are to stand those that do.
abbrev pub Advances : {D : Type 0} → DiskModel D → Name → D → D → Reading → Reading → List ℕ → List ℕ → Type 0
Advances disk dir old new before after given more =
    (it : IsOpen before dir given) → (now : IsOpen after dir more)
    × (IsTrue disk.tells → HoldsFiles (disk.reads old) dir (files it) → HoldsFiles (disk.reads new) dir (files now))
