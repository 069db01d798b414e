-- What is written of what was seen at a path.
use Rattle.std.specs.Prelude.{◌≡◌, ℕ, ◌≤◌, true, false, Bool, IsTrue, List, ◌++◌, length, flat_map, Option, All, codes}
use Rattle.std.specs.Io.KnownBytes.{Appends}
use Rattle.std.specs.List.{AllZip}
use Rattle.tree_disk.specs.cny-base.Path.{is_path}
use Rattle.tree_disk.specs.Rows.{bytes_at, is_file_at}
use Rattle.tree_disk.specs.Tree.{Name, Tree}
use Rattle.tree_disk.specs.declared.disk.Look.{Look}
use Rattle.tree_disk.specs.declared.disk.Look.TheVariants as look
use Rattle.manifest_troves.specs.cny-stream.Owner.{OwnerNames, is_owner}
use Rattle.manifest_troves.specs.cny-stream.declared.record.Flags.{Flags}
use Rattle.cny_manifest.specs.Lines.{with_feed}
use Rattle.cny_manifest.specs.Spelling.{Entry, DirEntry, FileEntry, LinkEntry, IsEntry, entry_items, file_line}
use Rattle.cny_pack.specs.Patterns.{is_any}
use Rattle.cny_pack.specs.declared.pattern.Pattern.{Pattern}
use Rattle.cny_pack.specs.declared.plan.Sight.{Sight}

-- a file at a pattern's path is a configuration file, and no file is initial or transient
abbrev pub flags_at : List Pattern → Name → Flags
flags_at config path = record { config = is_any config path; initial = false; transient = false }

-- a file of so many bytes stands there
pub record IsFileOf (t : Tree) (path : Name) (size : ℕ) : Type 0 where
  pub stands : IsTrue (is_file_at t path)
  pub long : length (bytes_at t path) ≡ size

-- so many bytes, and those of the file at the path where the disk tells its tree
pub record IsContent (tells : Bool) (t : Tree) (path : Name) (size : ℕ) (content : List ℕ) : Type 0 where
  pub long : length content ≡ size
  pub told : IsTrue tells → content ≡ bytes_at t path

-- an owner that was told of the path
pub record IsNamed (tell : Name → OwnerNames → Type 0) (path : Name) (owner : OwnerNames) : Type 0 where
  pub owns : tell path owner
  pub valid : IsTrue (is_owner owner)

-- the line of a file at the path, and what makes it one
pub record IsFileLine (owns : Name → OwnerNames → Type 0) (config : List Pattern) (path : Name) (mode size : ℕ) (line : List ℕ) : Type 0 where
  pub owner : OwnerNames
  pub named : IsNamed owns path owner
  pub path_is : IsTrue (is_path path)
  pub mode_is : mode ≤ 4095
  pub spelled : line ≡ file_line true path mode owner (flags_at config path) size

-- the lines of an entry, with its content or its target
abbrev pub entry_text : Entry → List ℕ
entry_text entry = flat_map with_feed (entry_items true entry)

abbrev pub entries_text : List Entry → List ℕ
entries_text entries = flat_map entry_text entries

module _ (owns : Name → OwnerNames → Type 0) (config : List Pattern) (tells : Bool) (t : Tree) where
  -- An entry of the same kind, mode and target, with an owner that was told, and with a content.
  abbrev pub IsEntryFor : Name → Look → Entry → Type 0
  IsEntryFor path look.Nothing entry = ⊥
  IsEntryFor path (look.Dir mode) entry = (owner : OwnerNames) × owns path owner × (entry ≡ DirEntry path mode owner)
  IsEntryFor path (look.File mode size) entry =
      (owner : OwnerNames) × (content : List ℕ) × owns path owner × IsContent tells t path size content
      × (entry ≡ FileEntry path mode owner (flags_at config path) content)
  IsEntryFor path (look.Link target) entry = entry ≡ LinkEntry path target

  abbrev pub IsEntryOfSight : Sight → Entry → Type 0
  IsEntryOfSight sight entry = IsEntryFor sight.path sight.look entry

  -- one entry was written
  pub record GivesEntry (path : Name) (look : Look) (old new : Option (List ℕ)) : Type 0 where
    pub entry : Entry
    pub is : IsEntryFor path look entry
    pub valid : IsEntry true entry
    pub given : Appends old new (entry_text entry)

  -- an entry of each was written, in their order
  pub record GivesEntries (sights : List Sight) (old new : Option (List ℕ)) : Type 0 where
    pub entries : List Entry
    pub are : AllZip IsEntryOfSight sights entries
    pub valid : All (IsEntry true) entries
    pub given : Appends old new (entries_text entries)

  -- these first lines were written, an entry of each, and the line `end`
  pub record GivesAll (text : List ℕ) (sights : List Sight) (old new : Option (List ℕ)) : Type 0 where
    pub entries : List Entry
    pub are : AllZip IsEntryOfSight sights entries
    pub valid : All (IsEntry true) entries
    pub given : Appends old new (text ++ (entries_text entries ++ with_feed (codes "end")))
