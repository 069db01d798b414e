-- The lines of directories, files and links.
use Rattle.std.specs.Prelude.{ℕ, Bool, true, false, List, length, take, drop, Option, Some, None, if◌then◌else◌, codes}
use Rattle.std.specs.List.{position}
use Rattle.std.specs.Str.{bytes_eq}
use Rattle.manifest_troves.specs.cny-base.Name.{is_colon}
use Rattle.manifest_troves.specs.cny-base.Path.{is_path}
use Rattle.manifest_troves.specs.cny-base.Target.{is_target}
use Rattle.manifest_troves.specs.cny-stream.declared.record.Flags.{Flags}
use Rattle.manifest_troves.specs.cny-stream.Owner.{OwnerNames, is_owner, root_owner}
use Rattle.cny_manifest.specs.declared.entries.DirLine.{DirLine}
use Rattle.cny_manifest.specs.declared.entries.FileLine.{FileLine}
use Rattle.cny_manifest.specs.Lines.{◌&>◌, cut_at, field_at, after, mode_of, size_of}

abbrev pub path_of : List ℕ → Option (List ℕ)
path_of text = if is_path text then Some text else None

abbrev pub names_if : List ℕ × List ℕ → Option OwnerNames
names_if names = if is_owner (record { user = names.0; group = names.1 }) then Some (record { user = names.0; group = names.1 }) else None

-- `USER:GROUP`
unfoldable pub owner_of : List ℕ → Option OwnerNames
owner_of text = cut_at text (position is_colon text) &> names_if

-- the owner, where one is named, and what is behind it; else root
unfoldable pub owner_at : Bool → List ℕ → Option (OwnerNames × List ℕ)
owner_at false text = Some (root_owner, text)
owner_at true text = field_at text &> λ front. owner_of front.0 &> λ owner. Some (owner, front.1)

-- `MODE [USER:GROUP] PATH`
unfoldable pub dir_of : Bool → List ℕ → Option DirLine
dir_of owners text =
    field_at text &> λ first. mode_of first.0 &> λ mode. owner_at owners first.1 &> λ owned. path_of owned.1 &> λ path.
    Some (record { mode = mode; owner = owned.0; path = path })

-- whether the word is at the front
abbrev pub begins_as : List ℕ → List ℕ → Bool
begins_as front text = bytes_eq (take (length front) text) front

-- what is behind the word, if it is at the front
abbrev pub behind : List ℕ → List ℕ → List ℕ
behind front text = if begins_as front text then drop (length front) text else text

-- `[config] [initial] [transient]`, in this order
abbrev pub flags_of : List ℕ → Flags
flags_of text =
    record {
      config = begins_as (codes "config ") text;
      initial = begins_as (codes "initial ") (behind (codes "config ") text);
      transient = begins_as (codes "transient ") (behind (codes "initial ") (behind (codes "config ") text));
    }

abbrev pub behind_flags : List ℕ → List ℕ
behind_flags text = behind (codes "transient ") (behind (codes "initial ") (behind (codes "config ") text))

-- `[USER:GROUP] [config] [initial] [transient] PATH`
unfoldable pub sized_file : Bool → ℕ → ℕ → List ℕ → Option FileLine
sized_file owners mode size text =
    owner_at owners text &> λ owned. path_of (behind_flags owned.1) &> λ path.
    Some (record { mode = mode; size = size; owner = owned.0; flags = flags_of owned.1; path = path })

-- `MODE SIZE`, and that
unfoldable pub file_of : Bool → List ℕ → Option FileLine
file_of owners text =
    field_at text &> λ first. mode_of first.0 &> λ mode. field_at first.1 &> λ second. size_of second.0 &> λ size. sized_file owners mode size second.1

-- `target TARGET`
unfoldable pub target_of : List ℕ → Option (List ℕ)
target_of text = after (codes "target ") text &> λ target. if is_target target then Some target else None
