-- Contents that are kept by their names, as they come.
use Rattle.std.specs.Prelude.{◌≡◌, ℕ, if◌then◌else◌, List, [], ◌∷◌, Option, Some, None}
use Rattle.std.specs.BTreeMap.{is_at}
use Rattle.std.specs.Cmp.Lexicographic.{slice_cmp}
use Rattle.std.specs.Map.{lookup}
use Rattle.std.specs.Ordering.{nat_cmp}
use Rattle.std.specs.Str.{bytes_eq}
use Rattle.change_set.specs.cny-base.declared.refusal.Refusal.TheVariants.{Collision}
use Rattle.change_set.specs.cny-base.declared.refusal.Fault.{Fault}
use Rattle.change_set.specs.cny-base.declared.refusal.Fault.TheVariants as fault
use Rattle.change_set.specs.declared.change.Carried.{Carried}
use Rattle.manifest_troves.specs.Contents.{first_difference, put_content}

abbrev pub Entries : Type 0
Entries = List (List ℕ × List ℕ)

-- the bytes that are kept by this name
abbrev pub kept_by : List ℕ → Entries → Option (List ℕ)
kept_by name entries = lookup (is_at (slice_cmp nat_cmp name)) entries

abbrev pub unless_same : Carried → Option (List ℕ) → Option (List ℕ)
unless_same content None = None
unless_same content (Some other) = if bytes_eq other content.bytes then None else Some other

-- the bytes that are kept by the content's name, where they are others
abbrev pub differing : Entries → Carried → Option (List ℕ)
differing entries content = unless_same content (kept_by content.name entries)

-- the refusal of a content that differs from the one that is kept, or want of memory
abbrev pub IsDifference : Entries → Carried → Fault → Type 0
IsDifference entries content (fault.Refused refused) =
    (other : List ℕ) × (differing entries content ≡ Some other) × (refused ≡ Collision content.name (first_difference other content.bytes))
IsDifference entries content fault.Memory = Unit {0}

abbrev pub collision_then : Carried → Option (List ℕ) → Option (List ℕ × ℕ) → Option (List ℕ × ℕ)
collision_then content (Some other) later = Some (content.name, first_difference other content.bytes)
collision_then content None later = later

-- the first collision of the contents to come
abbrev pub collision_from : Entries → List Carried → Option (List ℕ × ℕ)
collision_from entries [] = None
collision_from entries (content ∷ contents) = collision_then content (differing entries content) (collision_from (put_content entries content) contents)

abbrev pub IsCollisionFrom : Entries → List Carried → Fault → Type 0
IsCollisionFrom entries contents (fault.Refused refused) = (name : List ℕ) × (at : ℕ) × (collision_from entries contents ≡ Some (name, at)) × (refused ≡ Collision name at)
IsCollisionFrom entries contents fault.Memory = Unit {0}
