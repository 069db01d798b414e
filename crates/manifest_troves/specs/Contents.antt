-- The contents that a manifest carries: the first collision among them, and what is kept of them.
use Rattle.std.specs.Prelude.{◌≡◌, ℕ, suc, Bool, ◌&&◌, ◌==◌, not, if◌then◌else◌, List, [], ◌∷◌, ◌++◌, map, Option, Some, None}
use Rattle.std.specs.BTreeMap.{insert_entry}
use Rattle.std.specs.Cmp.Lexicographic.{slice_cmp}
use Rattle.std.specs.List.{fold, find}
use Rattle.std.specs.Ordering.{nat_cmp}
use Rattle.std.specs.Str.{bytes_eq}
use Rattle.change_set.specs.cny-base.declared.refusal.Refusal.TheVariants.{Collision}
use Rattle.change_set.specs.cny-base.declared.refusal.Fault.{Fault}
use Rattle.change_set.specs.cny-base.declared.refusal.Fault.TheVariants as fault
use Rattle.change_set.specs.declared.change.Carried.{Carried}

-- the first place at which they differ, or the shorter length
abbrev pub first_difference : List ℕ → List ℕ → ℕ
first_difference [] other = 0
first_difference (b ∷ bytes) [] = 0
first_difference (b ∷ bytes) (c ∷ other) = if b == c then suc (first_difference bytes other) else 0

-- another content with the same name
abbrev pub collides : Carried → Carried → Bool
collides content other = bytes_eq other.name content.name && not (bytes_eq other.bytes content.bytes)

abbrev pub collision_by : Carried → Option Carried → Option (List ℕ × ℕ) → Option (List ℕ × ℕ)
collision_by content (Some other) later = Some (content.name, first_difference other.bytes content.bytes)
collision_by content None later = later

-- The name of the first content that differs from an earlier one of its name, and where they differ.
abbrev pub collision_behind : List Carried → List Carried → Option (List ℕ × ℕ)
collision_behind earlier [] = None
collision_behind earlier (content ∷ contents) =
    collision_by content (find (collides content) earlier) (collision_behind (earlier ++ content ∷ []) contents)

abbrev pub first_collision : List Carried → Option (List ℕ × ℕ)
first_collision contents = collision_behind [] contents

abbrev pub put_content : List (List ℕ × List ℕ) → Carried → List (List ℕ × List ℕ)
put_content entries content = insert_entry (slice_cmp nat_cmp) entries content.name content.bytes

abbrev pub carried_of : List ℕ × List ℕ → Carried
carried_of entry = record { name = entry.0; bytes = entry.1 }

-- each name once, in the order of their bytes
abbrev pub contents_of : List Carried → List Carried
contents_of contents = map carried_of (fold put_content [] contents)

-- the refusal of the first collision, or want of memory
abbrev pub IsCollisionOf : List Carried → Fault → Type 0
IsCollisionOf contents (fault.Refused refused) = (name : List ℕ) × (at : ℕ) × (first_collision contents ≡ Some (name, at)) × (refused ≡ Collision name at)
IsCollisionOf contents fault.Memory = Unit {0}
