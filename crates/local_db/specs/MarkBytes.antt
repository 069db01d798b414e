-- The bytes of fingerprints in rollback records.
use Rattle.std.specs.Prelude.{◌≡◌, ℕ, ◌<◌, ◌≤◌, ◌^◌, Bool, false, IsTrue, List, [], ◌∷◌, ◌++◌, length, Option, Some, None, if◌then◌else◌}
use Rattle.std.specs.Int.{w16, w32, to_be_bytes}
use Rattle.trove_stream.specs.cny-base.StrField.{str}
use Rattle.trove_stream.specs.cny-base.Target.{is_target}
use Rattle.tree_scan.specs.declared.mark.Mark.{Mark}
use Rattle.tree_scan.specs.declared.mark.Mark.TheVariants.{Nothing, Dir, File, Link}
use Rattle.tree_scan.specs.Marks.{same_mark}

-- a fingerprint that has bytes
abbrev pub IsMark : Mark → Type 0
IsMark Nothing = Unit {0}
IsMark (Dir mode) = mode ≤ 4095
IsMark (File mode size name) = (mode ≤ 4095) × (size < 2 ^ 32) × (length name ≡ 20)
IsMark (Link target) = IsTrue (is_target target)

-- `n`; `d` and the mode; `f`, the mode, the size and the name; `l` and the target
abbrev pub mark_bytes : Mark → List ℕ
mark_bytes Nothing = 110 ∷ []
mark_bytes (Dir mode) = 100 ∷ to_be_bytes w16 mode
mark_bytes (File mode size name) = 102 ∷ (to_be_bytes w16 mode ++ (to_be_bytes w32 size ++ name))
mark_bytes (Link target) = 108 ∷ str target

-- a list records this fingerprint at the path
abbrev pub tells : Option Mark → Mark → Bool
tells None mark = false
tells (Some told) mark = same_mark told mark

-- `=` exactly where the list records this fingerprint, else its own bytes
abbrev pub told_bytes : Option Mark → Mark → List ℕ
told_bytes recorded mark = if tells recorded mark then 61 ∷ [] else mark_bytes mark
