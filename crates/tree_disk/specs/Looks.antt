-- What a look at a path shows.
use Rattle.std.specs.Prelude.{ℕ, Bool, true, false, Option, Some, None}
use Rattle.tree_disk.specs.declared.disk.Look.{Look}
use Rattle.tree_disk.specs.declared.disk.Look.TheVariants as look

abbrev pub sees_nothing : Look → Bool
sees_nothing look.Nothing = true
sees_nothing _ = false

abbrev pub sees_dir : Look → Bool
sees_dir (look.Dir mode) = true
sees_dir _ = false

abbrev pub sees_file : Look → Bool
sees_file (look.File mode size) = true
sees_file _ = false

abbrev pub sees_link : Look → Bool
sees_link (look.Link target) = true
sees_link _ = false

-- the size of the file that is seen
abbrev pub size_seen : Look → Option ℕ
size_seen (look.File mode size) = Some size
size_seen _ = None
