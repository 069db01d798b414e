-- Fingerprints by what was seen.
use Rattle.std.specs.Prelude.{ℕ, Bool, false, ◌==◌, List}
use Rattle.cny_stream.specs.declared.record.FileRec.{FileRec}
use Rattle.cny_stream.specs.declared.record.FileRec.TheVariants as rec
use Rattle.tree_disk.specs.declared.disk.Look.{Look}
use Rattle.tree_disk.specs.declared.disk.Look.TheVariants as look
use Rattle.tree_scan.specs.declared.mark.Mark.{Mark}
use Rattle.tree_scan.specs.declared.mark.Mark.TheVariants.{Nothing, Dir, File, Link}

-- the fingerprint of what was seen; of a file, its bytes have this name
abbrev pub mark_of_look : Look → List ℕ → Mark
mark_of_look look.Nothing name = Nothing
mark_of_look (look.Dir mode) name = Dir mode
mark_of_look (look.File mode size) name = File mode size name
mark_of_look (look.Link target) name = Link target

-- whether the record describes a file of this size
abbrev pub has_size : FileRec → ℕ → Bool
has_size (rec.Dir mode owner) size = false
has_size (rec.File mode owner flags of_rec name) size = of_rec == size
has_size (rec.Link target) size = false
