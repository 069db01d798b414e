-- Fingerprints of what stands at a path, and of what a record describes.
use Rattle.std.specs.Prelude.{Bool, true, false, ◌&&◌, ◌==◌, length, Option, Some, None}
use Rattle.std.specs.Str.{bytes_eq}
use Rattle.std.specs.FinMap.{get}
use Rattle.sha1.specs.Sha1.{sha1}
use Rattle.tree_disk.specs.cny-base.declared.node.Node.{Node}
use Rattle.tree_disk.specs.cny-base.declared.node.Node.TheVariants as node
use Rattle.cny_stream.specs.declared.record.FileRec.{FileRec}
use Rattle.cny_stream.specs.declared.record.FileRec.TheVariants as rec
use Rattle.tree_disk.specs.Tree.{Name, Tree}
use Rattle.tree_scan.specs.declared.mark.Mark.{Mark}
use Rattle.tree_scan.specs.declared.mark.Mark.TheVariants.{Nothing, Dir, File, Link}

-- of what stands at a path: a file is told by its mode, its size and its SHA-1
abbrev pub fingerprint : Option Node → Mark
fingerprint None = Nothing
fingerprint (Some (node.Dir mode)) = Dir mode
fingerprint (Some (node.File mode bytes)) = File mode (length bytes) (sha1 bytes)
fingerprint (Some (node.Link target)) = Link target

-- what stands at a path of a tree
abbrev pub fingerprint_at : Tree → Name → Mark
fingerprint_at tree path = fingerprint (get tree path)

-- of the node that a record describes; owners and flags are no part of it
abbrev pub fingerprint_of_record : FileRec → Mark
fingerprint_of_record (rec.Dir mode owner) = Dir mode
fingerprint_of_record (rec.File mode owner flags size name) = File mode size name
fingerprint_of_record (rec.Link target) = Link target

-- whether two fingerprints are the same
abbrev pub same_mark : Mark → Mark → Bool
same_mark Nothing Nothing = true
same_mark (Dir m) (Dir n) = m == n
same_mark (File m s a) (File n t b) = m == n && (s == t && bytes_eq a b)
same_mark (Link a) (Link b) = bytes_eq a b
same_mark _ _ = false

-- whether what stands at a path is what a record describes
abbrev pub matches_record : Tree → Name → FileRec → Bool
matches_record tree path record_ = same_mark (fingerprint_at tree path) (fingerprint_of_record record_)

abbrev pub is_nothing : Mark → Bool
is_nothing Nothing = true
is_nothing _ = false

abbrev pub is_dir : Mark → Bool
is_dir (Dir mode) = true
is_dir _ = false

abbrev pub is_file : Mark → Bool
is_file (File mode size name) = true
is_file _ = false
