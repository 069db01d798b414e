-- The fingerprint of what is to stand.
use Rattle.local_db.specs.journal-log.declared.put.Want.{Want}
use Rattle.local_db.specs.journal-log.declared.put.Want.TheVariants.{Nothing, Dir, File, Link, Staged}
use Rattle.local_db.specs.journal-log.Targets.{node_of}
use Rattle.tree_scan.specs.declared.mark.Mark.{Mark}
use Rattle.tree_scan.specs.declared.mark.Mark.TheVariants as mark
use Rattle.tree_scan.specs.Marks.{fingerprint}

-- of the node; of a staged file, what its mode, size and name tell
abbrev pub mark_of_want : Want → Mark
mark_of_want (Staged mode number size name) = mark.File mode size name
mark_of_want Nothing = fingerprint (node_of Nothing)
mark_of_want (Dir mode) = fingerprint (node_of (Dir mode))
mark_of_want (File mode bytes) = fingerprint (node_of (File mode bytes))
mark_of_want (Link target) = fingerprint (node_of (Link target))
