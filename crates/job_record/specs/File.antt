-- What is read at the name of a record.
use Rattle.std.specs.Prelude.{List, ℕ, [], ◌∷◌, Option, Some, None}
use Rattle.local_db.specs.cny-base.declared.node.Node.{Node}
use Rattle.local_db.specs.cny-base.declared.node.Node.TheVariants.{Dir, File, Link}
use Rattle.journal_log.specs.Walk.{stream_read}
use Rattle.local_db.specs.declared.format.Format.{Format}
use Rattle.local_db.specs.Formats.{record_magic}

-- the tags of the items of a record: the number, the three kinds of deltas, an entry, and the end
abbrev pub record_tags : List ℕ
record_tags = 0x60 ∷ 0x64 ∷ 0x65 ∷ 0x66 ∷ 0x67 ∷ 0x6F ∷ []

-- the bytes of a file: those of a large one only where it is a stream of such items
abbrev pub record_read : Format → Option Node → Option (List ℕ)
record_read f (Some (File mode bytes)) = stream_read (record_magic f) record_tags bytes
record_read f (Some (Dir mode)) = None
record_read f (Some (Link target)) = None
record_read f None = None
