-- What is read at the name of a file.
use Rattle.std.specs.Prelude.{List, ℕ, [], ◌∷◌, Option, Some, None}
use Rattle.repo_index.specs.cny-base.declared.node.Node.{Node}
use Rattle.repo_index.specs.cny-base.declared.node.Node.TheVariants as node
use Rattle.journal_log.specs.Walk.{stream_read}
use Rattle.repo_load.specs.declared.reading.Seen.{Seen}
use Rattle.repo_load.specs.declared.reading.Seen.TheVariants as seen
use Rattle.repo_load.specs.Files.{magic}

-- the tags of the items of a commit: a trove, and the end
abbrev pub tags : List ℕ
tags = 0x40 ∷ 0x4F ∷ []

-- the bytes that were read of a file, if any
abbrev pub seen_of : Option (List ℕ) → Seen
seen_of (Some bytes) = seen.File bytes
seen_of None = seen.Other

-- a file of these bytes, as it is read: a large one only where it is a stream of such items
abbrev pub file_as : List ℕ → Seen
file_as bytes = seen_of (stream_read magic tags bytes)

-- what stands there, as it is read
abbrev pub seen_as : Option Node → Seen
seen_as None = seen.Nothing
seen_as (Some (node.File mode bytes)) = file_as bytes
seen_as (Some (node.Dir mode)) = seen.Other
seen_as (Some (node.Link target)) = seen.Other
