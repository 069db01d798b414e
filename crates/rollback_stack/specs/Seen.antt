-- What is seen at the name of a database that may be one of format 1.
use Rattle.std.specs.Prelude.{List, ℕ, nat_le, length, if◌then◌else◌, Option, Some, None}
use Rattle.job_targets.specs.cny-base.Below.{begins_with}
use Rattle.job_targets.specs.cny-base.declared.limits.TheConstants.{FORMAT_1_DATABASE_LIMIT}
use Rattle.job_targets.specs.cny-base.declared.node.Node.{Node}
use Rattle.job_targets.specs.cny-base.declared.node.Node.TheVariants as node
use Rattle.job_targets.specs.tree-disk.declared.disk.Look.{Look}
use Rattle.job_targets.specs.tree-disk.declared.disk.Look.TheVariants as look
use Rattle.local_db.specs.declared.format.Format.TheVariants.{Two}
use Rattle.local_db.specs.Formats.{database_magic}
use Rattle.rollback_stack.specs.declared.migration.Seen.{Seen}
use Rattle.rollback_stack.specs.declared.migration.Seen.TheVariants as seen

-- a file of these bytes: read where it isn't of format 2, and no larger than one of format 1
abbrev pub file_as : List ℕ → Seen
file_as bytes = if begins_with (database_magic Two) bytes then seen.Current
    else if nat_le (length bytes) FORMAT_1_DATABASE_LIMIT then seen.File bytes else seen.Other

-- what stands there
abbrev pub seen_as : Option Node → Seen
seen_as None = seen.Current
seen_as (Some (node.File mode bytes)) = file_as bytes
seen_as (Some (node.Dir mode)) = seen.Other
seen_as (Some (node.Link target)) = seen.Other

-- the same, where no file was looked at
abbrev pub no_file_as : Look → Seen
no_file_as look.Nothing = seen.Current
no_file_as (look.Dir mode) = seen.Other
no_file_as (look.File mode size) = seen.Other
no_file_as (look.Link target) = seen.Other
