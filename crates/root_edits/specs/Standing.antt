-- Files by what stands at their paths: their records, the contents that are carried, and files that are too large.
use Rattle.std.specs.Prelude.{◌≡◌, if◌then◌else◌, nat_lt, List, [], ◌∷◌, length, map, Option, Some, None}
use Rattle.std.specs.FinMap.{get}
use Rattle.std.specs.List.{filter_map}
use Rattle.std.specs.Option.{option_map, option_or}
use Rattle.sha1.specs.Sha1.{sha1}
use Rattle.update_job.specs.cny-base.declared.limits.TheConstants.{CONTENT_LIMIT}
use Rattle.update_job.specs.cny-base.declared.node.Node.{Node}
use Rattle.update_job.specs.cny-base.declared.node.Node.TheVariants as node
use Rattle.update_job.specs.cny-base.declared.refusal.Refusal.{Refusal}
use Rattle.update_job.specs.cny-base.declared.refusal.Refusal.TheVariants as refusal
use Rattle.update_job.specs.cny-base.declared.refusal.What.TheVariants as what
use Rattle.update_job.specs.cny-base.declared.stop.Stop.{Stop}
use Rattle.update_job.specs.cny-stream.declared.record.FileRec.{FileRec}
use Rattle.update_job.specs.cny-stream.declared.record.FileRec.TheVariants.{Dir, File, Link}
use Rattle.update_job.specs.cny-stream.Record.{flags_of, has_name_and_size}
use Rattle.update_job.specs.cny-stream.Owner.{OwnerNames, root_owner}
use Rattle.update_job.specs.trove-parts.declared.files.FileAt.{FileAt}
use Rattle.update_job.specs.change-set.declared.change.Carried.{Carried}
use Rattle.tree_scan.specs.tree-disk.Tree.{Tree}
use Rattle.tree_scan.specs.OnlyReads.{IsStopBy}

-- a recorded path, and what stands there
pub record Sight : Type 0 where
  pub file : FileAt
  pub node : Option Node

abbrev pub sight_of : Tree → FileAt → Sight
sight_of tree file = record { file = file; node = get tree file.path }

-- at each of the recorded paths
abbrev pub sights : Tree → List FileAt → List Sight
sights tree files = map (sight_of tree) files

-- ---- records

-- the owner that a record names; root, where it is that of a link
abbrev pub owner_of : FileRec → OwnerNames
owner_of (Dir mode owner) = owner
owner_of (File mode owner flags size name) = owner
owner_of (Link target) = root_owner

-- The record of what stands where this one was: kind and mode, size and SHA-1, and target are those of what stands; the owner stays,
-- and the flags of a file stay with a file.
abbrev pub record_of : FileRec → Node → FileRec
record_of r (node.Dir mode) = Dir mode (owner_of r)
record_of r (node.File mode bytes) = File mode (owner_of r) (flags_of r) (length bytes) (sha1 bytes)
record_of r (node.Link target) = Link target

abbrev pub file_with : FileAt → Node → FileAt
file_with file n = record { path = file.path; rec = record_of file.rec n }

-- the file that stands at the path, if anything does
abbrev pub local_file : Sight → Option FileAt
local_file s = option_map (file_with s.file) s.node

-- the files that stand, in the order of their paths
abbrev pub local_files : List Sight → List FileAt
local_files seen = filter_map local_file seen

-- ---- contents

-- the content of a file that stands, unless the record has it already
abbrev pub content_of_node : FileRec → Option Node → Option Carried
content_of_node r (Some (node.File mode bytes)) = if has_name_and_size (sha1 bytes) (length bytes) r then None else Some (record { name = sha1 bytes; bytes = bytes })
content_of_node r (Some (node.Dir mode)) = None
content_of_node r (Some (node.Link target)) = None
content_of_node r None = None

abbrev pub local_content : Sight → Option Carried
local_content s = content_of_node s.file.rec s.node

-- the contents that are carried, path by path
abbrev pub local_contents : List Sight → List Carried
local_contents seen = filter_map local_content seen

-- ---- files that are too large

abbrev pub too_large_node : Option Node → Option Refusal
too_large_node (Some (node.File mode bytes)) = if nat_lt CONTENT_LIMIT (length bytes) then Some (refusal.TooLarge what.Local (length bytes)) else None
too_large_node (Some (node.Dir mode)) = None
too_large_node (Some (node.Link target)) = None
too_large_node None = None

-- the refusal of the first path at which a file of more than 16,777,216 bytes stands
abbrev pub too_large : List Sight → Option Refusal
too_large [] = None
too_large (s ∷ seen) = option_or (too_large_node s.node) (too_large seen)

-- a file is too large
abbrev pub IsSizeRefusal : Refusal → Type 0
IsSizeRefusal (refusal.TooLarge kind size) = kind ≡ what.Local
IsSizeRefusal _ = ⊥

-- so refused, and for nothing else; or a fault, or want of memory
abbrev pub IsSizeStop : Stop → Type 0
IsSizeStop stop = IsStopBy IsSizeRefusal stop
