-- The stream of a change set as it comes.
use Rattle.std.specs.Prelude.{ℕ, nat_lt, false, List, ◌++◌, length, flat_map}
use Rattle.change_set.specs.cny-base.declared.limits.TheConstants.{PARTS_LIMIT}
use Rattle.change_set.specs.declared.change.ChangeSet.{ChangeSet}
use Rattle.change_set.specs.ChangeSet.{magic, part_bytes, content_bytes}
use Rattle.change_set.specs.FirstFault.{tags_after}
use Rattle.change_set.specs.Reading.{last_name}

-- the stream of a change set without its end item
abbrev pub front_bytes : ChangeSet → List ℕ
front_bytes set = magic ++ (flat_map part_bytes set.parts ++ flat_map content_bytes set.contents)

-- the tags of the items that may follow it
abbrev pub tags_behind_set : ChangeSet → List ℕ
tags_behind_set set = tags_after false (nat_lt (length set.parts) PARTS_LIMIT) (last_name set.contents)
