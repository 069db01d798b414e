-- What two lists of troves record of a path, claim by claim.
use Rattle.std.specs.Prelude.{ℕ, ◌&&◌, ◌||◌, if◌then◌else◌, List, [], ◌∷◌, Option, Some, None, is_some}
use Rattle.trove_stream.specs.cny-stream.declared.record.FileRec.{FileRec}
use Rattle.trove_stream.specs.cny-stream.Record.{is_dir}
use Rattle.conflict_plan.specs.declared.records.Shared.{Shared}
use Rattle.conflict_plan.specs.declared.records.Recorded.{Recorded}
use Rattle.conflict_plan.specs.declared.records.Side.{Side}
use Rattle.conflict_plan.specs.declared.records.Side.TheVariants.{Old, Fresh}
use Rattle.conflict_plan.specs.Claims.{Claim}

-- the first record
abbrev pub kept : Option FileRec → FileRec → FileRec
kept None rec = rec
kept (Some first) rec = first

-- the first record, the name of its trove, and that of the first that can't share the path
abbrev pub shared : Option Shared → List ℕ → FileRec → Shared
shared None name rec = record { rec = rec; first = name; second = None }
shared (Some before) name rec =
    if ((is_dir before.rec && is_dir rec) || is_some before.second) then before
    else record { rec = before.rec; first = before.first; second = Some name }

-- after one more claim of a side
abbrev pub noted : Side → Recorded → Claim → Recorded
noted Old before claim = record { old = Some (kept before.old claim.1); fresh = before.fresh }
noted Fresh before claim = record { old = before.old; fresh = Some (shared before.fresh claim.0 claim.1) }

abbrev pub or_nothing : Option Recorded → Recorded
or_nothing None = record { old = None; fresh = None }
or_nothing (Some before) = before

-- after all these claims of a side
abbrev pub noted_all : Side → List Claim → Option Recorded → Option Recorded
noted_all side [] before = before
noted_all side (claim ∷ claims) before = noted_all side claims (Some (noted side (or_nothing before) claim))

abbrev pub record_of : Option Shared → Option FileRec
record_of None = None
record_of (Some shared) = Some shared.rec

abbrev pub second_of : Option Shared → Option (List ℕ)
second_of None = None
second_of (Some shared) = shared.second
