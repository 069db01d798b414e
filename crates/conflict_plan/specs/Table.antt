-- The conflict table: what becomes of a path. The first row that applies decides.
use Rattle.std.specs.Prelude.{ℕ, Bool, false, ◌&&◌, ◌||◌, if◌then◌else◌, List, Option, Some, None}
use Rattle.trove_stream.specs.cny-base.Reserved.{is_pinned}
use Rattle.trove_stream.specs.cny-base.declared.options.Options.{Options}
use Rattle.trove_stream.specs.cny-stream.declared.record.FileRec.{FileRec}
use Rattle.trove_stream.specs.cny-stream.Record.{flags_of, is_dir}
use Rattle.tree_scan.specs.declared.mark.Mark.{Mark}
use Rattle.tree_scan.specs.Marks as marks
use Rattle.tree_scan.specs.Marks.{fingerprint_of_record, same_mark, is_nothing}
use Rattle.conflict_plan.specs.declared.table.Outcome.{Outcome}
use Rattle.conflict_plan.specs.declared.table.Outcome.TheVariants.{Stays, Removed, Written, Unowned, Edited}

-- what stands is what the record describes
abbrev pub matches : Mark → FileRec → Bool
matches was rec = same_mark was (fingerprint_of_record rec)

-- The new list doesn't record the path, and something stands there. A directory goes where no name directly below remains.
-- What stands as it was recorded goes. What was changed goes where it is transient or with `replace`, and stays where it is
-- initial.
abbrev pub unrecorded_outcome : FileRec → Mark → Bool → Options → Outcome
unrecorded_outcome old was remains options =
    if (is_dir old && marks.is_dir was) then (if remains then Stays else Removed)
    else (if (matches was old || ((flags_of old).transient || options.replace)) then Removed
    else (if (flags_of old).initial then Stays else Edited))

-- Only the new list records the path, and what stands isn't what it records.
abbrev pub new_outcome : Mark → Options → Outcome
new_outcome was options = if (is_nothing was || options.replace) then Written else Unowned

-- Both lists record the path, and what stands isn't what the new one records. What stands as it was recorded is replaced. What
-- was changed is replaced where the new record is transient, kept where it is a configuration file and with `keep`, and
-- replaced with `replace`.
abbrev pub changed_outcome : FileRec → FileRec → Mark → Options → Outcome
changed_outcome old fresh was options =
    if (matches was old || (flags_of fresh).transient) then Written
    else (if ((flags_of fresh).config && options.keep) then Stays
    else (if options.replace then Written else Edited))

-- the old list has a record with the same fingerprint
abbrev pub is_recorded_so : Option FileRec → FileRec → Bool
is_recorded_so None fresh = false
is_recorded_so (Some old) fresh = same_mark (fingerprint_of_record old) (fingerprint_of_record fresh)

abbrev pub otherwise_outcome : Option FileRec → FileRec → Mark → Options → Outcome
otherwise_outcome None fresh was options = new_outcome was options
otherwise_outcome (Some old) fresh was options = changed_outcome old fresh was options

-- The new list records the path. There is nothing to do where it records a directory and one stands, where both lists record
-- the same, where it records an initial file and a file stands, and where what it records stands.
abbrev pub recorded_outcome : Option FileRec → FileRec → Mark → Options → Outcome
recorded_outcome old fresh was options =
    if ((is_dir fresh && marks.is_dir was) || (is_recorded_so old fresh || (((flags_of fresh).initial && marks.is_file was) || matches was fresh))) then Stays
    else otherwise_outcome old fresh was options

-- something or nothing stands
abbrev pub gone_outcome : FileRec → Mark → Bool → Options → Outcome
gone_outcome old was remains options = if is_nothing was then Stays else unrecorded_outcome old was remains options

abbrev pub outcome_by : Option FileRec → Option FileRec → Mark → Bool → Options → Outcome
outcome_by None None was remains options = Stays
outcome_by (Some old) None was remains options = gone_outcome old was remains options
outcome_by old (Some fresh) was remains options = recorded_outcome old fresh was options

-- What becomes of a path, by what the old list records there, what the new one does, what stands, whether a name directly below
-- remains, and the options. There is nothing to do at a fixed directory, and at a path that neither list records.
abbrev pub path_outcome : List ℕ → Option FileRec → Option FileRec → Mark → Bool → Options → Outcome
path_outcome path old fresh was remains options = if is_pinned path then Stays else outcome_by old fresh was remains options
