-- What becomes of each path, but that a directory which is recorded no more may still stay.
use Rattle.std.specs.Prelude.{◌≡◌, Bool, false, ◌&&◌, ◌||◌, if◌then◌else◌, List, [], ◌∷◌, Option, Some, None, Result, Ok, Err}
use Rattle.trove_stream.specs.cny-base.Reserved.{is_pinned}
use Rattle.trove_stream.specs.cny-base.declared.options.Options.{Options}
use Rattle.trove_stream.specs.cny-base.declared.refusal.Refusal.{Refusal}
use Rattle.trove_stream.specs.cny-base.declared.refusal.Refusal.TheVariants as refusal
use Rattle.trove_stream.specs.cny-base.declared.stop.Stop.{Stop}
use Rattle.trove_stream.specs.cny-base.declared.stop.Stop.TheVariants.{Refused, Memory, Failed, Damaged, FarFailed, FarDamaged}
use Rattle.trove_stream.specs.cny-stream.declared.record.FileRec.{FileRec}
use Rattle.trove_stream.specs.cny-stream.Record.{is_dir}
use Rattle.tree_scan.specs.tree-disk.Tree.{Tree}
use Rattle.tree_scan.specs.declared.mark.Mark.{Mark}
use Rattle.tree_scan.specs.Marks as marks
use Rattle.tree_scan.specs.Marks.{fingerprint_at}
use Rattle.tree_scan.specs.OnlyReads.{IsStopBy}
use Rattle.conflict_plan.specs.declared.drafting.Draft.{Draft}
use Rattle.conflict_plan.specs.declared.entries.Entry.{Entry}
use Rattle.conflict_plan.specs.declared.table.Outcome.{Outcome}
use Rattle.conflict_plan.specs.declared.table.Outcome.TheVariants.{Stays, Removed, Written, Unowned, Edited}
use Rattle.conflict_plan.specs.Table.{path_outcome, is_recorded_so}

abbrev pub is_same_in_both : Option FileRec → Option FileRec → Bool
is_same_in_both old None = false
is_same_in_both old (Some fresh) = is_recorded_so old fresh

-- there is nothing to do whatever stands there
abbrev pub is_settled : Entry → Bool
is_settled e = is_pinned e.path || is_same_in_both e.old e.fresh

-- a directory that is recorded no more stands there
abbrev pub is_left_dir : Option FileRec → Option FileRec → Mark → Bool
is_left_dir (Some old) None was = is_dir old && marks.is_dir was
is_left_dir _ _ was = false

abbrev pub drafted : Outcome → Entry → Mark → Result (Option Draft) Refusal
drafted Stays e was = Ok None
drafted Removed e was = Ok (Some (record { planned = record { path = e.path; was = was; want = None }; if_empty = is_left_dir e.old e.fresh was }))
drafted Written e was = Ok (Some (record { planned = record { path = e.path; was = was; want = e.fresh }; if_empty = is_left_dir e.old e.fresh was }))
drafted Unowned e was = Err (refusal.Unowned e.path)
drafted Edited e was = Err (refusal.Edited e.path)

-- what becomes of a path where this stands
abbrev pub draft_by : Options → Entry → Mark → Result (Option Draft) Refusal
draft_by options e was = drafted (path_outcome e.path e.old e.fresh was false options) e was

abbrev pub draft_of : Options → Tree → Entry → Result (Option Draft) Refusal
draft_of options tree e = if is_settled e then Ok None else draft_by options e (fingerprint_at tree e.path)

-- a list with the value in front, where there is one
abbrev pub with_some : {A : Type 0} → Option A → List A → List A
with_some None xs = xs
with_some (Some x) xs = x ∷ xs

-- a list with more in front, or the refusal
abbrev pub in_front : Option Draft → Result (List Draft) Refusal → Result (List Draft) Refusal
in_front draft (Ok drafts) = Ok (with_some draft drafts)
in_front draft (Err why) = Err why

abbrev pub then_drafts : Result (Option Draft) Refusal → Result (List Draft) Refusal → Result (List Draft) Refusal
then_drafts (Ok draft) rest = in_front draft rest
then_drafts (Err why) rest = Err why

-- what becomes of each path, or the refusal of the first path that has one
abbrev pub drafts_of : Options → Tree → List Entry → Result (List Draft) Refusal
drafts_of options tree [] = Ok []
drafts_of options tree (e ∷ es) = then_drafts (draft_of options tree e) (drafts_of options tree es)

-- a decision without a disk
abbrev pub Decided : Result (Option Draft) Refusal → Result (Option Draft) Stop → Type 0
Decided expected (Ok draft) = expected ≡ Ok draft
Decided expected (Err (Refused why)) = expected ≡ Err why
Decided expected (Err Memory) = Unit {0}
Decided expected (Err Failed) = ⊥
Decided expected (Err (Damaged path)) = ⊥
Decided expected (Err FarFailed) = ⊥
Decided expected (Err (FarDamaged path)) = ⊥

-- the refusals of the table
abbrev pub IsTableRefusal : Refusal → Type 0
IsTableRefusal (refusal.Unowned path) = Unit {0}
IsTableRefusal (refusal.Edited path) = Unit {0}
IsTableRefusal _ = ⊥

-- a refusal of the table, a fault of the disk or want of memory
abbrev pub RefusesAtMost : Stop → Type 0
RefusesAtMost stop = IsStopBy IsTableRefusal stop
