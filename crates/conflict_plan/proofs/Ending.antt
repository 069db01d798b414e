-- How planning ends.
use Rattle.std.proofs.Common.{◌≡◌, ℕ, false, List, Option, Some, Result, Ok, Err, IfErr, sym, subst}
use Rattle.std.specs.Prelude.{IsErrAnd}
use Rattle.trove_stream.specs.cny-base.declared.options.Options.{Options}
use Rattle.trove_stream.specs.cny-base.Stop.{stop_of_fault}
use Rattle.trove_stream.specs.cny-base.declared.refusal.Fault.{Fault}
use Rattle.trove_stream.specs.cny-base.declared.refusal.Fault.TheVariants as fault
use Rattle.trove_stream.specs.cny-base.declared.refusal.Refusal.{Refusal}
use Rattle.trove_stream.specs.cny-base.declared.refusal.Refusal.TheVariants as refusal
use Rattle.trove_stream.specs.cny-base.declared.stop.Stop.{Stop}
use Rattle.trove_stream.specs.cny-base.declared.stop.Stop.TheVariants.{Refused, Memory, Failed, Damaged, FarFailed, FarDamaged}
use Rattle.trove_stream.specs.declared.parts.TroveParts.{TroveParts}
use Rattle.tree_scan.specs.tree-disk.Disk.{DiskModel}
use Rattle.tree_scan.specs.tree-disk.Steps.{IsDiskStop, Tests}
use Rattle.tree_scan.specs.tree-disk.Tree.{Tree}
use Rattle.conflict_plan.specs.declared.planned.Planned.{Planned}
use Rattle.conflict_plan.specs.declared.table.Outcome.{Outcome}
use Rattle.conflict_plan.specs.declared.table.Outcome.TheVariants.{Stays, Removed, Written, Unowned, Edited}
use Rattle.conflict_plan.specs.Drafts.{IsTableRefusal, RefusesAtMost}
use Rattle.conflict_plan.specs.Plan.{outcome_at, refusal_of, IsFirstConflict, IsFirstRefusal, IsPlanRefusal, IsPlanStop, IsUnshared, RefusesShared, TellsShared}
use Rattle.tree_scan.specs.OnlyReads.{OnlyReads}
use Rattle.tree_scan.proofs.ReadingLaws.{tested_memory, tested_refusal}
use Rattle.conflict_plan.proofs.Assembled.{IsConflictFirst, IsOwnedFirst}
use Rattle.trove_stream.specs.cny-base.Refusals.{IsRefusalOrMemory as IsRefusedSo}

-- ---- refusals

pub owned_refuses : (old fresh : List TroveParts) (options : Options) (tree : Tree) (why : Refusal) → IsOwnedFirst fresh why → IsFirstRefusal old fresh options tree why
owned_refuses old fresh options tree why first = subst (IsFirstRefusal old fresh options tree) first.is first.shared

pub conflict_refuses : (old fresh : List TroveParts) (options : Options) (tree : Tree) (why : Refusal) → IsConflictFirst old fresh options tree why → IsFirstRefusal old fresh options tree why
conflict_refuses old fresh options tree why first = at (outcome_at old fresh options tree first.path false) first.conflict.refused
  where
    at : (o : Outcome) → refusal_of o first.path ≡ Some why → IsFirstRefusal old fresh options tree why
    at Stays is = absurd (cc is)
    at Removed is = absurd (cc is)
    at Written is = absurd (cc is)
    at Unowned is =
        let is_why : refusal.Unowned first.path ≡ why = cc is in
        subst (IsFirstRefusal old fresh options tree) is_why (subst (IsFirstConflict old fresh options tree first.path) (sym is_why) first.conflict)
    at Edited is =
        let is_why : refusal.Edited first.path ≡ why = cc is in
        subst (IsFirstRefusal old fresh options tree) is_why (subst (IsFirstConflict old fresh options tree first.path) (sym is_why) first.conflict)

pub owned_refuses_shared : (fresh : List TroveParts) (why : Refusal) → IsOwnedFirst fresh why → RefusesShared fresh why
owned_refuses_shared fresh why first = subst (RefusesShared fresh) first.is first.shared

table_refuses : (fresh : List TroveParts) (why : Refusal) → IsTableRefusal why → IsUnshared fresh → RefusesShared fresh why
table_refuses fresh (refusal.Unowned path) is free = free
table_refuses fresh (refusal.Edited path) is free = free
table_refuses fresh _ is free = absurd is

table_refusal : (why : Refusal) → IsTableRefusal why → IsPlanRefusal why
table_refusal (refusal.Unowned path) is = tt
table_refusal (refusal.Edited path) is = tt
table_refusal _ is = absurd is

owned_refusal : (why : Refusal) (path first second : List ℕ) → refusal.Owned path first second ≡ why → IsPlanRefusal why
owned_refusal why path first second is = subst IsPlanRefusal is tt

-- ---- stops passed on by `?`

-- those of the disk are among those of the table
disk_at_most : (e : Stop) → IsDiskStop e → RefusesAtMost e
disk_at_most (Refused why) is = absurd is
disk_at_most Failed is = tt
disk_at_most Memory is = tt
disk_at_most (Damaged path) is = is
disk_at_most FarFailed is = is
disk_at_most (FarDamaged path) is = is

plan_stop : (e : Stop) → RefusesAtMost e → IsPlanStop e
plan_stop (Refused why) is = table_refusal why is
plan_stop Failed is = tt
plan_stop Memory is = tt
plan_stop (Damaged path) is = is
plan_stop FarFailed is = is
plan_stop (FarDamaged path) is = is

passed_on : (P : Stop → Type 0) (e : Stop) (r : Result (List Planned) Stop) → IsErrAnd r (λ s. s ≡ e) → P e → IfErr r P
passed_on P e (Ok plan) is may = absurd is
passed_on P e (Err s) is may = subst P (sym is) may

pub memory_passed : (r : Result (List Planned) Stop) → IsErrAnd r (λ s. s ≡ Memory) → IfErr r IsPlanStop
memory_passed r is = passed_on IsPlanStop Memory r is tt

pub table_passed : (e : Stop) (r : Result (List Planned) Stop) → IsErrAnd r (λ s. s ≡ e) → RefusesAtMost e → IfErr r IsPlanStop
table_passed e r is may = passed_on IsPlanStop e r is (plan_stop e may)

pub disk_passed : (e : Stop) (r : Result (List Planned) Stop) → IsErrAnd r (λ s. s ≡ e) → IsDiskStop e → IfErr r IsPlanStop
disk_passed e r is may = table_passed e r is (disk_at_most e may)

-- ---- what two troves share, on every disk

told_on : (fresh : List TroveParts) (e : Stop) (r : Result (List Planned) Stop) → IsErrAnd r (λ s. s ≡ e) → TellsShared fresh (Err e) → TellsShared fresh r
told_on fresh e (Ok plan) is told = absurd is
told_on fresh e (Err s) is told = subst (λ x. TellsShared fresh (Err x)) (sym is) told

stop_told : (fresh : List TroveParts) (e : Stop) → RefusesAtMost e → IsUnshared fresh → TellsShared fresh (Err e)
stop_told fresh (Refused why) is free = table_refuses fresh why is free
stop_told fresh Failed is free = free
stop_told fresh Memory is free = tt
stop_told fresh (Damaged path) is free = is
stop_told fresh FarFailed is free = is
stop_told fresh (FarDamaged path) is free = is

pub memory_told : (fresh : List TroveParts) (r : Result (List Planned) Stop) → IsErrAnd r (λ s. s ≡ Memory) → TellsShared fresh r
memory_told fresh r is = told_on fresh Memory r is tt

pub table_told : (fresh : List TroveParts) (e : Stop) (r : Result (List Planned) Stop) → IsErrAnd r (λ s. s ≡ e) → RefusesAtMost e → IsUnshared fresh → TellsShared fresh r
table_told fresh e r is may free = told_on fresh e r is (stop_told fresh e may free)

pub disk_told : (fresh : List TroveParts) (e : Stop) (r : Result (List Planned) Stop) → IsErrAnd r (λ s. s ≡ e) → IsDiskStop e → IsUnshared fresh → TellsShared fresh r
disk_told fresh e r is may free = table_told fresh e r is (disk_at_most e may) free

-- ---- the refusal of a shared path, passed on

module _ {fresh : List TroveParts} (found : Option Refusal) (f : Fault) (r : Result (List Planned) Stop) where
  pub shared_passed : IsErrAnd r (λ s. s ≡ stop_of_fault f) → IsRefusedSo found f → ((why : Refusal) → found ≡ Some why → IsOwnedFirst fresh why) → IfErr r IsPlanStop
  shared_passed is so first = passed_on IsPlanStop (stop_of_fault f) r is (by f so)
    where
      by : (f : Fault) → IsRefusedSo found f → IsPlanStop (stop_of_fault f)
      by (fault.Refused why) so = let owned = first why so in owned_refusal why owned.path owned.first owned.second owned.is
      by fault.Memory so = tt

  pub shared_told : IsErrAnd r (λ s. s ≡ stop_of_fault f) → IsRefusedSo found f → ((why : Refusal) → found ≡ Some why → IsOwnedFirst fresh why) → TellsShared fresh r
  shared_told is so first = told_on fresh (stop_of_fault f) r is (by f so)
    where
      by : (f : Fault) → IsRefusedSo found f → TellsShared fresh (Err (stop_of_fault f))
      by (fault.Refused why) so = owned_refuses_shared fresh why (first why so)
      by fault.Memory so = tt

module _ {D : Type 0} {disk : DiskModel D} {good : Tree → List Planned → Type 0} where
  pub plans_shared : {X Y : Type 0} {view : X → Y} {test : Tree → Result Y Refusal} {before now : D} {q : Result X Stop} {r : Result (List Planned) Stop} (old fresh : List TroveParts) (options : Options) (found : Option Refusal) (f : Fault)
      → Tests disk view test before now q → IsErrAnd r (λ s. s ≡ stop_of_fault f) → IsRefusedSo found f → ((why : Refusal) → found ≡ Some why → IsOwnedFirst fresh why)
      → OnlyReads disk good (IsFirstRefusal old fresh options) before now r
  plans_shared {before = before} old fresh options found (fault.Refused why) tested is so first =
      tested_refusal why tested is (λ tells. owned_refuses old fresh options (disk.reads before) why (first why so))
  plans_shared old fresh options found fault.Memory tested is so first = tested_memory tested is
