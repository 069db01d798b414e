-- How the test ends, in the words of undoings.
use Rattle.std.proofs.Common.{ℕ, Bool, IsTrue, List, Result, Ok, Err, OnOk, IfErr}
use Rattle.std.specs.List.Sorted.{IsStrictlySortedBy}
use Rattle.change_rel.specs.cny-base.Count.{Rose}
use Rattle.change_rel.specs.cny-base.declared.stop.Stop.{Stop}
use Rattle.change_rel.specs.cny-base.declared.stop.Stop.TheVariants.{Refused, Memory, Failed, Damaged, FarFailed, FarDamaged}
use Rattle.local_db.specs.tree-disk.Disk.{DiskModel, IsDisk, Reads}
use Rattle.local_db.specs.tree-disk.Steps.{Found, Tests}
use Rattle.local_db.specs.tree-disk.Tree.{Tree, WellFormed}
use Rattle.local_db.specs.Record.{Entry, entry_cmp}
use Rattle.past_jobs.specs.Outcome.{CanUndoNext, IsTestStop, IsUndoStop}
use Rattle.past_jobs.specs.Seen.{FoundMarks, undo_tested}
use Rattle.past_jobs.proofs.Meaning.{can_undo, undo_refused}
use Rattle.past_jobs.proofs.Undone.{each_of}

module _ (found : FoundMarks) (es : List Entry) (rising : IsStrictlySortedBy entry_cmp es) (x : Tree) (well : WellFormed x) where
  can_by : (told : Bool) (r : Result Unit Stop) (a b : ℕ) → IsTrue told → Found (λ (done : Unit {0}). done) told (undo_tested found es x) r a b → OnOk r (CanUndoNext x found es)
  can_by told (Ok done) a b tells ended = λ newest jobs undone. can_undo x newest jobs found undone.found_are well es (each_of es rising) undone.can (ended tells)
  can_by told (Err stop) a b tells ended = tt

  stop_by : (told : Bool) (r : Result Unit Stop) (a b : ℕ) → IfErr r IsTestStop → Found (λ (done : Unit {0}). done) told (undo_tested found es x) r a b → IfErr r (IsUndoStop told x found es (Rose a b))
  stop_by told (Ok done) a b kind ended = tt
  stop_by told (Err (Refused why)) a b kind ended = (kind, λ tells newest jobs undone. undo_refused x newest jobs found undone.found_are well es (each_of es rising) undone.can rising why (ended tells))
  stop_by told (Err Failed) a b kind ended = ended
  stop_by told (Err Memory) a b kind ended = tt
  stop_by told (Err (Damaged path)) a b kind ended = ended
  stop_by told (Err FarFailed) a b kind ended = ended
  stop_by told (Err (FarDamaged path)) a b kind ended = ended

module _ {D : Type 0} {disk : DiskModel D} (laws : IsDisk disk) where
  pub can_from : (found : FoundMarks) (es : List Entry) → IsStrictlySortedBy entry_cmp es → (old new : D) (r : Result Unit Stop)
      → Tests disk (λ (done : Unit {0}). done) (λ tree. undo_tested found es tree) old new r → Reads disk old new (OnOk r (CanUndoNext (disk.reads old) found es))
  can_from found es rising old new r tested tells = record {
    answer = can_by found es rising (disk.reads old) (laws.reads_well_formed old) disk.tells r (disk.faults old) (disk.faults new) tells tested.found;
    same = (tested.same tells).same;
    time = (tested.same tells).time;
  }

  pub stop_from : (found : FoundMarks) (es : List Entry) → IsStrictlySortedBy entry_cmp es → (old new : D) (r : Result Unit Stop)
      → IfErr r IsTestStop → Tests disk (λ (done : Unit {0}). done) (λ tree. undo_tested found es tree) old new r → IfErr r (IsUndoStop disk.tells (disk.reads old) found es (Rose (disk.faults old) (disk.faults new)))
  stop_from found es rising old new r kind tested = stop_by found es rising (disk.reads old) (laws.reads_well_formed old) disk.tells r (disk.faults old) (disk.faults new) kind tested.found
