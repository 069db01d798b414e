-- What a record tells of its job, between two lists.
use Rattle.std.proofs.Common.{◌≡◌, ℕ, ◌≤◌, List, Result, Ok, Err, All, refl, subst}
use Rattle.std.specs.Prelude.{IfErr, IfOk, IsErrOf}
use Rattle.std.specs.List.Sorted.{IsStrictlySortedBy}
use Rattle.local_db.specs.cny-base.declared.stop.Stop.{Stop}
use Rattle.local_db.specs.cny-base.declared.text.TextFault.{TextFault}
use Rattle.local_db.specs.cny-base.declared.text.TextFault.TheVariants as fault
use Rattle.local_db.specs.declared.record.Record.{Record}
use Rattle.job_record.specs.Lists.{IsReadBy, told_entry}
use Rattle.local_db.specs.RecordText.{IsToldEntry, by_path}
use Rattle.local_db.specs.trove-stream.declared.parts.TroveParts.{TroveParts}
use Rattle.local_db.specs.tree-disk.Tree.{Name}
use Rattle.local_db.specs.Installed.{IsInstalled, recorded}
use Rattle.local_db.specs.SystemState.{IsFree}
use Rattle.local_db.specs.Record as state
use Rattle.local_db.specs.Record.{PassesChecks}
use Rattle.local_db.specs.declared.format.Format.{Format}
use Rattle.tree_scan.specs.declared.mark.Mark.TheVariants.{Nothing}
use Rattle.rollback_stack.specs.JobEntries.{IsChange}
use Rattle.rollback_stack.specs.JobReading.{IsText, IsToldBy, damaged_as}
use Rattle.rollback_stack.proofs.Mapping.{implied_both}
use Rattle.rollback_stack.proofs.RecordedMarks.{recorded_is_mark}
use Rattle.rollback_stack.proofs.ToldMarks.{told_is_mark}
use Rattle.job_record.proofs.ByLists.{implied, rises_unmapped, unmapped}

-- ---- entries

entry_is : (before after : List TroveParts) → IsInstalled before → IsInstalled after → (e : state.Entry) → IsToldEntry (told_entry before after e) → state.IsEntry e
entry_is before after b a e told = record {
  path = told.path_is;
  was = told_is_mark (recorded before e.path) e.was (λ l. recorded_is_mark before e.path l b.troves) told.before_is;
  now = told_is_mark (recorded after e.path) e.now (λ l. recorded_is_mark after e.path l a.troves) told.after_is;
}

pub passes : (f : Format) (r : Record) (after before : List TroveParts) (es : List state.Entry) → IsToldBy f r after before es → PassesChecks f before es
passes f r after before es told = record {
  list = told.back.list;
  fits = told.back.fits;
  free = implied IsChange (λ (e : state.Entry). IsFree e.path) es (λ e is. is.free) told.changes;
  something = implied IsChange (λ (e : state.Entry). (e.was ≡ Nothing) × (e.now ≡ Nothing) → ⊥) es (λ e is. is.something) told.changes;
}

-- ---- what was read is what the record tells

module _ (f : Format) (number : ℕ) (r : Record) (after before : List TroveParts) (es : List state.Entry) (installed : IsInstalled after) (text : IsText f number r) (told : IsToldBy f r after before es) where
  pub told_entries : All state.IsEntry es
  told_entries = implied (λ (e : state.Entry). IsToldEntry (told_entry before after e)) state.IsEntry es (entry_is before after told.back.list installed)
      (unmapped IsToldEntry (told_entry before after) es (subst (All IsToldEntry) told.told text.text.entries_are))

  pub told_rise : IsStrictlySortedBy state.entry_cmp es
  told_rise = rises_unmapped (told_entry before after) by_path es (subst (IsStrictlySortedBy by_path) told.told text.text.entries_rise)

  pub read_by : 1 ≤ number → IsReadBy number before after es r
  read_by positive = record { number_is = text.number_is; positive = positive; back = told.back.back; entries_are = told_entries; told = told.told }

-- and back
pub told_of_read : (f : Format) (number : ℕ) (r : Record) (after before : List TroveParts) (es : List state.Entry) → IsReadBy number before after es r → PassesChecks f before es → IsToldBy f r after before es
told_of_read f number r after before es read checks = record {
  back = record { back = read.back; list = checks.list; fits = checks.fits };
  told = read.told;
  changes = implied_both (λ (e : state.Entry). IsFree e.path) (λ (e : state.Entry). (e.was ≡ Nothing) × (e.now ≡ Nothing) → ⊥) IsChange es
      (λ e free something. record { free = free; something = something }) checks.free checks.something;
}

-- ---- answers handed on

pub damaged_ok : {T : Type 0} (P : T → Type 0) (path : Name) (r : Result T TextFault) → IfOk r P → IfOk (damaged_as path r) P
damaged_ok P path (Ok x) is = is
damaged_ok P path (Err fault.Memory) is = tt
damaged_ok P path (Err fault.Bad) is = tt

pub damaged_err : {T : Type 0} (P : Stop → Type 0) (path : Name) (r : Result T TextFault) → P Rattle.local_db.specs.cny-base.declared.stop.Stop.TheVariants.Memory
    → (IsErrOf r fault.Bad → P (Rattle.local_db.specs.cny-base.declared.stop.Stop.TheVariants.Damaged path)) → IfErr (damaged_as path r) P
damaged_err P path (Ok x) memory bad = tt
damaged_err P path (Err fault.Memory) memory bad = memory
damaged_err P path (Err fault.Bad) memory bad = bad refl

pub if_ok_both : {X E : Type 0} (P Q R : X → Type 0) (r : Result X E) → ((x : X) → P x → Q x → R x) → IfOk r P → IfOk r Q → IfOk r R
if_ok_both P Q R (Ok x) to is also = to x is also
if_ok_both P Q R (Err e) to is also = tt
