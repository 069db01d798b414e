use Rattle.std.proofs.Common.{List, All, sym, subst, ◌∙◌}
use Rattle.std.specs.List.Sorted.{IsStrictlySortedBy}
use Rattle.local_db.specs.Record.{Entry, IsEntry, IsRecord, entry_cmp}
use Rattle.local_db.specs.declared.format.Format.TheVariants.{Two}
use Rattle.rollback_stack.proofs.Pushed.{confined_as, keeps_start, next_as, saved_as, stopped_push}
use Rattle.rollback_stack.proofs.pushing.push_puts.Goals as goal

pub returns-in_err-changes-clause-keeps : goal.returns-in_err-changes-clause-keeps
returns-in_err-changes-clause-keeps g c f s next tells synced stores = keeps_start g.met.D.TreeDisk.laws f s c.args.disk.now synced stores

pub record_bytes-requires-clause-entries : goal.record_bytes-requires-clause-entries
record_bytes-requires-clause-entries g c =
    subst (All IsEntry) (sym (c.as_slice.ensures.value ∙ c.in_ok-changes.ensures.given c.requires.entries.given)) c.requires.entries.entries_are

pub record_bytes-requires-clause-rising : goal.record_bytes-requires-clause-rising
record_bytes-requires-clause-rising g c =
    subst (IsStrictlySortedBy entry_cmp) (sym (c.as_slice.ensures.value ∙ c.in_ok-changes.ensures.given c.requires.entries.given)) c.requires.entries.rising

pub returns-in_err-bytes-clause-keeps : goal.returns-in_err-bytes-clause-keeps
returns-in_err-bytes-clause-keeps g c f s next tells synced stores = keeps_start g.met.D.TreeDisk.laws f s c.args.disk.now synced stores

pub returns-in_err-puts-clause-keeps : goal.returns-in_err-puts-clause-keeps
returns-in_err-puts-clause-keeps g c f s next tells synced stores = keeps_start g.met.D.TreeDisk.laws f s c.args.disk.now synced stores

pub save_job-requires-clause-given : goal.save_job-requires-clause-given
save_job-requires-clause-given g c = c.requires.entries.given

pub returns-in_err-save_job-clause-confined : goal.returns-in_err-save_job-clause-confined
returns-in_err-save_job-clause-confined g c tells = confined_as c.args.db.now.newest c.dropped_number-dropped.ensures (c.in_err-save_job.ensures.saves.confined tells)

pub returns-in_err-save_job-clause-keeps : goal.returns-in_err-save_job-clause-keeps
returns-in_err-save_job-clause-keeps g c f s next tells synced stores = c.in_err-save_job.ensures.keeps f s (next_as c.dropped_number-dropped.ensures next) tells synced stores

pub returns-in_err-save_job-clause-stops : goal.returns-in_err-save_job-clause-stops
returns-in_err-save_job-clause-stops g c =
    stopped_push g.D.TreeDisk.disk.tells _ _ _ c.from_residual-in_err-save_job.result c.from_residual-in_err-save_job.ensures.1 c.in_err-save_job.ensures.saves.ends

pub returns-clause-pushed : goal.returns-clause-pushed
returns-clause-pushed g c tells = record {
  mode = 420;
  bytes = c.in_ok-bytes.bytes;
  text = subst (λ (es : List Entry). IsRecord Two c.args.db.now.newest c.args.before.now c.args.db.now.installed es c.in_ok-bytes.bytes)
      (c.as_slice.ensures.value ∙ c.in_ok-changes.ensures.given c.requires.entries.given) c.in_ok-bytes.ensures;
  puts_are = c.in_ok-puts.ensures;
  ready = saved_as c.dropped_number-dropped.ensures (c.in_ok-save_job.ensures.saves.ends tells);
}

pub returns-clause-confined : goal.returns-clause-confined
returns-clause-confined g c tells = confined_as c.args.db.now.newest c.dropped_number-dropped.ensures (c.in_ok-save_job.ensures.saves.confined tells)

pub returns-clause-keeps : goal.returns-clause-keeps
returns-clause-keeps g c f s next tells synced stores = c.in_ok-save_job.ensures.keeps f s (next_as c.dropped_number-dropped.ensures next) tells synced stores

pub returns-clause-written : goal.returns-clause-written
returns-clause-written g c = record { number = c.args.db.now.newest; mode = 420; bytes = c.in_ok-bytes.bytes; puts_are = c.in_ok-puts.ensures }
