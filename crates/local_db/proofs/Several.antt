-- Several rollbacks by one write set.
use Rattle.std.proofs.Common.{◌≡◌, ◌<◌, ◌^◌, true, false, List, [], ◌∷◌, ◌++◌, refl, sym, ◌∙◌, ap, subst, arith, ◌≤◌}
use Rattle.std.specs.FinMap.{get}
use Rattle.trove_stream.specs.cny-base.Reserved.{is_reserved}
use Rattle.trove_stream.specs.cny-base.declared.limits.TheConstants.{JOBS_LIMIT}
use Rattle.content_store.specs.Store.{file_bytes}
use Rattle.tree_journal.specs.tree-disk.Tree.{Name, Tree, same_name, AgreesOutside}
use Rattle.tree_journal.specs.journal-log.declared.put.Put.{Put}
use Rattle.tree_journal.specs.journal-log.Targets.{is_target, with_targets}
use Rattle.local_db.proofs.Writes.{with_targets_target}
use Rattle.local_db.specs.declared.format.Format.{Format}
use Rattle.local_db.specs.Formats.{Fits}
use Rattle.local_db.specs.SystemState.{StackItem, SystemState, newest, AreNumbered, IsSystemState}
use Rattle.local_db.specs.Names.{database, record_file, is_job_name_of}
use Rattle.local_db.specs.Stores.{HoldsStack, written, StoresIn}
use Rattle.local_db.specs.Steps.{after_rollback, after_rollbacks, CanRollBackAll, database_put, no_records, AreRollbacksWrites}
use Rattle.local_db.proofs.Places.{database_reserved, record_reserved}
use Rattle.local_db.proofs.Frame.{olds_stay}
use Rattle.local_db.proofs.Unions.{wrote_more, wrote_no_other, wrote_alike}
use Rattle.local_db.proofs.Systems.{four_bytes, numbered_rest, newest_rest, free_targets, rollback_is_system, system_database}
use Rattle.local_db.proofs.Jobs.{outer_differs, not_later_record, stack_reserved}
use Rattle.local_db.proofs.Together.{list_fits}
use Rattle.trove_stream.proofs.cny-base.Lists.{contains_first}
use Rattle.tree_scan.proofs.tree-disk.Children.{or_none as neither}

-- ---- the system

pub rollbacks_system : (os rest : List StackItem) (s : SystemState) → IsSystemState s → s.stack ≡ os ++ rest → CanRollBackAll os rest s → IsSystemState (after_rollbacks os rest s) × ((after_rollbacks os rest s).stack ≡ rest)
rollbacks_system [] rest s system stack can = (system, stack)
rollbacks_system (o ∷ os) rest s system stack can =
    rollbacks_system os rest (after_rollback o (os ++ rest) s) (rollback_is_system o (os ++ rest) s system stack can.0.well_formed) refl can.1

left_holds : (f : Format) (x : Tree) (os rest : List StackItem) (s : SystemState) → HoldsStack f x s.installed (os ++ rest) → HoldsStack f x (after_rollbacks os rest s).installed rest
left_holds f x [] rest s h = h
left_holds f x (o ∷ os) rest s h = left_holds f x os rest (after_rollback o (os ++ rest) s) h.1

left_fits : (f : Format) (x : Tree) (os rest : List StackItem) (s : SystemState) → HoldsStack f x s.installed (os ++ rest) → Fits f s.installed → Fits f (after_rollbacks os rest s).installed
left_fits f x [] rest s h fits = fits
left_fits f x (o ∷ os) rest s h fits = left_fits f x os rest (after_rollback o (os ++ rest) s) h.1 h.0.fits

-- ---- the records

pub numbered_end : (os rest : List StackItem) → AreNumbered (os ++ rest) → AreNumbered rest
numbered_end [] rest numbered = numbered
numbered_end (o ∷ os) rest numbered = numbered_end os rest (numbered_rest o (os ++ rest) numbered)

above_rest : (o : StackItem) (os rest : List StackItem) → AreNumbered (o ∷ (os ++ rest)) → newest rest < o.number
above_rest o [] rest numbered = newest_rest o rest numbered
above_rest o (p ∷ os) rest numbered = omega (arith, numbered.0, above_rest p os rest numbered.1)

not_removed : (os rest : List StackItem) → AreNumbered (os ++ rest) → newest (os ++ rest) < 2 ^ 32 → (q : Name) → is_job_name_of rest q ≡ true → is_target (no_records os) q ≡ false
not_removed [] rest numbered fits q job = refl
not_removed (o ∷ os) rest numbered fits q job = neither (same_name q (record_file o.number)) (is_target (no_records os) q)
    (not_later_record rest o.number (numbered_end os rest (numbered_rest o (os ++ rest) numbered)) (above_rest o os rest numbered) fits q job)
    (not_removed os rest (numbered_rest o (os ++ rest) numbered) (omega (arith, newest_rest o (os ++ rest) numbered, fits)) q job)

no_records_outside : (os : List StackItem) (q : Name) → is_reserved q ≡ false → is_target (no_records os) q ≡ false
no_records_outside [] q out = refl
no_records_outside (o ∷ os) q out = neither (same_name q (record_file o.number)) (is_target (no_records os) q) (outer_differs q (record_file o.number) out (record_reserved o.number)) (no_records_outside os q out)

-- ---- the tree

module _ (f : Format) (x : Tree) (s : SystemState) (os rest : List StackItem) (all : List Put) (stands : StoresIn f x s) (stack : s.stack ≡ os ++ rest) (can : CanRollBackAll os rest s) (w : AreRollbacksWrites f os rest s all) where
  made : IsSystemState (after_rollbacks os rest s) × ((after_rollbacks os rest s).stack ≡ rest)
  made = rollbacks_system os rest s stands.system stack can

  more : List Put
  more = database_put f w.database_mode (after_rollbacks os rest s) ∷ no_records os

  holds : HoldsStack f x s.installed (os ++ rest)
  holds = subst (HoldsStack f x s.installed) stack stands.olds

  outer : AgreesOutside is_reserved (with_targets all x) (after_rollbacks os rest s).tree
  unfolding more
  outer q out = wrote_alike all w.nodes more w.writes x s.tree q
      (λ hit p in'. with_targets_target w.nodes s.tree p w.rises in')
      (neither (same_name q database) (is_target (no_records os) q) (outer_differs q database out database_reserved) (no_records_outside os q out))
      (stands.managed q out)
      ∙ ap (λ (t : Tree). get t q) w.together

  olds_left : HoldsStack f (with_targets all x) (after_rollbacks os rest s).installed rest
  unfolding more
  olds_left = olds_stay f x (with_targets all x) (after_rollbacks os rest s).installed rest
      (λ q job. let r = stack_reserved rest q job in
      wrote_no_other all w.nodes more w.writes x q (free_targets w.nodes w.free q r.0)
      (neither (same_name q database) (is_target (no_records os) q) r.1
      (not_removed os rest (subst AreNumbered stack stands.system.numbered) (four_bytes (newest (os ++ rest)) (subst (λ st. newest st ≤ JOBS_LIMIT) stack stands.system.number)) q job)))
      (left_holds f x os rest s holds)

  pub rollbacks_stored : StoresIn f (with_targets all x) (after_rollbacks os rest s)
  unfolding more
  rollbacks_stored = record {
    system = made.0;
    managed = outer;
    list = written (system_database f (after_rollbacks os rest s) made.0 (left_fits f x os rest s holds (list_fits f x s stands.list))) (ap file_bytes (wrote_more all w.nodes more w.writes x (database_put f w.database_mode (after_rollbacks os rest s)) (contains_first (database_put f w.database_mode (after_rollbacks os rest s)) (no_records os))));
    olds = subst (HoldsStack f (with_targets all x) (after_rollbacks os rest s).installed) (sym made.1) olds_left;
  }
