-- The laws of jobs and rollbacks, as the contracts of `laws` state them.
use Rattle.std.proofs.Common.{◌≡◌, ◌⊎◌, ⊎_elim, inl, inr, Bool, true, false, List, [], ◌∷◌, length, refl, sym, subst, arith}
use Rattle.std.specs.Prelude.{◌↔◌}
use Rattle.std.proofs.lemmas.List.Elements.{All-nil}
use Rattle.trove_stream.specs.cny-base.Reserved.{private_directory}
use Rattle.trove_stream.specs.declared.parts.TroveParts.{TroveParts}
use Rattle.tree_journal.specs.tree-disk.Tree.{Name, Tree}
use Rattle.tree_journal.specs.tree-disk.Disk.{IsCrashImage}
use Rattle.tree_journal.specs.journal-log.declared.put.Put.{Put}
use Rattle.tree_journal.specs.journal-log.Own.{StoresSame}
use Rattle.tree_journal.specs.journal-log.Targets.{with_targets}
use Rattle.tree_journal.specs.Recovery.{is_committed, RecoversTo, at_rest, by_log}
use Rattle.local_db.specs.declared.format.Format.{Format}
use Rattle.local_db.specs.declared.format.Format.TheVariants.{One, Two}
use Rattle.local_db.specs.Formats.{TroveCanTell, limit, database_bytes, Fits}
use Rattle.local_db.specs.SystemState.{StackItem, SystemState, newest, oldest}
use Rattle.local_db.specs.Names.{counts}
use Rattle.local_db.specs.Stores.{HoldsDatabase, absent, written, StoresIn, StoresSystem, RecoversToSystem}
use Rattle.local_db.specs.Steps.{after_job, CanJob, after_rollback, CanRollBack, IsJobReady, AreRollbackWrites}
use Rattle.local_db.proofs.Frame.{stores_still, stores_same}
use Rattle.local_db.proofs.Jobs as jobs
use Rattle.local_db.proofs.Images.{image_stores}

pub nothing_fits : (f : Format) → Fits f []
nothing_fits One = record { told = All-nil (TroveCanTell One); short = let n : length (database_bytes One [] 0 0) ≡ 26 = refl in let most : limit One ≡ 268435456 = refl in omega (arith, n, most) }
nothing_fits Two = record { told = All-nil (TroveCanTell Two); short = let n : length (database_bytes Two [] 0 0) ≡ 26 = refl in let most : limit Two ≡ 536870912 = refl in omega (arith, n, most) }

pub list_fits : (f : Format) (x : Tree) (s : SystemState) → HoldsDatabase f x s.installed (oldest s.stack) (newest s.stack) → Fits f s.installed
list_fits f x s (absent none list low high) = subst (Fits f) (sym list) (nothing_fits f)
list_fits f x s (written is file) = is.fits

pub job_before : (f : Format) (x x1 : Tree) (s : SystemState) (puts : List Put) (list : List TroveParts) (all : List Put) → StoresIn f x s → IsJobReady f puts list s x x1 all → StoresIn f x1 s
job_before f x x1 s puts list all h ready = stores_still f x x1 s ready.still h

pub job_after : (f : Format) (x x1 : Tree) (s : SystemState) (puts : List Put) (list : List TroveParts) (all : List Put) → StoresIn f x s → CanJob puts list s → Fits f list → IsJobReady f puts list s x x1 all
    → StoresIn f (with_targets all x1) (after_job puts list s)
job_after f x x1 s puts list all h can fits ready =
    jobs.job_stored f x x1 s h ready.still puts list can fits (list_fits f x s h.list) ready.bytes ready.record_is ready.contents ready.record_mode ready.database_mode all ready.writes

pub rollback_after : (f : Format) (x : Tree) (s : SystemState) (o : StackItem) (olds : List StackItem) (all : List Put) → StoresIn f x s → s.stack ≡ o ∷ olds → CanRollBack o s → AreRollbackWrites f o olds s all
    → StoresIn f (with_targets all x) (after_rollback o olds s)
rollback_after f x s o olds all h stack can w = jobs.rollback_stored f x s h o olds stack can.well_formed w.database_mode all w.writes

-- at every moment of the writes each image recovers to the system before or to the one after
pub at_every_moment : (f g : Format) (reads goal : Tree) (unsynced : Name → Bool) (s t : SystemState) (image : Tree) → StoresIn f reads s → StoresIn g goal t
    → ((q : Name) → counts s q ≡ true → unsynced q ≡ false)
    → ((entry : Tree) × IsCrashImage reads unsynced entry × RecoversTo private_directory image entry) ⊎ RecoversTo private_directory image goal
    → RecoversToSystem image s ⊎ RecoversToSystem image t
at_every_moment f g reads goal unsynced s t image h k synced recovers = ⊎_elim
    (λ before. inl (before.0, before.2, image_stores reads unsynced before.0 s synced before.1 (either f reads s h)))
    (λ after. inr (goal, after, either g goal t k))
    recovers
  where
    either : (f : Format) (x : Tree) (s : SystemState) → StoresIn f x s → StoresSystem x s
    either One x s h = inl h
    either Two x s h = inr h

pub flip_same : (x y : Tree) → StoresSame private_directory x y → StoresSame private_directory y x
flip_same x y h q out = sym (h q out)

-- with no commit flag an image recovers to just what it stands for
pub at_rest_stores : (image : Tree) (s : SystemState) → is_committed private_directory image ≡ false → RecoversToSystem image s ↔ StoresSystem image s
at_rest_stores image s clear = (λ h. by h.0 h.1 h.2, λ h. (image, at_rest clear (λ q out. refl), h))
  where
    by : (x : Tree) → RecoversTo private_directory image x → StoresSystem x s → StoresSystem image s
    by x (at_rest still same) h = stores_same x image s (flip_same image x same) h
    by x (by_log set puts log stand can same) h = absurd (cc (clear, set))
