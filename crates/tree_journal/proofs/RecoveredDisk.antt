-- What a crash left of a disk, recovered.
use Rattle.std.proofs.Common.{◌≡◌, ◌≤◌, Bool, true, false, Result, Ok, Err, IfErr, refl, subst}
use Rattle.std.specs.Prelude.{IsTrue, OnOk}
use Rattle.journal_log.specs.cny-base.declared.refusal.Refusal.TheVariants as refusal
use Rattle.journal_log.specs.cny-base.declared.stop.Stop.{Stop}
use Rattle.journal_log.specs.cny-base.declared.stop.Stop.TheVariants as stop
use Rattle.journal_log.specs.tree-disk.Tree.{Name, Tree}
use Rattle.journal_log.specs.tree-disk.Disk.{DiskModel}
use Rattle.journal_log.specs.tree-disk.Confined.{Among, Confined, LeavesOnly}
use Rattle.journal_log.proofs.tree-disk.Laws.{same_tree}
use Rattle.journal_log.specs.tree-disk.Steps.{no_name}
use Rattle.journal_log.specs.tree-disk.Unfailed.{UnlessFailed}
use Rattle.tree_journal.specs.Found.{StopsSo}
use Rattle.tree_journal.specs.Recovery.{is_committed, RecoversTo, by_log, RecoversAsThen, IsRecovered, HasReplayable}
use Rattle.tree_journal.specs.Recovering.{IsVisibleIn}
use Rattle.tree_journal.specs.Staging.{outcome}
use Rattle.tree_journal.specs.Recovered.{RecoveryStops, RecoversAt, RecoversToNone}

-- the clauses of a recovery
pub record Recovery {D : Type 0} (disk : DiskModel D) (base : Name) (old new : D) (r : Result Bool Stop) : Type 0 where
  pub any_moment : IsTrue disk.tells → LeavesOnly disk old new (RecoversAsThen disk base old)
  pub visible : IsTrue disk.tells → UnlessFailed disk old new (IsVisibleIn base (disk.reads old))
  pub recovered : IsTrue disk.tells → OnOk r (IsRecovered disk base old new)
  pub still : IsTrue disk.tells → (tree : Tree) → RecoversTo base (disk.reads old) tree → RecoversTo base (disk.reads new) tree
  pub untouched : IsTrue disk.tells → (is_committed base (disk.reads old) ≡ true → HasReplayable base (disk.reads old) → ⊥) → Confined disk (Among no_name) old new
  pub causes : IfErr r (StopsSo disk base old new)
  pub later : disk.faults old ≤ disk.faults new

stops_here : {D : Type 0} (disk : DiskModel D) (base : Name) (old new : D) (e : Stop) → StopsSo disk base old new e → RecoveryStops disk base old new e
stops_here disk base old new stop.Failed so = so
stops_here disk base old new stop.Memory so = tt
stops_here disk base old new (stop.Refused (refusal.Parent path)) so = ((path, refl), λ told. ((so told).1, record { path = path; refused = refl; blocked = (so told).0 }))
stops_here disk base old new (stop.Damaged path) so = λ told. record { damaged = (so told).0; same = (so told).1 }
stops_here disk base old new _ so = absurd so

same_clear : {D : Type 0} {disk : DiskModel D} {base : Name} {old new : D} {r : Result Bool Stop} → Recovery disk base old new r → IsTrue disk.tells → is_committed base (disk.reads old) ≡ false → disk.reads new ≡ disk.reads old
same_clear {disk = disk} {old = old} {new = new} recovery told clear = same_tree (disk.reads new) (disk.reads old) (λ p. (recovery.untouched told (λ set has. absurd (cc (set, clear)))).reads p (λ among. absurd cc))

none_replayable : {base : Name} (tree : Tree) → RecoversToNone base tree → is_committed base tree ≡ true → HasReplayable base tree → ⊥
none_replayable {base = base} tree none set has = none (outcome base has.puts tree) (by_log set has.puts has.holds has.stand has.can (λ p out. refl))

ends : {D : Type 0} {disk : DiskModel D} {base : Name} {old new : D} {r : Result Bool Stop} → Recovery disk base old new r → (s : Result (Unit {0}) Stop) → (IsTrue disk.tells → OnOk s (IsRecovered disk base old new)) → IfErr s (RecoveryStops disk base old new) → RecoversAt disk base old new s
ends {disk = disk} {old = old} recovery s recovered stops = record {
  later = recovery.later;
  images = recovery.any_moment;
  seen = recovery.visible;
  recovered = recovered;
  kept = λ told. record { still = recovery.still told; same = same_clear recovery told };
  untouched = λ told none. recovery.untouched told (none_replayable (disk.reads old) none);
  clear = λ told off. recovery.untouched told (λ set has. absurd (cc (set, off)));
  stops = stops;
}

pub recovered_disk : {D : Type 0} {disk : DiskModel D} {base : Name} {old new : D} (r : Result Bool Stop) (b : Bool) → r ≡ Ok b → Recovery disk base old new r → RecoversAt disk base old new (Ok tt)
recovered_disk (Ok x) b is recovery = ends recovery (Ok tt) recovery.recovered tt
recovered_disk (Err e) b is recovery = absurd (cc is)

pub unrecovered_disk : {D : Type 0} {disk : DiskModel D} {base : Name} {old new : D} (r : Result Bool Stop) (e : Stop) → r ≡ Err e → Recovery disk base old new r → RecoversAt disk base old new (Err e)
unrecovered_disk (Ok x) e is recovery = absurd (cc is)
unrecovered_disk {disk = disk} {base = base} {old = old} {new = new} (Err f) e is recovery =
    let same : f ≡ e = cc is in
    subst (λ (x : Stop). RecoversAt disk base old new (Err x)) same (ends recovery (Err f) (λ told. tt) (stops_here disk base old new f recovery.causes))
