-- A disk that is opened: it is only read, recovered, and only read again.
use Rattle.std.proofs.Common.{◌≡◌, ◌≤◌, Bool, true, false, Result, Ok, Err, IfOk, IfErr, refl, sym, ap, ◌∙◌, subst, inl, inr, ⊎_elim, arith}
use Rattle.std.specs.Prelude.{IsTrue}
use Rattle.std.specs.FinMap.{get}
use Rattle.cny_laws.specs.system-core.cny-base.declared.refusal.Refusal.{Refusal}
use Rattle.cny_laws.specs.system-core.cny-base.declared.stop.Stop.{Stop}
use Rattle.cny_laws.specs.system-core.cny-base.declared.stop.Stop.TheVariants as stop
use Rattle.cny_laws.specs.system-core.tree-disk.Tree.{Tree}
use Rattle.cny_laws.specs.system-core.tree-disk.Disk.{DiskModel, IsDisk, IsImageOf, HasRead}
use Rattle.cny_laws.specs.system-core.tree-disk.Confined.{Among, LeavesOnly}
use Rattle.cny_laws.proofs.system-core.tree-disk.ConfinedLaws.{confined_read, confined_then, leaves_then, leaves_step, leaves_weaker}
use Rattle.cny_laws.specs.system-core.tree-disk.Moments.{same_images}
use Rattle.cny_laws.proofs.system-core.tree-disk.Moments.{rose_before}
use Rattle.cny_laws.specs.system-core.tree-disk.Steps.{no_name}
use Rattle.cny_laws.specs.system-core.tree-disk.Unfailed.{UnlessFailed}
use Rattle.cny_laws.proofs.system-core.tree-disk.Unfailed.{unfailed_then, unfailed_weaker}
use Rattle.cny_laws.specs.system-core.tree-journal.Recovery.{is_committed, RecoversTo, at_rest, by_log, RecoversAsThen, IsRecovered, IsDamagedAt}
use Rattle.cny_laws.specs.system-core.tree-journal.Recovering.{IsVisibleIn}
use Rattle.cny_laws.specs.system-core.tree-journal.Staging.{outcome}
use Rattle.cli_call.proofs.CommandLaws.{read_shown}
use Rattle.cny_laws.specs.Opening.{IsOpen, Opens, OpeningStops}
use Rattle.cny_laws.specs.system-core.tree-journal.Recovered.{RecoversAt, RecoveryStops, RecoversToNone, IsKept, RefusesLog}
use Rattle.cny_laws.specs.Store.{Store}
use Rattle.cny_laws.proofs.system-core.Opened.{visible_itself}

module _ {D X : Type 0} (store : Store X) {disk : DiskModel D} (laws : IsDisk disk) where
  -- a call that only reads leaves what a crash might leave before, and shows what stood before
  read_leaves : (old new : D) → HasRead disk old new (Unit {0}) → LeavesOnly disk old new (RecoversAsThen disk store.base old)
  read_leaves old new read = leaves_step laws read.time (λ image is. inl is) (λ image is. inl (same_images read.same image is))

  read_visible : (old new : D) → HasRead disk old new (Unit {0}) → UnlessFailed disk old new (IsVisibleIn store.base (disk.reads old))
  read_visible old new read = unfailed_weaker (λ t is. subst (IsVisibleIn store.base (disk.reads old)) (sym is) (visible_itself store.base (disk.reads old))) (read_shown laws read)

  -- ---- it was recovered

  as_at : (old mid : D) → HasRead disk old mid (Unit {0}) → (image : Tree) → RecoversAsThen disk store.base mid image → RecoversAsThen disk store.base old image
  as_at old mid read image h = ⊎_elim
      (λ is. inl (same_images read.same image is))
      (λ r. inr (λ tree to. r tree (subst (λ (t : Tree). RecoversTo store.base t tree) (sym read.same.reads) to)))
      h

  -- a recovered disk recovers to what it reads
  recovers_to_new : (mid new : D) → IsRecovered disk store.base mid new → IsKept store.base (disk.reads mid) (disk.reads new) → (b : Bool) → is_committed store.base (disk.reads mid) ≡ b → RecoversTo store.base (disk.reads mid) (disk.reads new)
  recovers_to_new mid new recovered kept true set =
      let log = recovered.had_log set in
      let stores = recovered.stores (outcome store.base log.puts (disk.reads mid)) (by_log set log.puts log.holds log.stand log.can (λ p out. refl)) in
      by_log set log.puts log.holds log.stand log.can (λ p out. sym (stores p out))
  recovers_to_new mid new recovered kept false clear = at_rest clear (λ p out. ap (λ (t : Tree). get t p) (sym (kept.same clear)))

  pub is_open : {V : Type 0} {tests : Tree → Result (Unit {0}) Refusal} {IsRead : Tree → V → Type 0} (old mid new : D) (value : V) → HasRead disk old mid (Unit {0}) → tests (disk.reads old) ≡ Ok tt → IsRecovered disk store.base mid new → IsKept store.base (disk.reads mid) (disk.reads new) → IsRead (disk.reads new) value
      → IsOpen store disk tests IsRead old new value
  is_open old mid new value read fixed recovered kept value_is = record {
    settled = record { flag_clear = recovered.flag_clear; synced = recovered.synced };
    fixed = fixed;
    recovers = subst (λ (t : Tree). RecoversTo store.base t (disk.reads new)) read.same.reads (recovers_to_new mid new recovered kept (is_committed store.base (disk.reads mid)) refl);
    stores = λ tree r. recovered.stores tree (subst (λ (t : Tree). RecoversTo store.base t tree) (sym read.same.reads) r);
    value_is = value_is;
  }

  -- first it was only read, and passed the tests
  pub opens_recovered : {V : Type 0} {tests : Tree → Result (Unit {0}) Refusal} {IsRead : Tree → V → Type 0} (old mid new : D) {s : Result (Unit {0}) Stop} (result : Result V Stop) → disk.faults old ≤ disk.faults mid → (IsTrue disk.tells → HasRead disk old mid (Unit {0})) → (IsTrue disk.tells → tests (disk.reads old) ≡ Ok tt) → RecoversAt disk store.base mid new s
      → (IsTrue disk.tells → IfOk result (IsOpen store disk tests IsRead old new)) → IfErr result (OpeningStops store disk tests old new) → Opens store disk tests IsRead old new result
  opens_recovered old mid new result later read fixed recovers opened stops = record {
    later = omega (arith, later, recovers.later);
    images = λ told. leaves_then (read_leaves old mid (read told)) (leaves_weaker (as_at old mid (read told)) (recovers.images told));
    seen = λ told. unfailed_then later recovers.later (read_visible old mid (read told))
        (unfailed_weaker (λ t seen. subst (λ (u : Tree). IsVisibleIn store.base u t) (read told).same.reads seen) (recovers.seen told));
    opened = opened;
    kept = λ told. subst (λ (t : Tree). IsKept store.base t (disk.reads new)) (read told).same.reads (recovers.kept told);
    missing = λ told r is. let ok = fixed told in absurd (cc (ok, is));
    untouched = λ told none. confined_then (confined_read laws (Among no_name) (read told)) (recovers.untouched told (subst (RecoversToNone store.base) (sym (read told).same.reads) none));
    clear = λ told off. confined_then (confined_read laws (Among no_name) (read told)) (recovers.clear told (ap (is_committed store.base) (read told).same.reads ∙ off));
    stops = stops;
  }

  -- why it wasn't recovered
  log_refused : (old mid new : D) (r : Refusal) → HasRead disk old mid (Unit {0}) → (disk.reads new ≡ disk.reads mid) × RefusesLog store.base (disk.reads mid) r → (disk.reads new ≡ disk.reads old) × RefusesLog store.base (disk.reads old) r
  log_refused old mid new r read h = (h.0 ∙ read.same.reads, subst (λ (t : Tree). RefusesLog store.base t r) read.same.reads h.1)

  pub stops_on : (tests : Tree → Result (Unit {0}) Refusal) (old mid new : D) (e : Stop) → disk.faults old ≤ disk.faults mid → (IsTrue disk.tells → HasRead disk old mid (Unit {0})) → RecoveryStops disk store.base mid new e → OpeningStops store disk tests old new e
  stops_on tests old mid new stop.Failed le read stops = rose_before (disk.faults old) (disk.faults mid) (disk.faults new) le stops
  stops_on tests old mid new stop.Memory le read stops = tt
  stops_on tests old mid new (stop.Refused r) le read stops = record { of_path = stops.0; told = λ told. let h = log_refused old mid new r (read told) (stops.1 told) in record { same = h.0; cause = inl h.1 } }
  stops_on tests old mid new (stop.Damaged path) le read stops = λ told. inl (record {
    damaged = subst (λ (t : Tree). IsDamagedAt store.base t path) (read told).same.reads (stops told).damaged;
    same = (stops told).same ∙ (read told).same.reads;
  })
  stops_on tests old mid new stop.FarFailed le read stops = absurd stops
  stops_on tests old mid new (stop.FarDamaged path) le read stops = absurd stops

  -- ---- it was recovered, and only read since

  image_since : (old mid : D) → LeavesOnly disk old mid (RecoversAsThen disk store.base old) → (image : Tree) → IsImageOf disk mid image → RecoversAsThen disk store.base old image
  image_since old mid leaves image is = leaves.each image (laws.counts_now mid (disk.now old) image leaves.later is)

  read_after : (old mid new : D) → LeavesOnly disk old mid (RecoversAsThen disk store.base old) → HasRead disk mid new (Unit {0}) → LeavesOnly disk mid new (RecoversAsThen disk store.base old)
  read_after old mid new leaves read = leaves_step laws read.time (λ image is. image_since old mid leaves image is) (λ image is. image_since old mid leaves image (same_images read.same image is))

  shown_after : (old mid new : D) → IsRecovered disk store.base old mid → HasRead disk mid new (Unit {0}) → UnlessFailed disk mid new (IsVisibleIn store.base (disk.reads old))
  shown_after old mid new recovered read = unfailed_weaker
      (λ t is tree to q out. inr (inl (ap (λ (u : Tree). get u q) is ∙ recovered.stores tree to q out)))
      (read_shown laws read)

  pub opens_loaded : {V : Type 0} {tests : Tree → Result (Unit {0}) Refusal} {IsRead : Tree → V → Type 0} (old mid new : D) (result : Result V Stop) → RecoversAt disk store.base old mid (Ok tt) → disk.faults mid ≤ disk.faults new → (IsTrue disk.tells → HasRead disk mid new (Unit {0})) → (IsTrue disk.tells → tests (disk.reads old) ≡ Ok tt)
      → (IsTrue disk.tells → IfOk result (IsOpen store disk tests IsRead old new)) → IfErr result (OpeningStops store disk tests old new) → Opens store disk tests IsRead old new result
  opens_loaded old mid new result recovers later read fixed opened stops = record {
    later = omega (arith, recovers.later, later);
    images = λ told. leaves_then (recovers.images told) (read_after old mid new (recovers.images told) (read told));
    seen = λ told. unfailed_then recovers.later later (recovers.seen told) (shown_after old mid new (recovers.recovered told) (read told));
    opened = opened;
    kept = λ told. subst (λ (t : Tree). IsKept store.base (disk.reads old) t) (sym (read told).same.reads) (recovers.kept told);
    missing = λ told r is. let ok = fixed told in absurd (cc (ok, is));
    untouched = λ told none. confined_then (recovers.untouched told none) (confined_read laws (Among no_name) (read told));
    clear = λ told off. confined_then (recovers.clear told off) (confined_read laws (Among no_name) (read told));
    stops = stops;
  }

  -- what a recovered disk has in common with one that was only read since
  pub recovered_on : (old mid new : D) → HasRead disk mid new (Unit {0}) → IsRecovered disk store.base old mid → IsRecovered disk store.base old new
  recovered_on old mid new read recovered = record {
    flag_clear = ap (is_committed store.base) read.same.reads ∙ recovered.flag_clear;
    synced = λ p. read.same.unsynced p ∙ recovered.synced p;
    stores = λ tree to p out. ap (λ (t : Tree). get t p) read.same.reads ∙ recovered.stores tree to p out;
    had_log = recovered.had_log;
  }

  pub opens_stopped : {V : Type 0} {tests : Tree → Result (Unit {0}) Refusal} {IsRead : Tree → V → Type 0} (old mid new : D) (s : Result (Unit {0}) Stop) (e : Stop) → s ≡ Err e → (IsTrue disk.tells → HasRead disk old mid (Unit {0})) → (IsTrue disk.tells → tests (disk.reads old) ≡ Ok tt) → disk.faults old ≤ disk.faults mid → RecoversAt disk store.base mid new s → Opens store disk tests IsRead old new (Err e)
  opens_stopped old mid new (Ok x) e is read fixed later recovers = absurd (cc is)
  opens_stopped {tests = tests} {IsRead = IsRead} old mid new (Err f) e is read fixed later recovers =
      let same : f ≡ e = cc is in
      subst (λ (x : Stop). Opens store disk tests IsRead old new (Err x)) same (opens_recovered old mid new (Err f) later read fixed recovers (λ told. tt) (stops_on tests old mid new f later read recovers.stops))
