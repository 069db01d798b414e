-- A root that is opened: it is only read, and recovered.
use Rattle.std.proofs.Common.{◌≡◌, ◌≤◌, Bool, true, false, Result, Ok, Err, IfErr, refl, sym, ap, ◌∙◌, subst, inl, inr, ⊎_elim, arith}
use Rattle.std.specs.Prelude.{IsTrue, List, OnOk, All}
use Rattle.std.specs.FinMap.{get}
use Rattle.std.proofs.lemmas.List.Elements.{All-contains}
use Rattle.rollback_stack.specs.cny-base.Reserved.{private_directory}
use Rattle.rollback_stack.specs.cny-base.declared.refusal.Refusal.{Refusal}
use Rattle.rollback_stack.specs.cny-base.declared.stop.Stop.{Stop}
use Rattle.rollback_stack.specs.cny-base.declared.stop.Stop.TheVariants as stop
use Rattle.rollback_stack.specs.journal-log.declared.put.Put.{Put}
use Rattle.rollback_stack.specs.tree-disk.Tree.{Name, Tree}
use Rattle.rollback_stack.specs.tree-disk.Disk.{DiskModel, IsDisk, HasRead}
use Rattle.rollback_stack.specs.tree-disk.Confined.{Among, Confined, LeavesOnly}
use Rattle.rollback_stack.proofs.tree-disk.ConfinedLaws.{confined_read, confined_then, leaves_then, leaves_step, leaves_weaker}
use Rattle.rollback_stack.proofs.tree-disk.Laws.{same_tree}
use Rattle.rollback_stack.specs.tree-disk.Moments.{same_images}
use Rattle.rollback_stack.proofs.tree-disk.Moments.{rose_before}
use Rattle.rollback_stack.specs.tree-disk.Steps.{no_name, Found, Tests}
use Rattle.rollback_stack.specs.tree-disk.Unfailed.{UnlessFailed}
use Rattle.rollback_stack.proofs.tree-disk.Unfailed.{unfailed_confined, unfailed_then, unfailed_weaker}
use Rattle.tree_journal.specs.CanBePut.{CanBePut}
use Rattle.tree_journal.specs.Recovery.{is_committed, RecoversTo, at_rest, by_log, RecoversAsThen, IsRecovered, IsDamagedAt, log_damaged, staged_damaged}
use Rattle.tree_journal.specs.Recovering.{IsVisibleIn}
use Rattle.tree_journal.specs.Staging.{has_content, outcome}
use Rattle.system_core.specs.FixedDirs.{RefusesPath, fixed_dirs}
use Rattle.system_core.specs.Opening.{HasRecoveredRoot, IsOpeningStop, RecoversRoot}
use Rattle.tree_journal.specs.Recovered.{IsKept, RecoversAt, RecoversToNone, RecoveryStops, RefusesLog}

-- ---- a root that recovers to some tree has no log that can't be put, and none that is damaged

pub never_blocked : {base : Name} {tree recovered : Tree} {r : Refusal} → RefusesLog base tree r → RecoversTo base tree recovered → ⊥
never_blocked log (at_rest clear stores) = let set = log.blocked.committed in absurd (cc (set, clear))
never_blocked {tree = tree} log (by_log set puts holds stand can stores) =
    let same : puts ≡ log.blocked.puts = log.blocked.only puts holds in
    let all = subst (λ (l : List Put). All (CanBePut l tree) l) same can in
    log.blocked.blocked.cannot (All-contains (CanBePut log.blocked.puts tree) log.blocked.puts log.blocked.blocked.write all log.blocked.blocked.listed)

pub never_damaged_log : {base : Name} {tree recovered : Tree} {path : Name} → IsDamagedAt base tree path → RecoversTo base tree recovered → ⊥
never_damaged_log (log_damaged set here none) (at_rest clear stores) = absurd (cc (set, clear))
never_damaged_log (log_damaged set here none) (by_log set' puts holds stand can stores) = none puts holds
never_damaged_log (staged_damaged set puts holds only first) (at_rest clear stores) = absurd (cc (set, clear))
never_damaged_log {base = base} {tree = tree} (staged_damaged set puts holds only first) (by_log set' others holds' stand can stores) =
    let same : others ≡ puts = only others holds' in
    let all = subst (λ (l : List Put). All (λ (p : Put). IsTrue (has_content base tree p.want)) l) same stand in
    let stands : has_content base tree first.write.want ≡ true = All-contains (λ (p : Put). IsTrue (has_content base tree p.want)) puts first.write all first.listed in
    let fails : has_content base tree first.write.want ≡ false = first.fails in
    absurd (cc (stands, fails))

pub visible_itself : (base : Name) (t : Tree) → IsVisibleIn base t t
visible_itself base t tree r q out = inl refl

pub kept_so : (base : Name) (tree : Tree) → IsKept base tree tree
kept_so base tree = record { still = λ recovered r. r; same = λ clear. refl }

module _ {D : Type 0} {disk : DiskModel D} (laws : IsDisk disk) where
  -- a call that only reads shows one tree
  pub read_shown : {old new : D} {Answer : Type 0} → HasRead disk old new Answer → UnlessFailed disk old new (λ t. t ≡ disk.reads old)
  read_shown {old = old} read = unfailed_confined (confined_read laws (Among no_name) read) (λ t agrees. same_tree t (disk.reads old) (λ p. agrees p (λ among. absurd cc)))

  -- it leaves what a crash might leave before, and shows what stood before
  pub read_leaves : (old new : D) → HasRead disk old new (Unit {0}) → LeavesOnly disk old new (RecoversAsThen disk private_directory old)
  read_leaves old new read = leaves_step laws read.time (λ image is. inl is) (λ image is. inl (same_images read.same image is))

  pub read_visible : (old new : D) → HasRead disk old new (Unit {0}) → UnlessFailed disk old new (IsVisibleIn private_directory (disk.reads old))
  read_visible old new read = unfailed_weaker (λ t is. subst (IsVisibleIn private_directory (disk.reads old)) (sym is) (visible_itself private_directory (disk.reads old))) (read_shown read)

  -- ---- the root was only read

  pub opens_read : (old new : D) (e : Stop) → disk.faults old ≤ disk.faults new → (IsTrue disk.tells → HasRead disk old new (Unit {0})) → IsOpeningStop disk old new e → RecoversRoot disk old new (Err e)
  opens_read old new e later read stops = record {
    later = later;
    images = λ told. read_leaves old new (read told);
    seen = λ told. read_visible old new (read told);
    opened = λ told. tt;
    kept = λ told. subst (IsKept private_directory (disk.reads old)) (sym (read told).same.reads) (kept_so private_directory (disk.reads old));
    missing = λ told r is. read told;
    untouched = λ told none. confined_read laws (Among no_name) (read told);
    clear = λ told off. confined_read laws (Among no_name) (read told);
    stops = stops;
  }

  -- a test stopped
  pub found_stops : (told : Bool) (expected : Result (Unit {0}) Refusal) (e : Stop) (old new : D) → disk.tells ≡ told → expected ≡ fixed_dirs (disk.reads old) → (IsTrue disk.tells → HasRead disk old new (Unit {0})) → Found (λ (d : Unit {0}). d) told expected (Err e) (disk.faults old) (disk.faults new) → RefusesPath e → IsOpeningStop disk old new e
  found_stops told expected stop.Failed old new is same read found of_path = found
  found_stops told expected stop.Memory old new is same read found of_path = tt
  found_stops told expected (stop.Refused r) old new is same read found of_path = (of_path, λ t. record { cause = inl (sym same ∙ found (sym is ∙ t)); kept = confined_read laws (Among no_name) (read t) })
  found_stops told expected (stop.Damaged path) old new is same read found of_path = absurd found
  found_stops told expected stop.FarFailed old new is same read found of_path = absurd found
  found_stops told expected (stop.FarDamaged path) old new is same read found of_path = absurd found

  pub tests_stopped : (old new : D) (e : Stop) → Tests disk (λ (d : Unit {0}). d) fixed_dirs old new (Err e) → RefusesPath e → RecoversRoot disk old new (Err e)
  tests_stopped old new e checks of_path = opens_read old new e checks.later checks.same (found_stops disk.tells (fixed_dirs (disk.reads old)) e old new refl refl checks.same checks.found of_path)

  -- ---- it was recovered

  pub as_at : (old mid : D) → HasRead disk old mid (Unit {0}) → (image : Tree) → RecoversAsThen disk private_directory mid image → RecoversAsThen disk private_directory old image
  as_at old mid read image h = ⊎_elim
      (λ is. inl (same_images read.same image is))
      (λ r. inr (λ tree to. r tree (subst (λ (t : Tree). RecoversTo private_directory t tree) (sym read.same.reads) to)))
      h

  -- a recovered disk recovers to what it reads
  pub recovers_to_new : (mid new : D) → IsRecovered disk private_directory mid new → IsKept private_directory (disk.reads mid) (disk.reads new) → (b : Bool) → is_committed private_directory (disk.reads mid) ≡ b → RecoversTo private_directory (disk.reads mid) (disk.reads new)
  recovers_to_new mid new recovered kept true set =
      let log = recovered.had_log set in
      let stores = recovered.stores (outcome private_directory log.puts (disk.reads mid)) (by_log set log.puts log.holds log.stand log.can (λ p out. refl)) in
      by_log set log.puts log.holds log.stand log.can (λ p out. sym (stores p out))
  recovers_to_new mid new recovered kept false clear = at_rest clear (λ p out. ap (λ (t : Tree). get t p) (sym (kept.same clear)))

  pub is_open : (old mid new : D) → HasRead disk old mid (Unit {0}) → fixed_dirs (disk.reads old) ≡ Ok tt → IsRecovered disk private_directory mid new → IsKept private_directory (disk.reads mid) (disk.reads new) → HasRecoveredRoot disk old new
  is_open old mid new read fixed recovered kept = record {
    rests = record { flag_clear = recovered.flag_clear; synced = recovered.synced };
    fixed = fixed;
    recovers = subst (λ (t : Tree). RecoversTo private_directory t (disk.reads new)) read.same.reads (recovers_to_new mid new recovered kept (is_committed private_directory (disk.reads mid)) refl);
    stores = λ tree r. recovered.stores tree (subst (λ (t : Tree). RecoversTo private_directory t tree) (sym read.same.reads) r);
  }

  -- first it was only read, and passed the tests
  module _ (old mid new : D) (later : disk.faults old ≤ disk.faults mid) (read : IsTrue disk.tells → HasRead disk old mid (Unit {0})) (fixed : IsTrue disk.tells → fixed_dirs (disk.reads old) ≡ Ok tt)
      (s : Result (Unit {0}) Stop) (recovers : RecoversAt disk private_directory mid new s) where
    untouched_on : IsTrue disk.tells → RecoversToNone private_directory (disk.reads old) → Confined disk (Among no_name) old new
    untouched_on told none = confined_then (confined_read laws (Among no_name) (read told)) (recovers.untouched told (subst (RecoversToNone private_directory) (sym (read told).same.reads) none))

    opens_recovered : (IsTrue disk.tells → OnOk s (HasRecoveredRoot disk old new)) → IfErr s (IsOpeningStop disk old new) → RecoversRoot disk old new s
    opens_recovered opened stops = record {
      later = omega (arith, later, recovers.later);
      images = λ told. leaves_then (read_leaves old mid (read told)) (leaves_weaker (as_at old mid (read told)) (recovers.images told));
      seen = λ told. unfailed_then later recovers.later (read_visible old mid (read told))
          (unfailed_weaker (λ t seen. subst (λ (u : Tree). IsVisibleIn private_directory u t) (read told).same.reads seen) (recovers.seen told));
      opened = opened;
      kept = λ told. subst (λ (t : Tree). IsKept private_directory t (disk.reads new)) (read told).same.reads (recovers.kept told);
      missing = λ told r is. let ok = fixed told in absurd (cc (ok, is));
      untouched = untouched_on;
      clear = λ told off. confined_then (confined_read laws (Among no_name) (read told)) (recovers.clear told (ap (is_committed private_directory) (read told).same.reads ∙ off));
      stops = stops;
    }

    -- why it wasn't recovered
    stops_on : (e : Stop) → RecoveryStops disk private_directory mid new e → IsOpeningStop disk old new e
    stops_on stop.Failed stops = rose_before (disk.faults old) (disk.faults mid) (disk.faults new) later stops
    stops_on stop.Memory stops = tt
    stops_on (stop.Refused r) stops = (
      stops.0,
      λ told.
          let log = subst (λ (t : Tree). RefusesLog private_directory t r) (read told).same.reads (stops.1 told).1 in
          record { cause = inr log; kept = untouched_on told (λ tree to. never_blocked log to) },
    )
    stops_on (stop.Damaged path) stops = λ told.
        let damaged = subst (λ (t : Tree). IsDamagedAt private_directory t path) (read told).same.reads (stops told).damaged in
        record { damaged = damaged; kept = untouched_on told (λ tree to. never_damaged_log damaged to) }
    stops_on stop.FarFailed stops = absurd stops
    stops_on (stop.FarDamaged path) stops = absurd stops

  pub checked_opens : (old mid new : D) (s : Result (Unit {0}) Stop) → Tests disk (λ (d : Unit {0}). d) fixed_dirs old mid (Ok tt) → RecoversAt disk private_directory mid new s → RecoversRoot disk old new s
  checked_opens old mid new (Ok x) checks recovers = opens_recovered old mid new checks.later checks.same checks.found (Ok x) recovers
      (λ told. is_open old mid new (checks.same told) (checks.found told) (recovers.recovered told) (recovers.kept told)) tt
  checked_opens old mid new (Err e) checks recovers = opens_recovered old mid new checks.later checks.same checks.found (Err e) recovers
      (λ told. tt) (stops_on old mid new checks.later checks.same checks.found (Err e) recovers e recovers.stops)
