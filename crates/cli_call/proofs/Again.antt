-- After a command a further one may begin.
use Rattle.std.proofs.Common.{◌≡◌, false, Result, Ok, Err, OnOk, sym, ◌∙◌, subst}
use Rattle.std.specs.Prelude.{IsTrue}
use Rattle.cny_laws.specs.system-core.cny-base.declared.stop.Stop.{Stop}
use Rattle.cny_laws.specs.system-core.tree-disk.Tree.{Name, Tree}
use Rattle.cny_laws.specs.system-core.tree-disk.Disk.{DiskModel, HasRead}
use Rattle.cny_laws.specs.system-core.tree-disk.Confined.{IsUnsynced}
use Rattle.cny_laws.proofs.system-core.tree-disk.ConfinedLaws.{false_from_not}
use Rattle.cny_laws.specs.system-core.tree-journal.Recovery.{is_committed}
use Rattle.cny_laws.specs.system-core.FixedDirs.{fixed_dirs}
use Rattle.cny_laws.specs.system-core.Opening.{IsSettledRoot}
use Rattle.cny_laws.specs.system-core.RootReady as job
use Rattle.cny_laws.specs.system-core.Rollback.{MayRollBack}
use Rattle.local_db.specs.declared.db.Db.{Db}
use Rattle.local_db.specs.declared.format.Format.TheVariants.{Two}
use Rattle.local_db.specs.Stores.{IsDatabase}
use Rattle.repo_index.specs.Catalogue.{CatalogueParts}
use Rattle.repo_load.specs.Files.{HoldsCatalogue}
use Rattle.repo_load.specs.Loading.{IsCatalogue}
use Rattle.cny_laws.specs.declared.opened.Opened.{Opened}
use Rattle.cny_laws.specs.Stops.{root_result}
use Rattle.cny_laws.specs.Stores.{repository_store}
use Rattle.cli_call.specs.Command.{disks, AreReady}
use Rattle.cli_call.proofs.ReadingEnds.{ready_on}
use Rattle.cli_call.proofs.RootResults.{root_ok}
use Rattle.cli_call.proofs.StoreLaws.{read_settled}

-- ---- what a job and a rollback leave

-- the root's step succeeded
pub on_done : {A X : Type 0} (r : Result A Stop) (x : A) → root_result r ≡ Ok x → OnOk r X → X
on_done {A = A} {X = X} r x is so = subst (λ (o : Result A Stop). OnOk o X) (root_ok r x is) so

ready_with : {D : Type 0} {disk : DiskModel D} {db : Db} {d : D} → job.MayBeginJob disk db d → MayRollBack disk db d
ready_with ready = record { flag_clear = ready.flag_clear; synced = ready.synced; holds = ready.holds }

-- a root on which a further job may begin is at rest
pub ready_rests : {D A : Type 0} (disk : DiskModel D) (db : Db) (d : D) (r : Result A Stop) → OnOk r (job.MayBeginJob disk db d) → OnOk r (IsSettledRoot disk d)
ready_rests disk db d (Ok x) ready = record { flag_clear = ready.flag_clear; synced = ready.synced }
ready_rests disk db d (Err e) ready = tt

-- What a commit leaves: this is the catalogue of the repository, the commit flag isn't set, and no name became unsynced.
pub record IsJoined {D : Type 0} (disk : DiskModel D) (c : CatalogueParts) (old new : D) : Type 0 where
  pub holds : HoldsCatalogue (disk.reads new) c
  pub flag_clear : is_committed repository_store.base (disk.reads new) ≡ false
  pub calm : (q : Name) → IsUnsynced disk new q → IsUnsynced disk old q

module _ {T P : Type 0} {root_disk : DiskModel T} {repo_disk : DiskModel P} where
  -- ---- commands that only read (`ready_on`: the root alone)

  -- the repository alone was read
  pub ready_far : (root : T) (repo repo' : P) (opened : Opened) → (IsTrue repo_disk.tells → HasRead repo_disk repo repo' (Unit {0})) → AreReady root_disk repo_disk (disks root repo opened) → AreReady root_disk repo_disk (disks root repo' opened)
  ready_far root repo repo' opened read ready = record {
    root = ready.root;
    database = ready.database;
    repo = λ told. record {
      settled = read_settled (read told) (ready.repo told).settled.flag_clear (ready.repo told).settled.synced;
      catalogue = subst (λ (t : Tree). HoldsCatalogue t opened.catalogue) (sym (read told).same.reads) (ready.repo told).catalogue;
    };
    rules = ready.rules;
  }

  -- both were read
  pub ready_both : (root root' : T) (repo repo' : P) (opened : Opened) → (IsTrue root_disk.tells → HasRead root_disk root root' (Unit {0})) → (IsTrue repo_disk.tells → HasRead repo_disk repo repo' (Unit {0}))
      → AreReady root_disk repo_disk (disks root repo opened) → AreReady root_disk repo_disk (disks root' repo' opened)
  ready_both root root' repo repo' opened root_read repo_read ready = ready_far root' repo repo' opened repo_read (ready_on root root' repo opened root_read ready)

  -- ---- commits

  pub ready_joined : (root : T) (repo repo' : P) (opened : Opened) (c : CatalogueParts) → (IsTrue repo_disk.tells → IsJoined repo_disk c repo repo') → IsCatalogue c
      → AreReady root_disk repo_disk (disks root repo opened) → AreReady root_disk repo_disk (disks root repo' (record { db = opened.db; catalogue = c }))
  ready_joined root repo repo' opened c joined rules ready = record {
    root = λ told. let r = ready.root told in record { fixed = r.fixed; flag_clear = r.flag_clear; synced = r.synced; holds = r.holds };
    database = ready.database;
    repo = λ told. record {
      settled = record {
        flag_clear = (joined told).flag_clear;
        synced = λ q. false_from_not (repo_disk.unsynced repo' q) (λ is.
            let was = (joined told).calm q is in
            let before = (ready.repo told).settled.synced q in
            absurd (cc (was, before)));
      };
      catalogue = (joined told).holds;
    };
    rules = rules;
  }

  -- ---- jobs and rollbacks

  -- what was put on the root is this database, and its fixed directories stayed
  pub ready_put : (root root' : T) (repo : P) (opened : Opened) (db : Db) → (IsTrue root_disk.tells → MayRollBack root_disk db root') → (IsTrue root_disk.tells → fixed_dirs (root_disk.reads root') ≡ fixed_dirs (root_disk.reads root))
      → IsDatabase Two db.installed db.oldest db.newest → AreReady root_disk repo_disk (disks root repo opened) → AreReady root_disk repo_disk (disks root' repo (record { db = db; catalogue = opened.catalogue }))
  ready_put root root' repo opened db put fixed rules ready = record {
    root = λ told. record {
      fixed = fixed told ∙ (ready.root told).fixed;
      flag_clear = (put told).flag_clear;
      synced = (put told).synced;
      holds = (put told).holds;
    };
    database = rules;
    repo = λ told. let r = ready.repo told in record { settled = r.settled; catalogue = r.catalogue };
    rules = ready.rules;
  }

  -- a job was done
  pub ready_changed : {A : Type 0} (root root' : T) (repo : P) (opened : Opened) (db : Db) (r : Result A Stop) (x : A) → root_result r ≡ Ok x → (IsTrue root_disk.tells → OnOk r (job.MayBeginJob root_disk db root'))
      → (IsTrue root_disk.tells → OnOk r (fixed_dirs (root_disk.reads root') ≡ fixed_dirs (root_disk.reads root))) → IsDatabase Two db.installed db.oldest db.newest
      → AreReady root_disk repo_disk (disks root repo opened) → AreReady root_disk repo_disk (disks root' repo (record { db = db; catalogue = opened.catalogue }))
  ready_changed root root' repo opened db r x is again fixed rules ready =
      ready_put root root' repo opened db (λ told. ready_with (on_done r x is (again told))) (λ told. on_done r x is (fixed told)) rules ready

  -- jobs were taken back
  pub ready_rolled : {A : Type 0} (root root' : T) (repo : P) (opened : Opened) (db : Db) (r : Result A Stop) (x : A) → root_result r ≡ Ok x → (IsTrue root_disk.tells → OnOk r (MayRollBack root_disk db root'))
      → (IsTrue root_disk.tells → OnOk r (fixed_dirs (root_disk.reads root') ≡ fixed_dirs (root_disk.reads root))) → IsDatabase Two db.installed db.oldest db.newest
      → AreReady root_disk repo_disk (disks root repo opened) → AreReady root_disk repo_disk (disks root' repo (record { db = db; catalogue = opened.catalogue }))
  ready_rolled root root' repo opened db r x is again fixed rules ready = ready_put root root' repo opened db (λ told. on_done r x is (again told)) (λ told. on_done r x is (fixed told)) rules ready
