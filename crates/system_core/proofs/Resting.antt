-- A root on which all targets were put, the database's file among them: a further command may begin.
use Rattle.std.proofs.Common.{◌≡◌, ⊎_elim, true, false, List, ◌∷◌, [], ◌++◌, ℕ, All, Contains, Result, Ok, Err, OnOk, refl, ◌∙◌, ap, codes, subst}
use Rattle.std.proofs.lemmas.Bool.{cases_Bool}
use Rattle.std.proofs.lemmas.List.Elements.{All-contains}
use Rattle.std.specs.FinMap.{get}
use Rattle.rollback_stack.specs.cny-base.Reserved.{is_pinned, is_reserved}
use Rattle.rollback_stack.specs.cny-base.declared.stop.Stop.{Stop}
use Rattle.rollback_stack.specs.content-store.Store.{file_bytes}
use Rattle.rollback_stack.specs.journal-log.declared.put.Put.{Put}
use Rattle.rollback_stack.specs.journal-log.Targets.{is_target}
use Rattle.rollback_stack.specs.trove-stream.declared.parts.TroveParts.{TroveParts}
use Rattle.rollback_stack.specs.tree-disk.Confined.{Among, Confined}
use Rattle.rollback_stack.specs.tree-disk.Disk.{DiskModel}
use Rattle.rollback_stack.specs.tree-disk.Tree.{Name, is_dir, same_name}
use Rattle.job_targets.specs.declared.entry.Entry.{Entry}
use Rattle.local_db.specs.declared.db.Db.{Db}
use Rattle.local_db.specs.declared.format.Format.TheVariants.{Two}
use Rattle.local_db.specs.Formats.{database_bytes}
use Rattle.local_db.specs.Names.{database, record_file}
use Rattle.local_db.specs.Steps.{IsUnion, record_put}
use Rattle.local_db.specs.Stores.{HoldsDatabase, IsDatabase, written}
use Rattle.local_db.specs.SystemState.{IsFree}
use Rattle.local_db.proofs.Jobs.{outer_differs}
use Rattle.local_db.proofs.Places.{database_reserved, record_reserved}
use Rattle.local_db.proofs.Unions.{wrote_more, wrote_no_other}
use Rattle.local_db.proofs.Writes.{not_both}
use Rattle.local_db.proofs.cny-base.Lists.{contains_first, contains_rest}
use Rattle.rollback_stack.specs.Pushing.{is_written, IsPushed}
use Rattle.rollback_stack.specs.Saving.{dropped_below}
use Rattle.tree_journal.proofs.WriteSets.{target_at}
use Rattle.tree_journal.proofs.tree-disk.Children.{or_none as neither}
use Rattle.system_core.specs.FixedDirs.{fixed_dirs}
use Rattle.system_core.specs.Inserting.{put_of_db}
use Rattle.system_core.specs.JobWriting.{CanPutJob, database_write}
use Rattle.system_core.specs.RootReady.{MayBeginJob}
use Rattle.system_core.specs.RootWriting.{IsPut}
use Rattle.system_core.proofs.JobRunning.{outer_stays}
use Rattle.system_core.proofs.Sameness.{database_not_own, not_own}

-- no path that a job may change is above the private directory
unpinned : (puts : List Put) → All (λ (p : Put). IsFree p.path) puts → (q : Name) → is_pinned q ≡ true → is_target puts q ≡ false
unpinned puts free q pinned = ⊎_elim
    (λ hit. let t = target_at puts q hit in not_both (is_pinned q) pinned (ap is_pinned t.2 ∙ (All-contains (λ (p : Put). IsFree p.path) puts t.0 free t.1).not_pinned))
    (λ no. no)
    (cases_Bool (is_target puts q))

-- ---- the targets of a job or a rollback, and writes in the private directory

module _ {D : Type 0} {disk : DiskModel D} (all some more : List Put) (union : IsUnion all some more) (mid new : D) (put : IsPut disk all mid new) where
  -- the root holds the database that was put
  pub put_holds : (db : Db) → Contains more (put_of_db db) → IsDatabase Two db.installed db.oldest db.newest → HoldsDatabase Two (disk.reads new) db.installed db.oldest db.newest
  put_holds db among is = written is (ap file_bytes (put.stores database (database_not_own (disk.reads mid)) ∙ wrote_more all some more union (disk.reads mid) (put_of_db db) among))

  module _ (free : All (λ (p : Put). IsFree p.path) some) (in_private : (q : Name) → is_reserved q ≡ false → is_target more q ≡ false) (old : D)
      (same : (q : Name) → is_reserved q ≡ false → get (disk.reads mid) q ≡ get (disk.reads old) q) where
    -- what stands above the private directory stays
    pub pinned_stay : (q : Name) → is_pinned q ≡ true → is_reserved q ≡ false → get (disk.reads new) q ≡ get (disk.reads old) q
    pinned_stay q pinned out = put.stores q (not_own q out) ∙ wrote_no_other all some more union (disk.reads mid) q (unpinned some free q pinned) (in_private q out) ∙ same q out

    pub fixed_stay : fixed_dirs (disk.reads new) ≡ fixed_dirs (disk.reads old)
    fixed_stay = rw (pinned_stay (codes "/") refl refl, pinned_stay (codes "/var") refl refl, pinned_stay (codes "/var/lib") refl refl) refl

-- ---- a job

module _ {D : Type 0} {disk : DiskModel D} (puts : List Put) (before : List TroveParts) (es : List Entry) (db : Db) (free : All (λ (p : Put). IsFree p.path) puts) (is_db : IsDatabase Two db.installed db.oldest db.newest)
    (old mid new : D) (can : CanPutJob disk puts es old) (confined : Confined disk (Among (is_written db)) old mid) (records all : List Put) (bytes : List ℕ) (pushed_is : IsPushed (disk.reads mid) before es db records)
    (union : IsUnion all puts (records ++ database_write bytes ∷ [])) (text : bytes ≡ database_bytes Two db.installed db.oldest db.newest) where
  abbrev own : Put
  own = record_put db.newest pushed_is.mode pushed_is.bytes

  is_union : IsUnion all puts (own ∷ database_write bytes ∷ [])
  is_union = subst (λ (l : List Put). IsUnion all puts (l ++ database_write bytes ∷ [])) pushed_is.puts_are union

  in_private : (q : Name) → is_reserved q ≡ false → is_target (own ∷ database_write bytes ∷ []) q ≡ false
  in_private q out = neither (same_name q (record_file db.newest)) _ (outer_differs q (record_file db.newest) out (record_reserved db.newest))
      (neither (same_name q database) false (outer_differs q database out database_reserved) refl)

  database_in : Contains (own ∷ database_write bytes ∷ []) (put_of_db db)
  database_in = subst (λ (b : List ℕ). Contains (own ∷ database_write bytes ∷ []) (database_write b)) text (contains_rest own (database_write bytes) (database_write bytes ∷ []) (contains_first (database_write bytes) []))

  same : (q : Name) → is_reserved q ≡ false → get (disk.reads mid) q ≡ get (disk.reads old) q
  same q out = outer_stays db.newest (dropped_below db.oldest) puts old mid can.flag_clear can.synced confined q out

  pub put_ready : (r : Result (Unit {0}) Stop) → OnOk r (IsPut disk all mid new) → OnOk r (MayBeginJob disk db new)
  put_ready (Ok done) put = record {
    flag_clear = put.flag_clear;
    synced = put.synced;
    pinned = ap is_dir (pinned_stay all puts (own ∷ database_write bytes ∷ []) is_union mid new put free in_private old same (codes "/var/lib") refl refl) ∙ can.pinned;
    holds = put_holds all puts (own ∷ database_write bytes ∷ []) is_union mid new put db database_in is_db;
  }
  put_ready (Err e) put = tt

  pub put_fixed : (r : Result (Unit {0}) Stop) → OnOk r (IsPut disk all mid new) → OnOk r (fixed_dirs (disk.reads new) ≡ fixed_dirs (disk.reads old))
  put_fixed (Ok done) put = fixed_stay all puts (own ∷ database_write bytes ∷ []) is_union mid new put free in_private old same
  put_fixed (Err e) put = tt
