-- The run of a job, from the system before it to the one after it.
use Rattle.std.proofs.Common.{◌≡◌, ◌⊎◌, ⊎_elim, inl, inr, ℕ, ◌+◌, ◌<◌, ◌≤◌, ◌^◌, Bool, true, false, IsTrue, List, [], ◌∷◌, ◌++◌, get_or, Option, Some, None, Result, Ok, Err, All, Contains, refl, sym, ◌∙◌, ap, subst, arith}
use Rattle.std.specs.Prelude.{IsErrAnd}
use Rattle.std.proofs.lemmas.Bool.{cases_Bool}
use Rattle.std.proofs.lemmas.List.Elements.{All-contains}
use Rattle.std.specs.FinMap.{get}
use Rattle.rollback_stack.specs.cny-base.Reserved.{private_directory, is_reserved}
use Rattle.rollback_stack.specs.cny-base.declared.limits.TheConstants.{JOBS_LIMIT}
use Rattle.rollback_stack.specs.cny-base.declared.stop.Stop.{Stop}
use Rattle.rollback_stack.specs.trove-stream.declared.parts.TroveParts.{TroveParts}
use Rattle.rollback_stack.specs.tree-disk.Tree.{Name, Tree, same_name, is_dir, may_stand}
use Rattle.rollback_stack.proofs.tree-disk.ClearLaws.{or_cases}
use Rattle.rollback_stack.specs.tree-disk.Laws.{same_means}
use Rattle.rollback_stack.proofs.tree-disk.Laws.{same_itself}
use Rattle.rollback_stack.specs.tree-disk.Disk.{DiskModel, IsDisk}
use Rattle.rollback_stack.specs.tree-disk.Moments.{shows_weaker}
use Rattle.rollback_stack.specs.tree-disk.Confined.{Among, Confined, DiffersOnlyAt, IsSynced, IsUnsyncedOr, LeavesOnly}
use Rattle.rollback_stack.proofs.tree-disk.ConfinedLaws.{confined_then, confined_wider, false_from_not, leaves_then, leaves_weaker}
use Rattle.rollback_stack.specs.tree-disk.Unfailed.{UnlessFailed}
use Rattle.rollback_stack.proofs.tree-disk.Unfailed.{unfailed_then}
use Rattle.rollback_stack.specs.journal-log.declared.put.Put.{Put}
use Rattle.rollback_stack.specs.journal-log.Own.{gate}
use Rattle.rollback_stack.specs.journal-log.Targets.{is_target, node_of, with_targets}
use Rattle.rollback_stack.specs.journal-log.WriteSet.{Rises}
use Rattle.tree_journal.specs.Recovery.{is_committed, is_flag, at_rest, RecoversTo}
use Rattle.job_targets.specs.Old.{is_staged}
use Rattle.local_db.specs.declared.format.Format.{Format}
use Rattle.local_db.specs.declared.format.Format.TheVariants.{Two}
use Rattle.local_db.specs.Formats.{database_bytes, AreEnds}
use Rattle.local_db.specs.Names.{counts, database, is_job_place, record_file}
use Rattle.local_db.specs.Record.{IsRecord}
use Rattle.local_db.specs.Stores.{StoresIn, IsDatabase}
use Rattle.local_db.specs.SystemState.{SystemState, IsFree}
use Rattle.local_db.specs.Steps.{after_job, old_of, record_put, IsUnion}
use Rattle.local_db.proofs.Places.{database_reserved, place_not_database, place_reserved, record_reserved}
use Rattle.local_db.specs.declared.db.Db.{Db}
use Rattle.rollback_stack.specs.Saving.{dropped_below, is_dropped_place, is_saving_name, IsNextJob, KeepsSystem}
use Rattle.rollback_stack.proofs.Keeping.{not_counted}
use Rattle.job_targets.specs.declared.entry.Entry.{Entry}
use Rattle.rollback_stack.specs.Entries.{AreEntries, entries_of}
use Rattle.rollback_stack.specs.Pushing.{is_written, IsPushed}
use Rattle.system_core.specs.RootWriting.{AreSettled, CanWrite, TakesRoot, RecoversToEitherSystem, ShowsEither, is_private_or_target}
use Rattle.system_core.specs.JobWriting.{CanPutJob, IsJobFrom}
use Rattle.system_core.specs.JobWriting as spec
use Rattle.system_core.proofs.StoredJob as stored
use Rattle.tree_journal.proofs.WriteSets.{target_at}
use Rattle.local_db.proofs.cny-base.Lists.{contains_cases, nothing_in}
use Rattle.tree_journal.proofs.journal-log.Walking.{listed as is_target-from}
use Rattle.tree_journal.proofs.tree-disk.Children.{or_none as neither}
use Rattle.local_db.proofs.cny-base.Bools.{or_left, or_right}

-- ---- the names that are written before the write set

isnt : (b : Bool) → b ≡ false → IsTrue b → ⊥
isnt b no' is = absurd (cc (no', is))

place_not_gate : (n : ℕ) → is_job_place n (gate private_directory) ≡ false
place_not_gate n = refl

dropped_not_gate : (dropped : Option ℕ) → is_dropped_place dropped (gate private_directory) ≡ false
dropped_not_gate None = refl
dropped_not_gate (Some n) = place_not_gate n

gate_not_written : (n : ℕ) (dropped : Option ℕ) → is_saving_name n dropped (gate private_directory) ≡ false
gate_not_written n dropped = neither (same_name (gate private_directory) private_directory) _ refl
    (neither (is_job_place n (gate private_directory)) _ (place_not_gate n) (dropped_not_gate dropped))

database_no_place : (n : ℕ) → is_job_place n database ≡ false
database_no_place n = ⊎_elim (λ is. absurd (cc (place_not_database n database is, same_itself database))) (λ out. out) (cases_Bool (is_job_place n database))

database_not_dropped : (dropped : Option ℕ) → is_dropped_place dropped database ≡ false
database_not_dropped None = refl
database_not_dropped (Some n) = database_no_place n

database_not_written : (n : ℕ) (dropped : Option ℕ) → is_saving_name n dropped database ≡ false
database_not_written n dropped = neither (same_name database private_directory) _ refl
    (neither (is_job_place n database) _ (database_no_place n) (database_not_dropped dropped))

dropped_reserved : (dropped : Option ℕ) (q : Name) → is_dropped_place dropped q ≡ true → is_reserved q ≡ true
dropped_reserved None q is = absurd (cc is)
dropped_reserved (Some n) q is = place_reserved n q is

written_reserved : (n : ℕ) (dropped : Option ℕ) (q : Name) → is_saving_name n dropped q ≡ true → is_reserved q ≡ true
written_reserved n dropped q is = ⊎_elim
    (λ base. ap is_reserved (same_means q private_directory base))
    (λ more. ⊎_elim (place_reserved n q) (dropped_reserved dropped q) (or_cases (is_job_place n q) (is_dropped_place dropped q) more))
    (or_cases (same_name q private_directory) _ is)

outer_not_written : (n : ℕ) (dropped : Option ℕ) (q : Name) → is_reserved q ≡ false → Among (is_saving_name n dropped) q → ⊥
outer_not_written n dropped q out is = absurd (cc (written_reserved n dropped q is, out))

-- ---- a run of two parts

module _ {D : Type 0} {disk : DiskModel D} where
  leaves_both : {old new : D} {P Q : Tree → Type 0} → LeavesOnly disk old new P → LeavesOnly disk old new Q → LeavesOnly disk old new (λ image. P image × Q image)
  leaves_both p q = record {
    later = p.later;
    each = λ image since. (p.each image since, q.each image since);
    before = λ k image le since. ⊎_elim
        (λ was. inl was)
        (λ a. ⊎_elim (λ was. inl was) (λ b. inr (a, b)) (q.before k image le since))
        (p.before k image le since);
    kept = p.kept;
  }

  module _ (n : ℕ) (dropped : Option ℕ) (puts : List Put) (old mid : D) (clear : is_committed private_directory (disk.reads old) ≡ false) (synced : IsSynced disk old)
      (confined : Confined disk (Among (is_saving_name n dropped)) old mid) where
    pub outer_stays : (q : Name) → is_reserved q ≡ false → get (disk.reads mid) q ≡ get (disk.reads old) q
    outer_stays q out = confined.reads q (outer_not_written n dropped q out)

    pub flag_clear : is_committed private_directory (disk.reads mid) ≡ false
    flag_clear = ap is_flag (confined.reads (gate private_directory) (isnt _ (gate_not_written n dropped))) ∙ clear

    pub still_synced : (q : Name) → is_saving_name n dropped q ≡ false → disk.unsynced mid q ≡ false
    still_synced q out = false_from_not (disk.unsynced mid q) (λ un. ⊎_elim
        (λ was. absurd (cc (was, synced q)))
        (λ is. isnt (is_saving_name n dropped q) out is)
        (confined.unsynced q un))

    pub flag_synced : disk.unsynced mid (gate private_directory) ≡ false
    flag_synced = still_synced (gate private_directory) (gate_not_written n dropped)

    pub no_dir_stays : is_dir (get (disk.reads old) database) ≡ false → is_dir (get (disk.reads mid) database) ≡ false
    no_dir_stays no_dir = ap is_dir (confined.reads database (isnt _ (database_not_written n dropped))) ∙ no_dir

    image_clear : (image : Tree) → DiffersOnlyAt (IsUnsyncedOr disk old (Among (is_saving_name n dropped))) (disk.reads old) image → is_committed private_directory image ≡ false
    image_clear image differs = ap is_flag (differs.agrees (gate private_directory) (λ h. ⊎_elim
        (λ un. absurd (cc (un, synced (gate private_directory))))
        (λ is. isnt _ (gate_not_written n dropped) is) h)) ∙ clear

    -- each image is at rest, and as it was outside the private directory and at the database
    pub image_outer : (image : Tree) → DiffersOnlyAt (IsUnsyncedOr disk old (Among (is_saving_name n dropped))) (disk.reads old) image → (q : Name) → is_reserved q ≡ false → get image q ≡ get (disk.reads old) q
    image_outer image differs q out = differs.agrees q (λ h. ⊎_elim
        (λ un. absurd (cc (un, synced q)))
        (λ is. outer_not_written n dropped q out is) h)

    pub image_database : (image : Tree) → DiffersOnlyAt (IsUnsyncedOr disk old (Among (is_saving_name n dropped))) (disk.reads old) image → get image database ≡ get (disk.reads old) database
    image_database image differs = differs.agrees database (λ h. ⊎_elim
        (λ un. absurd (cc (un, synced database)))
        (λ is. isnt _ (database_not_written n dropped) is) h)

    pub image_rests : (image : Tree) → DiffersOnlyAt (IsUnsyncedOr disk old (Among (is_saving_name n dropped))) (disk.reads old) image → RecoversTo private_directory image image
    image_rests image differs = at_rest (image_clear image differs) (λ q out. refl)

    within_private : (q : Name) → Among (is_saving_name n dropped) q → Among (is_private_or_target puts) q
    within_private q is = or_left (is_reserved q) (is_target puts q) (written_reserved n dropped q is)

    -- what is stored stays stored
    module _ (s t : SystemState) (keeps : KeepsSystem disk Two s old mid) where
      as_before : (image : Tree) → is_committed private_directory image ≡ false → StoresIn Two image s → RecoversToEitherSystem s t image
      as_before image no_flag stores = inl (image, at_rest no_flag (λ q out. refl), inr stores)

      kept_images : LeavesOnly disk old mid (RecoversToEitherSystem s t)
      kept_images = leaves_weaker (λ image both. as_before image (image_clear image both.1) both.0) (leaves_both keeps.images confined.images)

      kept_shown : UnlessFailed disk old mid (ShowsEither s t)
      kept_shown none = shows_weaker (λ shown stores q out. inl (stores.managed q out)) keeps.visible

      -- no more was done
      pub stopped_before : (Why : Stop → Type 0) (result : Result (Unit {0}) Stop) → IsErrAnd result Why → TakesRoot disk Two s t puts old mid result
      stopped_before Why (Ok x) is = absurd is
      stopped_before Why (Err stop) is = record {
        images = kept_images;
        rests = tt;
        reads = as_before (disk.reads mid) flag_clear keeps.now;
        shown = kept_shown;
        others = λ q out other. outer_stays q out;
        confined = confined_wider within_private confined;
      }

      -- and then the write set of the targets and two writes more
      module _ (all : List Put) (k mode : ℕ) (record_bytes bytes : List ℕ) (union : IsUnion all puts (record_put k mode record_bytes ∷ spec.database_write bytes ∷ [])) where
        target_cases : (q : Name) → is_target all q ≡ true → is_private_or_target puts q ≡ true
        target_cases q is =
            let a = target_at all q is in
            ⊎_elim
            (λ in'. or_right (is_reserved q) (is_target puts q) (ap (is_target puts) a.2 ∙ is_target-from puts a.0 in'))
            (λ in'. or_left (is_reserved q) (is_target puts q) (⊎_elim
            (λ same. ap is_reserved (a.2 ∙ ap (λ (p : Put). p.path) (sym same)) ∙ record_reserved k)
            (λ rest. ⊎_elim
            (λ same. ap is_reserved (a.2 ∙ ap (λ (p : Put). p.path) (sym same)) ∙ database_reserved)
            (λ none. absurd (nothing_in a.0 none))
            (contains_cases (spec.database_write bytes) a.0 [] rest))
            (contains_cases (record_put k mode record_bytes) a.0 (spec.database_write bytes ∷ []) in')))
            (All-contains (λ (p : Put). Contains puts p ⊎ Contains (record_put k mode record_bytes ∷ spec.database_write bytes ∷ []) p) all a.0 union.no_other a.1)

        not_target : (q : Name) → is_reserved q ≡ false → is_target puts q ≡ false → is_target all q ≡ false
        not_target q out other = ⊎_elim
            (λ is. absurd (cc (target_cases q is, neither (is_reserved q) (is_target puts q) out other)))
            (λ no'. no')
            (cases_Bool (is_target all q))

        within_all : (q : Name) → Among (is_private_or_target all) q → Among (is_private_or_target puts) q
        within_all q is = ⊎_elim
            (λ reserved. or_left (is_reserved q) (is_target puts q) reserved)
            (λ hit. target_cases q hit)
            (or_cases (is_reserved q) (is_target all q) is)

        pub joined : (new : D) (result : Result (Unit {0}) Stop) → disk.faults old ≤ disk.faults mid → disk.faults mid ≤ disk.faults new → TakesRoot disk Two s t all mid new result
            → TakesRoot disk Two s t puts old new result
        joined new result early late goes = record {
          images = leaves_then kept_images goes.images;
          rests = goes.rests;
          reads = goes.reads;
          shown = unfailed_then early late kept_shown goes.shown;
          others = λ q out other. goes.others q out (not_target q out other) ∙ outer_stays q out;
          confined = confined_then (confined_wider within_private confined) (confined_wider within_all goes.confined);
        }

-- the job comes next
pub next_job : (puts : List Put) (before : List TroveParts) (db : Db) (s : SystemState) → IsJobFrom s puts before db → IsNextJob s db.newest (dropped_below db.oldest)
next_job puts before db s from = record {
  job = old_of puts s;
  number_is = sym from.newest_is;
  next = from.newest_is;
  dropped_is = ap dropped_below from.oldest_is;
}

-- no more was done than to push its record
pub only_pushed : {D : Type 0} {disk : DiskModel D} {puts : List Put} {es : List Entry} {before : List TroveParts} {db : Db} {s : SystemState} {old mid : D} {result : Result (Unit {0}) Stop} → IsTrue disk.tells
    → CanPutJob disk puts es old → Confined disk (Among (is_written db)) old mid
    → ((f : Format) (s : SystemState) → IsNextJob s db.newest (dropped_below db.oldest) → IsTrue disk.tells → ((q : Name) → counts s q ≡ true → disk.unsynced old q ≡ false) → StoresIn f (disk.reads old) s → KeepsSystem disk f s old mid)
    → StoresIn Two (disk.reads old) s → IsJobFrom s puts before db → (Why : Stop → Type 0) → IsErrAnd result Why → TakesRoot disk Two s (after_job puts db.installed s) puts old mid result
only_pushed {puts = puts} {before = before} {db = db} {s = s} {old = old} {mid = mid} {result = result} tells can confined keeps stores from Why is =
    stopped_before db.newest (dropped_below db.oldest) puts old mid can.flag_clear can.synced confined s (after_job puts db.installed s)
    (keeps Two s (next_job puts before db s from) tells (λ q counted. can.synced q) stores) Why result is

-- ---- what the write set asks, and the system after it

module _ {D : Type 0} {disk : DiskModel D} (laws : IsDisk disk) (puts : List Put) (before : List TroveParts) (es : List Entry) (db : Db) (rises : Rises puts) (free : All (λ (p : Put). IsFree p.path) puts)
    (given : All (λ (p : Put). is_staged p.want ≡ false) puts) (is_db : IsDatabase Two db.installed db.oldest db.newest) (are : AreEntries es)
    (old mid : D) (can : CanPutJob disk puts es old) (confined : Confined disk (Among (is_written db)) old mid) where
  outer_same : (q : Name) → is_reserved q ≡ false → get (disk.reads mid) q ≡ get (disk.reads old) q
  outer_same q out = outer_stays db.newest (dropped_below db.oldest) puts old mid can.flag_clear can.synced confined q out

  most : db.newest ≤ JOBS_LIMIT
  most = top db.oldest db.newest is_db.ends
    where
      top : (low high : ℕ) → AreEnds low high → high ≤ JOBS_LIMIT
      top low high (inl none) = let limit : JOBS_LIMIT ≡ 4294967295 = refl in omega (arith, limit, none.1)
      top low high (inr some) = some.3

  module _ (records all : List Put) (bytes : List ℕ) (pushed_is : IsPushed (disk.reads mid) before es db records) (union : IsUnion all puts (records ++ spec.database_write bytes ∷ []))
      (stand : All (λ (p : Put). IsTrue (may_stand (node_of p.want))) all) where
    union_is : IsUnion all puts (record_put db.newest pushed_is.mode pushed_is.bytes ∷ spec.database_write bytes ∷ [])
    union_is = subst (λ (l : List Put). IsUnion all puts (l ++ spec.database_write bytes ∷ [])) pushed_is.puts_are union

    unstaged : (p : Put) → Contains puts p ⊎ Contains (record_put db.newest pushed_is.mode pushed_is.bytes ∷ spec.database_write bytes ∷ []) p → is_staged p.want ≡ false
    unstaged p (inl in') = All-contains (λ (p : Put). is_staged p.want ≡ false) puts p given in'
    unstaged p (inr in') = ⊎_elim
        (λ same. ap (λ (q : Put). is_staged q.want) (sym same))
        (λ rest. ⊎_elim
        (λ same. ap (λ (q : Put). is_staged q.want) (sym same))
        (λ none. absurd (nothing_in p none))
        (contains_cases (spec.database_write bytes) p [] rest))
        (contains_cases (record_put db.newest pushed_is.mode pushed_is.bytes) p (spec.database_write bytes ∷ []) in')

    pub can_write : CanWrite disk all mid
    can_write = record {
      flag_clear = flag_clear db.newest (dropped_below db.oldest) puts old mid can.flag_clear can.synced confined;
      flag_synced = flag_synced db.newest (dropped_below db.oldest) puts old mid can.flag_clear can.synced confined;
      given = λ k d lt. unstaged (get_or all k d) (union_is.no_other k d lt);
      some = puts;
      more = record_put db.newest pushed_is.mode pushed_is.bytes ∷ spec.database_write bytes ∷ [];
      managed = with_targets puts (disk.reads old);
      puttable = stored.puttable puts es (disk.reads old) (disk.reads mid) rises free can.targets outer_same
          all db.newest pushed_is.mode pushed_is.bytes bytes union_is most (laws.reads_well_formed mid) pushed_is.ready.base
          (pushed_is.ready.no_record (record_file db.newest) (or_left (same_name (record_file db.newest) (record_file db.newest)) _ (same_itself (record_file db.newest))))
          (no_dir_stays db.newest (dropped_below db.oldest) puts old mid can.flag_clear can.synced confined can.no_dir) stand;
    }

    -- outside the private directory it leaves the targets
    pub outer_written : (q : Name) → is_reserved q ≡ false → get (with_targets all (disk.reads mid)) q ≡ get (with_targets puts (disk.reads old)) q
    unfolding can_write
    outer_written = let write = can_write in let able = write.puttable in able.managed

    module _ (s : SystemState) (stores : StoresIn Two (disk.reads old) s) (from : IsJobFrom s puts before db) (text : bytes ≡ database_bytes Two db.installed db.oldest db.newest) where
      pub settled : AreSettled disk mid s
      settled q counted = still_synced db.newest (dropped_below db.oldest) puts old mid can.flag_clear can.synced confined q (⊎_elim
          (λ is. absurd (cc (counted, not_counted s db.newest (dropped_below db.oldest) (next_job puts before db s from) four stores.system q is)))
          (λ out. out)
          (cases_Bool (is_saving_name db.newest (dropped_below db.oldest) q)))
        where
          four : db.newest < 2 ^ 32
          four = let top : JOBS_LIMIT ≡ 4294967295 = refl in omega (arith, top, most)

      pub after_stored : StoresIn Two (with_targets all (disk.reads mid)) (after_job puts db.installed s)
      after_stored = stored.job_stored puts es (disk.reads old) (disk.reads mid) rises free can.targets outer_same s stores
          db.installed are.entries_are is_db.installed is_db.fits
          all db.newest db.oldest pushed_is.mode (dropped_below db.oldest) pushed_is.bytes bytes union_is from.newest_is most from.oldest_is text
          (subst (λ (l : List TroveParts). IsRecord Two db.newest l db.installed (entries_of es) pushed_is.bytes) from.list_is pushed_is.text)
          pushed_is.ready.contents.each (next_job puts before db s from) confined.reads
