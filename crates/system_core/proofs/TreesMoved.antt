-- What a crash leaves of a root's tree and database while a job is written, also where the root stores no system.
use Rattle.std.proofs.Common.{◌≡◌, ◌⊎◌, ⊎_elim, inl, inr, ℕ, false, List, ◌∷◌, [], ◌++◌, Option, None, IsTrue, All, Contains, Result, Ok, Err, OnOk, refl, sym, ◌∙◌, ap, subst}
use Rattle.std.proofs.lemmas.Bool.{cases_Bool}
use Rattle.std.specs.FinMap.{get}
use Rattle.rollback_stack.specs.cny-base.Reserved.{private_directory, is_reserved}
use Rattle.rollback_stack.specs.cny-base.declared.stop.Stop.{Stop}
use Rattle.rollback_stack.specs.content-store.Store.{file_bytes}
use Rattle.rollback_stack.specs.journal-log.declared.put.Put.{Put}
use Rattle.rollback_stack.specs.journal-log.Targets.{is_target, node_of, with_targets}
use Rattle.rollback_stack.specs.journal-log.WriteSet.{Rises}
use Rattle.rollback_stack.specs.trove-stream.declared.parts.TroveParts.{TroveParts}
use Rattle.rollback_stack.specs.tree-disk.Confined.{Among, Confined, DiffersOnlyAt, IsSynced, IsUnsyncedOr}
use Rattle.rollback_stack.specs.tree-disk.Disk.{DiskModel, HasRead, IsDisk, IsImageOf}
use Rattle.rollback_stack.specs.tree-disk.Moments.{same_start, time_start}
use Rattle.rollback_stack.specs.tree-disk.Tree.{Name, Tree, may_stand}
use Rattle.rollback_stack.proofs.tree-disk.ConfinedLaws.{confined_read, confined_start, leaves_then, leaves_weaker}
use Rattle.job_targets.specs.declared.entry.Entry.{Entry}
use Rattle.job_targets.specs.Old.{is_staged}
use Rattle.local_db.specs.declared.db.Db.{Db}
use Rattle.local_db.specs.declared.format.Format.TheVariants.{Two}
use Rattle.local_db.specs.Formats.{database_bytes}
use Rattle.local_db.specs.Names.{database}
use Rattle.local_db.specs.Steps.{record_put, IsUnion}
use Rattle.local_db.specs.Stores.{absent, written, HoldsDatabase, IsDatabase}
use Rattle.local_db.specs.SystemState.{IsFree}
use Rattle.local_db.proofs.Unions.{wrote_more}
use Rattle.local_db.proofs.cny-base.Lists.{contains_first, contains_rest}
use Rattle.rollback_stack.specs.Entries.{AreEntries}
use Rattle.rollback_stack.specs.Pushing.{is_written, IsPushed}
use Rattle.rollback_stack.specs.Saving.{dropped_below, is_saving_name}
use Rattle.tree_journal.specs.Recovery.{is_committed, RecoversTo}
use Rattle.tree_journal.proofs.WriteSets.{with_targets_inside, with_targets_outside}
use Rattle.update_job.specs.declared.comparing.Change.{Change}
use Rattle.update_job.specs.Changes.{AreChanges}
use Rattle.system_core.specs.Answers.{moves, only_read, HasWrites, StepMoves}
use Rattle.system_core.specs.Inserting.{put_of_db}
use Rattle.system_core.specs.Job.{Sources}
use Rattle.system_core.specs.JobWriting.{CanPutJob, CanWriteJob, HasTargets, MovesHeld, MovesTrees, RecoversToHeld, database_write}
use Rattle.system_core.specs.Last.{db_after, PassesLast}
use Rattle.system_core.specs.Lists.{ListStep, to_list}
use Rattle.system_core.specs.RootReady.{MayBeginJob}
use Rattle.system_core.specs.RootWriting.{IsPut, PutsOnRoot, RecoversToPut}
use Rattle.system_core.proofs.AnswerLaws.{led}
use Rattle.system_core.proofs.JobRunning.{outer_written, image_database, image_outer, image_rests}
use Rattle.system_core.proofs.Sameness.{not_own}

-- the database of a tree that has the same at its name
held_alike : (x y : Tree) (db : Db) → get y database ≡ get x database → HoldsDatabase Two x db.installed db.oldest db.newest → HoldsDatabase Two y db.installed db.oldest db.newest
held_alike x y db same (absent none empty a b) = absent (same ∙ none) empty a b
held_alike x y db same (written is file) = written is (ap file_bytes same ∙ file)

module _ {D : Type 0} {disk : DiskModel D} where
  -- ---- writes in the private directory alone

  module _ (n : ℕ) (dropped : Option ℕ) (puts : List Put) (old mid : D) (clear : is_committed private_directory (disk.reads old) ≡ false) (synced : IsSynced disk old)
      (confined : Confined disk (Among (is_saving_name n dropped)) old mid) where
    -- an image recovers to itself, or to another one
    as_before : (db : Db) → HoldsDatabase Two (disk.reads old) db.installed db.oldest db.newest → (image tree : Tree) → DiffersOnlyAt (IsUnsyncedOr disk old (Among (is_saving_name n dropped))) (disk.reads old) tree
        → RecoversTo private_directory image tree → RecoversToHeld (disk.reads old) db image
    as_before db held image tree differs recovers = record {
      recovered = tree;
      recovers = recovers;
      outer = image_outer n dropped puts old mid clear synced confined tree differs;
      holds = held_alike (disk.reads old) tree db (image_database n dropped puts old mid clear synced confined tree differs) held;
    }

    pub saved_moves : (after : Db) → MovesHeld disk puts after old mid
    saved_moves after db held = leaves_weaker (λ image differs. inl (as_before db held image image differs (image_rests n dropped puts old mid clear synced confined image differs))) confined.images

    -- and then the write set
    module _ (laws : IsDisk disk) (all : List Put) (after : Db) (new : D) (outer : (q : Name) → is_reserved q ≡ false → get (with_targets all (disk.reads mid)) q ≡ get (with_targets puts (disk.reads old)) q)
        (holds : HoldsDatabase Two (with_targets all (disk.reads mid)) after.installed after.oldest after.newest) where
      put_image : (db : Db) → HoldsDatabase Two (disk.reads old) db.installed db.oldest db.newest → (image : Tree) → RecoversToPut disk all mid image
          → RecoversToHeld (disk.reads old) db image ⊎ RecoversToHeld (with_targets puts (disk.reads old)) after image
      put_image db held image (inl was) = inl (as_before db held image was.0 (let run = confined.images in run.each was.0 (laws.counts_now mid (disk.now old) was.0 run.later was.1)) was.2)
      put_image db held image (inr recovers) = inr (record { recovered = with_targets all (disk.reads mid); recovers = recovers; outer = outer; holds = holds })

      pub put_moves : PutsOnRoot disk all mid new → MovesHeld disk puts after old new
      put_moves goes db held = leaves_then (saved_moves after db held) (leaves_weaker (put_image db held) goes.images)

  -- nothing was done
  pub nothing_moves : (laws : IsDisk disk) (before after : Db) (puts : List Put) (es : List Entry) (d : D) → CanWriteJob disk before puts es d → MovesTrees disk puts before after d d
  nothing_moves laws before after puts es d can = saved_moves 0 None puts d d can.flag_clear can.synced (confined_start laws (Among (is_saving_name 0 None)) d) after before can.holds

pub nothing_read : {D : Type 0} {disk : DiskModel D} → IsDisk disk → (d : D) → HasRead disk d d (Unit {0})
nothing_read {disk = disk} laws d = record { answer = tt; same = same_start disk d; time = time_start laws d }

-- where two trees are equal, they are with all targets
pub targets_alike : (puts : List Put) (x y : Tree) (q : Name) → get x q ≡ get y q → get (with_targets puts x) q ≡ get (with_targets puts y) q
targets_alike puts x y q same = ⊎_elim
    (λ hit. with_targets_inside puts x y q hit)
    (λ miss. with_targets_outside puts x q miss ∙ same ∙ sym (with_targets_outside puts y q miss))
    (cases_Bool (is_target puts q))

-- there are no targets
pub no_targets : {D : Type 0} (disk : DiskModel D) (puts : List Put) (d : D) → puts ≡ [] → HasTargets disk puts d d
no_targets disk puts d none q out = ap (λ (l : List Put). get (with_targets l (disk.reads d)) q) (sym none)

-- ---- a job

module _ {D : Type 0} {disk : DiskModel D} (laws : IsDisk disk) (puts : List Put) (before : List TroveParts) (es : List Entry) (db : Db) (rises : Rises puts) (free : All (λ (p : Put). IsFree p.path) puts)
    (given : All (λ (p : Put). is_staged p.want ≡ false) puts) (is_db : IsDatabase Two db.installed db.oldest db.newest) (are : AreEntries es)
    (old mid : D) (can : CanPutJob disk puts es old) (confined : Confined disk (Among (is_written db)) old mid)
    (records all : List Put) (bytes : List ℕ) (pushed_is : IsPushed (disk.reads mid) before es db records) (union : IsUnion all puts (records ++ database_write bytes ∷ []))
    (stand : All (λ (p : Put). IsTrue (may_stand (node_of p.want))) all) (text : bytes ≡ database_bytes Two db.installed db.oldest db.newest) where
  outer_put : (q : Name) → is_reserved q ≡ false → get (with_targets all (disk.reads mid)) q ≡ get (with_targets puts (disk.reads old)) q
  outer_put = outer_written laws puts before es db rises free given is_db are old mid can confined records all bytes pushed_is union stand

  abbrev own : Put
  own = record_put db.newest pushed_is.mode pushed_is.bytes

  is_union : IsUnion all puts (own ∷ database_write bytes ∷ [])
  is_union = subst (λ (l : List Put). IsUnion all puts (l ++ database_write bytes ∷ [])) pushed_is.puts_are union

  database_in : Contains (own ∷ database_write bytes ∷ []) (put_of_db db)
  database_in = subst (λ (b : List ℕ). Contains (own ∷ database_write bytes ∷ []) (database_write b)) text (contains_rest own (database_write bytes) (database_write bytes ∷ []) (contains_first (database_write bytes) []))

  database_put : HoldsDatabase Two (with_targets all (disk.reads mid)) db.installed db.oldest db.newest
  database_put = written is_db (ap file_bytes (wrote_more all puts (own ∷ database_write bytes ∷ []) is_union (disk.reads mid) (put_of_db db) database_in))

  -- however the write set ends
  pub job_moves : (new : D) → PutsOnRoot disk all mid new → MovesHeld disk puts db old new
  job_moves new goes = put_moves db.newest (dropped_below db.oldest) puts old mid can.flag_clear can.synced confined laws all db new outer_put database_put goes

  -- after Ok the targets stand
  pub job_targets : (new : D) (r : Result (Unit {0}) Stop) → OnOk r (IsPut disk all mid new) → OnOk r (HasTargets disk puts old new)
  job_targets new (Ok done) put = λ q out. put.stores q (not_own q out) ∙ outer_put q out
  job_targets new (Err e) put = tt

-- ---- a call, behind its tests

module _ {D : Type 0} {disk : DiskModel D} (laws : IsDisk disk) (from : Sources) (step : ListStep) (db : Db) (old : D) where
  -- meanwhile it was only read
  pub moves_since : (mid new : D) → MayBeginJob disk db old → HasRead disk old mid (Unit {0}) → (puts : List Put) (after : Db) → MovesTrees disk puts db after mid new → MovesTrees disk puts db after old new
  moves_since mid new ready read puts after goes = leaves_then
      (saved_moves 0 None puts old mid ready.flag_clear ready.synced (confined_read laws (Among (is_saving_name 0 None)) read) after db ready.holds)
      (leaves_weaker (λ image h. subst (λ (t : Tree). RecoversToHeld t db image ⊎ RecoversToHeld (with_targets puts t) after image) read.same.reads h) goes)

  pub written_moves : (mid new : D) → MayBeginJob disk db old → HasRead disk old mid (Unit {0}) → (list : List TroveParts) → step.leads list → (puts : List Put) → HasWrites from db.installed list (disk.reads old) puts
      → (changes : List Change) → AreChanges db.installed list changes → (new ≡ mid) ⊎ PassesLast db list puts → MovesTrees disk puts db (db_after db list) mid new → StepMoves disk from step db old new
  written_moves mid new ready read list leads puts writes changes are tested goes = ⊎_elim
      (λ (same : new ≡ mid). only_read (subst (λ (d : D). HasRead disk old d (Unit {0})) (sym same) read))
      (λ (passed : PassesLast db list puts). moves list leads puts writes passed changes are
      (moves_since mid new ready read puts (db_after db list) goes))
      tested

  -- the list follows by the call's own step
  pub moves_by : (list : List TroveParts) → step.leads list → (new : D) → StepMoves disk from (to_list list) db old new → StepMoves disk from step db old new
  moves_by list leads new (only_read read) = only_read read
  moves_by list leads new (moves l is puts writes passed changes are goes) = moves l (led step list l leads is) puts writes passed changes are goes
