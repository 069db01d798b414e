-- A write set put on a root, as a step from system to system.
use Rattle.std.proofs.Common.{◌≡◌, inl, inr, ⊎_elim, true, false, List, [], ◌∷◌, map, get_or, All, Option, Result, Ok, Err, refl, sym, ◌∙◌, ap, subst, arith}
use Rattle.std.specs.Prelude.{IsErrAnd, OnOk, OnErr}
use Rattle.std.proofs.lemmas.List.Elements.{All-head, All-tail}
use Rattle.std.specs.FinMap.{get}
use Rattle.rollback_stack.specs.cny-base.Reserved.{private_directory, is_reserved}
use Rattle.rollback_stack.specs.cny-base.declared.node.Node.{Node}
use Rattle.rollback_stack.specs.cny-base.declared.stop.Stop.{Stop}
use Rattle.rollback_stack.specs.tree-disk.Tree.{Name, Tree, is_dir, WellFormed}
use Rattle.rollback_stack.proofs.tree-disk.ClearLaws.{or_cases}
use Rattle.rollback_stack.specs.tree-disk.Disk.{DiskModel, IsDisk, IsImageOf}
use Rattle.rollback_stack.specs.tree-disk.Confined.{Among, Confined, LeavesOnly}
use Rattle.rollback_stack.proofs.tree-disk.ConfinedLaws.{confined_start, confined_wider, leaves_weaker}
use Rattle.rollback_stack.specs.tree-disk.Unfailed.{UnlessFailed}
use Rattle.rollback_stack.proofs.tree-disk.Unfailed.{unfailed_start, unfailed_weaker}
use Rattle.rollback_stack.specs.journal-log.declared.put.Want.{Want}
use Rattle.rollback_stack.specs.journal-log.declared.put.Want.TheVariants as want
use Rattle.rollback_stack.specs.journal-log.declared.put.Put.{Put}
use Rattle.rollback_stack.specs.journal-log.Own.{gate, is_own, StoresSame}
use Rattle.rollback_stack.specs.journal-log.Targets.{is_target, with_targets}
use Rattle.tree_journal.specs.Apply as apply
use Rattle.tree_journal.specs.Apply.{CanApply, IsAtRest, IsBeforeOrAfter, IsOneOf, is_own_or_target}
use Rattle.tree_journal.specs.CanBePut.{AllCanBePut}
use Rattle.tree_journal.specs.Recovery.{is_committed, is_flag, RecoversTo, at_rest}
use Rattle.tree_journal.specs.Staging.{has_content, resolved, resolve, outcome}
use Rattle.tree_journal.specs.Visible.{IsVisible, ShowsNode}
use Rattle.tree_journal.proofs.OwnFiles.{base_kept}
use Rattle.job_targets.specs.Old.{is_staged}
use Rattle.local_db.specs.declared.format.Format.{Format}
use Rattle.local_db.specs.declared.format.Format.TheVariants.{One, Two}
use Rattle.local_db.specs.SystemState.{SystemState}
use Rattle.local_db.specs.Stores.{StoresIn, StoresSystem}
use Rattle.local_db.proofs.Frame.{stores_still}
use Rattle.local_db.proofs.Places.{own_doesnt_count, own_reserved}
use Rattle.local_db.proofs.Putting.{all_can, all_formed, all_named}
use Rattle.local_db.proofs.Together.{at_every_moment}
use Rattle.system_core.specs.RootWriting.{AreSettled, CanWrite, TakesRoot, IsPut, RecoversToOneOf, RestsInFormat, RecoversToEitherSystem, ShowsEither, KeepsNonTargets, PutsOnRoot, is_private_or_target}
use Rattle.system_core.proofs.Sameness.{not_own}
use Rattle.local_db.proofs.cny-base.Bools.{or_left, or_right}
use Rattle.tree_journal.proofs.tree-disk.Children.{some_dir as stands_dir}

-- ---- no bytes are staged

pub want_kept : (base : Name) (x : Tree) (w : Want) → is_staged w ≡ false → resolved base x w ≡ w
want_kept base x want.Nothing given = refl
want_kept base x (want.Dir mode) given = refl
want_kept base x (want.File mode bytes) given = refl
want_kept base x (want.Link target) given = refl
want_kept base x (want.Staged mode number size name) given = absurd (cc given)

pub puts_kept : (base : Name) (x : Tree) (puts : List Put) → All (λ (p : Put). is_staged p.want ≡ false) puts → map (resolve base x) puts ≡ puts
puts_kept base x [] given = refl
puts_kept base x (p ∷ puts) given =
    ap (λ (w : Want). record { path = p.path; want = w } ∷ map (resolve base x) puts) (want_kept base x p.want (All-head (λ (p : Put). is_staged p.want ≡ false) p puts given))
    ∙ ap (λ (l : List Put). p ∷ l) (puts_kept base x puts (All-tail (λ (p : Put). is_staged p.want ≡ false) p puts given))

pub has_want : (base : Name) (x : Tree) (w : Want) → is_staged w ≡ false → has_content base x w ≡ true
has_want base x want.Nothing given = refl
has_want base x (want.Dir mode) given = refl
has_want base x (want.File mode bytes) given = refl
has_want base x (want.Link target) given = refl
has_want base x (want.Staged mode number size name) given = absurd (cc given)

-- the journal's result is the tree with all targets
pub goal_is : (puts : List Put) (x : Tree) → All (λ (p : Put). is_staged p.want ≡ false) puts → is_dir (get x private_directory) ≡ true
    → apply.goal private_directory puts x ≡ with_targets puts x
goal_is puts x given base =
    ap (λ (t : Tree). outcome private_directory puts t) (base_kept private_directory x base)
    ∙ ap (λ (l : List Put). with_targets l x) (puts_kept private_directory x puts given)

-- ---- what the journal asks

module _ {D : Type 0} (disk : DiskModel D) (puts : List Put) (old : D) (can : CanWrite disk puts old) where
  pub whole : apply.goal private_directory puts (disk.reads old) ≡ with_targets puts (disk.reads old)
  whole = goal_is puts (disk.reads old) can.given can.puttable.base

  pub may_apply : CanApply disk private_directory puts old
  may_apply = record {
    parent_stands = can.puttable.well_formed.parents private_directory (stands_dir (get (disk.reads old) private_directory) can.puttable.base);
    flag_clear = can.flag_clear;
    flag_synced = can.flag_synced;
    named = all_named can.some can.more puts (disk.reads old) can.managed can.puttable;
    stand = λ k d lt. has_want private_directory (disk.reads old) (get_or puts k d).want (can.given k d lt);
    can = subst (AllCanBePut puts) (sym (base_kept private_directory (disk.reads old) can.puttable.base)) (all_can can.some can.more puts (disk.reads old) can.managed can.puttable);
    well_formed = subst WellFormed (sym whole) (all_formed can.some can.more puts (disk.reads old) can.managed can.puttable);
  }

  -- after Ok all targets stand
  pub put_on : (new : D) (result : Result (Unit {0}) Stop) → OnOk result (IsAtRest disk private_directory (apply.goal private_directory puts (disk.reads old)) new) → OnOk result (IsPut disk puts old new)
  put_on new (Ok done) rest = subst (λ (t : Tree). IsAtRest disk private_directory t new) whole rest
  put_on new (Err stop) rest = tt

pub not_put : (Why : Stop → Type 0) (P : Type 0) (result : Result (Unit {0}) Stop) → IsErrAnd result Why → OnOk result P
not_put Why P (Ok done) is = absurd is
not_put Why P (Err stop) is = tt

-- ---- from one system to the other

stores_either : (f : Format) (x : Tree) (s : SystemState) → StoresIn f x s → StoresSystem x s
stores_either One x s h = inl h
stores_either Two x s h = inr h

same_itself : (x : Tree) → StoresSame private_directory x x
same_itself x q out = refl

module _ {D : Type 0} {disk : DiskModel D} (laws : IsDisk disk) (puts : List Put) (old : D) (can : CanWrite disk puts old)
    (f g : Format) (s t : SystemState) (stores : StoresIn f (disk.reads old) s) (settled : AreSettled disk old s) (after : StoresIn g (with_targets puts (disk.reads old)) t) where
  as_reads : (image : Tree) → RecoversTo private_directory image (disk.reads old) → RecoversToEitherSystem s t image
  as_reads image recovers = inl (disk.reads old, recovers, stores_either f (disk.reads old) s stores)

  as_after : (image : Tree) → RecoversTo private_directory image (apply.goal private_directory puts (disk.reads old)) → RecoversToEitherSystem s t image
  as_after image recovers = inr (with_targets puts (disk.reads old), subst (RecoversTo private_directory image) (whole disk puts old can) recovers, stores_either g (with_targets puts (disk.reads old)) t after)

  moment : (image : Tree) → IsBeforeOrAfter disk private_directory puts old image → RecoversToEitherSystem s t image
  moment image recovers = at_every_moment f g (disk.reads old) (with_targets puts (disk.reads old)) (disk.unsynced old) s t image stores after settled
      (⊎_elim (λ before. inl before) (λ done. inr (subst (RecoversTo private_directory image) (whole disk puts old can) done)) recovers)

  -- ---- nothing was done

  clear_image : (image : Tree) → IsImageOf disk old image → is_committed private_directory image ≡ false
  clear_image image crash = ap is_flag (crash.synced (gate private_directory) can.flag_synced) ∙ can.flag_clear

  pub nothing_done : (Why : Stop → Type 0) (result : Result (Unit {0}) Stop) → IsErrAnd result Why → TakesRoot disk g s t puts old old result
  nothing_done Why (Ok done) is = absurd is
  nothing_done Why (Err stop) is = record {
    images = record {
      later = omega arith;
      each = λ image since.
          let crash = laws.only_now old image since in
          moment image (inl (image, crash, at_rest (clear_image image crash) (same_itself image)));
      before = λ k image le since. inl since;
      kept = λ k image le since. since;
    };
    rests = tt;
    reads = as_reads (disk.reads old) (at_rest can.flag_clear (same_itself (disk.reads old)));
    shown = unfailed_start old (ShowsEither s t);
    others = λ q out other. refl;
    confined = confined_start laws (Among (is_private_or_target puts)) old;
  }

  -- ---- the write set was applied

  module _ (new : D) (any_moment : LeavesOnly disk old new (IsBeforeOrAfter disk private_directory puts old))
      (confined : Confined disk (Among (is_own_or_target private_directory puts)) old new)
      (visible : UnlessFailed disk old new (IsVisible private_directory (disk.reads old) (apply.goal private_directory puts (disk.reads old)))) where
    shows : (shown : Tree) → IsVisible private_directory (disk.reads old) (apply.goal private_directory puts (disk.reads old)) shown → ShowsEither s t shown
    shows shown is q out =
        let e : get (apply.goal private_directory puts (disk.reads old)) q ≡ get t.tree q = ap (λ (y : Tree). get y q) (whole disk puts old can) ∙ after.managed q out in
        subst (λ (n : Option Node). ShowsNode n (get t.tree q) (get shown q)) (stores.managed q out)
        (subst (λ (n : Option Node). ShowsNode (get (disk.reads old) q) n (get shown q)) e (is q (not_own q out)))

    keeps : KeepsNonTargets puts (disk.reads old) (disk.reads new)
    keeps q out other = confined.reads q (λ among. ⊎_elim (λ own. cc (own, not_own q out)) (λ is. cc (is, other)) (or_cases (is_own private_directory q) (is_target puts q) among))

    is_private : (q : Name) → is_own_or_target private_directory puts q ≡ true → is_private_or_target puts q ≡ true
    is_private q among = ⊎_elim
        (λ own. or_left (is_reserved q) (is_target puts q) (own_reserved q own))
        (λ is. or_right (is_reserved q) (is_target puts q) is)
        (or_cases (is_own private_directory q) (is_target puts q) among)

    at_last : (tree : Tree) → StoresSame private_directory tree (apply.goal private_directory puts (disk.reads old)) → StoresIn g tree t
    at_last tree same = stores_still g (with_targets puts (disk.reads old)) tree t
        (λ q counted. same q (own_doesnt_count t q counted) ∙ ap (λ (y : Tree). get y q) (whole disk puts old can)) after

    resting : IsAtRest disk private_directory (apply.goal private_directory puts (disk.reads old)) new → RestsInFormat disk g t new
    resting rest = record { flag_clear = rest.flag_clear; synced = rest.synced; stores = at_last (disk.reads new) rest.stores }

    pub goes_on : (result : Result (Unit {0}) Stop) → OnOk result (IsAtRest disk private_directory (apply.goal private_directory puts (disk.reads old)) new)
        → OnErr result (IsOneOf private_directory puts (disk.reads old) (disk.reads new)) → TakesRoot disk g s t puts old new result
    goes_on (Ok done) applied stopped = record {
      images = leaves_weaker moment any_moment;
      rests = resting applied;
      reads = as_after (disk.reads new) (at_rest applied.flag_clear applied.stores);
      shown = unfailed_weaker shows visible;
      others = keeps;
      confined = confined_wider is_private confined;
    }
    goes_on (Err stop) applied stopped = record {
      images = leaves_weaker moment any_moment;
      rests = tt;
      reads = ⊎_elim (as_reads (disk.reads new)) (as_after (disk.reads new)) stopped;
      shown = unfailed_weaker shows visible;
      others = keeps;
      confined = confined_wider is_private confined;
    }

-- ---- of trees

module _ {D : Type 0} {disk : DiskModel D} (laws : IsDisk disk) (puts : List Put) (old : D) (can : CanWrite disk puts old) where
  pub nothing_written : PutsOnRoot disk puts old old
  nothing_written = record {
    images = record {
      later = omega arith;
      each = λ image since.
          let crash = laws.only_now old image since in
          inl (image, crash, at_rest (ap is_flag (crash.synced (gate private_directory) can.flag_synced) ∙ can.flag_clear) (same_itself image));
      before = λ k image le since. inl since;
      kept = λ k image le since. since;
    };
    reads = inl (at_rest can.flag_clear (same_itself (disk.reads old)));
    shown = unfailed_start old (IsVisible private_directory (disk.reads old) (with_targets puts (disk.reads old)));
    confined = confined_start laws (Among (is_own_or_target private_directory puts)) old;
  }

  module _ (new : D) (any_moment : LeavesOnly disk old new (IsBeforeOrAfter disk private_directory puts old))
      (confined : Confined disk (Among (is_own_or_target private_directory puts)) old new)
      (visible : UnlessFailed disk old new (IsVisible private_directory (disk.reads old) (apply.goal private_directory puts (disk.reads old)))) where
    writes : RecoversToOneOf puts (disk.reads old) (disk.reads new) → PutsOnRoot disk puts old new
    writes reads = record {
      images = leaves_weaker (λ image is. ⊎_elim (λ before. inl before) (λ done. inr (subst (RecoversTo private_directory image) (whole disk puts old can) done)) is) any_moment;
      reads = reads;
      shown = unfailed_weaker (λ t is. subst (λ (y : Tree). IsVisible private_directory (disk.reads old) y t) (whole disk puts old can) is) visible;
      confined = confined;
    }

    pub all_written : (result : Result (Unit {0}) Stop) → OnOk result (IsAtRest disk private_directory (apply.goal private_directory puts (disk.reads old)) new)
        → OnErr result (IsOneOf private_directory puts (disk.reads old) (disk.reads new)) → PutsOnRoot disk puts old new
    all_written (Ok done) applied stopped = writes (inr (subst (RecoversTo private_directory (disk.reads new)) (whole disk puts old can) (at_rest applied.flag_clear applied.stores)))
    all_written (Err stop) applied stopped = writes (⊎_elim (λ before. inl before) (λ after. inr (subst (RecoversTo private_directory (disk.reads new)) (whole disk puts old can) after)) stopped)
