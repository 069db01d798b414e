-- What crash images recover to during a recovery.
use Rattle.std.proofs.Common.{◌≡◌, inl, inr, ⊎_elim, ◌≤◌, Bool, true, false, IsTrue, List, Option, Some, None, is_some, Result, Ok, Err, OnOk, IfOk, IfErr, IsErrAnd, refl, sym, ◌∙◌, ap, subst, arith}
use Rattle.std.proofs.lemmas.Bool.{cases_Bool}
use Rattle.std.specs.Prelude.{codes}
use Rattle.std.specs.FinMap.{get}
use Rattle.journal_log.specs.cny-base.Count.{Rose}
use Rattle.journal_log.specs.cny-base.Path.{is_path}
use Rattle.journal_log.specs.cny-base.declared.node.Node.{Node}
use Rattle.journal_log.specs.cny-base.declared.refusal.Refusal.TheVariants as refusal
use Rattle.journal_log.specs.cny-base.declared.stop.Stop.{Stop}
use Rattle.journal_log.specs.cny-base.declared.stop.Stop.TheVariants.{Refused, Memory, Failed, Damaged, FarFailed, FarDamaged}
use Rattle.journal_log.specs.tree-disk.Tree.{Name, Tree, same_name, is_dir, WellFormed}
use Rattle.journal_log.proofs.tree-disk.Laws.{get_put_here, get_put_other, reads_image, same_tree}
use Rattle.journal_log.specs.tree-disk.Moments.{same_start, same_on, time_start, time_on}
use Rattle.journal_log.proofs.tree-disk.Moments.{rose_before}
use Rattle.journal_log.specs.tree-disk.Disk.{DiskModel, IsDisk, IsImageOf, HasRead}
use Rattle.journal_log.specs.tree-disk.Confined.{Among, Confined, IsSynced, LeavesOnly}
use Rattle.journal_log.specs.tree-disk.Steps.{no_name, Ended, Makes}
use Rattle.journal_log.proofs.tree-disk.ConfinedLaws.{false_from_not, leaves_weaker, leaves_then, confined_read, confined_then}
use Rattle.journal_log.specs.tree-disk.Unfailed.{UnlessFailed}
use Rattle.journal_log.proofs.tree-disk.Unfailed.{unfailed_weaker, unfailed_then, unfailed_confined}
use Rattle.journal_log.specs.declared.put.Put.{Put}
use Rattle.journal_log.specs.Own.{gate, log, is_own, StoresSame}
use Rattle.tree_journal.specs.Staging.{outcome}
use Rattle.tree_journal.specs.Recovery.{is_flag, is_committed, RecoversTo, at_rest, by_log, RecoversAsThen, IsRecovered, HasPutLog, HasReplayable, HasBlockedLog, IsDamagedAt}
use Rattle.tree_journal.specs.Recovering.{IsVisibleIn, Recovers, Replays}
use Rattle.tree_journal.specs.Found.{Finds, FindsReplayable, IsFaultOr, StopsSo}
use Rattle.tree_journal.specs.Passes.{all_put}
use Rattle.tree_journal.specs.Visible.{IsVisible}
use Rattle.tree_journal.specs.Steps.{is_replay_name, replayed, HasLog, IsCommitted}
use Rattle.tree_journal.proofs.OwnNames.{in_gate}
use Rattle.tree_journal.proofs.Seen.{visible_before, visible_same}
use Rattle.tree_journal.proofs.ReplayImages.{recovers_same, unchanged_leaves, same_all_put}
use Rattle.journal_log.proofs.tree-disk.Children.{clash}
use Rattle.journal_log.proofs.tree-disk.Names.{parent_join}
use Rattle.tree_journal.proofs.Finding.{if_err as err_if_err, if_ok_err as err_if_ok}
use Rattle.journal_log.proofs.cny-base.Bools.{or_left}

-- ---- results

on_ok_map : {X P Q : Type 0} (r : Result X Stop) → (P → Q) → OnOk r P → OnOk r Q
on_ok_map (Ok x) f p = f p
on_ok_map (Err e) f p = tt

if_ok_map : {X : Type 0} {P Q : X → Type 0} (r : Result X Stop) → ((x : X) → P x → Q x) → IfOk r P → IfOk r Q
if_ok_map (Ok x) f p = f x p
if_ok_map (Err e) f p = tt

if_err_map : {X : Type 0} {P Q : Stop → Type 0} (r : Result X Stop) → ((e : Stop) → P e → Q e) → IfErr r P → IfErr r Q
if_err_map (Ok x) f p = tt
if_err_map (Err e) f p = f e p

pub err_on_ok : {X : Type 0} (P : Type 0) (e : Stop) (r : Result X Stop) → IsErrAnd r (λ s. s ≡ e) → OnOk r P
err_on_ok P e (Ok x) is = absurd is
err_on_ok P e (Err s) is = tt

-- what isn't a path stands nowhere
pub no_flag : (base : Name) (tree : Tree) → WellFormed tree → is_path (gate base) ≡ false → is_committed base tree ≡ false
no_flag base tree well no_path = at (get tree (gate base)) (λ stands. well.paths (gate base) stands) refl
  where
    at : (o : Option Node) → (is_some o ≡ true → is_path (gate base) ≡ true) → get tree (gate base) ≡ o → is_flag o ≡ false
    at None path is = refl
    at (Some node) path is = clash (is_path (gate base)) (path refl) no_path

-- ---- calls that change nothing

-- no name changed
pub same_at_all : {D : Type 0} (disk : DiskModel D) (old new : D) → Confined disk (Among no_name) old new → disk.reads new ≡ disk.reads old
same_at_all disk old new run = same_tree (disk.reads new) (disk.reads old) (λ q. run.reads q (λ h. absurd (cc h)))

images_back : {D : Type 0} (disk : DiskModel D) (old new : D) → Confined disk (Among no_name) old new → (image : Tree) → IsImageOf disk new image → IsImageOf disk old image
images_back disk old new run image is = record {
  well_formed = is.well_formed;
  synced = λ p none. is.synced p (false_from_not (disk.unsynced new p) (λ h. ⊎_elim (λ was. absurd (cc (was, none))) (λ own. absurd (cc own)) (run.unsynced p h))) ∙ run.reads p (λ h. absurd (cc h));
}

quiet_visible : {D : Type 0} (disk : DiskModel D) (base : Name) (old new : D) → Confined disk (Among no_name) old new → UnlessFailed disk old new (IsVisibleIn base (disk.reads old))
quiet_visible disk base old new run = unfailed_confined run (λ t agrees tree r. visible_before base (disk.reads old) tree t (λ q out. agrees q (λ h. absurd (cc h))))

still_so : {D : Type 0} (disk : DiskModel D) (base : Name) (old new : D) → disk.reads new ≡ disk.reads old → (tree : Tree) → RecoversTo base (disk.reads old) tree → RecoversTo base (disk.reads new) tree
still_so disk base old new is tree r = subst (λ (t : Tree). RecoversTo base t tree) (sym is) r

pub stops_on : {D : Type 0} (disk : DiskModel D) (base : Name) (old mid new : D) (e : Stop) → disk.faults old ≤ disk.faults mid → (IsTrue disk.tells → disk.reads mid ≡ disk.reads old) → StopsSo disk base mid new e → StopsSo disk base old new e
stops_on disk base old mid new Failed le is so = rose_before (disk.faults old) (disk.faults mid) (disk.faults new) le so
stops_on disk base old mid new Memory le is so = tt
stops_on disk base old mid new (Refused (refusal.Parent path)) le is so = λ tells. (subst (λ (t : Tree). HasBlockedLog base t path) (is tells) (so tells).0, (so tells).1 ∙ is tells)
stops_on disk base old mid new (Damaged path) le is so = λ tells. (subst (λ (t : Tree). IsDamagedAt base t path) (is tells) (so tells).0, (so tells).1 ∙ is tells)
stops_on disk base old mid new _ le is so = so

recovered_on : {D : Type 0} (disk : DiskModel D) (base : Name) (old mid new : D) → disk.reads mid ≡ disk.reads old → IsRecovered disk base mid new → IsRecovered disk base old new
recovered_on disk base old mid new is end = record {
  flag_clear = end.flag_clear;
  synced = end.synced;
  stores = λ tree r. end.stores tree (subst (λ (t : Tree). RecoversTo base t tree) (sym is) r);
  had_log = λ set. subst (HasReplayable base) is (end.had_log (ap (is_committed base) is ∙ set));
}

-- why a call stopped
pub fault_stops : {D : Type 0} (disk : DiskModel D) (base : Name) (old new : D) (e : Stop) → IsFaultOr (Rose (disk.faults old) (disk.faults new)) e → StopsSo disk base old new e
fault_stops disk base old new Failed so = so
fault_stops disk base old new Memory so = tt
fault_stops disk base old new (Refused refusal) so = absurd so
fault_stops disk base old new (Damaged path) so = absurd so
fault_stops disk base old new FarFailed so = so
fault_stops disk base old new (FarDamaged path) so = so

pub made_stops : {X D : Type 0} (disk : DiskModel D) (base : Name) (old mid new : D) (after : Tree) (r : Result X Stop) → disk.faults old ≤ disk.faults mid
    → Ended disk.tells after (disk.reads new) r (disk.faults mid) (disk.faults new) → IfErr r (StopsSo disk base old new)
made_stops disk base old mid new after (Ok x) le ended = tt
made_stops disk base old mid new after (Err Failed) le ended = rose_before (disk.faults old) (disk.faults mid) (disk.faults new) le ended
made_stops disk base old mid new after (Err Memory) le ended = tt
made_stops disk base old mid new after (Err (Refused refusal)) le ended = absurd ended
made_stops disk base old mid new after (Err (Damaged path)) le ended = absurd ended
made_stops disk base old mid new after (Err FarFailed) le ended = ended
made_stops disk base old mid new after (Err (FarDamaged path)) le ended = ended

pub made_stop : (X : Type 0) {D : Type 0} (disk : DiskModel D) (base : Name) (old new : D) (after : Tree) (e : Stop) → Ended {X = X} disk.tells after (disk.reads new) (Err e) (disk.faults old) (disk.faults new) → StopsSo disk base old new e
made_stop X disk base old new after Failed ended = ended
made_stop X disk base old new after Memory ended = tt
made_stop X disk base old new after (Refused refusal) ended = absurd ended
made_stop X disk base old new after (Damaged path) ended = absurd ended
made_stop X disk base old new after FarFailed ended = ended
made_stop X disk base old new after (FarDamaged path) ended = ended

-- ---- a recovery behind calls that changed nothing

module _ {D : Type 0} (disk : DiskModel D) (laws : IsDisk disk) (base : Name) where
  -- it stops, with nothing changed
  pub recovers_stopped : (old new : D) (e : Stop) (r : Result Bool Stop) → disk.faults old ≤ disk.faults new → (IsTrue disk.tells → Confined disk (Among no_name) old new)
      → IsErrAnd r (λ s. s ≡ e) → StopsSo disk base old new e → Recovers disk base old new r
  recovers_stopped old new e r le quiet is so = record {
    any_moment = λ tells. unchanged_leaves disk base old new (quiet tells);
    recovered = λ tells. err_on_ok _ e r is;
    was_committed = λ tells. err_if_ok _ e r is;
    put_log = λ tells. err_if_ok _ e r is;
    still = λ tells. still_so disk base old new (same_at_all disk old new (quiet tells));
    untouched = λ tells no'. quiet tells;
    kept = λ tells. err_if_ok _ e r is;
    visible = λ tells. quiet_visible disk base old new (quiet tells);
    causes = err_if_err (StopsSo disk base old new) e r is so;
    later = le;
  }

  -- the flag isn't set
  pub recovers_clear : (old new : D) → disk.faults old ≤ disk.faults new → (IsTrue disk.tells → Confined disk (Among no_name) old new)
      → (IsTrue disk.tells → is_committed base (disk.reads old) ≡ false) → (IsTrue disk.tells → IsSynced disk new) → Recovers disk base old new (Ok false)
  recovers_clear old new le quiet clear synced = record {
    any_moment = λ tells. unchanged_leaves disk base old new (quiet tells);
    recovered = λ tells. let is = same_at_all disk old new (quiet tells) in record {
      flag_clear = ap (is_committed base) is ∙ clear tells;
      synced = synced tells;
      stores = stores tells;
      had_log = λ set. clash (is_committed base (disk.reads old)) set (clear tells);
    };
    was_committed = λ tells. sym (clear tells);
    put_log = λ tells set. absurd (cc set);
    still = λ tells. still_so disk base old new (same_at_all disk old new (quiet tells));
    untouched = λ tells no'. quiet tells;
    kept = λ tells is. same_at_all disk old new (quiet tells);
    visible = λ tells. quiet_visible disk base old new (quiet tells);
    causes = tt;
    later = le;
  }
    where
      stores : IsTrue disk.tells → (tree : Tree) → RecoversTo base (disk.reads old) tree → StoresSame base (disk.reads new) tree
      stores tells tree (at_rest was same) = λ q out. ap (λ (t : Tree). get t q) (same_at_all disk old new (quiet tells)) ∙ same q out
      stores tells tree (by_log set puts holds stand can same) = clash (is_committed base (disk.reads old)) set (clear tells)

  as_then_back : (old mid : D) → Confined disk (Among no_name) old mid → (image : Tree) → RecoversAsThen disk base mid image → RecoversAsThen disk base old image
  as_then_back old mid quiet image (inl is) = inl (images_back disk old mid quiet image is)
  as_then_back old mid quiet image (inr so) = inr (λ tree r. so tree (still_so disk base old mid (same_at_all disk old mid quiet) tree r))

  visible_back : (old mid : D) → Confined disk (Among no_name) old mid → (t : Tree) → IsVisibleIn base (disk.reads mid) t → IsVisibleIn base (disk.reads old) t
  visible_back old mid quiet t seen = subst (λ (u : Tree). IsVisibleIn base u t) (same_at_all disk old mid quiet) seen

  -- a look that stopped
  pub recovers_find_stopped : {X : Type 0} {P : Tree → X → Type 0} (old new : D) (e : Stop) (r : Result Bool Stop) → Finds disk P old new (Err e) → IsErrAnd r (λ s. s ≡ e) → Recovers disk base old new r
  recovers_find_stopped old new e r finds is =
      recovers_stopped old new e r finds.later (λ tells. confined_read laws (Among no_name) (finds.found tells)) is (fault_stops disk base old new e finds.stops)

  pub recovers_on : (old mid new : D) (r : Result Bool Stop) → disk.faults old ≤ disk.faults mid → (IsTrue disk.tells → Confined disk (Among no_name) old mid) → Recovers disk base mid new r → Recovers disk base old new r
  recovers_on old mid new r le quiet then = record {
    any_moment = λ tells. leaves_then (unchanged_leaves disk base old mid (quiet tells)) (leaves_weaker (as_then_back old mid (quiet tells)) (then.any_moment tells));
    recovered = λ tells. on_ok_map r (recovered_on disk base old mid new (is tells)) (then.recovered tells);
    was_committed = λ tells. if_ok_map r (λ was h. h ∙ ap (is_committed base) (is tells)) (then.was_committed tells);
    put_log = λ tells. if_ok_map r (λ was h set. subst (λ (t : Tree). HasPutLog base t (disk.reads new)) (is tells) (h set)) (then.put_log tells);
    still = λ tells tree h. then.still tells tree (still_so disk base old mid (is tells) tree h);
    untouched = λ tells no'. confined_then (quiet tells) (then.untouched tells (λ set has. no' (sym (ap (is_committed base) (is tells)) ∙ set) (subst (HasReplayable base) (is tells) has)));
    kept = λ tells. if_ok_map r (λ was h clear. h clear ∙ is tells) (then.kept tells);
    visible = λ tells. unfailed_then le then.later (quiet_visible disk base old mid (quiet tells)) (unfailed_weaker (visible_back old mid (quiet tells)) (then.visible tells));
    causes = if_err_map r (λ e. stops_on disk base old mid new e le is) then.causes;
    later = omega (arith, le, then.later);
  }
    where
      is : IsTrue disk.tells → disk.reads mid ≡ disk.reads old
      is tells = same_at_all disk old mid (quiet tells)

  -- ---- behind a flag that is set

  -- it stops, with nothing changed
  pub replays_stopped : (old new : D) (e : Stop) (r : Result Unit Stop) → disk.faults old ≤ disk.faults new → (IsTrue disk.tells → Confined disk (Among no_name) old new)
      → IsErrAnd r (λ s. s ≡ e) → StopsSo disk base old new e → Replays disk base old new r
  replays_stopped old new e r le quiet is so = record {
    any_moment = λ tells. unchanged_leaves disk base old new (quiet tells);
    recovered = λ tells. err_on_ok _ e r is;
    put_log = λ tells. err_on_ok _ e r is;
    still = λ tells. still_so disk base old new (same_at_all disk old new (quiet tells));
    untouched = λ tells no'. quiet tells;
    visible = λ tells. quiet_visible disk base old new (quiet tells);
    causes = err_if_err (StopsSo disk base old new) e r is so;
    later = le;
  }

  pub recovers_replay_stopped : (old new : D) (e : Stop) (r : Result Bool Stop) → (IsTrue disk.tells → is_committed base (disk.reads old) ≡ true) → Replays disk base old new (Err e) → IsErrAnd r (λ s. s ≡ e) → Recovers disk base old new r
  recovers_replay_stopped old new e r set ran is = record {
    any_moment = ran.any_moment;
    recovered = λ tells. err_on_ok _ e r is;
    was_committed = λ tells. err_if_ok _ e r is;
    put_log = λ tells. err_if_ok _ e r is;
    still = ran.still;
    untouched = λ tells no'. ran.untouched tells (λ has. no' (set tells) has);
    kept = λ tells. err_if_ok _ e r is;
    visible = ran.visible;
    causes = err_if_err (StopsSo disk base old new) e r is ran.causes;
    later = ran.later;
  }

  pub recovers_replayed : (old new : D) → (IsTrue disk.tells → is_committed base (disk.reads old) ≡ true) → Replays disk base old new (Ok tt) → Recovers disk base old new (Ok true)
  recovers_replayed old new set ran = record {
    any_moment = ran.any_moment;
    recovered = ran.recovered;
    was_committed = λ tells. sym (set tells);
    put_log = λ tells is. ran.put_log tells;
    still = ran.still;
    untouched = λ tells no'. ran.untouched tells (λ has. no' (set tells) has);
    kept = λ tells clear. absurd (cc clear);
    visible = ran.visible;
    causes = tt;
    later = ran.later;
  }

-- ---- the replay

module _ {D : Type 0} (disk : DiskModel D) (laws : IsDisk disk) (base : Name) (path : is_path base ≡ true) (puts : List Put) (old mid : D)
    (le : disk.faults old ≤ disk.faults mid) (call : IsTrue disk.tells → HasRead disk old mid (FindsReplayable base (disk.reads old) puts))
    (synced : IsTrue disk.tells → IsSynced disk old) (set : IsTrue disk.tells → is_committed base (disk.reads old) ≡ true) where
  pub ready : IsTrue disk.tells → IsCommitted disk base puts mid
  ready tells = record {
    has_log = subst (HasLog base puts) (sym (call tells).same.reads) (record {
      holds = found.holds;
      can = record {
        loggable = found.holds.text.loggable;
        stand = found.stand;
        can = found.can;
        base_stands = sym (ap (λ (q : Name). is_dir (get (disk.reads old) q)) (parent_join base (codes "log") path refl)) ∙ (laws.reads_well_formed old).parents (log base) (ap is_some found.holds.file);
      };
    });
    flag_set = ap (is_committed base) (call tells).same.reads ∙ set tells;
    synced = λ p. (call tells).same.unsynced p ∙ synced tells p;
  }
    where
      found : FindsReplayable base (disk.reads old) puts
      found = (call tells).answer

  quiet : IsTrue disk.tells → Confined disk (Among no_name) old mid
  quiet tells = confined_read laws (Among no_name) (call tells)

  same : IsTrue disk.tells → disk.reads mid ≡ disk.reads old
  same tells = (call tells).same.reads

  -- all that the disk recovered to as it read stores the same as the tree with all targets
  goal_same : IsTrue disk.tells → (tree : Tree) → RecoversTo base (disk.reads old) tree → StoresSame base (outcome base puts (disk.reads mid)) tree
  goal_same tells tree (at_rest clear stores) = clash (is_committed base (disk.reads old)) (set tells) clear
  goal_same tells tree (by_log is others held stand able stores) = λ q out.
      ap (λ (t : Tree). get (outcome base puts t) q) (same tells) ∙ ap (λ (l : List Put). get (outcome base l (disk.reads old)) q) (sym ((call tells).answer.only others held)) ∙ stores q out

  pub replays_whole : (new : D) (r : Result Unit Stop) → Makes disk (is_replay_name base puts) (replayed base puts) mid new r
      → (IsTrue disk.tells → LeavesOnly disk mid new (λ image. RecoversTo base image (outcome base puts (disk.reads mid))))
      → (IsTrue disk.tells → OnOk r (IsSynced disk new))
      → (IsTrue disk.tells → UnlessFailed disk mid new (IsVisible base (disk.reads mid) (outcome base puts (disk.reads mid))))
      → Replays disk base old new r
  replays_whole new r made run kept seen = record {
    any_moment = λ tells. leaves_then (unchanged_leaves disk base old mid (quiet tells))
        (leaves_weaker (λ image h. inr (λ tree was. recovers_same base image (outcome base puts (disk.reads mid)) tree h (goal_same tells tree was))) (run tells));
    recovered = λ tells. ended tells (IsRecovered disk base old new) (λ done now. record {
      flag_clear = ap (is_committed base) done ∙ ap is_flag (get_put_here (all_put base puts (disk.reads mid)) (gate base) None);
      synced = now;
      stores = λ tree was q out. stores tells done q out ∙ goal_same tells tree was q out;
      had_log = λ is. has_log tells;
    });
    put_log = λ tells. ended tells (HasPutLog base (disk.reads old) (disk.reads new)) (λ done now. record {
      puts = puts;
      holds = (call tells).answer.holds;
      stores = λ q out. stores tells done q out ∙ ap (λ (t : Tree). get (outcome base puts t) q) (same tells);
    });
    still = λ tells tree was. recovers_same base (disk.reads new) (outcome base puts (disk.reads mid)) tree
        ((run tells).each (disk.reads new) (laws.counts_now new (disk.now mid) (disk.reads new) (run tells).later (reads_image laws new))) (goal_same tells tree was);
    untouched = λ tells no'. absurd (no' (has_log tells));
    visible = λ tells. unfailed_then le made.later (quiet_visible disk base old mid (quiet tells))
        (unfailed_weaker (λ t h tree was. visible_same base (disk.reads mid) (disk.reads old) (outcome base puts (disk.reads mid)) tree t (λ q out. ap (λ (u : Tree). get u q) (same tells)) (goal_same tells tree was) h) (seen tells));
    causes = made_stops disk base old mid new (replayed base puts (disk.reads mid)) r le made.ended;
    later = omega (arith, le, made.later);
  }
    where
      has_log : IsTrue disk.tells → HasReplayable base (disk.reads old)
      has_log tells = let found = (call tells).answer in record { puts = puts; holds = found.holds; stand = found.stand; can = found.can }

      stores : IsTrue disk.tells → disk.reads new ≡ replayed base puts (disk.reads mid) → StoresSame base (disk.reads new) (outcome base puts (disk.reads mid))
      stores tells done q out = ap (λ (t : Tree). get t q) done ∙ get_put_other (all_put base puts (disk.reads mid)) (gate base) None q (other q out) ∙ same_all_put base path puts (disk.reads mid) q out
        where
          other : (q : Name) → is_own base q ≡ false → same_name q (gate base) ≡ false
          other q out = ⊎_elim
              (λ same. clash (is_own base q) (in_gate base q (or_left (same_name q (gate base)) _ same)) out)
              (λ no_same. no_same) (cases_Bool (same_name q (gate base)))

      ended : IsTrue disk.tells → (P : Type 0) → (disk.reads new ≡ replayed base puts (disk.reads mid) → IsSynced disk new → P) → OnOk r P
      ended tells P so = by r made.ended (kept tells)
        where
          by : (r : Result Unit Stop) → Ended disk.tells (replayed base puts (disk.reads mid)) (disk.reads new) r (disk.faults mid) (disk.faults new) → OnOk r (IsSynced disk new) → OnOk r P
          by (Ok u) ends now = so (ends tells) now
          by (Err e) ends now = tt

  -- the same, where the replay goes over an equal list
  pub replays_listed : (new : D) (r : Result Unit Stop) (l : List Put) → l ≡ puts → Makes disk (is_replay_name base l) (replayed base l) mid new r
      → (IsTrue disk.tells → LeavesOnly disk mid new (λ image. RecoversTo base image (outcome base l (disk.reads mid))))
      → (IsTrue disk.tells → OnOk r (IsSynced disk new))
      → (IsTrue disk.tells → UnlessFailed disk mid new (IsVisible base (disk.reads mid) (outcome base l (disk.reads mid))))
      → Replays disk base old new r
  replays_listed new r l is made run kept seen = replays_whole new r (subst (λ (x : List Put). Makes disk (is_replay_name base x) (replayed base x) mid new r) is made)
      (λ tells. subst (λ (x : List Put). LeavesOnly disk mid new (λ image. RecoversTo base image (outcome base x (disk.reads mid)))) is (run tells)) kept
      (λ tells. subst (λ (x : List Put). UnlessFailed disk mid new (IsVisible base (disk.reads mid) (outcome base x (disk.reads mid)))) is (seen tells))

-- ---- answers of runs that only read

pub read_start : {D A : Type 0} (disk : DiskModel D) → IsDisk disk → (d : D) → A → HasRead disk d d A
read_start disk laws d a = record { answer = a; same = same_start disk d; time = time_start laws d }

pub read_ended : {D A B : Type 0} {disk : DiskModel D} {old new : D} → HasRead disk old new A → B → HasRead disk old new B
read_ended call b = record { answer = b; same = call.same; time = call.time }

pub reads_joined : {D A B C : Type 0} {disk : DiskModel D} {old mid new : D} → IsDisk disk → HasRead disk old mid A → HasRead disk mid new B → C → HasRead disk old new C
reads_joined laws first then x = record { answer = x; same = same_on first.same then.same; time = time_on laws first.same first.time then.time }

pub stopped_from : {D X : Type 0} (disk : DiskModel D) (base : Name) (old new : D) (e : Stop) (r : Result X Stop) → IsErrAnd r (λ s. s ≡ e) → StopsSo disk base old new e → IfErr r (StopsSo disk base old new)
stopped_from disk base old new e r is so = err_if_err (StopsSo disk base old new) e r is so
