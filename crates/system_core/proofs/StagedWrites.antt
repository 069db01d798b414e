-- A write set that names staged files is applied as the one that it means.
use Rattle.std.proofs.Common.{◌≡◌, ◌⊎◌, inl, inr, ℕ, Bool, true, false, ◌||◌, IsTrue, List, [], ◌∷◌, ◌++◌, map, length, get_or, Option, Some, None, Result, All, Contains, refl, sym, ◌∙◌, ap, subst, arith}
use Rattle.std.specs.Prelude.{OnErr, OnOk}
use Rattle.std.proofs.lemmas.List.{get_or-map, length-map}
use Rattle.std.specs.FinMap.{get}
use Rattle.std.proofs.lemmas.List.Elements.{All-cons, All-contains, All-head, All-nil, All-tail, All-weaker, All-contains_itself}
use Rattle.rollback_stack.specs.cny-base.Reserved.{private_directory}
use Rattle.rollback_stack.specs.cny-base.declared.node.Node.{Node}
use Rattle.rollback_stack.specs.cny-base.declared.stop.Stop.{Stop}
use Rattle.rollback_stack.specs.tree-disk.Tree.{Name, Tree, is_dir, same_name, WellFormed}
use Rattle.rollback_stack.specs.tree-disk.Rows.{bytes_of}
use Rattle.tree_journal.proofs.tree-disk.Children.{or_none as neither}
use Rattle.rollback_stack.specs.tree-disk.Disk.{DiskModel}
use Rattle.rollback_stack.specs.tree-disk.Confined.{Among, Confined, LeavesOnly}
use Rattle.rollback_stack.proofs.tree-disk.ConfinedLaws.{confined_wider}
use Rattle.rollback_stack.specs.tree-disk.Unfailed.{UnlessFailed}
use Rattle.rollback_stack.specs.journal-log.declared.put.Want.{Want}
use Rattle.rollback_stack.specs.journal-log.declared.put.Want.TheVariants as want
use Rattle.rollback_stack.specs.journal-log.declared.put.Put.{Put}
use Rattle.rollback_stack.specs.journal-log.Own.{is_own, staged_file}
use Rattle.rollback_stack.specs.journal-log.Targets.{is_dir_want, is_target, with_targets}
use Rattle.rollback_stack.specs.journal-log.WriteSet.{CanBeNamed, ComesBefore, Rises}
use Rattle.tree_journal.specs.Apply as apply
use Rattle.tree_journal.specs.Apply.{with_base, CanApply, IsAsBefore, IsAtRest, IsBeforeOrAfter, IsOneOf, is_own_or_target}
use Rattle.tree_journal.specs.CanBePut.{AllCanBePut, CanBePut}
use Rattle.tree_journal.specs.Recovery.{RecoversTo}
use Rattle.tree_journal.specs.Staging.{has_content, is_content, resolve, resolved, outcome}
use Rattle.tree_journal.specs.Visible.{IsVisible}
use Rattle.tree_journal.proofs.OwnFiles.{base_kept}
use Rattle.job_targets.specs.Carrying.{whole_of}
use Rattle.job_targets.specs.Old.{is_staged}
use Rattle.job_targets.proofs.WholeWrites.{resolved_given}
use Rattle.local_db.specs.Names.{is_job_place}
use Rattle.local_db.specs.Steps.{paths_of, record_put, IsUnion}
use Rattle.local_db.specs.SystemState.{IsFree}
use Rattle.local_db.specs.declared.db.Db.{Db}
use Rattle.rollback_stack.specs.Pushing.{is_written, IsRecordWrite}
use Rattle.rollback_stack.specs.Saving.{dropped_below, is_dropped_place, is_saving_name}
use Rattle.system_core.specs.JobWriting.{database_write}
use Rattle.system_core.specs.RootWriting.{CanWrite}
use Rattle.system_core.specs.StagedWrites.{Means}
use Rattle.system_core.proofs.Written.{may_apply}
use Rattle.system_core.proofs.Written as written

-- ---- what is meant has the same paths

dir_same : (base : Name) (x : Tree) (w : Want) → is_dir_want (resolved base x w) ≡ is_dir_want w
dir_same base x want.Nothing = refl
dir_same base x (want.Dir mode) = refl
dir_same base x (want.File mode bytes) = refl
dir_same base x (want.Link target) = refl
dir_same base x (want.Staged mode number size name) = refl

pub target_same : (x : Tree) (puts : List Put) (q : Name) → is_target (whole_of x puts) q ≡ is_target puts q
target_same x [] q = refl
target_same x (p ∷ puts) q = ap (λ (b : Bool). same_name q p.path || b) (target_same x puts q)

-- what holds of what is meant, holds of the writes
pub all_meant : (x : Tree) (P Q : Put → Type 0) → ((p : Put) → Q (resolve private_directory x p) → P p) → (puts : List Put) → All Q (whole_of x puts) → All P puts
all_meant x P Q each [] all = All-nil P
all_meant x P Q each (p ∷ puts) all =
    All-cons P p puts (each p (All-head Q (resolve private_directory x p) (whole_of x puts) all)) (all_meant x P Q each puts (All-tail Q (resolve private_directory x p) (whole_of x puts) all))

-- and the other way round
pub all_whole : (x : Tree) (P Q : Put → Type 0) → ((p : Put) → P p → Q (resolve private_directory x p)) → (puts : List Put) → All P puts → All Q (whole_of x puts)
all_whole x P Q each [] all = All-nil Q
all_whole x P Q each (p ∷ puts) all = All-cons Q (resolve private_directory x p) (whole_of x puts) (each p (All-head P p puts all)) (all_whole x P Q each puts (All-tail P p puts all))

-- ---- what the journal asks

module _ {D : Type 0} (disk : DiskModel D) (puts whole : List Put) (old : D) (can : CanWrite disk whole old) (means : Means (disk.reads old) puts whole) where
  pub same_goal : apply.goal private_directory puts (disk.reads old) ≡ apply.goal private_directory whole (disk.reads old)
  same_goal =
      ap (λ (t : Tree). outcome private_directory puts t) (base_kept private_directory (disk.reads old) can.puttable.base)
      ∙ ap (λ (l : List Put). with_targets l (disk.reads old)) (sym means.are)
      ∙ sym (written.whole disk whole old can)

  same_target : (q : Name) → is_target whole q ≡ is_target puts q
  same_target q = ap (λ (l : List Put). is_target l q) means.are ∙ target_same (disk.reads old) puts q

  one_put : (p : Put) → CanBePut whole (with_base private_directory (disk.reads old)) (resolve private_directory (disk.reads old) p) → CanBePut puts (with_base private_directory (disk.reads old)) p
  one_put p can' = record {
    above = λ q path below other. can'.above q path below (same_target q ∙ other);
    below = λ no_dir q below other. can'.below (dir_same private_directory (disk.reads old) p.want ∙ no_dir) q below (same_target q ∙ other);
  }

  pub may : CanApply disk private_directory puts old
  may =
      let it : CanApply disk private_directory whole old = may_apply disk whole old can in
      record {
        parent_stands = it.parent_stands;
        flag_clear = it.flag_clear;
        flag_synced = it.flag_synced;
        named = all_meant (disk.reads old) (λ (p : Put). CanBeNamed private_directory p.path) (λ (p : Put). CanBeNamed private_directory p.path) (λ p is. is) puts
            (subst (λ (l : List Put). All (λ (p : Put). CanBeNamed private_directory p.path) l) means.are it.named);
        stand = means.stand;
        can = all_meant (disk.reads old) (CanBePut puts (with_base private_directory (disk.reads old))) (CanBePut whole (with_base private_directory (disk.reads old))) one_put puts
            (subst (λ (l : List Put). All (CanBePut whole (with_base private_directory (disk.reads old))) l) means.are it.can);
        well_formed = subst WellFormed (sym same_goal) it.well_formed;
      }

  -- ---- what the journal promises

  module _ (new : D) where
    pub moments : LeavesOnly disk old new (IsBeforeOrAfter disk private_directory puts old) → LeavesOnly disk old new (IsBeforeOrAfter disk private_directory whole old)
    moments = subst (λ (t : Tree). LeavesOnly disk old new (λ image. IsAsBefore disk private_directory old image ⊎ RecoversTo private_directory image t)) same_goal

    pub confines : Confined disk (Among (is_own_or_target private_directory puts)) old new → Confined disk (Among (is_own_or_target private_directory whole)) old new
    confines = confined_wider (λ q among. ap (λ (b : Bool). is_own private_directory q || b) (same_target q) ∙ among)

    pub shows : UnlessFailed disk old new (IsVisible private_directory (disk.reads old) (apply.goal private_directory puts (disk.reads old)))
        → UnlessFailed disk old new (IsVisible private_directory (disk.reads old) (apply.goal private_directory whole (disk.reads old)))
    shows = subst (λ (t : Tree). UnlessFailed disk old new (IsVisible private_directory (disk.reads old) t)) same_goal

    pub rests : (result : Result (Unit {0}) Stop) → OnOk result (IsAtRest disk private_directory (apply.goal private_directory puts (disk.reads old)) new)
        → OnOk result (IsAtRest disk private_directory (apply.goal private_directory whole (disk.reads old)) new)
    rests result = subst (λ (t : Tree). OnOk result (IsAtRest disk private_directory t new)) same_goal

    pub stops : (result : Result (Unit {0}) Stop) → OnErr result (IsOneOf private_directory puts (disk.reads old) (disk.reads new)) → OnErr result (IsOneOf private_directory whole (disk.reads old) (disk.reads new))
    stops result = subst (λ (t : Tree). OnErr result (RecoversTo private_directory (disk.reads new) (disk.reads old) ⊎ RecoversTo private_directory (disk.reads new) t)) same_goal

-- ---- the write set of a job

-- a write set that names no staged file means itself
pub means_itself : (x : Tree) (puts : List Put) → All (λ (p : Put). is_staged p.want ≡ false) puts → Means x puts puts
means_itself x puts given = record {
  are = sym (written.puts_kept private_directory x puts given);
  stand = All-weaker (λ (p : Put). is_staged p.want ≡ false) (λ (p : Put). IsTrue (has_content private_directory x p.want)) (λ p is. written.has_want private_directory x p.want is) puts given;
}

-- no name at which a job writes before its write set is that of a staged file
place_not_staged : (n m : ℕ) → is_job_place n (staged_file private_directory m) ≡ false
place_not_staged n m = refl

dropped_not_staged : (dropped : Option ℕ) (m : ℕ) → is_dropped_place dropped (staged_file private_directory m) ≡ false
dropped_not_staged None m = refl
dropped_not_staged (Some n) m = place_not_staged n m

staged_not_written : (n : ℕ) (dropped : Option ℕ) (m : ℕ) → is_saving_name n dropped (staged_file private_directory m) ≡ false
staged_not_written n dropped m = neither (same_name (staged_file private_directory m) private_directory) _ refl
    (neither (is_job_place n (staged_file private_directory m)) _ (place_not_staged n m) (dropped_not_staged dropped m))

map_in : (x : Tree) (all : List Put) (p : Put) → Contains all p → Contains (whole_of x all) (resolve private_directory x p)
map_in x all p h = (h.0, omega (arith, length-map all (resolve private_directory x), h.1), get_or-map (resolve private_directory x) all h.0 p (resolve private_directory x p) h.1 ∙ ap (resolve private_directory x) h.2)

-- what is meant by a write stays where the staged files stay
resolved_stays : (x y : Tree) → ((m : ℕ) → get y (staged_file private_directory m) ≡ get x (staged_file private_directory m)) → (w : Want) → resolved private_directory x w ≡ resolved private_directory y w
resolved_stays x y stays want.Nothing = refl
resolved_stays x y stays (want.Dir mode) = refl
resolved_stays x y stays (want.File mode bytes) = refl
resolved_stays x y stays (want.Link target) = refl
resolved_stays x y stays (want.Staged mode number size name) = ap (λ (o : Option Node). want.File mode (bytes_of o)) (sym (stays number))

stands_still : (x y : Tree) → ((m : ℕ) → get y (staged_file private_directory m) ≡ get x (staged_file private_directory m)) → (w : Want) → IsTrue (has_content private_directory x w) → IsTrue (has_content private_directory y w)
stands_still x y stays want.Nothing is = refl
stands_still x y stays (want.Dir mode) is = refl
stands_still x y stays (want.File mode bytes) is = refl
stands_still x y stays (want.Link target) is = refl
stands_still x y stays (want.Staged mode number size name) is = ap (λ (o : Option Node). is_content o size name) (stays number) ∙ is

whole_stays : (x y : Tree) → ((m : ℕ) → get y (staged_file private_directory m) ≡ get x (staged_file private_directory m)) → (puts : List Put) → whole_of x puts ≡ whole_of y puts
whole_stays x y stays [] = refl
whole_stays x y stays (p ∷ puts) =
    ap (λ (w : Want). record { path = p.path; want = w } ∷ whole_of x puts) (resolved_stays x y stays p.want) ∙ ap (λ (l : List Put). resolve private_directory y p ∷ l) (whole_stays x y stays puts)

whole_rises : (x : Tree) (puts : List Put) → Rises puts → Rises (whole_of x puts)
whole_rises x [] rises = tt
whole_rises x (p ∷ puts) rises = (before puts rises.0, whole_rises x puts rises.1)
  where
    before : (qs : List Put) → ComesBefore p qs → ComesBefore (resolve private_directory x p) (whole_of x qs)
    before [] is = tt
    before (q ∷ qs) is = is

-- what is meant is given
pub given_of : (x : Tree) (puts : List Put) → All (λ (p : Put). is_staged p.want ≡ false) (whole_of x puts)
given_of x [] = All-nil _
given_of x (p ∷ puts) = All-cons (λ (q : Put). is_staged q.want ≡ false) (resolve private_directory x p) (whole_of x puts) (resolved_given private_directory x p.want) (given_of x puts)

-- Of targets and what they mean, before the job is pushed.
module _ (x : Tree) (puts whole : List Put) (means : Means x puts whole) where
  pub whole_given : All (λ (p : Put). is_staged p.want ≡ false) whole
  whole_given = subst (All (λ (p : Put). is_staged p.want ≡ false)) (sym means.are) (given_of x puts)

  pub whole_free : All (λ (p : Put). IsFree p.path) puts → All (λ (p : Put). IsFree p.path) whole
  whole_free free = subst (All (λ (p : Put). IsFree p.path)) (sym means.are) (all_whole x (λ (p : Put). IsFree p.path) (λ (p : Put). IsFree p.path) (λ p is. is) puts free)

  pub whole_rising : Rises puts → Rises whole
  whole_rising rises = subst Rises (sym means.are) (whole_rises x puts rises)

  -- and of all writes of the job, once it is pushed
  module _ (y : Tree) (stays : (m : ℕ) → get y (staged_file private_directory m) ≡ get x (staged_file private_directory m))
      (all more : List Put) (given : All (λ (p : Put). is_staged p.want ≡ false) more) (union : IsUnion all puts more) where
    later : whole ≡ whole_of y puts
    later = means.are ∙ whole_stays x y stays puts

    more_itself : (p : Put) → Contains more p → resolve private_directory y p ≡ p
    more_itself p in' = ap (λ (w : Want). record { path = p.path; want = w }) (written.want_kept private_directory y p.want (All-contains (λ (p : Put). is_staged p.want ≡ false) more p given in'))

    stands : (p : Put) → Contains puts p ⊎ Contains more p → IsTrue (has_content private_directory y p.want)
    stands p (inl in') = stands_still x y stays p.want (All-contains (λ (q : Put). IsTrue (has_content private_directory x q.want)) puts p means.stand in')
    stands p (inr in') = written.has_want private_directory y p.want (All-contains (λ (p : Put). is_staged p.want ≡ false) more p given in')

    pub all_means : Means y all (whole_of y all)
    all_means = record {
      are = refl;
      stand = All-weaker (λ (p : Put). Contains puts p ⊎ Contains more p) (λ (p : Put). IsTrue (has_content private_directory y p.want)) stands all union.no_other;
    }

    either : (p : Put) → Contains puts p ⊎ Contains more p → Contains whole (resolve private_directory y p) ⊎ Contains more (resolve private_directory y p)
    either p (inl in') = inl (subst (λ (l : List Put). Contains l (resolve private_directory y p)) (sym later) (map_in y puts p in'))
    either p (inr in') = inr (subst (Contains more) (sym (more_itself p in')) in')

    in_more : (p : Put) → Contains more p → Contains (whole_of y all) p
    in_more p in' = subst (Contains (whole_of y all)) (more_itself p in') (map_in y all p (All-contains (Contains all) more p union.more_in in'))

    pub whole_union : IsUnion (whole_of y all) whole more
    whole_union = record {
      rises = whole_rises y all union.rises;
      some_in = subst (All (Contains (whole_of y all))) (sym later) (all_whole y (Contains all) (Contains (whole_of y all)) (λ p in'. map_in y all p in') puts union.some_in);
      more_in = All-weaker (Contains more) (Contains (whole_of y all)) in_more more (All-contains_itself more);
      no_other = all_whole y (λ (p : Put). Contains puts p ⊎ Contains more p) (λ (p : Put). Contains whole p ⊎ Contains more p) either all union.no_other;
    }

-- the writes of the record and of the database are given
pub pushed_given : (pushed : List Put) (bytes : List ℕ) → IsRecordWrite pushed → All (λ (p : Put). is_staged p.want ≡ false) (pushed ++ database_write bytes ∷ [])
pushed_given pushed bytes is = subst (λ (l : List Put). All (λ (p : Put). is_staged p.want ≡ false) (l ++ database_write bytes ∷ [])) (sym is.puts_are)
    (All-cons (λ (p : Put). is_staged p.want ≡ false) (record_put is.number is.mode is.bytes) (database_write bytes ∷ []) refl (All-cons (λ (p : Put). is_staged p.want ≡ false) (database_write bytes) [] refl (All-nil _)))

-- pushing keeps the staged files
pub pushed_stays : {D : Type 0} (disk : DiskModel D) (db : Db) (old mid : D) → Confined disk (Among (is_written db)) old mid → (m : ℕ) → get (disk.reads mid) (staged_file private_directory m) ≡ get (disk.reads old) (staged_file private_directory m)
pushed_stays disk db old mid confined m = confined.reads (staged_file private_directory m) (λ is. absurd (cc (is, staged_not_written db.newest (dropped_below db.oldest) m)))

-- ---- no write

pub none_whole : (whole puts : List Put) → paths_of whole ≡ paths_of puts → puts ≡ [] → whole ≡ []
none_whole [] puts same none = refl
none_whole (p ∷ whole) puts same none = absurd (cc (same ∙ ap paths_of none))

pub none_meant : (whole puts : List Put) → paths_of whole ≡ paths_of puts → whole ≡ [] → puts ≡ []
none_meant whole puts same none = none_whole puts whole (sym same) none

pub whole_paths : (x : Tree) (puts : List Put) → paths_of (whole_of x puts) ≡ paths_of puts
whole_paths x [] = refl
whole_paths x (p ∷ puts) = ap (λ (l : List Name). p.path ∷ l) (whole_paths x puts)
