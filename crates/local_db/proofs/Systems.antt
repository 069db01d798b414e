-- A job and a rollback leave a system.
use Rattle.std.proofs.Common.{◌≡◌, ◌≢◌, inl, inr, ⊎_elim, ℕ, zero, suc, ◌+◌, ◌<◌, ◌≤◌, ◌^◌, Bool, true, false, ◌||◌, List, [], ◌∷◌, length, map, take, get_or, Option, Some, None, All, refl, sym, ◌∙◌, ap, subst, arith}
use Rattle.std.specs.List.{AllByRecursion}
use Rattle.std.specs.List.Sorted.{IsStrictlySortedBy}
use Rattle.std.specs.Ordering.{nat_cmp}
use Rattle.std.specs.declared.cmp.Ordering.TheVariants.{Less}
use Rattle.std.specs.Cmp.Lexicographic.{slice_cmp}
use Rattle.std.proofs.lemmas.Bool.{cases_Bool}
use Rattle.std.proofs.lemmas.List.{length-take}
use Rattle.std.proofs.lemmas.List.Elements.{All-cons, All-head, All-tail, All-take, All-map, All-contains, Contains-get_or}
use Rattle.std.specs.FinMap.{get}
use Rattle.trove_stream.specs.cny-base.Reserved.{is_reserved}
use Rattle.trove_stream.specs.cny-base.declared.limits.TheConstants.{JOBS_LIMIT, STACK_LIMIT}
use Rattle.trove_stream.specs.cny-base.declared.node.Node.{Node}
use Rattle.trove_stream.specs.cny-base.declared.node.Node.TheVariants as node
use Rattle.trove_stream.specs.declared.parts.TroveParts.{TroveParts}
use Rattle.tree_journal.specs.tree-disk.Tree.{Name, same_name, WellFormed}
use Rattle.tree_journal.specs.journal-log.declared.put.Put.{Put}
use Rattle.tree_journal.specs.journal-log.WriteSet.{Rises}
use Rattle.tree_journal.specs.journal-log.Targets.{node_of, is_target, with_targets}
use Rattle.local_db.proofs.Writes.{not_both, with_targets_target}
use Rattle.tree_scan.specs.Marks.{fingerprint}
use Rattle.local_db.specs.MarkBytes.{IsMark}
use Rattle.local_db.specs.declared.format.Format.{Format}
use Rattle.local_db.specs.Formats.{AreEnds, Fits}
use Rattle.local_db.specs.Stores.{IsDatabase}
use Rattle.local_db.specs.SystemState.{StackItem, SystemState, newest, oldest, AreNumbered, is_listed, IsFree, IsTellable, IsStackItem, IsSystemState}
use Rattle.local_db.specs.Steps.{paths_of, old_of, pushed, after_job, CanJob, want_of, backs, after_rollback}
use Rattle.tree_journal.proofs.WriteSets.{first_before, target_at, with_targets_outside}
use Rattle.tree_journal.proofs.journal-log.Walking.{listed as is_target-from}

-- ---- stacks

-- a number of a job has four bytes
pub four_bytes : (n : ℕ) → n ≤ JOBS_LIMIT → n < 2 ^ 32
four_bytes n fits = let most : JOBS_LIMIT ≡ 4294967295 = refl in omega (arith, fits, most)

pub numbered_more : (olds : List StackItem) (o : StackItem) → AreNumbered olds → o.number ≡ newest olds + 1 → AreNumbered (o ∷ olds)
numbered_more [] o numbered is = omega (arith, is)
numbered_more (p ∷ olds) o numbered is = (is, numbered)

one_at_least : (o : StackItem) (olds : List StackItem) → AreNumbered (o ∷ olds) → 1 ≤ o.number
one_at_least o [] numbered = numbered
one_at_least o (p ∷ olds) numbered = omega (arith, numbered.0)

pub numbered_take : (n : ℕ) (o : StackItem) (olds : List StackItem) → AreNumbered (o ∷ olds) → AreNumbered (o ∷ take n olds)
numbered_take zero o olds numbered = one_at_least o olds numbered
numbered_take (suc n) o [] numbered = numbered
numbered_take (suc n) o (p ∷ olds) numbered = (numbered.0, numbered_take n p olds numbered.1)

pub numbered_rest : (o : StackItem) (olds : List StackItem) → AreNumbered (o ∷ olds) → AreNumbered olds
numbered_rest o [] numbered = tt
numbered_rest o (p ∷ olds) numbered = numbered.1

pub newest_rest : (o : StackItem) (olds : List StackItem) → AreNumbered (o ∷ olds) → newest olds < o.number
newest_rest o [] numbered = numbered
newest_rest o (p ∷ olds) numbered = omega (arith, numbered.0)

few_pushed : (o : StackItem) (olds : List StackItem) → length (pushed o olds) ≤ STACK_LIMIT
few_pushed o olds = let most : STACK_LIMIT ≡ 4096 = refl in omega (arith, length-take 4095 olds, most)

-- the newest number, by the oldest and how many there are
pub numbers_by_length : (o : StackItem) (olds : List StackItem) → AreNumbered (o ∷ olds) → oldest (o ∷ olds) + length olds ≡ o.number
numbers_by_length o [] numbered = omega arith
numbers_by_length o (p ∷ olds) numbered = omega (arith, numbered.0, numbers_by_length p olds numbered.1)

pub low_at_least : (o : StackItem) (olds : List StackItem) → AreNumbered (o ∷ olds) → 1 ≤ oldest (o ∷ olds)
low_at_least o [] numbered = numbered
low_at_least o (p ∷ olds) numbered = low_at_least p olds numbered.1

-- the numbers of a system are those of a database
pub are_ends : (olds : List StackItem) → AreNumbered olds → length olds ≤ STACK_LIMIT → newest olds ≤ JOBS_LIMIT → AreEnds (oldest olds) (newest olds)
are_ends [] numbered few fits = inl (refl, refl)
are_ends (o ∷ olds) numbered few fits = inr (low_at_least o olds numbered, omega (arith, numbers_by_length o olds numbered), omega (arith, numbers_by_length o olds numbered, few), fits)

pub system_database : (f : Format) (s : SystemState) → IsSystemState s → Fits f s.installed → IsDatabase f s.installed (oldest s.stack) (newest s.stack)
system_database f s system fits = record { installed = system.list; ends = are_ends s.stack system.numbered system.few system.number; fits = fits }

-- ---- paths

later_paths : (c : Name) (puts : List Put) → ((q : Name) → is_target puts q ≡ true → slice_cmp nat_cmp c q ≡ Less) → AllByRecursion (λ y. slice_cmp nat_cmp c y ≡ Less) (paths_of puts)
later_paths c [] h = tt
later_paths c (p ∷ puts) h = (h p.path (is_target-from (p ∷ puts) p (0, omega arith, refl)), later_paths c puts (λ q is. h q (second (same_name q p.path) (is_target puts q) is)))
  where
    second : (a b : Bool) → b ≡ true → (a || b) ≡ true
    second true b is = refl
    second false b is = is

rises_rest : (p : Put) (puts : List Put) → Rises (p ∷ puts) → Rises puts
rises_rest p puts rises = rises.1

pub rising_paths : (puts : List Put) → Rises puts → IsStrictlySortedBy (slice_cmp nat_cmp) (paths_of puts)
unfolding IsStrictlySortedBy
rising_paths [] rises = tt
rising_paths (p ∷ puts) rises = (later_paths p.path puts (first_before p puts rises), rising_paths puts (rises_rest p puts rises))

pub listed_paths : (puts : List Put) (q : Name) → is_listed (paths_of puts) q ≡ is_target puts q
listed_paths [] q = refl
listed_paths (p ∷ puts) q = ap (λ (b : Bool). same_name q p.path || b) (listed_paths puts q)

-- free paths aren't reserved
pub free_targets : (puts : List Put) → All (λ (p : Put). IsFree p.path) puts → (q : Name) → is_reserved q ≡ true → is_target puts q ≡ false
free_targets puts free q reserved = ⊎_elim
    (λ h. let t = target_at puts q h in not_both (is_reserved q) reserved (ap is_reserved t.2 ∙ (All-contains (λ (p : Put). IsFree p.path) puts t.0 free t.1).not_reserved))
    (λ h. h)
    (cases_Bool (is_target puts q))

-- ---- a job

module _ (puts : List Put) (list : List TroveParts) (s : SystemState) (system : IsSystemState s) (can : CanJob puts list s) where
  target : (k : ℕ) (d : Put) → k < length puts → get (with_targets puts s.tree) (get_or puts k d).path ≡ node_of (get_or puts k d).want
  target k d lt = with_targets_target puts s.tree (get_or puts k d) can.rises (Contains-get_or puts k d lt)

  differ : All (λ (p : Put). get s.tree p.path ≢ get (with_targets puts s.tree) p.path) puts
  differ k d lt e = can.changes k d lt (e ∙ target k d lt)

  marks : All (λ (p : Put). IsMark (fingerprint (get (with_targets puts s.tree) p.path))) puts
  marks k d lt = subst (λ n. IsMark (fingerprint n)) (sym (target k d lt)) (can.after k d lt)

  pub job_is_old : IsStackItem (old_of puts s)
  job_is_old = record {
    before_formed = system.tree;
    after_formed = can.well_formed;
    rising = rising_paths puts can.rises;
    free = All-map IsFree (λ (p : Put). p.path) puts can.free;
    differ = All-map (λ q. get s.tree q ≢ get (with_targets puts s.tree) q) (λ (p : Put). p.path) puts differ;
    same = λ q out. sym (with_targets_outside puts s.tree q (sym (listed_paths puts q) ∙ out));
    before = All-map (λ q. IsTellable (get s.tree q)) (λ (p : Put). p.path) puts can.before;
    after = All-map (λ q. IsMark (fingerprint (get (with_targets puts s.tree) q))) (λ (p : Put). p.path) puts marks;
    list = system.list;
    fits = system.fits;
  }

  pub job_is_system : IsSystemState (after_job puts list s)
  job_is_system = record {
    tree = can.well_formed;
    managed = λ q reserved. with_targets_outside puts s.tree q (free_targets puts can.free q reserved) ∙ system.managed q reserved;
    list = can.list_is;
    fits = can.fits;
    few = few_pushed (old_of puts s) s.stack;
    numbered = numbered_take 4095 (old_of puts s) s.stack (numbered_more s.stack (old_of puts s) system.numbered refl);
    number = can.number;
    olds = All-cons IsStackItem (old_of puts s) (take 4095 s.stack) job_is_old (All-take IsStackItem 4095 s.stack system.olds);
  }

-- ---- a rollback

pub node_of_want : (n : Option Node) → node_of (want_of n) ≡ n
node_of_want None = refl
node_of_want (Some (node.Dir mode)) = refl
node_of_want (Some (node.File mode bytes)) = refl
node_of_want (Some (node.Link target)) = refl

pub listed_backs : (o : StackItem) (q : Name) → is_target (backs o) q ≡ is_listed o.paths q
listed_backs o q = at o.paths
  where
    at : (paths : List Name) → is_target (map (λ (p : Name). record { path = p; want = want_of (get o.before p) }) paths) q ≡ is_listed paths q
    at [] = refl
    at (p ∷ paths) = ap (λ (b : Bool). same_name q p || b) (at paths)

pub rising_backs : (o : StackItem) → IsStrictlySortedBy (slice_cmp nat_cmp) o.paths → Rises (backs o)
unfolding IsStrictlySortedBy
rising_backs o sorted = at o.paths sorted
  where
    at : (paths : List Name) → IsStrictlySortedBy (slice_cmp nat_cmp) paths → Rises (map (λ (p : Name). record { path = p; want = want_of (get o.before p) }) paths)
    at [] sorted = tt
    at (p ∷ []) sorted = (tt, tt)
    at (p ∷ q ∷ paths) sorted = (sorted.0.0, at (q ∷ paths) sorted.1)

pub free_backs : (o : StackItem) → All IsFree o.paths → All (λ (p : Put). IsFree p.path) (backs o)
free_backs o free = All-map (λ (p : Put). IsFree p.path) (λ (p : Name). record { path = p; want = want_of (get o.before p) }) o.paths free

module _ (o : StackItem) (olds : List StackItem) (s : SystemState) (system : IsSystemState s) (stack : s.stack ≡ o ∷ olds) (well : WellFormed (with_targets (backs o) s.tree)) where
  numbered : AreNumbered (o ∷ olds)
  numbered = subst AreNumbered stack system.numbered

  pub all_old : All IsStackItem (o ∷ olds)
  all_old = subst (All IsStackItem) stack system.olds

  pub newest_is_old : IsStackItem o
  newest_is_old = All-head IsStackItem o olds all_old

  pub number : o.number ≤ JOBS_LIMIT
  number = subst (λ st. newest st ≤ JOBS_LIMIT) stack system.number

  pub rollback_is_system : IsSystemState (after_rollback o olds s)
  rollback_is_system = record {
    tree = well;
    managed = λ q reserved. with_targets_outside (backs o) s.tree q (free_targets (backs o) (free_backs o newest_is_old.free) q reserved) ∙ system.managed q reserved;
    list = newest_is_old.list;
    fits = newest_is_old.fits;
    few = let long : length (o ∷ olds) ≤ STACK_LIMIT = subst (λ st. length st ≤ STACK_LIMIT) stack system.few in omega (arith, long);
    numbered = numbered_rest o olds numbered;
    number = omega (arith, newest_rest o olds numbered, number);
    olds = All-tail IsStackItem o olds all_old;
  }
