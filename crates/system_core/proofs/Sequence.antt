-- Jobs of a stack, one after the other.
use Rattle.std.proofs.Common.{◌≡◌, ⊎_elim, cond, ℕ, ◌-◌, ◌≤◌, Bool, true, false, ◌||◌, List, [], ◌∷◌, ◌++◌, map, length, take, Option, Some, None, All, Contains, refl, sym, ◌∙◌, ap, subst, arith}
use Rattle.std.proofs.lemmas.Bool.{cases_Bool}
use Rattle.std.proofs.lemmas.List.Elements.{All-head, All-tail}
use Rattle.std.specs.FinMap.{get}
use Rattle.rollback_stack.specs.cny-base.declared.node.Node.{Node}
use Rattle.rollback_stack.specs.journal-log.Targets.{with_targets}
use Rattle.rollback_stack.specs.trove-stream.declared.parts.TroveParts.{TroveParts}
use Rattle.rollback_stack.specs.tree-disk.Tree.{Name, Tree, same_name}
use Rattle.local_db.specs.Record as state
use Rattle.local_db.specs.Stores.{HoldsSaved, HoldsStack}
use Rattle.local_db.specs.SystemState.{IsStackItem, StackItem, SystemState, is_listed}
use Rattle.local_db.specs.Steps as steps
use Rattle.local_db.specs.Steps.{CanRollBackAll, after_rollback, after_rollbacks, backs, no_record_put}
use Rattle.local_db.specs.declared.format.Format.TheVariants.{Two}
use Rattle.local_db.proofs.Images.{all_restored, kept, restored}
use Rattle.rollback_stack.specs.past-jobs.Jobs.{CanUndoAll, older, oldest_with, undone_all}
use Rattle.rollback_stack.specs.past-jobs.Marks.{Marks, is_path_of, undone}
use Rattle.rollback_stack.specs.JobReading.{HoldsRecords}
use Rattle.rollback_stack.specs.Inverse.{no_records}
use Rattle.system_core.specs.RestoringAll.{FollowEachOther, list_before, old_node, tree_before}
use Rattle.system_core.specs.Several.{paths_of_jobs}
use Rattle.system_core.proofs.NewestStored.{job_record}
use Rattle.system_core.proofs.Turn.{IsTurn, can_roll_back, next_turn}
use Rattle.system_core.proofs.UndoneEntries.{path_listed}
use Rattle.system_core.proofs.Migration.{AreFrom, OneRecord}
use Rattle.local_db.proofs.cny-base.Lists.{contains_cases, contains_first, contains_rest, nothing_in}

abbrev pub entries_all : List StackItem → List (List state.Entry)
entries_all os = map state.entries_of os

-- ---- their numbers

pub from_front : (n : ℕ) (os rest : List StackItem) → AreFrom n (os ++ rest) → AreFrom n os
from_front n [] rest from = tt
from_front n (o ∷ os) rest from = (from.0, from_front (n - 1) os rest from.1)

-- the first of the rest
pub from_rest : (n : ℕ) (os : List StackItem) (o : StackItem) (olds : List StackItem) → AreFrom n (os ++ o ∷ olds) → o.number ≡ n - length os
from_rest n [] o olds from =
    let is = from.0 in
    omega (arith, is)
from_rest n (p ∷ os) o olds from =
    let later = from_rest (n - 1) os o olds from.1 in
    omega (arith, later)

-- nothing at their records, by their numbers
pub records_by_number : (n : ℕ) (os : List StackItem) → AreFrom n os → no_records (length (entries_all os)) n ≡ steps.no_records os
records_by_number n [] from = refl
records_by_number n (o ∷ os) from =
    let number = from.0 in
    let later = records_by_number (n - 1) os from.1 in
    λ i. no_record_put (sym number i) ∷ later i

-- ---- their records

-- the records that were read from the newest down are those of the newest jobs
pub held_jobs : OneRecord → (x : Tree) (n : ℕ) (list before : List TroveParts) (jobs : List (List state.Entry)) (stack : List StackItem) → HoldsStack Two x list stack → All IsStackItem stack → AreFrom n stack
    → length jobs ≤ length stack → HoldsRecords Two x n list jobs before → (jobs ≡ entries_all (take (length jobs) stack)) × (before ≡ list_before (take (length jobs) stack) list)
held_jobs one x n list before [] stack held items from few holds = (refl, holds)
held_jobs one x n list before (es ∷ more) [] held items from few holds = absurd (omega (arith, few))
held_jobs one x n list before (es ∷ more) (o ∷ olds) held items from few holds =
    let same = one Two x n list holds.0 o.list es (state.entries_of o) holds.1 (job_record x n list o held.0 (All-head IsStackItem o olds items) from.0) in
    let rest = held_jobs one x (n - 1) o.list before more olds held.1 (All-tail IsStackItem o olds items) from.1 (omega (arith, few)) (subst (λ (l : List TroveParts). HoldsRecords Two x (n - 1) l more before) same.0 holds.2) in
    let first = same.1 in
    let others = rest.0 in
    (λ i. first i ∷ others i, rest.1)

-- those of the others are held too
pub stack_left : (x : Tree) (list : List TroveParts) (os rest : List StackItem) → HoldsStack Two x list (os ++ rest) → HoldsStack Two x (list_before os list) rest
stack_left x list [] rest held = held
stack_left x list (o ∷ os) rest held = stack_left x o.list os rest held.1

pub saved_in : (x : Tree) (list : List TroveParts) (stack : List StackItem) (o : StackItem) → HoldsStack Two x list stack → Contains stack o → HoldsSaved x o
saved_in x list [] o held among = absurd (nothing_in o among)
saved_in x list (p ∷ olds) o held among = ⊎_elim
    (λ same. subst (HoldsSaved x) same held.0.contents)
    (λ later. saved_in x p.list olds o held.1 later)
    (contains_cases p o olds among)

-- ---- taken back one after the other

pub record AreTurns (x : Tree) (m : Marks) (s : SystemState) (os rest : List StackItem) : Type 0 where
  pub can : CanRollBackAll os rest s
  pub turn : IsTurn x (undone_all (entries_all os) m) (after_rollbacks os rest s)
  pub left : (after_rollbacks os rest s).stack ≡ rest

pub all_turns : (x : Tree) (m : Marks) (s : SystemState) (os rest : List StackItem) → IsTurn x m s → s.stack ≡ os ++ rest → CanUndoAll (entries_all os) m → AreTurns x m s os rest
all_turns x m s [] rest turn stack can = record { can = tt; turn = turn; left = stack }
all_turns x m s (o ∷ os) rest turn stack can =
    let later = all_turns x (undone (state.entries_of o) m) (after_rollback o (os ++ rest) s) os rest (next_turn x m s turn o (os ++ rest) stack can.0) refl can.1 in
    record { can = (can_roll_back x m s turn o (os ++ rest) stack can.0, later.can); turn = later.turn; left = later.left }

-- ---- the oldest job that has a path

no_older : (r : Option ℕ) (b : Bool) (n : ℕ) → older r (cond b (Some n) None) ≡ None → (r ≡ None) × (b ≡ false)
no_older (Some k) b n is = absurd (cc is)
no_older None true n is = absurd (cc is)
no_older None false n is = (refl, refl)

pub own_number : (b : Bool) (n k : ℕ) → cond b (Some n) None ≡ Some k → (b ≡ true) × (n ≡ k)
own_number true n k is = (refl, cc is)
own_number false n k is = absurd (cc is)

-- what stood there before this job, or else this
abbrev pub first_node : StackItem → Name → Option Node → Option Node
first_node o q stood = cond (is_listed o.paths q) (get o.before q) stood

pub none_old : (n : ℕ) (os : List StackItem) (q : Name) → oldest_with n (entries_all os) q ≡ None → (stood : Option Node) → old_node os q stood ≡ stood
none_old n [] q none stood = refl
none_old n (o ∷ os) q none stood =
    let both = no_older (oldest_with (n - 1) (entries_all os) q) (is_path_of (state.entries_of o) q) n none in
    none_old (n - 1) os q both.0 (first_node o q stood) ∙ ap (λ (b : Bool). cond b (get o.before q) stood) (sym (path_listed o o.paths q) ∙ both.1)

pub record IsOldest (os : List StackItem) (q : Name) (k : ℕ) : Type 0 where
  pub job : StackItem
  pub among : Contains os job
  pub number_is : job.number ≡ k
  pub own : is_listed job.paths q ≡ true
  pub node : (stood : Option Node) → old_node os q stood ≡ get job.before q

pub oldest_is : (n : ℕ) (os : List StackItem) (q : Name) (k : ℕ) → AreFrom n os → oldest_with n (entries_all os) q ≡ Some k → IsOldest os q k
oldest_is n [] q k from is = absurd (cc is)
oldest_is n (o ∷ os) q k from is = at (oldest_with (n - 1) (entries_all os) q) refl (λ there. oldest_is (n - 1) os q k from.1 there) is
  where
    at : (r : Option ℕ) → oldest_with (n - 1) (entries_all os) q ≡ r → (oldest_with (n - 1) (entries_all os) q ≡ Some k → IsOldest os q k)
        → older r (cond (is_path_of (state.entries_of o) q) (Some n) None) ≡ Some k → IsOldest (o ∷ os) q k
    at (Some j) there later one =
        let old = later (there ∙ one) in
        record { job = old.job; among = contains_rest o old.job os old.among; number_is = old.number_is; own = old.own; node = λ stood. old.node (first_node o q stood) }
    at None none later one =
        let own = own_number (is_path_of (state.entries_of o) q) n k one in
        let listed : is_listed o.paths q ≡ true = sym (path_listed o o.paths q) ∙ own.0 in
        record {
          job = o;
          among = contains_first o os;
          number_is = from.0 ∙ own.1;
          own = listed;
          node = λ stood. none_old (n - 1) os q none (first_node o q stood) ∙ ap (λ (b : Bool). cond b (get o.before q) stood) listed;
        }

-- ---- the tree and the list afterwards

pub after_tree : (os rest : List StackItem) (s : SystemState) → All IsStackItem os → (q : Name) → get (after_rollbacks os rest s).tree q ≡ old_node os q (get s.tree q)
after_tree [] rest s items q = refl
after_tree (o ∷ os) rest s items q =
    after_tree os rest (after_rollback o (os ++ rest) s) (All-tail IsStackItem o os items) q ∙ ap (old_node os q) first
  where
    item : IsStackItem o
    item = All-head IsStackItem o os items

    first : get (with_targets (backs o) s.tree) q ≡ first_node o q (get s.tree q)
    first = ⊎_elim
        (λ own. restored o item s.tree q own ∙ sym (ap (λ (b : Bool). cond b (get o.before q) (get s.tree q)) own))
        (λ other. kept o item s.tree q other ∙ sym (ap (λ (b : Bool). cond b (get o.before q) (get s.tree q)) other))
        (cases_Bool (is_listed o.paths q))

pub after_list : (os rest : List StackItem) (s : SystemState) → (after_rollbacks os rest s).installed ≡ list_before os s.installed
after_list [] rest s = refl
after_list (o ∷ os) rest s = after_list os rest (after_rollback o (os ++ rest) s)

pub after_whole : (os rest : List StackItem) (s : SystemState) → All IsStackItem os → FollowEachOther os s.tree → (after_rollbacks os rest s).tree ≡ tree_before os s.tree
after_whole [] rest s items follow = refl
after_whole (o ∷ os) rest s items follow =
    let back : with_targets (backs o) s.tree ≡ o.before = ap (with_targets (backs o)) follow.0 ∙ all_restored o (All-head IsStackItem o os items) in
    after_whole os rest (after_rollback o (os ++ rest) s) (All-tail IsStackItem o os items) (subst (FollowEachOther os) (sym back) follow.1) ∙ ap (tree_before os) back

-- ---- all their paths

listed_either : (some more : List Name) (q : Name) → is_listed (some ++ more) q ≡ (is_listed some q || is_listed more q)
listed_either [] more q = refl
listed_either (p ∷ some) more q = at (same_name q p) (listed_either some more q)
  where
    at : (b : Bool) → is_listed (some ++ more) q ≡ (is_listed some q || is_listed more q) → (b || is_listed (some ++ more) q) ≡ ((b || is_listed some q) || is_listed more q)
    at true same = refl
    at false same = same

pub job_listed : (os : List StackItem) (o : StackItem) (q : Name) → Contains os o → is_listed o.paths q ≡ true → is_listed (paths_of_jobs os) q ≡ true
job_listed [] o q among own = absurd (nothing_in o among)
job_listed (p ∷ os) o q among own = listed_either p.paths (paths_of_jobs os) q ∙ ⊎_elim
    (λ same. left (is_listed p.paths q) (is_listed (paths_of_jobs os) q) (ap (λ (j : StackItem). is_listed j.paths q) same ∙ own))
    (λ later. right (is_listed p.paths q) (is_listed (paths_of_jobs os) q) (job_listed os o q later own))
    (contains_cases p o os among)
  where
    left : (a b : Bool) → a ≡ true → (a || b) ≡ true
    left true b is = refl
    left false b is = absurd (cc is)

    right : (a b : Bool) → b ≡ true → (a || b) ≡ true
    right true b is = refl
    right false b is = is
