-- `rollback` has one outcome.
use Rattle.std.proofs.Common.{◌≡◌, ◌≢◌, ◌<◌, ◌+◌, ◌-◌, ⊎_elim, ℕ, zero, suc, true, List, [], ◌∷◌, ◌++◌, length, take, drop, All, Contains, Option, None, Ok, Err, refl, sym, ap, ◌∙◌, subst, arith, append_assoc}
use Rattle.std.specs.Prelude.{is_some}
use Rattle.std.proofs.lemmas.List.{take-append-drop}
use Rattle.std.proofs.lemmas.List.Elements.{All-contains, Contains-append_right}
use Rattle.std.specs.FinMap.{get, nat_cmp-IsAntisymmetric, slice_cmp-IsAntisymmetric}
use Rattle.std.specs.Ordering.{nat_cmp, ordering_reverse}
use Rattle.std.specs.Cmp.Lexicographic.{slice_cmp, nat_list_cmp_total}
use Rattle.std.specs.declared.cmp.Ordering.{Ordering}
use Rattle.std.specs.declared.cmp.Ordering.TheVariants.{Less, Equal, Greater}
use Rattle.conary_cli.specs.cli-call.cny-base.declared.node.Node.{Node}
use Rattle.conary_cli.specs.cli-call.cny-base.declared.refusal.Refusal.{Refusal}
use Rattle.conary_cli.specs.cli-call.cny-base.declared.refusal.Refusal.TheVariants.{Edited, NoJob, Parent, StackEmpty}
use Rattle.conary_cli.specs.cli-call.cny-base.Path.{parent}
use Rattle.conary_cli.specs.cli-call.tree-disk.Tree.{Name, Tree, is_dir}
use Rattle.conary_cli.proofs.cli-call.tree-disk.Children.{stands_or_not}
use Rattle.conary_cli.specs.cli-call.tree-scan.Marks.{fingerprint}
use Rattle.conary_cli.specs.cli-call.journal-log.Targets.{with_targets}
use Rattle.conary_cli.specs.cli-call.local-db.SystemState.{newest, AreNumbered, IsSystemState, StackItem, SystemState}
use Rattle.conary_cli.specs.cli-call.local-db.Steps.{after_rollback, after_rollbacks, backs, CanRollBack, CanRollBackAll, HasForeignEntry}
use Rattle.conary_cli.specs.cli-call.system-core.Several.{count_to, jobs_below, jobs_to, CanTakeBackTo, HasJob, IsRefusalTo, OfTurn}
use Rattle.conary_cli.specs.cli-call.system-core.Tests.{IsEditedSince, IsFirstEditedSince, IsFirstWithoutDirectory}
use Rattle.conary_cli.specs.cli-call.cny-laws.State.{RootState}
use Rattle.conary_cli.specs.root-commands.RollingBack.{meant_number, roll_back, TakesBackTo}
use Rattle.conary_cli.proofs.cli-call.local-db.Writes.{not_both}
use Rattle.change_rel.proofs.cny-base.Lists.{nothing_in, contains_first}
use Rattle.outcome_laws.specs.OneOutcome.{AtMostOne, HasOneOutcome}
use Rattle.outcome_laws.proofs.Sets.{effect_once}
use Rattle.outcome_laws.proofs.Splits.{Cuts, same, earlier, later, cuts}
use Rattle.outcome_laws.proofs.Tests.{done, refused, with_shared}

-- ---- one job, on one tree

among : (front rest : List Name) (path : Name) → Contains (front ++ path ∷ rest) path
among front rest path = Contains-append_right front (path ∷ rest) path (contains_first path rest)

edited_in : (o : StackItem) (tree : Tree) (path : Name) → All (λ p. IsEditedSince o tree p → ⊥) o.paths → IsFirstEditedSince o tree path → ⊥
edited_in o tree path unedited e = All-contains (λ (p : Name). IsEditedSince o tree p → ⊥) o.paths path unedited (subst (λ (l : List Name). Contains l path) (sym e.split) (among e.front e.rest path)) e.edited

-- what is edited can't be taken back
edited_stays : (o : StackItem) (s : SystemState) (path : Name) → IsFirstEditedSince o s.tree path → CanRollBack o s → ⊥
edited_stays o s path e can = ⊎_elim
    (λ other. other (All-contains (λ (p : Name). fingerprint (get s.tree p) ≡ fingerprint (get o.after p)) o.paths path can.marks there))
    (λ foreign. All-contains (λ (p : Name). HasForeignEntry o s.tree p → ⊥) o.paths path can.no_foreign_entry there foreign)
    e.edited
  where
    there : Contains o.paths path
    there = subst (λ (l : List Name). Contains l path) (sym e.split) (among e.front e.rest path)

stands : (n : Option Node) → n ≢ None → is_some n ≡ true
stands n some = ⊎_elim (λ none. absurd (some none)) (λ is. is) (stands_or_not n)

-- nor what would leave a path without its directory
orphan_stays : (o : StackItem) (s : SystemState) (path : Name) → IsFirstWithoutDirectory o s.tree path → CanRollBack o s → ⊥
orphan_stays o s path e can =
    not_both (is_dir (get (with_targets (backs o) s.tree) (parent path))) (can.well_formed.parents path (stands (get (with_targets (backs o) s.tree) path) e.orphan.0)) e.orphan.1

edited_once : (o : StackItem) (tree : Tree) → AtMostOne (IsFirstEditedSince o tree)
edited_once o tree p q h g = by (cuts h.front g.front p q h.rest g.rest (sym h.split ∙ g.split))
  where
    by : Cuts h.front g.front p q h.rest g.rest → p ≡ q
    by (same fronts ones rests) = ones
    by (earlier more at rests) = absurd (All-contains (λ (x : Name). IsEditedSince o tree x → ⊥) g.front p g.unedited (subst (λ (l : List Name). Contains l p) (sym at) (among h.front more p)) h.edited)
    by (later more at rests) = absurd (All-contains (λ (x : Name). IsEditedSince o tree x → ⊥) h.front q h.unedited (subst (λ (l : List Name). Contains l q) (sym at) (among g.front more q)) g.edited)

orphan_once : (o : StackItem) (tree : Tree) → AtMostOne (IsFirstWithoutDirectory o tree)
orphan_once o tree p q h g = by (slice_cmp nat_cmp p q) refl
  where
    by : (c : Ordering) → slice_cmp nat_cmp p q ≡ c → p ≡ q
    by Less is = absurd (g.first p is h.orphan)
    by Equal is = slice_cmp-IsAntisymmetric nat_cmp-IsAntisymmetric p q is
    by Greater is = absurd (h.first q (nat_list_cmp_total.antisymm q p ∙ ap ordering_reverse is) g.orphan)

-- ---- when the turn of a job comes

turn : (front : List StackItem) (o : StackItem) (more rest : List StackItem) (s : SystemState) → CanRollBackAll (front ++ o ∷ more) rest s → CanRollBack o (after_rollbacks front (o ∷ (more ++ rest)) s)
turn [] o more rest s can = can.0
turn (p ∷ front) o more rest s can =
    subst (λ (l : List StackItem). CanRollBack o (after_rollbacks front (o ∷ (more ++ rest)) (after_rollback p l s))) (append_assoc front (o ∷ more) rest)
    (turn front o more rest (after_rollback p ((front ++ o ∷ more) ++ rest) s) can.1)

-- it can't be taken back then
abbrev Stays : (StackItem → Tree → Type 0) → Type 0
Stays P = (o : StackItem) (t : SystemState) → P o t.tree → CanRollBack o t → ⊥

module _ (s : RootState) (number : ℕ) where
  -- two turns at which something holds that doesn't let a job be taken back are one
  one_turn : (P Q : StackItem → Tree → Type 0) → Stays P → Stays Q → (A : Type 0) → ((o : StackItem) (tree : Tree) → P o tree → Q o tree → A) → OfTurn s number P → OfTurn s number Q → A
  one_turn P Q p_stays q_stays A both h g = by (cuts h.newer g.newer h.job g.job h.olds g.olds (sym h.stack_is ∙ g.stack_is))
    where
      by : Cuts h.newer g.newer h.job g.job h.olds g.olds → A
      by (same fronts ones rests) = both g.job (after_rollbacks g.newer (g.job ∷ g.olds) s).tree
          (subst (λ (l : List StackItem). P g.job (after_rollbacks g.newer (g.job ∷ l) s).tree) rests
          (subst (λ (o : StackItem). P o (after_rollbacks g.newer (o ∷ h.olds) s).tree) ones
          (subst (λ (l : List StackItem). P h.job (after_rollbacks l (h.job ∷ h.olds) s).tree) fronts h.holds)))
          g.holds
      by (earlier more at rests) = absurd (p_stays h.job (after_rollbacks h.newer (h.job ∷ (more ++ g.job ∷ g.olds)) s)
          (subst (λ (l : List StackItem). P h.job (after_rollbacks h.newer (h.job ∷ l) s).tree) rests h.holds)
          (turn h.newer h.job more (g.job ∷ g.olds) s (subst (λ (l : List StackItem). CanRollBackAll l (g.job ∷ g.olds) s) at g.can)))
      by (later more at rests) = absurd (q_stays g.job (after_rollbacks g.newer (g.job ∷ (more ++ h.job ∷ h.olds)) s)
          (subst (λ (l : List StackItem). Q g.job (after_rollbacks g.newer (g.job ∷ l) s).tree) rests g.holds)
          (turn g.newer g.job more (h.job ∷ h.olds) s (subst (λ (l : List StackItem). CanRollBackAll l (h.job ∷ h.olds) s) at h.can)))

-- ---- all jobs down to a number

-- the numbers fall by 1
fall : (newer : List StackItem) (job : StackItem) (olds : List StackItem) → AreNumbered (newer ++ job ∷ olds) → job.number + length newer ≡ newest (newer ++ job ∷ olds)
fall [] job olds numbered = omega arith
fall (o ∷ []) job olds numbered =
    let step : o.number ≡ job.number + 1 = numbered.0 in
    omega (arith, step)
fall (o ∷ p ∷ newer) job olds numbered =
    let step : o.number ≡ p.number + 1 = numbered.0 in
    let rest : job.number + length (p ∷ newer) ≡ p.number = fall (p ∷ newer) job olds numbered.1 in
    omega (arith, step, rest)

-- the first items of a list that is taken apart behind more of them
record Taken (n : ℕ) (newer : List StackItem) (job : StackItem) (olds : List StackItem) : Type 0 where
  more : List StackItem
  rest : List StackItem
  taken : take n (newer ++ job ∷ olds) ≡ newer ++ job ∷ more
  dropped : drop n (newer ++ job ∷ olds) ≡ rest
  together : more ++ rest ≡ olds

taken_at : (n : ℕ) (newer : List StackItem) (job : StackItem) (olds : List StackItem) → length newer < n → Taken n newer job olds
taken_at zero newer job olds lt = absurd (omega (arith, lt))
taken_at (suc n) [] job olds lt = record { more = take n olds; rest = drop n olds; taken = refl; dropped = refl; together = take-append-drop n olds }
taken_at (suc n) (o ∷ newer) job olds lt =
    let t = taken_at n newer job olds (omega (arith, lt)) in
    record { more = t.more; rest = t.rest; taken = ap (λ (l : List StackItem). o ∷ l) t.taken; dropped = t.dropped; together = t.together }

-- the jobs down to the number can't all be taken back where that holds of one of them
turn_stays : (s : RootState) (number : ℕ) (P : StackItem → Tree → Type 0) → Stays P → AreNumbered s.stack → CanTakeBackTo s number → OfTurn s number P → ⊥
turn_stays s number P stays numbered can h =
    let falls = fall h.newer h.job h.olds (subst AreNumbered h.stack_is numbered) in
    let top : newest s.stack ≡ newest (h.newer ++ h.job ∷ h.olds) = ap newest h.stack_is in
    let low : length h.newer < newest s.stack + 1 - number = omega (arith, falls, top, h.down_to) in
    let t = taken_at (count_to number s.stack) h.newer h.job h.olds low in
    let first : jobs_to number s.stack ≡ h.newer ++ h.job ∷ t.more = ap (take (count_to number s.stack)) h.stack_is ∙ t.taken in
    let behind : jobs_below number s.stack ≡ t.rest = ap (drop (count_to number s.stack)) h.stack_is ∙ t.dropped in
    stays h.job (after_rollbacks h.newer (h.job ∷ (t.more ++ t.rest)) s)
    (subst (λ (l : List StackItem). P h.job (after_rollbacks h.newer (h.job ∷ l) s).tree) (sym t.together) h.holds)
    (turn h.newer h.job t.more t.rest s
    (subst (λ (l : List StackItem). CanRollBackAll (h.newer ++ h.job ∷ t.more) l s) behind
    (subst (λ (l : List StackItem). CanRollBackAll l (jobs_below number s.stack) s) first can.1)))

abbrev EditedAt : Name → StackItem → Tree → Type 0
EditedAt path o tree = IsFirstEditedSince o tree path

abbrev OrphanAt : Name → StackItem → Tree → Type 0
OrphanAt path o tree = IsFirstWithoutDirectory o tree path

module _ (s : RootState) (number : ℕ) where
  no_job_of : s.stack ≡ [] → HasJob s.stack number → ⊥
  no_job_of empty job = nothing_in job.0 (subst (λ (l : List StackItem). Contains l job.0) empty job.1)

  edited_turn : (path : Name) → Stays (EditedAt path)
  edited_turn path o t e can = edited_stays o t path e can

  orphan_turn : (path : Name) → Stays (OrphanAt path)
  orphan_turn path o t e can = orphan_stays o t path e can

  two_edited : (p q : Name) → OfTurn s number (EditedAt p) → OfTurn s number (EditedAt q) → p ≡ q
  two_edited p q h g = one_turn s number (EditedAt p) (EditedAt q) (edited_turn p) (edited_turn q) (p ≡ q) (λ o tree a b. edited_once o tree p q a b) h g

  two_orphans : (p q : Name) → OfTurn s number (OrphanAt p) → OfTurn s number (OrphanAt q) → p ≡ q
  two_orphans p q h g = one_turn s number (OrphanAt p) (OrphanAt q) (orphan_turn p) (orphan_turn q) (p ≡ q) (λ o tree a b. orphan_once o tree p q a b) h g

  one_of_each : (p q : Name) → OfTurn s number (EditedAt p) → OfTurn s number (OrphanAt q) → ⊥
  one_of_each p q h g = one_turn s number (EditedAt p) (OrphanAt q) (edited_turn p) (orphan_turn q) ⊥ (λ o tree a b. edited_in o tree p b.unedited a) h g

  refusal_once : AtMostOne (IsRefusalTo s number)
  refusal_once StackEmpty StackEmpty h g = refl
  refusal_once StackEmpty (NoJob n) h g = absurd (g.1 h)
  refusal_once StackEmpty (Edited path) h g = absurd (no_job_of h g.asked)
  refusal_once StackEmpty (Parent path) h g = absurd (no_job_of h g.asked)
  refusal_once StackEmpty _ h g = absurd g
  refusal_once (NoJob n) StackEmpty h g = absurd (h.1 g)
  refusal_once (NoJob n) (NoJob m) h g = ap (λ (k : ℕ). NoJob k) (h.0 ∙ sym g.0)
  refusal_once (NoJob n) (Edited path) h g = absurd (h.2 g.asked)
  refusal_once (NoJob n) (Parent path) h g = absurd (h.2 g.asked)
  refusal_once (NoJob n) _ h g = absurd g
  refusal_once (Edited path) StackEmpty h g = absurd (no_job_of g h.asked)
  refusal_once (Edited path) (NoJob n) h g = absurd (g.2 h.asked)
  refusal_once (Edited path) (Edited other) h g = ap (λ (p : Name). Edited p) (two_edited path other h g)
  refusal_once (Edited path) (Parent other) h g = absurd (one_of_each path other h g)
  refusal_once (Edited path) _ h g = absurd g
  refusal_once (Parent path) StackEmpty h g = absurd (no_job_of g h.asked)
  refusal_once (Parent path) (NoJob n) h g = absurd (g.2 h.asked)
  refusal_once (Parent path) (Edited other) h g = absurd (one_of_each other path g h)
  refusal_once (Parent path) (Parent other) h g = ap (λ (p : Name). Parent p) (two_orphans path other h g)
  refusal_once (Parent path) _ h g = absurd g
  refusal_once _ q h g = absurd h

  never_refused : IsSystemState s → (why : Refusal) → CanTakeBackTo s number → IsRefusalTo s number why → ⊥
  never_refused system StackEmpty can h = no_job_of h can.0
  never_refused system (NoJob n) can h = h.2 can.0
  never_refused system (Edited path) can h = turn_stays s number (EditedAt path) (edited_turn path) system.numbered can h
  never_refused system (Parent path) can h = turn_stays s number (OrphanAt path) (orphan_turn path) system.numbered can h
  never_refused system _ can h = h

  takes_back_once : IsSystemState s → AtMostOne (TakesBackTo number s)
  takes_back_once system (Ok x) (Ok y) h g = ap done (effect_once x y (h.change ∙ sym g.change) (h.out ∙ sym g.out))
  takes_back_once system (Ok x) (Err q) h g = absurd (never_refused system q h.can g)
  takes_back_once system (Err p) (Ok y) h g = absurd (never_refused system p g.can h)
  takes_back_once system (Err p) (Err q) h g = ap refused (refusal_once p q h g)

pub roll_back_once : (number : Option ℕ) → HasOneOutcome (roll_back number)
roll_back_once number = with_shared (roll_back number) (λ s input state. takes_back_once s.root (meant_number number s.root) state.root)
