-- What a changing call does, where it is done and where it fails.
use Rattle.std.proofs.Common.{◌≡◌, inl, ⊎_elim, ℕ, zero, suc, ◌≤◌, ◌/◌, Bool, true, false, cond, ◌||◌, ◌&&◌, List, [], ◌∷◌, length, take, refl, sym, ◌∙◌, ap, subst, arith, Result, Ok, Err, IfOk}
use Rattle.std.specs.FinMap.{get}
use Rattle.std.specs.List.{list_all}
use Rattle.tree_nodes.specs.cny-base.Count.{next}
use Rattle.tree_nodes.specs.cny-base.declared.text.OutOfMemory.{OutOfMemory}
use Rattle.tree_nodes.specs.tree-disk.Tree.{Name, Tree, is_byte, WellFormed}
use Rattle.tree_nodes.specs.tree-disk.Disk.{HasSynced}
use Rattle.tree_nodes.specs.tree-disk.Rows.{with_append}
use Rattle.tree_nodes.proofs.tree-disk.Allowed.{part_well_formed}
use Rattle.tree_nodes.specs.tree-disk.declared.disk.DiskStop.TheVariants.{Failed}
use Rattle.tree_memory.specs.declared.change.Change.{Change}
use Rattle.tree_memory.specs.declared.change.Change.TheVariants.{Append, Put, SetMode, Rename, Touch, TouchBoth, Sync, Edit}
use Rattle.tree_memory.specs.declared.memory.MemoryTree.{MemoryTree}
use Rattle.tree_memory.specs.State.{State, allows, tree_after, names_of, settles, failed_change, first_half}
use Rattle.tree_memory.proofs.Replay.{outside}
use Rattle.tree_memory.specs.Memory.{memory_disk, state, faults_of, fails_next, does_part}
use Rattle.tree_memory.specs.Calls.{IsCall, IsDone, CountsCall}
use Rattle.tree_nodes.proofs.tree-disk.Moments.{shows_step}
use Rattle.tree_memory.proofs.Moves.{OneMore, in_one_step, reads_pushed, unsynced_pushed, state_pushed, elapsed}

-- ---- the change of a failed call

append_names : (p : Name) (bytes : List ℕ) (part : Bool) → names_of (cond part (Append p (first_half bytes)) (Touch p)) ≡ names_of (Touch p)
append_names p bytes true = refl
append_names p bytes false = refl

pub failed_names : (change : Change) (part : Bool) → names_of (failed_change change part) ≡ names_of change
failed_names (Append p bytes) part = append_names p bytes part
failed_names (Put p o) part = refl
failed_names (SetMode p mode) part = refl
failed_names (Rename from to) part = refl
failed_names (Touch p) part = refl
failed_names (TouchBoth from to) part = refl
failed_names Sync part = refl
failed_names (Edit p o) part = refl

append_settles : (p : Name) (bytes : List ℕ) (part : Bool) → settles (cond part (Append p (first_half bytes)) (Touch p)) ≡ false
append_settles p bytes true = refl
append_settles p bytes false = refl

pub failed_settles : (change : Change) (part : Bool) → settles change ≡ false → settles (failed_change change part) ≡ false
failed_settles (Append p bytes) part h = append_settles p bytes part
failed_settles (Put p o) part h = refl
failed_settles (SetMode p mode) part h = refl
failed_settles (Rename from to) part h = refl
failed_settles (Touch p) part h = refl
failed_settles (TouchBoth from to) part h = refl
failed_settles Sync part h = h
failed_settles (Edit p o) part h = h

half_bytes : (n : ℕ) (bytes : List ℕ) → list_all is_byte bytes ≡ true → list_all is_byte (take n bytes) ≡ true
half_bytes zero bytes all = refl
half_bytes (suc n) [] all = refl
half_bytes (suc n) (b ∷ bytes) all = both (is_byte b) (list_all is_byte bytes) (list_all is_byte (take n bytes)) (half_bytes n bytes) all
  where
    both : (x y z : Bool) → (y ≡ true → z ≡ true) → (x && y) ≡ true → (x && z) ≡ true
    both true y z next h = next h
    both false y z next h = h

-- the first half of an append leaves a tree where the whole does
pub half_keeps : (t : Tree) (p : Name) (bytes half : List ℕ) → half ≡ first_half bytes → WellFormed t → WellFormed (with_append t p bytes) → WellFormed (with_append t p half)
half_keeps t p bytes half is well whole =
    subst (λ (b : List ℕ). WellFormed (with_append t p b)) (sym is) (part_well_formed t p bytes (first_half bytes) well (half_bytes (length bytes / 2) bytes) whole)

-- ---- the call

-- the change that was made for it
pub asked : (r : Result Change OutOfMemory) (change : Change) (P : Change → Type 0) → r ≡ Ok change → IfOk r P → P change
asked r change P is holds = subst (λ (x : Result Change OutOfMemory). IfOk x P) is holds

can_of : (old : MemoryTree) (wanted change : Change) → IsCall wanted change → allows wanted (state old).reads ≡ allows change (state old).reads
can_of old wanted change call = ap (λ c. allows c (state old).reads) (sym call.is)

module _ {old new : MemoryTree} (counts : CountsCall old new) where
  pub done : (change wanted : Change) → IsCall wanted change → OneMore old new change → allows change (state old).reads ≡ true → fails_next old ≡ false → faults_of new ≡ faults_of old
      → IsDone wanted (allows wanted (state old).reads) old new (Ok tt)
  done change wanted call more goes fails_not faults =
      let one : OneMore old new wanted = subst (OneMore old new) call.is more in
      record {
        cause = record {
          later = omega (arith, faults);
          failed = λ e. absurd (cc e);
          refused = λ e. absurd (cc e);
          no_fault = ⊎_elim (λ e. absurd (cc e)) (λ e. absurd (cc e));
        };
        told = record {
          done = (can_of old wanted change call ∙ goes, reads_pushed one);
          outside = λ p other. ap (λ t. get t p) (reads_pushed one) ∙ outside wanted (state old).reads p other;
          touches = unsynced_pushed one (ap settles (sym call.is) ∙ call.settles_not);
          touches_failed = λ e. absurd (cc e);
          unchanged = ⊎_elim (λ e. absurd (cc e)) (λ e. absurd (cc e));
          one_step = in_one_step one;
          visible = shows_step (in_one_step one) (λ p other. refl) (λ p other. ap (λ t. get t p) (reads_pushed one) ∙ outside wanted (state old).reads p other);
          time = elapsed one;
        };
        counted = record {
          calls = counts.calls;
          stop = counts.stop;
          fails = counts.fails;
          failed = λ e. absurd (cc e);
          fails_next = λ h. absurd (cc (h, fails_not));
          faults = faults;
        };
        left = λ e. absurd (cc e);
      }

  pub failed : (kept change wanted : Change) → IsCall wanted change → kept ≡ failed_change change (does_part old (allows change (state old).reads)) → OneMore old new kept → fails_next old ≡ true
      → faults_of new ≡ next (faults_of old) → faults_of old ≤ next (faults_of old) → IsDone wanted (allows wanted (state old).reads) old new (Err Failed)
  failed kept change wanted call is_kept more fails faults later =
      let t = (state old).reads in
      let part = does_part old (allows wanted t) in
      let same : kept ≡ failed_change wanted (does_part old (allows wanted t)) = is_kept ∙ ap (λ c. failed_change c (does_part old (allows c t))) call.is in
      let one : OneMore old new (failed_change wanted (does_part old (allows wanted t))) = subst (OneMore old new) same more in
      let names = failed_names wanted (does_part old (allows wanted t)) in
      let settles_not : settles wanted ≡ false = ap settles (sym call.is) ∙ call.settles_not in
      record {
        cause = record {
          later = omega (arith, faults, later);
          failed = λ e. omega (arith, faults);
          refused = λ e. absurd (cc e);
          no_fault = ⊎_elim (λ e. absurd (cc e)) (λ e. absurd (cc e));
        };
        told = record {
          done = tt;
          outside = λ p other. ap (λ u. get u p) (reads_pushed one) ∙ outside (failed_change wanted part) t p (ap (λ f. f p) names ∙ other);
          touches = tt;
          touches_failed = λ e p. unsynced_pushed one (failed_settles wanted part settles_not) p ∙ ap (λ f. (state old).unsynced p || f p) names;
          unchanged = ⊎_elim (λ e. absurd (cc e)) (λ e. absurd (cc e));
          one_step = tt;
          visible = shows_step (in_one_step one) (λ p other. refl)
              (λ p other. ap (λ u. get u p) (reads_pushed one) ∙ outside (failed_change wanted part) t p (ap (λ f. f p) names ∙ other));
          time = elapsed one;
        };
        counted = record {
          calls = counts.calls;
          stop = counts.stop;
          fails = counts.fails;
          failed = λ e. fails;
          fails_next = λ h. inl refl;
          faults = faults;
        };
        left = λ e. reads_pushed one;
      }

pub synced : {old new : MemoryTree} → OneMore old new Sync → HasSynced memory_disk old new (Ok tt)
synced more = record {
  reads = reads_pushed more;
  done = λ p. ap (λ (s : State). s.unsynced p) (state_pushed more);
  unchanged = tt;
  visible = shows_step (in_one_step more) refl (reads_pushed more);
  time = elapsed more;
}

-- what a failed append leaves
pub append_left : (old new : MemoryTree) (p : Name) (bytes : List ℕ) (part : Bool) → (state new).reads ≡ tree_after (cond part (Append p (first_half bytes)) (Touch p)) (state old).reads
    → (state new).reads ≡ cond part (with_append (state old).reads p (first_half bytes)) (state old).reads
append_left old new p bytes true is = is
append_left old new p bytes false is = is
