-- How a call ends on a state, from how its command's function and the reading of its input ended.
use Rattle.std.proofs.Common.{◌≡◌, ◌≤◌, ℕ, Bool, List, Option, Some, Result, Ok, Err, IfSome, refl, sym, ap, ◌∙◌, subst, inl, inr, arith}
use Rattle.cny_laws.specs.system-core.cny-base.declared.refusal.Refusal.{Refusal}
use Rattle.cny_laws.specs.system-core.cny-base.declared.stop.Stop.{Stop}
use Rattle.repo_load.specs.cny-base.Flow.{SourceState, SinkState}
use Rattle.cny_laws.specs.system-core.tree-disk.Tree.{Tree}
use Rattle.cny_laws.specs.declared.failure.Failure.{Failure}
use Rattle.cny_laws.specs.Shown.{IsShown}
use Rattle.cny_laws.specs.system-core.FixedDirs.{fixed_dirs}
use Rattle.cli_call.proofs.InputLaws.{left_err, left_ok, some_so}
use Rattle.cli_call.specs.Line.{EndsWriting}
use Rattle.cli_call.proofs.LineLaws.{takes_so}
use Rattle.cny_laws.specs.Reading.{given, left_by, Gives, ReadsGiven}
use Rattle.cny_laws.specs.Report.{End, status_of}
use Rattle.cny_laws.specs.State.{State, Effect, Meaning, tree_of, IsNext, Then}
use Rattle.cny_laws.specs.Stops.{root_failure, repository_failure}
use Rattle.cny_laws.specs.WholeCall.{Outcome, left_when, left_of, CallEnds, HasEffect, OwnOutcome}
use Rattle.cli_call.proofs.CommandLaws.{next_more, shown_more, takes_more}
use Rattle.cny_laws.specs.system-core.cny-base.declared.stop.Stop.TheVariants as stop
use Rattle.cny_laws.specs.declared.failure.Failure.TheVariants as failure

-- a status up to 4 comes then
pub small : (end : End) → HasEffect end → status_of end ≤ 4
small (Ok x) h = omega arith
small (Err failure.OutputFault) h = omega arith
small _ h = absurd h

pub no_root_effect : (e : Stop) → HasEffect (Err (root_failure e)) → ⊥
no_root_effect stop.Failed h = h
no_root_effect _ h = h

pub no_repo_effect : (e : Stop) → HasEffect (Err (repository_failure e)) → ⊥
no_repo_effect stop.Failed h = h
no_repo_effect _ h = h

pub no_unread_effect : {takes : Bool} {before now : SourceState} (e : Failure) → ReadsGiven takes before now (Err e) → HasEffect (Err e) → ⊥
no_unread_effect failure.OutputFault reads h = reads.cause
no_unread_effect _ reads h = h

-- the state before or after, however it ended
pub next_any : (IsOutcome : Result Effect Refusal → Type 0) (s next : State) (before now : SinkState) (end : End) → CallEnds IsOutcome s next before now end → IsNext IsOutcome s next
next_any IsOutcome s next before now (Ok x) h = inr (takes_so (λ bytes b. tt) h)
next_any IsOutcome s next before now (Err (failure.Refused r)) h = inl h.1
next_any IsOutcome s next before now (Err failure.InputFault) h = inl h
next_any IsOutcome s next before now (Err failure.OutputFault) h = inr (takes_so (λ bytes b. tt) h)
next_any IsOutcome s next before now (Err failure.RootFault) h = h
next_any IsOutcome s next before now (Err failure.RepositoryFault) h = h
next_any IsOutcome s next before now (Err failure.Memory) h = h
next_any IsOutcome s next before now _ h = absurd h

-- ---- outcomes

-- where the fixed directories stand and this is what the command is given
pub outcome_of : (m : Meaning) (s : State) (input bytes : List ℕ) (o : Result Effect Refusal) → fixed_dirs (tree_of s.root) ≡ Ok tt → given m.takes_input input ≡ Ok bytes → m.IsOutcome s bytes o → Outcome m s input o
outcome_of m s input bytes o fixed is h =
    subst (λ (d : Result (Unit {0}) Refusal). Then d (λ _. Then (given m.takes_input input) (m.IsOutcome s)) o) (sym fixed)
    (subst (λ (g : Result (List ℕ) Refusal). Then g (m.IsOutcome s) o) (sym is) h)

-- where a fixed directory isn't one
pub dir_missing : (m : Meaning) (s : State) (input : List ℕ) (r : Refusal) → fixed_dirs (tree_of s.root) ≡ Err r → Outcome m s input (Err r)
dir_missing m s input r missing = subst (λ (d : Result (Unit {0}) Refusal). Then d (λ _. Then (given m.takes_input input) (m.IsOutcome s)) (Err r)) (sym missing) refl

-- where nothing is given
pub not_given : (m : Meaning) (s : State) (input : List ℕ) (r : Refusal) → fixed_dirs (tree_of s.root) ≡ Ok tt → given m.takes_input input ≡ Err r → Outcome m s input (Err r)
not_given m s input r fixed is =
    subst (λ (d : Result (Unit {0}) Refusal). Then d (λ _. Then (given m.takes_input input) (m.IsOutcome s)) (Err r)) (sym fixed)
    (subst (λ (g : Result (List ℕ) Refusal). Then g (m.IsOutcome s) (Err r)) (sym is) refl)

-- where each outcome of the one meaning is one of the other
ends_more : {One Two : Result Effect Refusal → Type 0} → ((o : Result Effect Refusal) → One o → Two o) → (before now : SinkState) (s next : State) (end : End) → EndsWriting One s next before now end → CallEnds Two s next before now end
ends_more more before now s next (Ok x) h = takes_more more h
ends_more more before now s next (Err (failure.Refused r)) h = (more (Err r) h.0, h.1)
ends_more more before now s next (Err failure.OutputFault) h = takes_more more h
ends_more more before now s next (Err failure.RootFault) h = next_more more h.0
ends_more more before now s next (Err failure.RepositoryFault) h = next_more more h.0
ends_more more before now s next (Err failure.Memory) h = next_more more h.0
ends_more more before now s next _ h = absurd h

-- ---- where the fixed directories stand

module _ (m : Meaning) (s : State) (input : List ℕ) (fixed : fixed_dirs (tree_of s.root) ≡ Ok tt) where
  -- the input wasn't read

  pub unread_ends : {before now : SourceState} (out out' : SinkState) (e : Failure) → ReadsGiven m.takes_input before now (Err e) → Gives m.takes_input input (Err e) → CallEnds (Outcome m s input) s s out out' (Err e)
  unread_ends out out' (failure.Refused r) reads gives = (not_given m s input r fixed gives, refl)
  unread_ends out out' failure.InputFault reads gives = refl
  unread_ends out out' failure.Memory reads gives = inl refl
  unread_ends out out' _ reads gives = absurd reads.cause

  -- the command was performed

  module _ (bytes : List ℕ) (gives : given m.takes_input input ≡ Ok bytes) where
    to_outcome : (o : Result Effect Refusal) → m.IsOutcome s bytes o → Outcome m s input o
    to_outcome o h = outcome_of m s input bytes o fixed gives h

    pub run_ends : (before now : SinkState) (next : State) (end : End) → EndsWriting (m.IsOutcome s bytes) s next before now end → CallEnds (Outcome m s input) s next before now end
    run_ends before now next end h = ends_more to_outcome before now s next end h

    pub shown_so : {tree : Tree} (t : Tree) → IsShown (m.IsOutcome s bytes) s tree t → IsShown (Outcome m s input) s tree t
    shown_so {tree} t h = shown_more to_outcome s tree t h

-- ---- where the repository alone is told, and its disk was opened

module _ (m : Meaning) (s : State) (input : List ℕ) where
  pub own_unread : {before now : SourceState} (out out' : SinkState) (e : Failure) → ReadsGiven m.takes_input before now (Err e) → Gives m.takes_input input (Err e) → CallEnds (OwnOutcome m s input) s s out out' (Err e)
  own_unread out out' (failure.Refused r) reads gives = (subst (λ (g : Result (List ℕ) Refusal). Then g (m.IsOutcome s) (Err r)) (sym gives) refl, refl)
  own_unread out out' failure.InputFault reads gives = refl
  own_unread out out' failure.Memory reads gives = inl refl
  own_unread out out' _ reads gives = absurd reads.cause

  pub own_ends : (bytes : List ℕ) → given m.takes_input input ≡ Ok bytes → (before now : SinkState) (next : State) (end : End) → EndsWriting (m.IsOutcome s bytes) s next before now end → CallEnds (OwnOutcome m s input) s next before now end
  own_ends bytes gives before now next end h = ends_more (λ o is. subst (λ (g : Result (List ℕ) Refusal). Then g (m.IsOutcome s) o) (sym gives) is) before now s next end h

-- ---- what is left of the input

module _ (m : Meaning) (s : State) (fixed : fixed_dirs (tree_of s.root) ≡ Ok tt) where
  left_open : (left : Option (List ℕ)) (input : List ℕ) → left ≡ Some (left_by m.takes_input input) → left ≡ Some (left_of m s input)
  left_open left input is = is ∙ ap Some (sym (ap (λ (d : Result (Unit {0}) Refusal). left_when d m input) fixed))

  pub unread_left : {before now : SourceState} (e : Failure) → ReadsGiven m.takes_input before now (Err e) → status_of (Err e) ≤ 2 → IfSome before.left (λ input. now.left ≡ Some (left_of m s input))
  unread_left {before} {now} (failure.Refused r) reads le = some_so before.left (λ input h. left_open now.left input h) (left_err m.takes_input before now r reads)
  unread_left failure.InputFault reads le = absurd (omega (arith, le))
  unread_left failure.Memory reads le = absurd (omega (arith, le))
  unread_left _ reads le = absurd reads.cause

  pub read_left : {before now : SourceState} (bytes : List ℕ) → ReadsGiven m.takes_input before now (Ok bytes) → IfSome before.left (λ input. now.left ≡ Some (left_of m s input))
  read_left {before} {now} bytes reads = some_so before.left (λ input h. left_open now.left input h) (left_ok m.takes_input before now bytes reads)
