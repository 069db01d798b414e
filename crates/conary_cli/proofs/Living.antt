-- How a list of states that both disks lived goes on.
use Rattle.std.proofs.Common.{List, [], ◌∷◌, inr, ⊎_elim}
use Rattle.root_commands.specs.cli-call.tree-disk.Tree.{Tree}
use Rattle.root_commands.specs.cli-call.tree-disk.Disk.{DiskModel}
use Rattle.root_commands.proofs.cli-call.tree-disk.ConfinedLaws.{leaves_then, leaves_weaker}
use Rattle.root_commands.specs.cli-call.cny-laws.State.{State}
use Rattle.root_commands.specs.cli-call.cny-laws.Store.{OneOf, Store}
use Rattle.conary_cli.specs.Lives.{LiveBoth, LiveStep, before_last, last_state}

-- a step from a state to the next, and a list that begins with that
pub live_first : {T P : Type 0} (root_disk : DiskModel T) (repo_disk : DiskModel P) (s t : State) (more : List State) (root mid root' : T) (repo far repo' : P)
    → LiveStep root_disk repo_disk s t root mid repo far → LiveBoth root_disk repo_disk t more mid root' far repo' → LiveBoth root_disk repo_disk s (t ∷ more) root root' repo repo'
live_first root_disk repo_disk s t [] root mid root' repo far repo' first then = record {
  on_root = leaves_then first.on_root (leaves_weaker (λ image h. inr (⊎_elim (λ a. a) (λ b. b) h)) then.on_root);
  on_repo = leaves_then first.on_repo (leaves_weaker (λ image h. inr (⊎_elim (λ a. a) (λ b. b) h)) then.on_repo);
  apart = first.apart;
}
live_first root_disk repo_disk s t (u ∷ more) root mid root' repo far repo' first then = (mid, far, first, then)

-- one of the last two states, where the second is the first of those behind it
pub reads_on : {X : Type 0} (store : Store X) (part : State → X) (s next : State) (states : List State) (tree : Tree) → OneOf store (part (before_last next states)) (part (last_state next states)) tree → OneOf store (part (before_last s (next ∷ states))) (part (last_state next states)) tree
reads_on store part s next [] tree h = inr (⊎_elim (λ a. a) (λ b. b) h)
reads_on store part s next (t ∷ states) tree h = h
