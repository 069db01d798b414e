-- The state of a disk, as `crash` finds it in the history.
use Rattle.std.proofs.Common.{◌≡◌, ℕ, ◌-◌, ◌<◌, ◌≤◌, true, List, length, take, drop, get_or, sym, ◌∙◌, String}
use Rattle.std.specs.declared.alloc.Global.{Global}
use Rattle.std.specs.List.{list_all}
use Rattle.std.specs.BTreeSet.{BTreeSet, contains_text}
use Rattle.tree_nodes.specs.cny-base.declared.node.Node.{Node}
use Rattle.tree_nodes.specs.tree-disk.Tree.{Name, Tree}
use Rattle.tree_memory.specs.declared.change.Change.{Change}
use Rattle.tree_memory.specs.State.{state_of, settles}
use Rattle.tree_memory.specs.Since.{any_names, keeps}
use Rattle.tree_memory.proofs.Changed.{synced_at, unsynced_at}

module _ (first : List (Name × Node)) (changes : List Change) (nodes : Tree) (told : nodes ≡ (state_of first changes).reads)
    (mark : ℕ) (within : mark ≤ length changes) (after : list_all keeps (drop mark changes) ≡ true)
    (last : (c : Change) → 0 < mark → settles (get_or changes (mark - 1) c) ≡ true)
    (synced : Tree) (set : BTreeSet (String Global)) (is_synced : synced ≡ (state_of first (take mark changes)).reads)
    (names : (p : Name) → contains_text set p ≡ any_names (drop mark changes) p) where
  pub same : record { reads = nodes; synced = synced; unsynced = contains_text set } ≡ state_of first changes
  same = λ i. record {
    reads = told i;
    synced = (is_synced ∙ sym (synced_at first changes mark within after last)) i;
    unsynced = λ p. (names p ∙ sym (unsynced_at first changes mark within after last p)) i;
  }
