use Rattle.std.proofs.Common.{◌∙◌, sym, ap}
use Rattle.std.specs.Map.Iter.{deref_pair}
use Rattle.tree_disk.specs.cny-base.Path.{is_path}
use Rattle.tree_disk.specs.Tree.{Name}
use Rattle.tree_nodes.specs.Below.{entries_with_prefix}
use Rattle.tree_nodes.proofs.Children.{childless_stored, none_first, some_first}
use Rattle.tree_nodes.proofs.below.is_childless.Goals as goal

pub returns : goal.returns
returns c =
    let entries = c.args.nodes.now.entries in
    childless_stored c.args.dir.now entries c.in_ok-below.below c.is_none.result c.in_ok-below.ensures.ordered c.requires.tree
    (ap is_path (sym c.text.ensures.value) ∙ c.text.ensures.path) c.requires.other
    (c.in_ok-below.ensures.entries ∙ ap (λ (n : Name). entries_with_prefix n entries) c.text.ensures.value)
    (none_first deref_pair _ _ c.next.result c.is_none.result c.next.ensures.steps c.is_none.ensures)
    (some_first deref_pair _ _ c.next.result c.is_none.result c.next.ensures.steps c.is_none.ensures)
