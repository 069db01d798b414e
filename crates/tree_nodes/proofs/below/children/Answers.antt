use Rattle.std.proofs.Common.{◌∙◌, ap}
use Rattle.std.proofs.lemmas.Map.Iter.{iter_end}
use Rattle.std.specs.Map.Iter.{deref_pair}
use Rattle.tree_nodes.proofs.Children.{listed, listed_with_prefix}
use Rattle.tree_nodes.proofs.below.children.Goals as goal

pub returns : goal.returns
returns c =
    let whole = iter_end deref_pair c.in_ok-items.items c.loop-name.yielded c.into_iter-name-iterator.result c.loop-name.name-iterator c.next.new.self c.next.result
    c.into_iter-name-iterator.ensures.into_iter_gives c.loop-name.yielded_by c.in-None.is c.next.ensures.steps in
    c.new-2.ensures ∙ c.loop-name.invariant ∙ ap (listed c.args.dir.now) (whole.0 ∙ c.in_ok-items.ensures.entries)
    ∙ listed_with_prefix c.args.dir.now c.args.nodes.now.entries c.in_ok-items.ensures.ordered c.requires
