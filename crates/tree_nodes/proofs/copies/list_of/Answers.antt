use Rattle.std.proofs.Common.{◌∙◌, sym, subst, true, ◌≡◌}
use Rattle.std.specs.List.{AllByRecursion}
use Rattle.tree_disk.specs.cny-base.Path.{is_path}
use Rattle.tree_nodes.proofs.Children.{texts, stored_paths}
use Rattle.tree_nodes.proofs.copies.list_of.Goals as goal

pub loop-name-init : goal.loop-name-init
loop-name-init c = record {
  same = c.new-list.ensures.items;
  paths = subst (λ es. AllByRecursion (λ q. is_path q ≡ true) (texts es)) (sym (c.into_iter-name-iterator.ensures.into_iter_gives ∙ c.iter-name-items.ensures.rest))
      (stored_paths c.args.nodes.now.entries c.iter-name-items.ensures.ordered c.requires);
}
