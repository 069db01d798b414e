use Rattle.std.proofs.Common.{◌∙◌, ap, sym}
use Rattle.std.specs.FinMap.{entries, from_entries}
use Rattle.tree_nodes.proofs.Children.{entries_stored}
use Rattle.tree_nodes.proofs.map.NodeMap.to_list.Goals as goal

pub returns-clause-list : goal.returns-clause-list
returns-clause-list c =
    c.new.ensures ∙ c.in_ok-list_of.ensures.list ∙ sym (entries_stored c.self.inside.nodes.entries c.in_ok-list_of.ensures.ordered) ∙ ap entries c.self.view_is

pub returns-clause-tree : goal.returns-clause-tree
returns-clause-tree c = ap (λ es. from_entries es) (c.new.ensures ∙ c.in_ok-list_of.ensures.list) ∙ c.self.view_is
