use Rattle.std.proofs.Common.{◌∙◌, ap, not}
use Rattle.std.specs.List.{list_any}
use Rattle.std.specs.BTreeSet.{contains_text}
use Rattle.tree_nodes.proofs.Held.{other_below}
use Rattle.tree_nodes.proofs.below.holds_other.Goals as goal

pub returns : goal.returns
returns c =
    other_below (λ q. not (contains_text c.args.known.now q)) c.args.dir.now c.args.nodes.now.entries c.has_other.result c.requires c.in_ok-below.ensures.ordered
    (c.has_other.ensures ∙ ap (list_any _) c.in_ok-below.ensures.entries)
