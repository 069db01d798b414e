use Rattle.std.proofs.Common.{◌∙◌, sym, ap}
use Rattle.tree_disk.specs.cny-base.Path.{is_path}
use Rattle.tree_disk.specs.Rows.{can_append}
use Rattle.tree_disk.proofs.Allowed.{append_well_formed}
use Rattle.tree_nodes.proofs.map.NodeMap.can_append.Goals as goal

pub returns-clause-keeps : goal.returns-clause-keeps
returns-clause-keeps c can bytes all =
    append_well_formed c.args.self.now c.args.path.now bytes c.requires
    (ap is_path (sym c.text.ensures.value) ∙ c.text.ensures.path) all
    (ap (can_append c.args.self.now) (sym c.text.ensures.value) ∙ sym c.allows_append.ensures ∙ can)
