use Rattle.std.proofs.Common.{◌∙◌, sym, ap}
use Rattle.tree_disk.specs.cny-base.Path.{is_path}
use Rattle.tree_disk.specs.Rows.{can_make}
use Rattle.tree_disk.proofs.Allowed.{make_well_formed}
use Rattle.tree_nodes.proofs.map.NodeMap.can_make.Goals as goal

pub returns-clause-keeps : goal.returns-clause-keeps
returns-clause-keeps c can node is =
    make_well_formed c.args.self.now c.args.path.now node c.requires
    (ap is_path (sym c.text.ensures.value) ∙ c.text.ensures.path) is
    (ap (can_make c.args.self.now) (sym c.text.ensures.value) ∙ sym c.allows_make.ensures ∙ can)
