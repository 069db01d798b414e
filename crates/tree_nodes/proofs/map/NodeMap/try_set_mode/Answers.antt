use Rattle.std.proofs.Common.{◌∙◌, ap, arith}
use Rattle.tree_disk.specs.Tree.{Name}
use Rattle.tree_disk.specs.Rows.{can_set_mode, with_mode}
use Rattle.tree_disk.proofs.Allowed.{mode_well_formed}
use Rattle.tree_nodes.proofs.Tried.{mode_tried, tried_well_at}
use Rattle.tree_nodes.proofs.map.NodeMap.try_set_mode.Goals as goal

pub returns-clause-value : goal.returns-clause-value
returns-clause-value c =
    let t = c.args.self.now in
    mode_tried c.set_mode_at.result t _ c.args.path.now c.args.mode
    (c.set_mode_at.ensures.value ∙ ap (λ u. can_set_mode u c.text.result.now) c.self.view_is ∙ ap (can_set_mode t) c.text.ensures.value)
    (c.set_mode_at.ensures.node ∙ ap (λ u. with_mode u c.text.result.now c.args.mode) c.self.view_is ∙ ap (λ (n : Name). with_mode t n c.args.mode) c.text.ensures.value)

pub returns-clause-keeps : goal.returns-clause-keeps
returns-clause-keeps c =
    let t = c.args.self.now in
    tried_well_at c.set_mode_at.result _ _ t _ (returns-clause-value c) c.requires
    (λ can. mode_well_formed t c.args.path.now c.args.mode c.requires (omega (arith, c.bits-bits.ensures.value, c.bits-bits.ensures.within)) can)
