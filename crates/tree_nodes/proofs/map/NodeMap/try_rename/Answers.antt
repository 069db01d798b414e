use Rattle.std.proofs.Common.{◌∙◌, sym, ap, subst}
use Rattle.tree_disk.specs.cny-base.Path.{parent}
use Rattle.tree_disk.specs.Tree.{Name, WellFormed, same_name}
use Rattle.tree_disk.specs.Rows.{is_dir_at}
use Rattle.tree_disk.proofs.Allowed.{rename_well_formed}
use Rattle.tree_nodes.specs.Stored.{tree_of}
use Rattle.tree_nodes.proofs.Tried.{rename_allowed, tried_well}
use Rattle.tree_nodes.proofs.map.NodeMap.try_rename.Goals as goal

pub returns-clause-keeps : goal.returns-clause-keeps
returns-clause-keeps c =
    let inner = tree_of c.self.inside.nodes.entries in
    let from = c.text-4.result.now in
    let to = c.text-5.result.now in
    let well = subst WellFormed (sym c.self.view_is) c.requires in
    let apart = ap (λ (n : Name). same_name n to) (c.text-4.ensures.value ∙ sym c.text.ensures.value)
    ∙ ap (same_name c.text.result.now) (c.text-5.ensures.value ∙ sym c.text-2.ensures.value)
    ∙ sym c.same_name.ensures ∙ c.if-same_name.false in
    let dir = ap (λ u. is_dir_at u (parent to)) c.self.view_is
    ∙ ap (λ (n : Name). is_dir_at c.args.self.now (parent n)) (c.text-5.ensures.value ∙ sym c.text-3.ensures.value)
    ∙ ap (is_dir_at c.args.self.now) (sym c.parent_of.ensures) ∙ sym c.is_dir_at.ensures ∙ c.if-not-is_dir_at.false in
    tried_well c.move_over.result _ _ inner _ c.move_over.ensures.ok c.move_over.ensures.err well
    (λ can. rename_well_formed inner from to well c.text-5.ensures.path (rename_allowed _ _ _ _ apart dir can))
