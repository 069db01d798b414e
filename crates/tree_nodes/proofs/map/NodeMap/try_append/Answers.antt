use Rattle.std.proofs.Common.{◌∙◌, sym, ap, subst}
use Rattle.tree_disk.specs.cny-base.Path.{parent}
use Rattle.tree_disk.specs.Tree.{Name, WellFormed}
use Rattle.tree_disk.specs.Rows.{is_dir_at}
use Rattle.tree_disk.proofs.Allowed.{append_well_formed}
use Rattle.tree_nodes.specs.Stored.{tree_of}
use Rattle.tree_nodes.proofs.Tried.{tried_well}
use Rattle.tree_disk.proofs.cny-base.Bools.{both}
use Rattle.tree_nodes.proofs.map.NodeMap.try_append.Goals as goal

pub returns-clause-keeps : goal.returns-clause-keeps
returns-clause-keeps c =
    let inner = tree_of c.self.inside.nodes.entries in
    let p = c.text-2.result.now in
    let well = subst WellFormed (sym c.self.view_is) c.requires in
    let dir = ap (λ u. is_dir_at u (parent p)) c.self.view_is
    ∙ ap (λ (n : Name). is_dir_at c.args.self.now (parent n)) (c.text-2.ensures.value ∙ sym c.text.ensures.value)
    ∙ ap (is_dir_at c.args.self.now) (sym c.parent_of.ensures) ∙ sym c.is_dir_at.ensures ∙ c.if-not-is_dir_at.false in
    tried_well c.append_file.result _ _ inner _ c.append_file.ensures.ok c.append_file.ensures.err well
    (λ can. append_well_formed inner p c.args.bytes.now well c.text-2.ensures.path c.byte_ranges.ensures (both _ _ dir can))
