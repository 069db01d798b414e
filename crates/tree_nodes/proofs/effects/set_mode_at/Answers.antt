use Rattle.std.proofs.Common.{◌∙◌, ◌||◌, sym, ap}
use Rattle.std.specs.Option.{option_copied_mut}
use Rattle.tree_disk.specs.Tree.{is_dir, is_file}
use Rattle.tree_disk.specs.Rows.{of_mode}
use Rattle.tree_nodes.proofs.StoredTree.{get_at, written_some, mode_none}
use Rattle.tree_nodes.specs.Stored.{tree_of}
use Rattle.tree_nodes.proofs.effects.set_mode_at.Goals as goal

pub returns-in-Some-clause-value : goal.returns-in-Some-clause-value
returns-in-Some-clause-value c =
    let found = sym c.get_mut.ensures.value ∙ ap option_copied_mut c.in-Some.is in
    let there = get_at _ _ c.args.nodes.now.entries found in
    c.change_mode.ensures.value ∙ ap (λ o. is_dir o || is_file o) (sym there)

pub returns-in-Some-clause-node : goal.returns-in-Some-clause-node
returns-in-Some-clause-node c =
    let found = sym c.get_mut.ensures.value ∙ ap option_copied_mut c.in-Some.is in
    let there = get_at _ _ c.args.nodes.now.entries found in
    written_some _ _ _ _ _ _ found (c.get_mut.follows.holds c.change_mode.new.node).0
    (c.change_mode.ensures.node ∙ ap (λ o. of_mode o c.args.mode) (sym there))

pub returns-in-None-clause-value : goal.returns-in-None-clause-value
returns-in-None-clause-value c =
    let found = sym c.get_mut.ensures.value ∙ ap option_copied_mut c.in-None.is in
    ap (λ o. is_dir o || is_file o) (sym (get_at _ _ c.args.nodes.now.entries found))

pub returns-in-None-clause-node : goal.returns-in-None-clause-node
returns-in-None-clause-node c =
    let found = sym c.get_mut.ensures.value ∙ ap option_copied_mut c.in-None.is in
    let there = get_at _ _ c.args.nodes.now.entries found in
    ap (λ m. tree_of m.entries) c.get_mut.follows.holds-at-none ∙ sym (mode_none (tree_of c.args.nodes.now.entries) c.args.path.now c.args.mode there)
