use Rattle.std.proofs.Common.{◌∙◌, sym, ap, is_some, None, is_eq}
use Rattle.std.specs.FinMap.{get}
use Rattle.tree_disk.specs.Tree.{put, Name, same_name}
use Rattle.tree_nodes.proofs.Moved.{rename_same, renamed, place_stays}
use Rattle.tree_nodes.proofs.map.NodeMap.rename.Goals as goal

pub returns-then-is_eq-clause-ok : goal.returns-then-is_eq-clause-ok
returns-then-is_eq-clause-ok c =
    c.take.ensures.rest ∙ ap (λ (n : Name). put c.args.self.now n None) c.text.ensures.value
    ∙ sym (rename_same c.args.self.now c.args.from.now c.args.to.now (ap is_eq (sym c.cmp.ensures) ∙ sym c.if-is_eq.ensures))

pub fill_place-requires : goal.fill_place-requires
fill_place-requires c =
    ap (λ (n : Name). is_some (get c.take-node.new.self n)) c.text-4.ensures.value
    ∙ place_stays c.make_place.new.self _ c.args.from.now c.args.to.now (ap is_eq (sym c.cmp.ensures) ∙ sym c.if-is_eq.ensures)
    (ap (λ (n : Name). is_some (get c.make_place.new.self n)) (sym c.text-2.ensures.value) ∙ c.in_ok-make_place.ensures.stands)
    (c.take-node.ensures.rest ∙ ap (λ (n : Name). put c.make_place.new.self n None) c.text-3.ensures.value)

pub returns-clause-ok : goal.returns-clause-ok
returns-clause-ok c =
    c.fill_place.ensures
    ∙ ap (λ (n : Name). put c.take-node.new.self n c.take-node.result) c.text-4.ensures.value
    ∙ renamed c.args.self.now c.make_place.new.self _ c.args.from.now c.args.to.now c.take-node.result (ap is_eq (sym c.cmp.ensures) ∙ sym c.if-is_eq.ensures)
    (λ q other. c.in_ok-make_place.ensures.others q (ap (same_name q) c.text-2.ensures.value ∙ other))
    (c.take-node.ensures.node ∙ ap (λ (n : Name). get c.make_place.new.self n) c.text-3.ensures.value)
    (c.take-node.ensures.rest ∙ ap (λ (n : Name). put c.make_place.new.self n None) c.text-3.ensures.value)
