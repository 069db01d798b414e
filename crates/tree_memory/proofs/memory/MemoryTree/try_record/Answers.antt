use Rattle.std.proofs.Common.{arith, ◌∙◌, ap, ◌++◌, ◌∷◌, []}
use Rattle.tree_memory.proofs.Recorded.{went, pushed, told_after}
use Rattle.tree_memory.proofs.memory.MemoryTree.try_record.Goals as goal

pub invariant_of-self-2 : goal.invariant_of-self-2
invariant_of-self-2 c =
    let room = c.in_ok-reserve.ensures.ok in
    let ok = went c.push.result (λ full. omega (arith, full, room)) c.push.ensures.full in
    let items = pushed c.push.result _ _ _ ok c.push.ensures.items in
    let done = c.in_ok-try_apply.ensures.ok.done c.if-not-branch.false in
    record {
      told = told_after c.args.self.now.first c.args.self.now.changes.items c.args.change _ _ done c.args.self.now.told _ (items ∙ ap (λ l. l ++ c.args.change ∷ []) c.reserve.ensures.items);
      well_formed = c.in_ok-try_apply.ensures.keeps;
    }
