use Rattle.std.proofs.Common.{List, sym, subst}
use Rattle.journal_log.specs.declared.put.Put.{Put}
use Rattle.journal_log.proofs.NumberLaws.{numbered_rises}
use Rattle.journal_log.specs.Staged.{AreStagedNumbers}
use Rattle.journal_log.proofs.FreeNumbers.{one_more, all_numbered}
use Rattle.journal_log.proofs.numbering.numbered.Goals as goal

pub loop-put-preserved : goal.loop-put-preserved
loop-put-preserved c =
    let same = subst (λ (l : List Put). AreStagedNumbers l c.in_ok-used.used) (sym c.get-writes.ensures.value) c.in_ok-used.ensures in
    one_more c.get-writes.result.now c.in_ok-used.used c.loop-put.put-index c.put-item.result c.loop-put.from c.numbered_put.new.from c.loop-put.items.items c.push.new.self.items c.in_ok-numbered_put.field-0
    c.loop-put-test.true c.put-item.is same c.loop-put.invariant c.in_ok-numbered_put.ensures c.in_ok-push.ensures.items

pub unreachable-requires : goal.unreachable-requires
unreachable-requires c =
    c.in_default.ensures.none (numbered_rises c.get-writes.result.now c.loop-put.items.items
    (all_numbered c.get-writes.result.now c.loop-put.put-index c.loop-put.from c.loop-put.items.items c.loop-put-test.false c.loop-put.invariant) c.get-writes.ensures.rises)
