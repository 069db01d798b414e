use Rattle.std.proofs.Common.{arith, sym, ◌∙◌, vec_len}
use Rattle.std.proofs.lemmas.Bool.{eqb-true}
use Rattle.change_pull.proofs.LastStaged.{tags_few, tags_some, tags_many, not_zero}
use Rattle.change_pull.proofs.checks.tags_of.Goals.{else-is_empty-via-then-is_empty+else-len-lt-PARTS_LIMIT, else-is_empty-via-else-is_empty}
use Rattle.change_pull.proofs.checks.tags_of.Goals as goal

pub returns-then-len-lt-PARTS_LIMIT-clause-open : goal.returns-then-len-lt-PARTS_LIMIT-clause-open
returns-then-len-lt-PARTS_LIMIT-clause-open c = λ dir set kept open_.
    tags_few dir set c.args.reading.now.staged.items c.args.reading.now.parts.items kept.staged kept.parts (omega (arith, eqb-true (vec_len c.args.reading.now.staged) 0 (sym c.is_empty.ensures ∙ c.if-is_empty.true))) (omega (arith, c.len.ensures, c.if-len-lt-PARTS_LIMIT.true))

pub returns-else-is_empty-clause-open : goal.returns-else-is_empty-clause-open
returns-else-is_empty-clause-open c = λ dir set kept open_.
    elim c.else-is_empty.branch [
      | else-is_empty-via-then-is_empty+else-len-lt-PARTS_LIMIT w ↦ tags_many set c.args.reading.now.parts.items kept.parts (omega (arith, w.len.ensures, w.if-len-lt-PARTS_LIMIT.false))
      | else-is_empty-via-else-is_empty w ↦ tags_some dir set c.args.reading.now.staged.items kept.staged (omega (arith, not_zero (vec_len c.args.reading.now.staged) (sym c.is_empty.ensures ∙ w.if-is_empty.false)))
    ]
