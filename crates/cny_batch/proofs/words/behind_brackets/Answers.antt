use Rattle.std.proofs.Common.{arith}
use Rattle.cny_batch.proofs.Parts.{none_behind, next_close, next_other}
use Rattle.cny_batch.proofs.words.behind_brackets.Goals as goal
use Rattle.cny_batch.proofs.words.behind_brackets.Goals.{then-byte-eq93, else-byte-eq93}

pub loop-byte-init : goal.loop-byte-init
loop-byte-init c = (none_behind, omega arith)

pub loop-byte-preserved : goal.loop-byte-preserved
loop-byte-preserved c =
    let text = c.args.text.now in let i = c.loop-byte.byte-index in let before = c.loop-byte.invariant in
    elim c.if-byte-eq93.branch [
      | then-byte-eq93 w ↦ next_close text i c.loop-byte.behind c.if-byte-eq93.behind c.loop-byte-test.true w.if-byte-eq93.true w.behind-is before.0
      | else-byte-eq93 w ↦ next_other text i c.loop-byte.behind c.if-byte-eq93.behind c.loop-byte-test.true w.if-byte-eq93.false w.behind-is before.1 before.0
    ]
