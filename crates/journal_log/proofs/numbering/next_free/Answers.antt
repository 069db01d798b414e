use Rattle.std.proofs.Common.{sym, ◌∙◌}
use Rattle.journal_log.proofs.numbering.next_free.Goals as goal

pub returns : goal.returns
returns c = record {
  from_on = c.loop-number.invariant.0;
  fits = c.loop-number.invariant.1;
  free = sym c.contains.ensures ∙ c.loop-number-test.false;
  least = c.loop-number.invariant.2;
}
