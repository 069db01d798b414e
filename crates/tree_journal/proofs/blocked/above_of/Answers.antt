use Rattle.tree_journal.proofs.PutTest.{above_is}
use Rattle.tree_journal.proofs.blocked.above_of.Goals as goal

pub returns-clause-above : goal.returns-clause-above
returns-clause-above c =
    above_is c.args.path.now c.in-Some.above c.requires (rw c.in-Some.is at c.in_ok-above.ensures.some)
    (λ top. let none = rw c.in-Some.is at c.in_ok-above.ensures.none in absurd (cc (none.1 top)))
