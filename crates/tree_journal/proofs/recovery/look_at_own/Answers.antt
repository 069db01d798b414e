use Rattle.tree_journal.proofs.Finding.{finds_test_stop, finds_after_test, finds_then, finds_then_stop, finds_stop}
use Rattle.tree_journal.proofs.recovery.look_at_own.Goals as goal

pub returns-in_err-look : goal.returns-in_err-look
returns-in_err-look g c = finds_test_stop c.in_err-look.ensures.tests c.in_err-look.ensures.stops c.from_residual.ensures.1

pub returns-in_err-look_below : goal.returns-in_err-look_below
returns-in_err-look_below g c = finds_after_test g.met.D.TreeDisk.laws {P = λ tree (x : Unit {0}). Unit {0}} c.in_ok-look.ensures.tests (finds_stop {P = λ tree (x : Unit {0}). Unit {0}} c.in_err-look_below.ensures c.from_residual-in_err-look_below.ensures.1) (λ tells is z p. p)

pub returns-in_err-look_below-2 : goal.returns-in_err-look_below-2
returns-in_err-look_below-2 g c = finds_after_test g.met.D.TreeDisk.laws {P = λ tree (x : Unit {0}). Unit {0}} c.in_ok-look.ensures.tests
    (finds_then_stop g.met.D.TreeDisk.laws {R = λ tree (x : Unit {0}). Unit {0}} c.in_ok-look_below.ensures c.in_err-look_below-2.ensures c.from_residual-in_err-look_below-2.ensures.1) (λ tells is z p. p)

pub returns : goal.returns
returns g c = finds_after_test g.met.D.TreeDisk.laws {P = λ tree (x : Unit {0}). Unit {0}} c.in_ok-look.ensures.tests
    (finds_then g.met.D.TreeDisk.laws {P = λ tree (x : Unit {0}). Unit {0}} c.in_ok-look_below.ensures (finds_then g.met.D.TreeDisk.laws {P = λ tree (x : Unit {0}). Unit {0}} c.in_ok-look_below-2.ensures c.look_below-3.ensures (λ tells q z p. p)) (λ tells q z p. p)) (λ tells is z p. p)
