use Rattle.tree_journal.proofs.Finding.{finds_start, finds_no_memory, finds_test_stop, finds_test_answer}
use Rattle.journal_log.proofs.cny-base.Faults.{passed_memory}
use Rattle.tree_journal.proofs.recovery.look_below.Goals as goal

pub returns-in_err-path : goal.returns-in_err-path
returns-in_err-path g c = finds_no_memory g.met.D.TreeDisk.laws c.args.disk.now (passed_memory _ c.from_residual.result c.from_residual.ensures.1 c.in_err-path.ensures.memory)

pub returns-in_default : goal.returns-in_default
returns-in_default g c = finds_start g.met.D.TreeDisk.laws c.args.disk.now tt (λ tells. tt)

pub returns-in_err-look : goal.returns-in_err-look
returns-in_err-look g c = finds_test_stop c.in_err-look.ensures.tests c.in_err-look.ensures.stops c.from_residual-in_err-look.ensures.1

pub returns : goal.returns
returns g c = finds_test_answer c.in_ok-look.ensures.tests (λ tells. tt)
