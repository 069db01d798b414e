use Rattle.std.proofs.Common.{List, ℕ, ap}
use Rattle.journal_log.specs.tree-disk.Disk.{one_name}
use Rattle.journal_log.specs.tree-disk.Rows.{with_append}
use Rattle.journal_log.proofs.tree-disk.StepLaws.{makes_after_test, makes_test_stop, makes_test_then_stop, tests_value}
use Rattle.tree_journal.proofs.Seen.{makes_answer}
use Rattle.journal_log.proofs.cny-base.ByteLists.{read_front as piece_read}
use Rattle.tree_journal.proofs.copying.copy_piece.Goals as goal

pub returns-in_err-count-clause-makes : goal.returns-in_err-count-clause-makes
returns-in_err-count-clause-makes g c = makes_test_stop g.met.D.TreeDisk.laws (one_name c.args.to.now) c.in_err-count.ensures.tests c.in_err-count.ensures.stops c.from_residual.ensures.1

pub append-requires : goal.append-requires
append-requires g c = λ tells. rw (c.in_ok-count.ensures.tests.same tells).same.reads (c.requires.room tells)

pub returns-in_err-append-clause-makes : goal.returns-in_err-append-clause-makes
returns-in_err-append-clause-makes g c = makes_test_then_stop g.met.D.TreeDisk.laws c.in_ok-count.ensures.tests (λ p h. h) c.in_err-append.ensures.makes c.from_residual-in_err-append.ensures.1

pub returns-clause-makes : goal.returns-clause-makes
returns-clause-makes g c = makes_answer c.in_ok-count.count (makes_after_test g.met.D.TreeDisk.laws c.in_ok-count.ensures.tests c.in_ok-append.ensures.makes (λ tells.
    let filled = c.in_ok-count.ensures.filled tells in
    ap (λ (l : List ℕ). with_append (g.D.TreeDisk.disk.reads c.args.disk.now) c.args.to.now l) (piece_read _ _ _ c.args.at c.in_ok-count.count filled.most filled.bytes)))

pub returns-clause-count : goal.returns-clause-count
returns-clause-count g c = λ tells. tests_value c.in_ok-count.ensures.tests tells
