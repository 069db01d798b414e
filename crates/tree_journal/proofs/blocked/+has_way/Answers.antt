use Rattle.std.proofs.Common.{◌∙◌, sym}
use Rattle.journal_log.proofs.tree-disk.StepLaws.{tests_value}
use Rattle.tree_journal.proofs.Finding.{finds_weaker, finds_test_answer}
use Rattle.tree_journal.proofs.PutTest.{way_by_target, way_by_look}
use Rattle.tree_journal.proofs.blocked.+has_way.Goals as goal

pub returns-then-contains : goal.returns-then-contains
returns-then-contains g t c =
    finds_weaker c.has_way.ensures (λ tells has answer.
    way_by_target c.args.puts.now _ c.args.path.now c.in-Some.above has c.requires (rw c.in-Some.is at c.in_ok-above.ensures.above) (sym c.contains.ensures ∙ c.if-contains.true) answer)

pub returns : goal.returns
returns g t c =
    finds_test_answer c.in_ok-look.ensures.tests (λ tells.
    way_by_look c.args.puts.now _ c.args.path.now c.in-Some.above c.in_ok-look.look c.is_dir.result (g.met.D.TreeDisk.laws.reads_well_formed c.args.disk.now) c.requires
    (rw c.in-Some.is at c.in_ok-above.ensures.above) (sym c.contains.ensures ∙ c.if-contains.false) (tests_value c.in_ok-look.ensures.tests tells) c.is_dir.ensures)
