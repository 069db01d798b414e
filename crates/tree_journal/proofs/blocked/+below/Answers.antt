use Rattle.std.proofs.Common.{◌∙◌, sym, take, ◌+◌}
use Rattle.std.proofs.lemmas.List.{get_or_default}
use Rattle.std.proofs.lemmas.List.Elements.{All-nil}
use Rattle.journal_log.proofs.tree-disk.StepLaws.{tests_value}
use Rattle.tree_journal.specs.Found.{AreClear}
use Rattle.tree_journal.proofs.Finding.{finds_start, finds_then, finds_memory, finds_answer, finds_test_answer, finds_after_test, finds_then_stop}
use Rattle.tree_journal.proofs.PutTest.{clear_by_look, clear_from_names, not_target_here, not_clear_here, one_more_clear, all_clear}
use Rattle.journal_log.specs.cny-base.Answer.{IsAnswer}
use Rattle.journal_log.proofs.cny-base.Faults.{passed_memory}
use Rattle.tree_journal.proofs.blocked.+below.Goals as goal

pub is_clear_below-returns-then-not-is_dir : goal.is_clear_below-returns-then-not-is_dir
is_clear_below-returns-then-not-is_dir g t c =
    finds_test_answer c.in_ok-look.ensures.tests (λ tells.
    clear_by_look c.args.puts.now _ c.args.path.now c.in_ok-look.look (g.met.D.TreeDisk.laws.reads_well_formed c.args.disk.now) c.requires.path (tests_value c.in_ok-look.ensures.tests tells) (sym c.is_dir.ensures ∙ c.if-not-is_dir.true))

pub is_dir_clear-returns : goal.is_dir_clear-returns
is_dir_clear-returns g t c =
    let listed = c.in_ok-names.ensures.tests in
    finds_after_test g.met.D.TreeDisk.laws listed c.are_names_clear.ensures (λ tells is clear answer.
    clear_from_names c.args.puts.now _ c.args.path.now c.get.result.now clear (g.met.D.TreeDisk.laws.reads_well_formed c.args.disk.now) c.requires.path c.requires.not_root (c.get.ensures ∙ is) answer)

pub are_names_clear-loop-last-init : goal.are_names_clear-loop-last-init
are_names_clear-loop-last-init g t c = finds_start g.met.D.TreeDisk.laws c.args.disk.now (tt {0}) (λ tells. All-nil _)

pub are_names_clear-returns-in_err-child : goal.are_names_clear-returns-in_err-child
are_names_clear-returns-in_err-child g t c = finds_memory c.loop-last.invariant (passed_memory _ c.from_residual.result c.from_residual.ensures.1 c.in_err-child.ensures.memory)

pub are_names_clear-returns-then-not-contains : goal.are_names_clear-returns-then-not-contains
are_names_clear-returns-then-not-contains g t c =
    let names = c.args.names.now in
    let i = c.loop-last.last-index in
    finds_answer c.loop-last.invariant (λ tells all.
    not_target_here c.args.puts.now _ c.args.path.now names i c.get.result.now c.in_ok-child.child c.loop-last-test.true
    (c.get.ensures ∙ c.last-item.is ∙ get_or_default names i c.last-item.result c.get.result.now c.loop-last-test.true) c.in_ok-child.ensures.child (sym c.contains.ensures ∙ c.if-not-contains.true))

pub are_names_clear-returns-in_err-is_clear_below : goal.are_names_clear-returns-in_err-is_clear_below
are_names_clear-returns-in_err-is_clear_below g t c = finds_then_stop g.met.D.TreeDisk.laws c.loop-last.invariant c.in_err-is_clear_below.ensures c.from_residual-in_err-is_clear_below.ensures.1

pub are_names_clear-returns-then-not-branch : goal.are_names_clear-returns-then-not-branch
are_names_clear-returns-then-not-branch g t c =
    let names = c.args.names.now in
    let i = c.loop-last.last-index in
    let puts = c.args.puts.now in
    let path = c.args.path.now in
    let last = c.get.result.now in
    let child = c.in_ok-child.child in
    let listed = c.get.ensures ∙ c.last-item.is ∙ get_or_default names i c.last-item.result c.get.result.now c.loop-last-test.true in
    finds_then g.met.D.TreeDisk.laws c.loop-last.invariant (finds_answer {P = λ tree clear. IsAnswer (AreClear c.args.puts.now tree c.args.path.now c.args.names.now) clear} c.in_ok-is_clear_below.ensures (λ tells answer.
    not_clear_here puts _ path names i last child c.in_ok-is_clear_below.field-0 c.loop-last-test.true listed c.in_ok-child.ensures.child answer c.if-not-branch.true)) (λ tells all clear answer. answer)

pub are_names_clear-loop-last-preserved : goal.are_names_clear-loop-last-preserved
are_names_clear-loop-last-preserved g t c =
    let names = c.args.names.now in
    let i = c.loop-last.last-index in
    let puts = c.args.puts.now in
    let path = c.args.path.now in
    let last = c.get.result.now in
    let child = c.in_ok-child.child in
    let listed = c.get.ensures ∙ c.last-item.is ∙ get_or_default names i c.last-item.result c.get.result.now c.loop-last-test.true in
    finds_then g.met.D.TreeDisk.laws c.loop-last.invariant (finds_answer {P = λ tree (x : Unit {0}). AreClear c.args.puts.now tree c.args.path.now (take c.loop-last.last-index c.args.names.now) → AreClear c.args.puts.now tree c.args.path.now (take (c.loop-last.last-index + 1) c.args.names.now)} {z = tt} c.in_ok-is_clear_below.ensures (λ tells answer all.
    one_more_clear puts _ path names i last child c.in_ok-is_clear_below.field-0 c.loop-last-test.true listed c.in_ok-child.ensures.child (sym c.contains.ensures ∙ c.if-not-contains.false) answer c.if-not-branch.false all)) (λ tells all x more. more all)

pub are_names_clear-returns : goal.are_names_clear-returns
are_names_clear-returns g t c =
    finds_answer c.loop-last.invariant (λ tells all. all_clear c.args.puts.now _ c.args.path.now c.args.names.now c.loop-last.last-index c.loop-last-test.false all)
