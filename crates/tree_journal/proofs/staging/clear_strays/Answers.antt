use Rattle.std.proofs.Common.{List, refl, ap, sym, ◌∙◌}
use Rattle.std.proofs.lemmas.List.{get_or_default, take_all}
use Rattle.journal_log.specs.tree-disk.Clear.{is_within}
use Rattle.journal_log.proofs.tree-disk.StepLaws.{makes_as, makes_memory, makes_start, makes_then, makes_then_stop, makes_no_memory}
use Rattle.journal_log.specs.tree-disk.Tree.{Name}
use Rattle.journal_log.specs.Staged.{names_staged_at}
use Rattle.tree_journal.specs.Steps.{without_strays}
use Rattle.tree_journal.proofs.StagedBytes.{stray_cleared, stray_kept}
use Rattle.tree_journal.proofs.staging.clear_strays.Goals as goal

pub returns-in_err-kept : goal.returns-in_err-kept
returns-in_err-kept g c = makes_no_memory g.met.D.TreeDisk.laws (is_within c.args.dir.now) c.args.disk.now c.from_residual.ensures.1

pub loop-last-init : goal.loop-last-init
loop-last-init g c = makes_start g.met.D.TreeDisk.laws (is_within c.args.dir.now) c.args.disk.now (tt {0}) (λ tells. refl)

pub returns-in_err-keeps : goal.returns-in_err-keeps
returns-in_err-keeps g c = makes_memory c.loop-last.invariant c.from_residual-in_err-keeps.ensures.1

pub loop-last-preserved-then-branch : goal.loop-last-preserved-then-branch
loop-last-preserved-then-branch g c =
    let names = c.args.names.now in
    let i = c.loop-last.last-index in
    makes_as c.loop-last.invariant (λ tells. stray_kept c.args.puts.now c.args.dir.now names _ i c.get.result.now c.loop-last-test.true
    (c.get.ensures ∙ c.last-item.is ∙ get_or_default names i c.last-item.result c.get.result.now c.loop-last-test.true)
    (sym (c.in_ok-keeps.ensures c.args.puts.now c.in_ok-kept.ensures) ∙ c.if-branch.true))

pub returns-in_err-clear_child : goal.returns-in_err-clear_child
returns-in_err-clear_child g c = makes_then_stop c.loop-last.invariant (λ p h. h) c.in_err-clear_child.ensures c.from_residual-in_err-clear_child.ensures.1

pub loop-last-preserved : goal.loop-last-preserved
loop-last-preserved g c =
    let names = c.args.names.now in
    let i = c.loop-last.last-index in
    let last = c.get-in-loop-last.result.now in
    makes_then c.loop-last.invariant (λ p h. h) c.in_ok-clear_child.ensures (λ tells.
    stray_cleared c.args.puts.now c.args.dir.now names _ i last c.loop-last-test.true
    (c.get-in-loop-last.ensures ∙ c.last-item.is ∙ get_or_default names i c.last-item.result last c.loop-last-test.true)
    (ap (names_staged_at c.args.puts.now) (c.get-in-loop-last.ensures ∙ sym c.get.ensures) ∙ sym (c.in_ok-keeps.ensures c.args.puts.now c.in_ok-kept.ensures) ∙ c.if-branch.false))

pub returns : goal.returns
returns g c = makes_as c.loop-last.invariant (λ tells. ap (λ (l : List Name). without_strays c.args.puts.now c.args.dir.now l (g.D.TreeDisk.disk.reads c.args.disk.now)) (take_all c.loop-last.last-index c.args.names.now c.loop-last-test.false))
