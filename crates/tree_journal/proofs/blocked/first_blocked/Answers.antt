use Rattle.std.proofs.Common.{◌+◌, take}
use Rattle.std.specs.Prelude.{IsTrue, Option, Some, ◌≢◌}
use Rattle.journal_log.specs.cny-base.Path.{is_path, root}
use Rattle.journal_log.specs.tree-disk.Tree.{Name}
use Rattle.std.specs.List.{All}
use Rattle.std.proofs.lemmas.List.Elements.{All-nil}
use Rattle.journal_log.specs.declared.put.Put.{Put}
use Rattle.tree_journal.specs.CanBePut.{CanBePut}
use Rattle.tree_journal.specs.Found.{FindsBlocked}
use Rattle.tree_journal.proofs.Finding.{finds_start, finds_then, finds_then_stop, finds_memory, finds_answer}
use Rattle.tree_journal.proofs.PutTest.{one_more_can, first_blocked_at, all_can_at, item_has}
use Rattle.tree_journal.proofs.blocked.first_blocked.Goals as goal

pub loop-put-init : goal.loop-put-init
loop-put-init g c = finds_start g.met.D.TreeDisk.laws c.args.disk.now (tt {0}) (λ tells. All-nil _)

pub can_be_put-requires-clause-path : goal.can_be_put-requires-clause-path
can_be_put-requires-clause-path g c = item_has (λ (p : Put). IsTrue (is_path p.path)) c.args.puts.now c.get-put-items.result.now c.get-put-items.ensures.value c.loop-put.put-index c.put-item.result c.loop-put-test.true c.put-item.is c.requires.paths

pub can_be_put-requires-clause-not_root : goal.can_be_put-requires-clause-not_root
can_be_put-requires-clause-not_root g c = item_has (λ (p : Put). p.path ≢ root) c.args.puts.now c.get-put-items.result.now c.get-put-items.ensures.value c.loop-put.put-index c.put-item.result c.loop-put-test.true c.put-item.is c.requires.not_root

pub returns-in_err-can_be_put : goal.returns-in_err-can_be_put
returns-in_err-can_be_put g c = finds_then_stop g.met.D.TreeDisk.laws c.loop-put.invariant c.in_err-can_be_put.ensures c.from_residual.ensures.1

pub returns-in_err-copy : goal.returns-in_err-copy
returns-in_err-copy g c =
    finds_then g.met.D.TreeDisk.laws c.loop-put.invariant (finds_memory {P = FindsBlocked c.args.puts.now} c.in_ok-can_be_put.ensures c.from_residual-in_err-copy.ensures.1) (λ tells before found is. is)

pub returns-then-not-branch : goal.returns-then-not-branch
returns-then-not-branch g c =
    let items = c.get-put-items.result.now in
    let i = c.loop-put.put-index in
    finds_then g.met.D.TreeDisk.laws c.loop-put.invariant (finds_answer {P = λ tree (x : Option Name). All (CanBePut c.args.puts.now tree) (take c.loop-put.put-index c.get-put-items.result.now) → FindsBlocked c.args.puts.now tree x} {z = Some c.in_ok-copy.field-0} c.in_ok-can_be_put.ensures (λ tells answer before.
    first_blocked_at c.args.puts.now items c.get-put-items.ensures.value _ i c.put-item.result c.in_ok-can_be_put.field-0 c.in_ok-copy.field-0 c.get-put-items.ensures.rises c.loop-put-test.true c.put-item.is c.in_ok-copy.ensures answer c.if-not-branch.true before))
    (λ tells before x more. more before)

pub loop-put-preserved : goal.loop-put-preserved
loop-put-preserved g c =
    let items = c.get-put-items.result.now in
    let i = c.loop-put.put-index in
    finds_then g.met.D.TreeDisk.laws c.loop-put.invariant (finds_answer {P = λ tree (x : Unit {0}). All (CanBePut c.args.puts.now tree) (take c.loop-put.put-index c.get-put-items.result.now) → All (CanBePut c.args.puts.now tree) (take (c.loop-put.put-index + 1) c.get-put-items.result.now)} {z = tt} c.in_ok-can_be_put.ensures (λ tells answer before.
    one_more_can items _ c.args.puts.now i c.put-item.result c.in_ok-can_be_put.field-0 c.loop-put-test.true c.put-item.is answer c.if-not-branch.false before)) (λ tells before x more. more before)

pub returns : goal.returns
returns g c =
    finds_answer c.loop-put.invariant (λ tells before. all_can_at c.args.puts.now c.get-put-items.result.now c.get-put-items.ensures.value _ c.loop-put.put-index c.loop-put-test.false before)
