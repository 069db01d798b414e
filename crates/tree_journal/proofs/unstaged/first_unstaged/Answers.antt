use Rattle.std.proofs.Common.{◌+◌, IsTrue, Some, take, subst}
use Rattle.std.specs.Prelude.{Option}
use Rattle.std.specs.List.{All}
use Rattle.std.proofs.lemmas.List.Elements.{All-nil}
use Rattle.journal_log.specs.tree-disk.Tree.{Name}
use Rattle.journal_log.specs.declared.put.Put.{Put}
use Rattle.journal_log.specs.WriteSet.{CanBeLogged}
use Rattle.tree_journal.specs.Found.{FindsContent, FindsUnstaged}
use Rattle.tree_journal.specs.Staging.{has_content}
use Rattle.tree_journal.proofs.Finding.{finds_start, finds_then, finds_then_stop, finds_answer}
use Rattle.tree_journal.proofs.PutTest.{item_has}
use Rattle.tree_journal.proofs.FirstUnstaged.{one_more_stands, first_unstaged_here, all_stand}
use Rattle.tree_journal.proofs.unstaged.first_unstaged.Goals as goal

pub loop-put-init : goal.loop-put-init
loop-put-init g c = finds_start g.met.D.TreeDisk.laws c.args.disk.now (tt {0}) (λ tells. All-nil _)

pub unstaged_of-requires-clause-logged : goal.unstaged_of-requires-clause-logged
unstaged_of-requires-clause-logged g c = item_has (λ (p : Put). CanBeLogged c.args.base.now p.want) c.args.puts.now c.get-put-items.result.now c.get-put-items.ensures.value c.loop-put.put-index c.put-item.result c.loop-put-test.true c.put-item.is c.requires.loggable.logged

pub returns-in_err-path : goal.returns-in_err-path
returns-in_err-path g c = finds_then_stop g.met.D.TreeDisk.laws c.loop-put.invariant c.in_err-path.ensures c.from_residual.ensures.1

pub returns-in-Some : goal.returns-in-Some
returns-in-Some g c =
    finds_then g.met.D.TreeDisk.laws c.loop-put.invariant (finds_answer {P = λ tree (x : Option Name). All (λ (p : Put). IsTrue (has_content c.args.base.now tree p.want)) (take c.loop-put.put-index c.get-put-items.result.now) → FindsUnstaged c.args.base.now c.args.puts.now tree x} {z = Some c.in-Some.path} c.in_ok-path.ensures (λ tells found before.
    let at = subst (FindsContent c.args.base.now _ c.put-item.result.want) c.in-Some.is found in
    first_unstaged_here c.args.base.now c.args.puts.now c.get-put-items.result.now c.get-put-items.ensures.value _ c.loop-put.put-index c.put-item.result c.in-Some.path c.get-put-items.ensures.rises c.loop-put-test.true c.put-item.is at.0 at.1 before))
    (λ tells before x more. more before)

pub loop-put-preserved : goal.loop-put-preserved
loop-put-preserved g c =
    finds_then g.met.D.TreeDisk.laws c.loop-put.invariant (finds_answer {P = λ tree (x : Unit {0}). All (λ (p : Put). IsTrue (has_content c.args.base.now tree p.want)) (take c.loop-put.put-index c.get-put-items.result.now) → All (λ (p : Put). IsTrue (has_content c.args.base.now tree p.want)) (take (c.loop-put.put-index + 1) c.get-put-items.result.now)} {z = tt} c.in_ok-path.ensures (λ tells found before.
    one_more_stands c.args.base.now c.args.puts.now c.get-put-items.result.now c.get-put-items.ensures.value _ c.loop-put.put-index c.put-item.result c.loop-put-test.true c.put-item.is (subst (FindsContent c.args.base.now _ c.put-item.result.want) c.in_default.is found) before))
    (λ tells before x more. more before)

pub returns : goal.returns
returns g c = finds_answer c.loop-put.invariant (λ tells before. all_stand c.args.base.now c.args.puts.now c.get-put-items.result.now c.get-put-items.ensures.value _ c.loop-put.put-index c.loop-put-test.false before)
