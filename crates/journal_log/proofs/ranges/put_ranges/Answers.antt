use Rattle.std.proofs.Common.{◌≤◌, IsTrue, length, All, subst, arith}
use Rattle.std.proofs.lemmas.List.{take_all}
use Rattle.std.proofs.lemmas.List.Elements.{All-more}
use Rattle.journal_log.specs.declared.put.Put.{Put}
use Rattle.journal_log.specs.Targets.{node_of}
use Rattle.tree_disk.specs.Tree.{may_stand}
use Rattle.journal_log.proofs.ranges.put_ranges.Goals as goal

abbrev Held : Put → Type 0
Held p = IsTrue (may_stand (node_of p.want))

pub loop-put-preserved : goal.loop-put-preserved
loop-put-preserved c =
    All-more Held c.args.puts.now c.loop-put.put-index c.put-item.result c.loop-put-test.true c.loop-put.invariant (subst Held c.put-item.is c.want_ranges.ensures)

pub returns : goal.returns
returns c =
    let past : length c.args.puts.now ≤ c.loop-put.put-index = omega arith in
    subst (All Held) (take_all c.loop-put.put-index c.args.puts.now past) c.loop-put.invariant
