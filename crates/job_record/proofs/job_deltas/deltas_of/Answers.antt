use Rattle.std.proofs.Common.{List, ◌+◌, sym, subst, arith}
use Rattle.std.proofs.lemmas.List.{take_all}
use Rattle.local_db.specs.declared.record.Delta.{Delta}
use Rattle.job_record.proofs.Leading.{MadeSoFar, deltas_take_back, made_more, next_name}
use Rattle.job_record.proofs.job_deltas.deltas_of.Goals as goal

pub delta_at-requires : goal.delta_at-requires
delta_at-requires c =
    c.requires.changed c.name-item.result (next_name c.args.names.now c.args.after.now c.args.before.now c.loop-name.name-index c.name-item.result (omega arith) c.name-item.is)

pub loop-name-preserved : goal.loop-name-preserved
loop-name-preserved c =
    let names = c.args.names.now in
    let after = c.args.after.now in
    let before = c.args.before.now in
    subst (λ (us : List Delta). MadeSoFar names after before us (c.loop-name.name-index + 1)) (sym c.in_ok-push.ensures.items)
    (made_more names after before c.loop-name.deltas.items c.loop-name.name-index c.name-item.result c.in_ok-delta.delta (omega arith) c.name-item.is c.loop-name.invariant c.in_ok-delta.ensures)

pub returns : goal.returns
returns c =
    deltas_take_back c.args.names.now c.args.after.now c.args.before.now c.requires c.loop-name.deltas.items c.loop-name.name-index
    (take_all c.loop-name.name-index c.args.names.now (omega arith)) c.loop-name.invariant
