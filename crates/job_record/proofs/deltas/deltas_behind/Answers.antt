use Rattle.std.proofs.Common.{Err, List, ap, subst, sym}
use Rattle.std.proofs.lemmas.Result.{err_from_is_err_and}
use Rattle.local_db.specs.cny-base.declared.text.TextFault.TheVariants.{Bad}
use Rattle.local_db.specs.declared.record.Delta.{Delta}
use Rattle.job_record.specs.Reading.{AreDeltasTo}
use Rattle.job_record.proofs.DeltaItems.{last_deltas, no_deltas, one_more}
use Rattle.change_rel.proofs.cny-dep.Faults.{handed_on}
use Rattle.job_record.proofs.deltas.deltas_behind.Goals as goal

pub items-init : goal.items-init
items-init c = subst (λ (l : List Delta). AreDeltasTo c.args.format c.args.bytes.now c.args.number l 17) (sym c.new-deltas.ensures.items)
    (no_deltas c.args.format c.args.bytes.now c.args.number c.requires.long c.requires.head)

pub returns-in_err-next-clause-bad : goal.returns-in_err-next-clause-bad
returns-in_err-next-clause-bad c h r same is =
    let met = handed_on c.from_residual.result c.in_err-next.field-0.0 Bad (err_from_is_err_and c.from_residual.result c.from_residual.ensures.1) h in
    c.in_err-next.ensures.no_entries (ap Err met) r.entries is.entries_are
    (last_deltas (record { ids = c.distinct_ids.ensures.bytes; troves = c.distinct_troves.ensures.unique; rels = c.distinct_rels.ensures.unique })
    c.args.format c.args.bytes.now c.args.number c.items.deltas.items c.items.at r c.items.invariant (c.in_err-next.ensures.no_delta (ap Err met)) same is).1

pub items-preserved : goal.items-preserved
items-preserved c =
    let found = rw c.in-Some.is at c.in_ok-next.ensures.some in
    subst (λ (l : List Delta). AreDeltasTo c.args.format c.args.bytes.now c.args.number l c.in-Some.next.to) (sym c.in_ok-push.ensures.items)
    (one_more c.args.format c.args.bytes.now c.args.number c.items.deltas.items c.items.at c.in-Some.next.delta c.in-Some.next.to c.items.invariant found)
