use Rattle.std.proofs.Common.{Err, List, ap, subst, sym}
use Rattle.std.proofs.lemmas.Result.{err_from_is_err_and}
use Rattle.local_db.specs.cny-base.declared.text.TextFault.TheVariants.{Bad}
use Rattle.local_db.specs.declared.record.ToldEntry.{ToldEntry}
use Rattle.job_record.specs.Reading.{AreEntriesTo}
use Rattle.job_record.proofs.EntryItems.{last_entries, no_entries, one_more}
use Rattle.change_rel.proofs.cny-dep.Faults.{handed_on}
use Rattle.job_record.proofs.entries.entries_from.Goals as goal

pub items-init : goal.items-init
items-init c = subst (λ (l : List ToldEntry). AreEntriesTo c.args.bytes.now c.args.from l c.args.from) (sym c.new-entries.ensures.items) (no_entries c.args.bytes.now c.args.from c.requires)

pub returns-in_err-next-clause-bad : goal.returns-in_err-next-clause-bad
returns-in_err-next-clause-bad c h es es_are is =
    let met = handed_on c.from_residual.result c.in_err-next.field-0.0 Bad (err_from_is_err_and c.from_residual.result c.from_residual.ensures.1) h in
    c.in_err-next.ensures.no_end (ap Err met)
    (last_entries c.args.bytes.now c.args.from c.items.entries.items c.items.at es c.items.invariant (c.in_err-next.ensures.no_entry (ap Err met)) es_are is).1

pub items-preserved : goal.items-preserved
items-preserved c =
    let found = rw c.in-Some.is at c.in_ok-next.ensures.some in
    subst (λ (l : List ToldEntry). AreEntriesTo c.args.bytes.now c.args.from l c.in-Some.next.to) (sym c.in_ok-push.ensures.items)
    (one_more c.args.bytes.now c.args.from c.items.entries.items c.items.at c.in-Some.next.entry c.in-Some.next.to c.items.invariant found)
