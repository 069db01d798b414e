use Rattle.std.proofs.Common.{[], Err, ap, refl, sym, ◌∙◌, arith, append-nil}
use Rattle.std.proofs.lemmas.Result.{err_from_is_err_and}
use Rattle.local_db.specs.cny-base.declared.text.TextFault.TheVariants.{Bad}
use Rattle.cny_stream.specs.Item.{item_bytes}
use Rattle.local_db.specs.RecordText.{entry_text}
use Rattle.job_record.proofs.EntryItems.{entry_fits, no_entry_here}
use Rattle.change_rel.proofs.cny-dep.Faults.{handed_on}
use Rattle.job_record.proofs.entries.next_entry.Goals as goal

pub returns-in_default-clause-no_entry : goal.returns-in_default-clause-no_entry
returns-in_default-clause-no_entry c bad e rest is same = c.in_default.ensures.only 0x67 (entry_text e) rest refl (entry_fits e is) same

pub returns-in_default-clause-no_end : goal.returns-in_default-clause-no_end
returns-in_default-clause-no_end c bad e = c.in_default.ensures.only 0x6F [] [] refl (omega arith) (e ∙ sym (append-nil (item_bytes 0x6F [])))

pub returns-in_err-entry-clause-no_entry : goal.returns-in_err-entry-clause-no_entry
returns-in_err-entry-clause-no_entry c h =
    let met = handed_on c.from_residual.result c.in_err-entry.field-0.0 Bad (err_from_is_err_and c.from_residual.result c.from_residual.ensures.1) h in
    let item = c.in-Ok.item in
    no_entry_here c.args.bytes.now c.args.at item.tag item.from item.to c.in-Ok.ensures.found (λ e is. c.in_err-entry.ensures.bad (ap Err met) e is)
