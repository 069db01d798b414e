use Rattle.job_record.proofs.EntryItems.{item_of}
use Rattle.job_record.proofs.Written.{all_written, one_written}
use Rattle.job_record.proofs.writing.put_entries.Goals as goal

pub loop-entry-preserved : goal.loop-entry-preserved
loop-entry-preserved c =
    one_written item_of c.args.out.now c.args.entries.now c.loop-entry.entry-index c.entry-item.result c.loop-entry.out c.put_entry.new.out c.loop-entry-test.true c.entry-item.is c.loop-entry.invariant
    c.in_ok-put_entry.ensures

pub returns : goal.returns
returns c = all_written item_of c.args.out.now c.args.entries.now c.loop-entry.entry-index c.loop-entry.out c.loop-entry-test.false c.loop-entry.invariant
