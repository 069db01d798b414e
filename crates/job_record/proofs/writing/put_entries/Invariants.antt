use Rattle.std.proofs.Common.{◌≡◌, ◌++◌, take}
use Rattle.local_db.specs.trove-parts.Items.{items_bytes}
use Rattle.local_db.specs.RecordText.{entry_text}
use Rattle.job_record.proofs.writing.put_entries.Given as goal

abbrev pub invariant-loop-entry : goal.invariant-loop-entry
invariant-loop-entry l = l.out ≡ l.fn.out ++ items_bytes entry_text 0x67 (take l.entry-index l.entries)
