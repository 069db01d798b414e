use Rattle.tree_journal.proofs.journal-log.NumberLaws.{numbered_no_bytes}
use Rattle.disk_lines.proofs.logs.log_of.Goals as goal

pub encode_log-requires : goal.encode_log-requires
encode_log-requires c = record { no_bytes = numbered_no_bytes _ _ c.in_ok-puts.ensures }
