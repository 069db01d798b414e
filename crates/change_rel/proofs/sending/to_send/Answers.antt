use Rattle.trove_stream.specs.trove-parts.Files.{file_cmp}
use Rattle.trove_stream.proofs.cny-base.Sorted.{rising_nil}
use Rattle.change_rel.proofs.sending.to_send.Goals as goal

pub names_to_send-requires : goal.names_to_send-requires
names_to_send-requires c = rising_nil file_cmp
