use Rattle.cny_stream.proofs.RecordLaws.{size_fits}
use Rattle.cny_stream.proofs.record_laws.small_contents.Goals as goal

pub returns : goal.returns
returns c = size_fits
