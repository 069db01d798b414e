use Rattle.trove_stream.proofs.OneLed.{one_led}
use Rattle.trove_stream.proofs.laws.one_result.Goals as goal

pub returns : goal.returns
returns c = one_led
