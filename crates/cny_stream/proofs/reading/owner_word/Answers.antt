use Rattle.std.proofs.Common.{refl}
use Rattle.cny_stream.specs.Owner.{is_owner_word}
use Rattle.cny_stream.proofs.Owners.{not_word}
use Rattle.cny_stream.proofs.reading.owner_word.Goals as goal

pub returns-in_default-clause-none : goal.returns-in_default-clause-none
returns-in_default-clause-none c = not_word c.args.bytes.now (is_owner_word c.args.bytes.now) refl c.in_default.ensures.cases.0
