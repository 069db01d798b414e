use Rattle.std.proofs.Common.{Err, ap, refl}
use Rattle.local_db.proofs.loading.decode_file.Goals as goal

pub returns-in-Err-Bad-clause-stops : goal.returns-in-Err-Bad-clause-stops
returns-in-Err-Bad-clause-stops c = (refl, c.in-Err-Bad.ensures.bad (ap Err c.in-Err-Bad.field-0-is))
