use Rattle.std.proofs.lemmas.Str.{is_utf8-from_IsUtf8}
use Rattle.cny_base.proofs.Utf8.{no_utf8}
use Rattle.cny_base.proofs.text.text_of.Goals as goal

pub returns-in-Err-clause-none : goal.returns-in-Err-clause-none
returns-in-Err-clause-none c = no_utf8 c.args.bytes.now c.in-Err.ensures.cases.0

pub returns-in-Ok-clause-utf8 : goal.returns-in-Ok-clause-utf8
returns-in-Ok-clause-utf8 c = is_utf8-from_IsUtf8 c.args.bytes.now c.in-Ok.ensures.cases.1
