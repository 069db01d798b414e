use Rattle.std.proofs.Common.{◌∙◌, ap, arith}
use Rattle.std.proofs.lemmas.Fmt.{parse-decimal}
use Rattle.std.specs.Result.{result_ok}
use Rattle.journal_log.proofs.staged.number_of.Goals as goal

pub returns : goal.returns
returns c = λ number fits is. c.ok.ensures.value ∙ ap result_ok (parse-decimal 32 number c.args.last.now c.parse.result fits (omega (arith, fits)) is c.parse.ensures.value.0)
