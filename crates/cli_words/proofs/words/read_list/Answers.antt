use Rattle.std.proofs.Common.{ap, map}
use Rattle.std.specs.Prelude.{string_bytes}
use Rattle.cny_version.proofs.cny-base.Passing.{err_is}
use Rattle.cli_words.specs.declared.words.Command.TheVariants as command
use Rattle.cli_words.specs.Words.{list_of, made_of, name_or_none, ReadsWords}
use Rattle.cli_words.proofs.Reading.{made_reads}
use Rattle.cli_words.proofs.words.read_list.Goals as goal

pub returns-in_err-name : goal.returns-in_err-name
returns-in_err-name c = err_is (ReadsWords (list_of (map string_bytes c.args.words.now))) c.from_residual.result c.in_err-name.field-0.0 c.from_residual.ensures.1 (made_reads command.ListCommitted (name_or_none (map string_bytes c.args.words.now)) c.in_err-name.field-0.0 c.in_err-name.ensures)

pub returns : goal.returns
returns c = ap (made_of command.ListCommitted) c.in_ok-name.ensures
