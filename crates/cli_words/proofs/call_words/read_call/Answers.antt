use Rattle.std.proofs.Common.{map, sym, ap, ◌∙◌}
use Rattle.std.specs.Prelude.{string_bytes}
use Rattle.cny_version.proofs.cny-base.Passing.{err_is}
use Rattle.cli_words.specs.Calls.{AreCall, IsCallOrMemory, ReadsCall, batch_of, demo_of}
use Rattle.cli_words.specs.declared.call_words.Kind.TheVariants as kind
use Rattle.cli_words.specs.Words.{behind}
use Rattle.cli_words.proofs.CallWords.{batch_plain, demo_plain, several_is, several_read, single_err_is, single_is, single_read, single_unread}
use Rattle.cli_words.proofs.call_words.read_call.Goals as goal

pub returns-in-Batch-clause-is : goal.returns-in-Batch-clause-is
returns-in-Batch-clause-is c = several_is (map string_bytes c.args.words.now) kind.Batch (sym c.kind_of.ensures ∙ c.in-Batch.is) c.alone.result (c.alone.ensures.is ∙ ap batch_of c.words_behind.ensures)

pub returns-in-Batch-clause-read : goal.returns-in-Batch-clause-read
returns-in-Batch-clause-read c expected are =
    let words = map string_bytes c.args.words.now in
    several_read words kind.Batch (sym c.kind_of.ensures ∙ c.in-Batch.is) c.alone.result expected (batch_of (behind words)) are (λ is. is) (batch_plain (behind words)) (c.alone.ensures.is ∙ ap batch_of c.words_behind.ensures)

pub returns-in-Demo-clause-is : goal.returns-in-Demo-clause-is
returns-in-Demo-clause-is c = several_is (map string_bytes c.args.words.now) kind.Demo (sym c.kind_of.ensures ∙ c.in-Demo.is) c.read_demo.result (c.read_demo.ensures ∙ ap demo_of c.words_behind-in-Demo.ensures)

pub returns-in-Demo-clause-read : goal.returns-in-Demo-clause-read
returns-in-Demo-clause-read c expected are =
    let words = map string_bytes c.args.words.now in
    several_read words kind.Demo (sym c.kind_of.ensures ∙ c.in-Demo.is) c.read_demo.result expected (demo_of (behind words)) are (λ is. is) (demo_plain (behind words)) (c.read_demo.ensures ∙ ap demo_of c.words_behind-in-Demo.ensures)

pub returns-in_ok-command-in-Single-clause-is : goal.returns-in_ok-command-in-Single-clause-is
returns-in_ok-command-in-Single-clause-is c = single_is (map string_bytes c.args.words.now) (sym c.kind_of.ensures ∙ c.in-Single.is) c.in_ok-command-in-Single.command c.in_ok-command-in-Single.ensures.is

pub returns-in_ok-command-in-Single-clause-read : goal.returns-in_ok-command-in-Single-clause-read
returns-in_ok-command-in-Single-clause-read c expected are = single_read (map string_bytes c.args.words.now) (sym c.kind_of.ensures ∙ c.in-Single.is) expected are c.in_ok-command-in-Single.command c.in_ok-command-in-Single.ensures.read

pub returns-in_err-command-in-Single-clause-is : goal.returns-in_err-command-in-Single-clause-is
returns-in_err-command-in-Single-clause-is c =
    let words = map string_bytes c.args.words.now in
    err_is (IsCallOrMemory (AreCall words)) c.from_residual.result c.in_err-command-in-Single.field-0.0 c.from_residual.ensures.1 (single_err_is words (sym c.kind_of.ensures ∙ c.in-Single.is) c.in_err-command-in-Single.field-0.0 c.in_err-command-in-Single.ensures.is)

pub returns-in_err-command-in-Single-clause-read : goal.returns-in_err-command-in-Single-clause-read
returns-in_err-command-in-Single-clause-read c expected are =
    let words = map string_bytes c.args.words.now in
    err_is (ReadsCall expected) c.from_residual.result c.in_err-command-in-Single.field-0.0 c.from_residual.ensures.1 (single_unread words (sym c.kind_of.ensures ∙ c.in-Single.is) expected are c.in_err-command-in-Single.field-0.0 c.in_err-command-in-Single.ensures.read)
