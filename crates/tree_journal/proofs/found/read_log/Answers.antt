use Rattle.std.proofs.Common.{sym, ◌∙◌, ap}
use Rattle.std.specs.Prelude.{Some}
use Rattle.tree_journal.proofs.Finding.{finds_answer}
use Rattle.tree_journal.proofs.Logs.{finds_log}
use Rattle.tree_journal.proofs.found.read_log.Goals as goal

pub returns-in-Ok-clause-finds : goal.returns-in-Ok-clause-finds
returns-in-Ok-clause-finds g c =
    finds_answer c.in_ok-bytes.ensures (λ tells found.
    finds_log c.args.base.now c.args.log_path.now _ c.get.result.now c.in-Ok.puts c.requires
    (ap Some c.get.ensures ∙ sym c.in-Some.is ∙ found) c.in-Ok.ensures.ok c.in-Ok.ensures.only)
