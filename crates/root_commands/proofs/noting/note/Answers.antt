use Rattle.std.proofs.Common.{cond, Some, sym, ap, ◌∙◌}
use Rattle.std.specs.Option.{option_copied}
use Rattle.cli_call.specs.tree-disk.Tree.{Name, same_name}
use Rattle.update_job.specs.Changes.{noted}
use Rattle.cli_call.proofs.job-record.Keyed.{same_means}
use Rattle.root_commands.proofs.Turning.{no_change, put_change}
use Rattle.root_commands.proofs.noting.note.Goals as goal

pub returns-in_ok-insert-in-Some-clause-noted : goal.returns-in_ok-insert-in-Some-clause-noted
returns-in_ok-insert-in-Some-clause-noted c = λ name.
    let id = c.args.id.now in
    let old = c.args.changes.now in
    put_change (same_name id.name name) c.args.came id c.in-Some.change (option_copied c.get.result) (noted old name) (noted c.insert.new.self name)
    (λ e. ap (noted old) (sym (same_means id.name name e)) ∙ sym c.get.ensures.value)
    (sym c.in_ok-change.ensures ∙ c.in-Some.is)
    (c.in_ok-insert-in-Some.ensures.updates.0 name ∙ ap (λ (k : Name). cond (same_name k name) (Some c.in-Some.change) (noted old name)) c.in_ok-name-in-Some.ensures)

pub returns-in-None-clause-noted : goal.returns-in-None-clause-noted
returns-in-None-clause-noted c = λ name.
    let id = c.args.id.now in
    let old = c.args.changes.now in
    no_change (same_name id.name name) c.args.came id (option_copied c.get.result) (noted old name)
    (λ e. ap (noted old) (sym (same_means id.name name e)) ∙ sym c.get.ensures.value)
    (sym c.in_ok-change.ensures ∙ c.in-None.is)
