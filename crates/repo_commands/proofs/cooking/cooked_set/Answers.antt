use Rattle.std.proofs.Common.{List, Result, Ok, sym, ap, subst, ◌∙◌}
use Rattle.std.specs.Prelude.{IfErr}
use Rattle.cli_call.specs.change-set.declared.change.ChangeSet.{ChangeSet}
use Rattle.cli_call.specs.change-set.declared.change.Part.{Part}
use Rattle.cli_call.specs.change-set.ChangeSet.{HasContents}
use Rattle.cli_call.specs.cny-base.declared.refusal.Fault.{Fault}
use Rattle.repo_index.specs.Steps.{IsErrOrMemory}
use Rattle.repo_commands.specs.Cook.{cooked_set, cooked_troves, set_of_result}
use Rattle.repo_commands.proofs.KeptContents.{cooked_contents, set_refused}
use Rattle.cny_version.proofs.cny-base.Passing.{err_is}
use Rattle.repo_commands.proofs.cooking.cooked_set.Goals as goal

pub returns-in_err-troves-clause-fault : goal.returns-in_err-troves-clause-fault
returns-in_err-troves-clause-fault c =
    let made = c.args.made in
    let committed = c.args.catalogue.now.troves in
    err_is (λ (s : Result ChangeSet Fault). IfErr s (IsErrOrMemory (cooked_set c.args.next committed made))) c.from_residual.result c.in_err-troves.field-0.0 c.from_residual.ensures.1
    (set_refused made.contents (cooked_troves c.args.next committed made.troves) c.in_err-troves.field-0.0 c.in_err-troves.ensures.fault)

pub returns-clause-value : goal.returns-clause-value
returns-clause-value c =
    let made = c.args.made in
    ap (set_of_result made.contents) c.in_ok-troves.ensures.value ∙ ap (λ (parts : List Part). Ok (record { parts = parts; contents = made.contents })) (sym c.in_ok-parts.ensures)

pub returns-clause-contents : goal.returns-clause-contents
returns-clause-contents c =
    let made = c.args.made in
    subst (λ (parts : List Part). HasContents (record { parts = parts; contents = made.contents })) (sym c.in_ok-parts.ensures)
    (cooked_contents c.args.next c.args.catalogue.now.troves made.contents made.troves c.in_ok-troves.troves c.requires.own c.in_ok-troves.ensures.value)
