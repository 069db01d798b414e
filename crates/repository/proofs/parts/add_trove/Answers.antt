use Rattle.std.proofs.Common.{◌++◌, is_some, ap, sym, ◌∙◌}
use Rattle.repo_load.specs.trove-parts.declared.id.TroveId.{TroveId}
use Rattle.repo_index.specs.Catalogue.{found}
use Rattle.change_set.specs.Contents.{IfRefused}
use Rattle.repository.specs.Parts.{IsTroveRefused}
use Rattle.repository.proofs.Making.{add_refused, check_refused}
use Rattle.change_rel.proofs.cny-base.Faults.{passed_on as err_stop}
use Rattle.repository.proofs.parts.add_trove.Goals as goal

pub returns-in_err-check-clause-refused : goal.returns-in_err-check-clause-refused
returns-in_err-check-clause-refused c =
    let before = c.args.committed.now.troves ++ c.args.added.now.troves in
    err_stop (IfRefused (IsTroveRefused before c.args.trove)) _ c.from_residual-in_err-check.result
    (check_refused before c.args.trove _ (ap (λ (id : TroveId). is_some (found id before)) (sym c.id.ensures.value) ∙ sym c.is_there.ensures ∙ c.if-is_there.false) c.in_err-check.ensures) c.from_residual-in_err-check.ensures.1

pub returns-clause-refused : goal.returns-clause-refused
returns-clause-refused c = add_refused c.args.committed.now.troves c.args.added.now.troves c.args.trove c.add.result c.add.ensures.fault
