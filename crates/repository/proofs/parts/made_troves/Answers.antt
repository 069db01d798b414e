use Rattle.std.proofs.Common.{List, [], arith, subst, sym}
use Rattle.std.proofs.lemmas.List.{take_all}
use Rattle.change_set.specs.declared.change.Part.{Part}
use Rattle.change_set.specs.Contents.{IfRefused}
use Rattle.repo_index.specs.Catalogue.{CatalogueParts}
use Rattle.repository.specs.Parts.{AreMade, IsFirstRefused}
use Rattle.repository.proofs.Making.{first_refused, made_more, none_made}
use Rattle.change_rel.proofs.cny-base.Faults.{passed_on as err_stop}
use Rattle.repository.proofs.parts.made_troves.Goals as goal

pub loop-part-init : goal.loop-part-init
loop-part-init c = subst (λ (k : CatalogueParts). AreMade c.args.committed.now.troves [] k.troves) (sym c.new-added.ensures) (none_made c.args.committed.now.troves)

pub returns-in_err-add_part-clause-refused : goal.returns-in_err-add_part-clause-refused
returns-in_err-add_part-clause-refused c =
    err_stop (IfRefused (IsFirstRefused c.args.committed.now.troves c.args.parts.now)) _ c.from_residual.result
    (first_refused c.args.committed.now.troves c.args.parts.now c.loop-part.part-index c.part-item.result c.loop-part.added.troves _ (omega arith) c.part-item.is c.loop-part.invariant c.in_err-add_part.ensures.refused)
    c.from_residual.ensures.1

pub loop-part-preserved : goal.loop-part-preserved
loop-part-preserved c =
    made_more c.args.committed.now.troves c.args.parts.now c.loop-part.part-index c.part-item.result c.loop-part.added c.add_part.new.added (omega arith) c.part-item.is c.loop-part.invariant c.in_ok-add_part.ensures.added

pub returns-clause-made : goal.returns-clause-made
returns-clause-made c = subst (λ (l : List Part). AreMade c.args.committed.now.troves l c.loop-part.added.troves) (take_all c.loop-part.part-index c.args.parts.now (omega arith)) c.loop-part.invariant
