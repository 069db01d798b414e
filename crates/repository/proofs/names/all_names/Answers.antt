use Rattle.std.proofs.Common.{List, Contains, arith, subst}
use Rattle.std.specs.Prelude.{◌↔◌}
use Rattle.repo_load.specs.trove-stream.declared.parts.TroveParts.{TroveParts}
use Rattle.repository.specs.Between.{SendsContent}
use Rattle.repository.proofs.Gathered.{gathered_more, none_sent}
use Rattle.change_rel.proofs.trove-stream.Members.{take_all}
use Rattle.repository.proofs.names.all_names.Goals as goal

pub loop-trove-init : goal.loop-trove-init
loop-trove-init c = none_sent c.args.old.now c.new-names.result.items c.new-names.ensures.items

pub loop-trove-preserved : goal.loop-trove-preserved
loop-trove-preserved c =
    gathered_more c.args.old.now c.args.fresh.now c.loop-trove.names.items c.push_names.new.names.items c.loop-trove.trove-index c.trove-item.result (omega arith) c.trove-item.is c.loop-trove.invariant c.in_ok-push_names.ensures

pub returns : goal.returns
returns c = λ name.
    subst (λ (l : List TroveParts). Contains c.loop-trove.names.items name ↔ SendsContent c.args.old.now l name) (take_all c.loop-trove.trove-index c.args.fresh.now (omega arith)) (c.loop-trove.invariant name)
