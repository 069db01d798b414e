use Rattle.std.proofs.Common.{List, Contains, arith, subst}
use Rattle.std.specs.Prelude.{◌↔◌}
use Rattle.trove_stream.specs.trove-parts.declared.files.FileAt.{FileAt}
use Rattle.change_rel.specs.Sending.{SendsName}
use Rattle.trove_stream.proofs.Members.{take_all}
use Rattle.change_rel.proofs.Sent.{turn}
use Rattle.change_rel.proofs.sending.sent_names.Goals as goal

pub loop-file-preserved : goal.loop-file-preserved
loop-file-preserved c =
    turn c.args.old.now c.args.fresh.now c.loop-file.names.items c.push_sent.new.names.items c.loop-file.file-index c.file-item.result (omega arith) c.file-item.is c.loop-file.invariant c.in_ok-push_sent.ensures

pub returns : goal.returns
returns c = λ name.
    subst (λ (l : List FileAt). Contains c.loop-file.names.items name ↔ SendsName c.args.old.now l name) (take_all c.loop-file.file-index c.args.fresh.now (omega arith)) (c.loop-file.invariant name)
