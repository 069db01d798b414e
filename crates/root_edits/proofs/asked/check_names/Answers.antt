use Rattle.std.proofs.Common.{◌∙◌, ap, not, arith}
use Rattle.root_edits.proofs.Listed.{installed_more, is_there}
use Rattle.root_edits.proofs.asked.check_names.Goals as goal

pub loop-name-preserved : goal.loop-name-preserved
loop-name-preserved c =
    installed_more c.args.installed.now c.args.names.now c.loop-name.name-index c.name-item.result (omega arith) c.name-item.is
    (is_there c.args.installed.now c.name-item.result c.place_of.result c.place_of.ensures.some (c.is_none.ensures ∙ ap not c.if-is_none.false)) c.loop-name.invariant
