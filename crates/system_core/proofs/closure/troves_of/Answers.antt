use Rattle.std.proofs.Common.{List, Option, ◌++◌, option_to_list, ap, ◌∙◌, arith}
use Rattle.std.proofs.lemmas.List.{take_all}
use Rattle.rollback_stack.specs.trove-stream.Installed.{trove_of}
use Rattle.rollback_stack.specs.trove-stream.declared.parts.TroveParts.{TroveParts}
use Rattle.system_core.specs.Changing.{troves_named}
use Rattle.system_core.proofs.ListChanges.{troves_more}
use Rattle.system_core.proofs.closure.troves_of.Goals as goal

pub loop-name-preserved : goal.loop-name-preserved
loop-name-preserved c =
    let list = c.args.list.now in
    let names = c.args.names.now in
    let i = c.loop-name.name-index in
    let x = c.name-item.result in
    c.in_ok-push_copy.ensures
    ∙ ap (λ (o : Option TroveParts). c.loop-name.troves.items ++ option_to_list o) c.get.ensures
    ∙ ap (λ (l : List TroveParts). l ++ option_to_list (trove_of x list)) c.loop-name.invariant
    ∙ troves_more list names i x c.loop-name-test.true c.name-item.is

pub returns : goal.returns
returns c = c.loop-name.invariant ∙ ap (troves_named c.args.list.now) (take_all c.loop-name.name-index c.args.names.now (omega arith))
