use Rattle.std.proofs.Common.{ℕ, List, [], ◌∷◌, ◌++◌, ap, ◌∙◌, arith}
use Rattle.std.proofs.lemmas.List.{take_all}
use Rattle.system_core.specs.Changing.{names_changed}
use Rattle.system_core.proofs.ListChanges.{names_more}
use Rattle.system_core.proofs.names.names_of.Goals as goal

pub loop-change-preserved : goal.loop-change-preserved
loop-change-preserved c =
    c.in_ok-push.ensures.items
    ∙ ap (λ (l : List (List ℕ)). l ++ c.in_ok-copy.field-0 ∷ []) c.loop-change.invariant
    ∙ names_more c.args.changes.now c.loop-change.change-index c.change-item.result c.in_ok-copy.field-0 c.loop-change-test.true c.change-item.is (c.in_ok-copy.ensures ∙ c.name_of.ensures)

pub returns : goal.returns
returns c = c.loop-change.invariant ∙ ap names_changed (take_all c.loop-change.change-index c.args.changes.now (omega arith))
