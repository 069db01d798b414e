use Rattle.std.proofs.Common.{ℕ, List, cond, Some, None, ap, ◌∙◌, arith}
use Rattle.std.specs.List.{list_any}
use Rattle.std.specs.Str.{bytes_eq}
use Rattle.std.proofs.lemmas.List.{take_all}
use Rattle.dep_closure.specs.Slots.{slot}
use Rattle.dep_closure.proofs.Putting.{taken_one}
use Rattle.dep_closure.proofs.slots.take_names.Goals as goal

pub loop-name-preserved : goal.loop-name-preserved
loop-name-preserved c =
    taken_one c.args.slots.now c.loop-name.slots c.insert.new.self c.args.names.now c.loop-name.name-index c.name-item.result c.in_ok-copy.field-0 (omega arith) c.name-item.is c.loop-name.invariant
    c.in_ok-copy.ensures c.in_ok-insert.ensures.updates.0 c.in_ok-insert.ensures.ordered

pub returns-clause-names : goal.returns-clause-names
returns-clause-names c = λ name.
    c.loop-name.invariant.taken name
    ∙ ap (λ (l : List (List ℕ)). cond (list_any (bytes_eq name) l) (Some None) (slot c.args.slots.now name)) (take_all c.loop-name.name-index c.args.names.now (omega arith))
