use Rattle.std.proofs.Common.{rules, tests}
use Rattle.std.proofs.lemmas.List.Sorted.{answers_always}
use Rattle.trove_parts.proofs.Rising.{is_less, rising_answer}
use Rattle.trove_parts.proofs.items.are_rising.Goals as goal

pub returns : goal.returns
returns g c =
    rising_answer g.met.T.Element.total c.args.items.now c.is_sorted_by.result (c.is_sorted_by.ensures.cases (is_less g.T.Element.compare) (answers_always _ _ _ (λ f a r h k. search (rules, tests))))
