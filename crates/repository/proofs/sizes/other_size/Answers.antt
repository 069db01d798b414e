use Rattle.std.proofs.Common.{ℕ, List, length, ap, sym, ◌∙◌}
use Rattle.change_set.specs.declared.change.Carried.{Carried}
use Rattle.repository.proofs.sizes.other_size.Goals as goal

pub returns-in_default-clause-fits : goal.returns-in_default-clause-fits
returns-in_default-clause-fits c = λ content among named. absurd (c.in_default.ensures.none content among named)

pub returns-then-get-size-clause-fits : goal.returns-then-get-size-clause-fits
returns-then-get-size-clause-fits c = λ content among named.
    ap (λ (one : Carried). length one.bytes) (c.in-Some.ensures.some.only content among named)
    ∙ ap (λ (bytes : List ℕ). length bytes) (sym c.get.ensures)
    ∙ c.if-get-size.true
