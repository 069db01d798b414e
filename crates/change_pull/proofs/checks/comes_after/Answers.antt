use Rattle.std.proofs.Common.{Option, List, ℕ, sym, subst, refl}
use Rattle.change_set.specs.FirstFault.{ComesAfter}
use Rattle.change_pull.proofs.LastStaged.{none_last, after_staged}
use Rattle.change_pull.proofs.checks.comes_after.Goals as goal

pub returns-in-None : goal.returns-in-None
returns-in-None c = λ dir contents is.
    let none = none_last dir contents c.args.staged.now is c.in-None.ensures.value in
    (λ t. subst (λ (l : Option (List ℕ)). ComesAfter l c.args.name.now) (sym none) tt, λ e. refl)

pub returns-in-Some : goal.returns-in-Some
returns-in-Some c = λ dir contents is. after_staged dir contents c.args.staged.now c.in-Some.last.now c.args.name.now c.lt.result is c.in-Some.ensures.value c.lt.ensures
