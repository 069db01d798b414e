use Rattle.std.proofs.Common.{◌≡◌, ℕ, [], ◌++◌, arith, sym, ◌∙◌, append-nil, List}
use Rattle.tree_disk.specs.cny-base.StrField.{FitsStr, str}
use Rattle.journal_log.proofs.Links.{behind_str, both_lengths}
use Rattle.tree_disk.proofs.cny-base.Faults.{if_none}
use Rattle.journal_log.proofs.read_put.two_strs.Goals as goal

pub returns-in_err-second-clause-none : goal.returns-in_err-second-clause-none
returns-in_err-second-clause-none c =
    if_none c.from_residual-in_err-second.result ((a b : List ℕ) → FitsStr a → FitsStr b → c.args.value.now ≡ str a ++ str b → ⊥)
    (λ a b a_fits b_fits is.
    let first = c.in_ok-first.ensures.only a (str b) a_fits is in
    let behind = behind_str a (str b) c.args.value.now c.in_ok-first.first.to is (omega (arith, first.1)) in
    c.in_err-second.ensures.only b [] b_fits (behind ∙ sym (append-nil (str b))))

pub returns-then-second-value-clause-none : goal.returns-then-second-value-clause-none
returns-then-second-value-clause-none c = λ a b a_fits b_fits is.
    let first = c.in_ok-first.ensures.only a (str b) a_fits is in
    let behind = behind_str a (str b) c.args.value.now c.in_ok-first.first.to is (omega (arith, first.1)) in
    let second = c.in_ok-second.ensures.only b [] b_fits (behind ∙ sym (append-nil (str b))) in
    let long = both_lengths a b c.args.value.now is in
    c.if-second-value.true (omega (arith, first.1, second.1, long))
