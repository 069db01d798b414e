use Rattle.std.proofs.Common.{ℕ, List, ◌-◌, length, drop, sym, subst, arith}
use Rattle.std.proofs.lemmas.List.{length-drop, take_all}
use Rattle.journal_log.specs.TwoStrs.{HasTail}
use Rattle.journal_log.proofs.Tails.{tail_of}
use Rattle.journal_log.proofs.read_put.read_staged.Goals as goal

pub returns-in_default-read_tail-clause-bad : goal.returns-in_default-read_tail-clause-bad
returns-in_default-read_tail-clause-bad c = λ bad p item.
    let value = c.args.value.now in
    let to = c.in-Some.text.to in
    let tail = tail_of p value c.in-Some.text.from to c.in-Some.ensures.found item in
    c.in_default-read_tail.ensures.none tail.0 tail.1 tail.2
    (subst (λ (l : List ℕ). HasTail l tail.0 tail.1 tail.2) (sym (take_all (length value - to) (drop to value) (omega (arith, length-drop to value)))) tail.3)
