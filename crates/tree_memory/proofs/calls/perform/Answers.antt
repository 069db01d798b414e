use Rattle.std.proofs.Common.{◌∙◌, ℕ, ◌≤◌, ◌&&◌, not, ap, sym, subst}
use Rattle.tree_nodes.specs.tree-disk.Tree.{Tree}
use Rattle.tree_nodes.specs.cny-base.Count.{next}
use Rattle.tree_memory.specs.State.{allows, failed_change}
use Rattle.tree_memory.specs.Memory.{state}
use Rattle.tree_memory.specs.Calls.{IsCall}
use Rattle.tree_memory.proofs.Done.{asked, done, failed}
use Rattle.tree_memory.proofs.calls.perform.Goals as goal

pub returns-then-turn : goal.returns-then-turn
returns-then-turn c wanted given =
    let change = c.in_ok-change.change in
    let call = asked c.args.change change (IsCall wanted) c.in_ok-change.was given in
    let recorded = c.in_ok-record.ensures in
    let turn = c.turn-turn.ensures in
    let faults = ap (λ s. s.schedule.faults) recorded.turns ∙ ap (λ s. s.schedule.faults) turn.counts in
    failed
    (record {
      calls = ap (λ s. s.calls) c.count_fault.ensures.counted ∙ ap (λ s. s.schedule.calls) recorded.turns ∙ ap (λ s. s.schedule.calls) turn.counts;
      stop = ap (λ s. s.left) recorded.turns ∙ ap (λ s. s.left) turn.counts;
      fails = ap (λ s. s.fails) c.count_fault.ensures.counted ∙ ap (λ s. s.schedule.fails) recorded.turns ∙ ap (λ s. s.schedule.fails) turn.counts;
    })
    c.in_ok-change-2.change change wanted call
    (c.in_ok-change-2.ensures.value
    ∙ ap (λ (t : Tree). failed_change change (allows change t && not c.turn-turn.result.stopped)) c.args.tree.now.told
    ∙ ap (λ stopped. failed_change change (allows change (state c.args.tree.now).reads && not stopped)) turn.stopped)
    (record { first = recorded.first; changes = recorded.ok })
    (sym turn.fails ∙ c.if-turn.true)
    (ap (λ s. s.faults) c.count_fault.ensures.counted ∙ ap next faults)
    (subst (λ (n : ℕ). n ≤ next n) faults c.count_fault.ensures.later)

pub returns : goal.returns
returns c wanted given =
    let change = c.in_ok-change.change in
    let call = asked c.args.change change (IsCall wanted) c.in_ok-change.was given in
    let recorded = c.in_ok-try_record.ensures in
    let turn = c.turn-turn.ensures in
    done
    (record {
      calls = ap (λ s. s.schedule.calls) recorded.turns ∙ ap (λ s. s.schedule.calls) turn.counts;
      stop = ap (λ s. s.left) recorded.turns ∙ ap (λ s. s.left) turn.counts;
      fails = ap (λ s. s.schedule.fails) recorded.turns ∙ ap (λ s. s.schedule.fails) turn.counts;
    })
    change wanted call
    (record { first = recorded.first; changes = recorded.done c.if-not-branch.false })
    (sym recorded.value ∙ c.if-not-branch.false) (sym turn.fails ∙ c.if-turn.false)
    (ap (λ s. s.schedule.faults) recorded.turns ∙ ap (λ s. s.schedule.faults) turn.counts)
