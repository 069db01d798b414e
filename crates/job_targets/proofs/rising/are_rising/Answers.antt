use Rattle.std.proofs.Common.{rules, tests}
use Rattle.std.specs.Cmp.Lexicographic.{nat_list_cmp_total}
use Rattle.std.proofs.lemmas.Cmp.{on_total}
use Rattle.std.proofs.lemmas.List.Sorted.{answers_always}
use Rattle.conflict_plan.specs.declared.planned.Planned.{Planned}
use Rattle.conflict_plan.specs.Plan.{planned_cmp}
use Rattle.change_set.proofs.trove-parts.Rising.{is_less, rising_answer}
use Rattle.job_targets.proofs.rising.are_rising.Goals as goal

pub returns : goal.returns
returns c =
    rising_answer (on_total (λ (x : Planned). x.path) nat_list_cmp_total) c.args.planned.now c.is_sorted_by.result (c.is_sorted_by.ensures.cases (is_less planned_cmp) (answers_always _ _ _ (λ f a r h k. search (rules, tests))))
