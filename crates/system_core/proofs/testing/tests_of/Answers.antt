use Rattle.std.proofs.Common.{List, Ok, All, sym, ◌∙◌, subst}
use Rattle.std.specs.List.Sorted.{IsStrictlySortedBy}
use Rattle.conflict_plan.specs.declared.planned.Planned.{Planned}
use Rattle.conflict_plan.specs.Orphans.{IsSeenPlan}
use Rattle.conflict_plan.specs.Plan.{planned_cmp}
use Rattle.job_targets.specs.Carrying.{whole_of, whole_targets}
use Rattle.system_core.specs.JobWriting.{AreTargetsOf}
use Rattle.job_targets.specs.Targets.{IsChange}
use Rattle.rollback_stack.specs.tree-disk.Tree.{Tree}
use Rattle.system_core.specs.Job.{sources_of}
use Rattle.system_core.proofs.AnswerLaws.{lack_answer, plan_answer, stop_answer, target_answer}
use Rattle.system_core.proofs.TestLaws.{as_targets, free_targets, installed_after, lack_stop, meant_stop, meant_targets, means_whole, over_whole, plan_stop, run_whole, targets_run, targets_stop}
use Rattle.system_core.proofs.testing.tests_of.Goals as goal

pub returns-in_err-planned-clause-gathers : goal.returns-in_err-planned-clause-gathers
returns-in_err-planned-clause-gathers g c =
    plan_stop g.met.C.Contents.laws g.met.T.TreeDisk.laws _ c.args.before.now c.args.list.now c.args.far.now c.in_err-planned.field-0.0 c.from_residual.result c.requires.closed c.from_residual.ensures.1
    c.in_err-planned.ensures.plans

pub targets_by-requires-clause-seen : goal.targets_by-requires-clause-seen
targets_by-requires-clause-seen g c tells =
    let disk = g.T.TreeDisk.disk in
    let run = c.in_ok-planned.ensures.plans in
    subst (λ (p : List Planned). All (IsSeenPlan (disk.reads c.plan.new.disk)) p) (sym c.get.ensures)
    (subst (λ (x : Tree). All (IsSeenPlan x) c.in_ok-planned.planned) (sym (run.same tells).same.reads)
    (c.planned_is_seen.ensures.seen c.args.before.now c.args.list.now c.args.options.now (disk.reads c.args.root.now) c.in_ok-planned.planned (run.ends tells).planned))

pub targets_by-requires-clause-in_order : goal.targets_by-requires-clause-in_order
targets_by-requires-clause-in_order g c = subst (IsStrictlySortedBy planned_cmp) (sym c.get.ensures) c.in_ok-planned.ensures.plannable.rising

pub returns-in_err-made-clause-gathers : goal.returns-in_err-made-clause-gathers
returns-in_err-made-clause-gathers g c =
    targets_stop g.met.C.Contents.laws g.met.T.TreeDisk.laws _ c.args.before.now c.args.list.now c.in_ok-planned.planned c.get.result.now c.get.ensures c.in_err-made.field-0.0 c.from_residual-in_err-made.result c.requires.closed
    c.from_residual-in_err-made.ensures.1 c.in_ok-planned.ensures.plans (meant_stop (g.I.Carries.listed c.args.carried.now) (g.C.Contents.contents.answers c.args.far.now) c.get.result.now c.args.root.now c.plan.new.disk (λ tells. (c.in_ok-planned.ensures.plans.same tells).same.reads) c.in_err-made.field-0.0 c.in_err-made.ensures.gathers)

pub returns-in_err-check_something-clause-gathers : goal.returns-in_err-check_something-clause-gathers
returns-in_err-check_something-clause-gathers g c =
    let disk = g.T.TreeDisk.disk in
    let run = c.in_ok-planned.ensures.plans in
    lack_stop g.met.C.Contents.laws g.met.T.TreeDisk.laws (sources_of (g.I.Carries.listed c.args.carried.now (g.T.TreeDisk.disk.reads c.args.root.now)) (g.C.Contents.contents.answers c.args.far.now) c.args.options.now) c.args.before.now c.args.list.now (whole_targets (g.T.TreeDisk.disk.reads c.args.root.now) c.in_ok-made.made) c.get-2.result.now c.get-2.ensures c.in_err-check_something.field-0.0 c.from_residual-in_err-check_something.result
    c.from_residual-in_err-check_something.ensures.1
    (targets_run g.met.C.Contents.laws g.met.T.TreeDisk.laws (sources_of (g.I.Carries.listed c.args.carried.now (g.T.TreeDisk.disk.reads c.args.root.now)) (g.C.Contents.contents.answers c.args.far.now) c.args.options.now) c.args.before.now c.args.list.now c.in_ok-planned.planned c.get.result.now c.get.ensures (Ok (whole_targets (g.T.TreeDisk.disk.reads c.args.root.now) c.in_ok-made.made)) c.requires.closed run (meant_targets (g.I.Carries.listed c.args.carried.now) (g.C.Contents.contents.answers c.args.far.now) c.get.result.now c.args.root.now c.plan.new.disk (λ tells. (c.in_ok-planned.ensures.plans.same tells).same.reads) c.in_ok-made.made c.in_ok-made.ensures.gathers))
    (λ tells.
    over_whole g.met.C.Contents.laws g.met.T.TreeDisk.laws (sources_of (g.I.Carries.listed c.args.carried.now (g.T.TreeDisk.disk.reads c.args.root.now)) (g.C.Contents.contents.answers c.args.far.now) c.args.options.now) c.args.before.now c.args.list.now c.in_ok-planned.planned c.get.result.now c.get.ensures c.in_ok-made.made run c.in_ok-planned.ensures.plannable tells
    (c.in_ok-made.ensures.whole tells) (c.in_ok-made.ensures.puts tells)
    c.requires.before c.troves_keep_rules.ensures c.requires.allowed (c.in_ok-made.ensures.over tells)
    (c.in_ok-made.ensures.changes tells
    (subst (All IsChange) (sym c.get.ensures) (c.planned_is_seen.ensures.changes c.args.before.now c.args.list.now c.args.options.now (disk.reads c.args.root.now) c.in_ok-planned.planned (run.ends tells).planned))))
    c.in_err-check_something.ensures.refused

pub returns-clause-gathers : goal.returns-clause-gathers
returns-clause-gathers g c =
    run_whole (sources_of (g.I.Carries.listed c.args.carried.now (g.T.TreeDisk.disk.reads c.args.root.now)) (g.C.Contents.contents.answers c.args.far.now) c.args.options.now) c.args.before.now c.args.list.now c.in_ok-made.made
    (targets_run g.met.C.Contents.laws g.met.T.TreeDisk.laws (sources_of (g.I.Carries.listed c.args.carried.now (g.T.TreeDisk.disk.reads c.args.root.now)) (g.C.Contents.contents.answers c.args.far.now) c.args.options.now) c.args.before.now c.args.list.now c.in_ok-planned.planned c.get.result.now c.get.ensures (Ok (whole_targets (g.T.TreeDisk.disk.reads c.args.root.now) c.in_ok-made.made)) c.requires.closed c.in_ok-planned.ensures.plans
    (meant_targets (g.I.Carries.listed c.args.carried.now) (g.C.Contents.contents.answers c.args.far.now) c.get.result.now c.args.root.now c.plan.new.disk (λ tells. (c.in_ok-planned.ensures.plans.same tells).same.reads) c.in_ok-made.made c.in_ok-made.ensures.gathers))

pub returns-clause-over : goal.returns-clause-over
returns-clause-over g c tells =
    let disk = g.T.TreeDisk.disk in
    let run = c.in_ok-planned.ensures.plans in
    let made = c.in_ok-made.ensures.gathers in
    subst (λ (x : Tree). AreTargetsOf (disk.reads c.args.root.now) (whole_of x c.in_ok-made.made.puts) c.in_ok-made.made.entries) (sym ((made.same tells).same.reads ∙ (run.same tells).same.reads))
    (over_whole g.met.C.Contents.laws g.met.T.TreeDisk.laws (sources_of (g.I.Carries.listed c.args.carried.now (g.T.TreeDisk.disk.reads c.args.root.now)) (g.C.Contents.contents.answers c.args.far.now) c.args.options.now) c.args.before.now c.args.list.now c.in_ok-planned.planned c.get.result.now c.get.ensures c.in_ok-made.made run c.in_ok-planned.ensures.plannable tells
    (c.in_ok-made.ensures.whole tells) (c.in_ok-made.ensures.puts tells)
    c.requires.before c.troves_keep_rules.ensures c.requires.allowed (c.in_ok-made.ensures.over tells)
    (c.in_ok-made.ensures.changes tells
    (subst (All IsChange) (sym c.get.ensures) (c.planned_is_seen.ensures.changes c.args.before.now c.args.list.now c.args.options.now (disk.reads c.args.root.now) c.in_ok-planned.planned (run.ends tells).planned))))

pub returns-clause-means : goal.returns-clause-means
returns-clause-means g c tells =
    let made = c.in_ok-made.ensures.gathers in
    means_whole g.T.TreeDisk.disk (g.I.Carries.listed c.args.carried.now) (g.C.Contents.contents.answers c.args.far.now) c.get.result.now c.plan.new.disk c.targets_by.new.root ((made.same tells).same.reads) c.in_ok-made.made (made.ends tells)

pub returns-clause-targets : goal.returns-clause-targets
returns-clause-targets g c =
    as_targets g.met.C.Contents.laws g.met.T.TreeDisk.laws (sources_of (g.I.Carries.listed c.args.carried.now (g.T.TreeDisk.disk.reads c.args.root.now)) (g.C.Contents.contents.answers c.args.far.now) c.args.options.now) c.args.before.now c.args.list.now c.in_ok-planned.planned c.get.result.now c.get.ensures (g.I.Carries.gives c.args.carried.now) c.in_ok-made.made (g.T.TreeDisk.disk.reads c.targets_by.new.root) c.in_ok-planned.ensures.plannable c.in_ok-made.ensures.fits
    c.requires.before c.troves_keep_rules.ensures c.requires.allowed c.in_ok-made.ensures.entries c.get-2.result.now c.get-2.ensures c.in_ok-check_something.ensures.something

pub returns-clause-free : goal.returns-clause-free
returns-clause-free g c =
    free_targets g.met.C.Contents.laws g.met.T.TreeDisk.laws (sources_of (g.I.Carries.listed c.args.carried.now (g.T.TreeDisk.disk.reads c.args.root.now)) (g.C.Contents.contents.answers c.args.far.now) c.args.options.now) c.args.before.now c.args.list.now c.in_ok-planned.planned c.get.result.now c.get.ensures (g.I.Carries.gives c.args.carried.now) c.in_ok-made.made c.in_ok-planned.ensures.plannable c.in_ok-made.ensures.fits
    c.requires.before c.troves_keep_rules.ensures c.requires.allowed

pub targets_by-requires-clause-stand : goal.targets_by-requires-clause-stand
targets_by-requires-clause-stand g c tells =
    let run = c.in_ok-planned.ensures.plans in
    subst (g.I.Carries.stand c.args.carried.now) (sym (run.same tells).same.reads) (c.requires.stand tells)

pub returns-clause-list : goal.returns-clause-list
returns-clause-list g c = installed_after c.args.list.now c.troves_keep_rules.ensures c.requires.in_order c.requires.allowed c.in_ok-planned.ensures.owned

pub returns-in_err-planned-clause-stops : goal.returns-in_err-planned-clause-stops
returns-in_err-planned-clause-stops g c =
    stop_answer c.args.list.now c.from_residual.result _ c.from_residual.ensures.1
    (plan_answer c.args.list.now c.in_err-planned.field-0.0 c.requires.closed c.in_err-planned.ensures.stops c.in_err-planned.ensures.owned)

pub returns-in_err-made-clause-stops : goal.returns-in_err-made-clause-stops
returns-in_err-made-clause-stops g c =
    stop_answer c.args.list.now c.from_residual-in_err-made.result _ c.from_residual-in_err-made.ensures.1
    (target_answer c.args.list.now c.in_err-made.field-0.0 (record { closed = c.requires.closed; unshared = c.in_ok-planned.ensures.owned }) c.in_err-made.ensures.stops)

pub returns-in_err-check_something-clause-stops : goal.returns-in_err-check_something-clause-stops
returns-in_err-check_something-clause-stops g c =
    stop_answer c.args.list.now c.from_residual-in_err-check_something.result _ c.from_residual-in_err-check_something.ensures.1
    (lack_answer c.args.list.now c.get-2.result.now c.in_err-check_something.field-0.0 (record { closed = c.requires.closed; unshared = c.in_ok-planned.ensures.owned }) c.in_err-check_something.ensures.refused)

pub returns-clause-passes : goal.returns-clause-passes
returns-clause-passes g c = record { closed = c.requires.closed; unshared = c.in_ok-planned.ensures.owned }
