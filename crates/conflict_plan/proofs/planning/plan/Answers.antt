use Rattle.std.proofs.Common.{Ok, refl, sym, subst, ◌∙◌}
use Rattle.std.specs.List.{All}
use Rattle.tree_scan.proofs.tree-disk.StepLaws.{tests_start, tests_value}
use Rattle.tree_scan.specs.tree-disk.Steps.{Tests}
use Rattle.conflict_plan.specs.Entries.{first_shared}
use Rattle.conflict_plan.specs.Orphans.{IsSeenPlan}
use Rattle.conflict_plan.specs.Plan.{IsFirstRefusal, IsPlanRefusal, RefusesShared}
use Rattle.conflict_plan.specs.Settled.{IsSeen}
use Rattle.conflict_plan.proofs.Assembled.{first_owned, to_found, unshared}
use Rattle.conflict_plan.proofs.Ending.{disk_passed, disk_told, memory_passed, memory_told, plans_shared, shared_passed, shared_told, table_passed, table_told}
use Rattle.conflict_plan.proofs.Whole.{all_drafts_seen, all_planned_seen, ends_conflict, ends_orphan, ends_plan, entries_are, found_are}
use Rattle.conflict_plan.proofs.Picking.{are_plannable}
use Rattle.conflict_plan.specs.Plan.{ArePlannable}
use Rattle.tree_scan.proofs.tree-disk.Deciding.{tests_next}
use Rattle.tree_scan.proofs.ReadingLaws.{tested_found, tested_memory, tested_refusal, tested_stop}
use Rattle.conflict_plan.proofs.planning.plan.Goals as goal

pub returns-in_err-records-clause-plans : goal.returns-in_err-records-clause-plans
returns-in_err-records-clause-plans g c =
    let start : Tests g.D.TreeDisk.disk (λ (u : Unit {0}). u) (λ tree. Ok tt) c.args.disk.now c.args.disk.now (Ok tt) = tests_start g.met.D.TreeDisk.laws c.args.disk.now tt (λ tells. refl) in
    tested_memory start c.from_residual.ensures.1

pub returns-in_err-records-clause-owned : goal.returns-in_err-records-clause-owned
returns-in_err-records-clause-owned g c = memory_told c.args.fresh.now c.from_residual.result c.from_residual.ensures.1

pub returns-in_err-records-clause-stops : goal.returns-in_err-records-clause-stops
returns-in_err-records-clause-stops g c = memory_passed c.from_residual.result c.from_residual.ensures.1

pub returns-in_err-entries-clause-plans : goal.returns-in_err-entries-clause-plans
returns-in_err-entries-clause-plans g c =
    let start : Tests g.D.TreeDisk.disk (λ (u : Unit {0}). u) (λ tree. Ok tt) c.args.disk.now c.args.disk.now (Ok tt) = tests_start g.met.D.TreeDisk.laws c.args.disk.now tt (λ tells. refl) in
    let es = c.in_ok-records.records.entries in
    let found = found_are c.args.old.now c.args.fresh.now es c.in_err-entries.ensures.ordered c.in_ok-records.ensures in
    plans_shared c.args.old.now c.args.fresh.now c.args.options.now (first_shared es) _ start c.from_residual-in_err-entries.ensures.1 c.in_err-entries.ensures.refused (first_owned found)

pub returns-in_err-entries-clause-stops : goal.returns-in_err-entries-clause-stops
returns-in_err-entries-clause-stops g c =
    let es = c.in_ok-records.records.entries in
    let found = found_are c.args.old.now c.args.fresh.now es c.in_err-entries.ensures.ordered c.in_ok-records.ensures in
    shared_passed {fresh = c.args.fresh.now} (first_shared es) _ c.from_residual-in_err-entries.result c.from_residual-in_err-entries.ensures.1 c.in_err-entries.ensures.refused (first_owned found)

pub returns-in_err-entries-clause-owned : goal.returns-in_err-entries-clause-owned
returns-in_err-entries-clause-owned g c =
    let es = c.in_ok-records.records.entries in
    let found = found_are c.args.old.now c.args.fresh.now es c.in_err-entries.ensures.ordered c.in_ok-records.ensures in
    shared_told (first_shared es) _ c.from_residual-in_err-entries.result c.from_residual-in_err-entries.ensures.1 c.in_err-entries.ensures.refused (first_owned found)

pub returns-in_err-drafts-clause-plans : goal.returns-in_err-drafts-clause-plans
returns-in_err-drafts-clause-plans g c =
    let made = c.in_ok-entries.entries.items in
    let es = c.in_ok-records.records.entries in
    let entries = entries_are c.args.old.now c.args.fresh.now es made c.in_ok-entries.ensures.ordered c.in_ok-entries.ensures.entries c.in_ok-entries.ensures.paths c.in_ok-records.ensures in
    let free = unshared (to_found c.args.old.now c.args.fresh.now es entries) c.in_ok-entries.ensures.none in
    tested_stop c.in_err-drafts.ensures.tests c.from_residual-in_err-drafts.ensures.1
    (λ tells why is. ends_conflict c.args.options.now (g.D.TreeDisk.disk.reads c.args.disk.now) made entries c.in_ok-entries.ensures.entries why free is)

pub returns-in_err-drafts-clause-owned : goal.returns-in_err-drafts-clause-owned
returns-in_err-drafts-clause-owned g c =
    let made = c.in_ok-entries.entries.items in
    let es = c.in_ok-records.records.entries in
    let entries = entries_are c.args.old.now c.args.fresh.now es made c.in_ok-entries.ensures.ordered c.in_ok-entries.ensures.entries c.in_ok-entries.ensures.paths c.in_ok-records.ensures in
    table_told c.args.fresh.now _ c.from_residual-in_err-drafts.result c.from_residual-in_err-drafts.ensures.1 c.in_err-drafts.ensures.stops
    (unshared (to_found c.args.old.now c.args.fresh.now es entries) c.in_ok-entries.ensures.none)

pub returns-in_err-drafts-clause-stops : goal.returns-in_err-drafts-clause-stops
returns-in_err-drafts-clause-stops g c = table_passed _ c.from_residual-in_err-drafts.result c.from_residual-in_err-drafts.ensures.1 c.in_err-drafts.ensures.stops

pub settle_all-requires : goal.settle_all-requires
settle_all-requires g c tells =
    let tree = g.D.TreeDisk.disk.reads c.args.disk.now in
    let made = c.in_ok-entries.entries.items in
    let es = c.in_ok-records.records.entries in
    let entries = entries_are c.args.old.now c.args.fresh.now es made c.in_ok-entries.ensures.ordered c.in_ok-entries.ensures.entries c.in_ok-entries.ensures.paths c.in_ok-records.ensures in
    let run = c.in_ok-drafts.ensures.tests in
    subst (λ t. All (IsSeen t) c.in_ok-drafts.drafts.items) (sym (run.same tells).same.reads)
    (all_drafts_seen c.args.options.now tree made entries c.in_ok-entries.ensures.entries c.in_ok-drafts.drafts.items (run.found tells))

pub returns-in_err-plan-clause-plans : goal.returns-in_err-plan-clause-plans
returns-in_err-plan-clause-plans g c =
    tested_stop (tests_next g.met.D.TreeDisk.laws c.in_ok-drafts.ensures.tests c.in_err-plan.ensures.tests) c.from_residual-in_err-plan.ensures.1 (λ tells why is. absurd (cc is))

pub returns-in_err-plan-clause-owned : goal.returns-in_err-plan-clause-owned
returns-in_err-plan-clause-owned g c =
    let made = c.in_ok-entries.entries.items in
    let es = c.in_ok-records.records.entries in
    let entries = entries_are c.args.old.now c.args.fresh.now es made c.in_ok-entries.ensures.ordered c.in_ok-entries.ensures.entries c.in_ok-entries.ensures.paths c.in_ok-records.ensures in
    disk_told c.args.fresh.now _ c.from_residual-in_err-plan.result c.from_residual-in_err-plan.ensures.1 c.in_err-plan.ensures.stops
    (unshared (to_found c.args.old.now c.args.fresh.now es entries) c.in_ok-entries.ensures.none)

pub returns-in_err-plan-clause-stops : goal.returns-in_err-plan-clause-stops
returns-in_err-plan-clause-stops g c = disk_passed _ c.from_residual-in_err-plan.result c.from_residual-in_err-plan.ensures.1 c.in_err-plan.ensures.stops

pub first_orphan-requires : goal.first_orphan-requires
first_orphan-requires g c tells =
    let tree = g.D.TreeDisk.disk.reads c.args.disk.now in
    let made = c.in_ok-entries.entries.items in
    let es = c.in_ok-records.records.entries in
    let entries = entries_are c.args.old.now c.args.fresh.now es made c.in_ok-entries.ensures.ordered c.in_ok-entries.ensures.entries c.in_ok-entries.ensures.paths c.in_ok-records.ensures in
    let run = tests_next g.met.D.TreeDisk.laws c.in_ok-drafts.ensures.tests c.in_ok-plan.ensures.tests in
    subst (λ t. All (IsSeenPlan t) c.in_ok-plan.plan) (sym (run.same tells).same.reads)
    (all_planned_seen c.args.options.now tree made entries c.in_ok-entries.ensures.entries c.in_ok-drafts.drafts.items c.in_ok-plan.plan (c.in_ok-drafts.ensures.tests.found tells) (tests_value run tells))

pub returns-in_err-orphan-clause-plans : goal.returns-in_err-orphan-clause-plans
returns-in_err-orphan-clause-plans g c =
    let run = tests_next g.met.D.TreeDisk.laws c.in_ok-drafts.ensures.tests c.in_ok-plan.ensures.tests in
    tested_stop (tests_next g.met.D.TreeDisk.laws run c.in_err-orphan.ensures.tests) c.from_residual-in_err-orphan.ensures.1 (λ tells why is. absurd (cc is))

pub returns-in_err-orphan-clause-owned : goal.returns-in_err-orphan-clause-owned
returns-in_err-orphan-clause-owned g c =
    let made = c.in_ok-entries.entries.items in
    let es = c.in_ok-records.records.entries in
    let entries = entries_are c.args.old.now c.args.fresh.now es made c.in_ok-entries.ensures.ordered c.in_ok-entries.ensures.entries c.in_ok-entries.ensures.paths c.in_ok-records.ensures in
    disk_told c.args.fresh.now _ c.from_residual-in_err-orphan.result c.from_residual-in_err-orphan.ensures.1 c.in_err-orphan.ensures.stops
    (unshared (to_found c.args.old.now c.args.fresh.now es entries) c.in_ok-entries.ensures.none)

pub returns-in_err-orphan-clause-stops : goal.returns-in_err-orphan-clause-stops
returns-in_err-orphan-clause-stops g c = disk_passed _ c.from_residual-in_err-orphan.result c.from_residual-in_err-orphan.ensures.1 c.in_err-orphan.ensures.stops

pub returns-in_err-parent_missing-in-Some-clause-plans : goal.returns-in_err-parent_missing-in-Some-clause-plans
returns-in_err-parent_missing-in-Some-clause-plans g c =
    let run = tests_next g.met.D.TreeDisk.laws c.in_ok-drafts.ensures.tests c.in_ok-plan.ensures.tests in
    tested_memory (tests_next g.met.D.TreeDisk.laws run c.in_ok-orphan.ensures.tests) c.from_residual-in_err-parent_missing-in-Some.ensures.1

pub returns-in_err-parent_missing-in-Some-clause-owned : goal.returns-in_err-parent_missing-in-Some-clause-owned
returns-in_err-parent_missing-in-Some-clause-owned g c = memory_told c.args.fresh.now c.from_residual-in_err-parent_missing-in-Some.result c.from_residual-in_err-parent_missing-in-Some.ensures.1

pub returns-in_err-parent_missing-in-Some-clause-stops : goal.returns-in_err-parent_missing-in-Some-clause-stops
returns-in_err-parent_missing-in-Some-clause-stops g c = memory_passed c.from_residual-in_err-parent_missing-in-Some.result c.from_residual-in_err-parent_missing-in-Some.ensures.1

pub returns-in_ok-parent_missing-in-Some-clause-plans : goal.returns-in_ok-parent_missing-in-Some-clause-plans
returns-in_ok-parent_missing-in-Some-clause-plans g c =
    let tree = g.D.TreeDisk.disk.reads c.args.disk.now in
    let made = c.in_ok-entries.entries.items in
    let es = c.in_ok-records.records.entries in
    let entries = entries_are c.args.old.now c.args.fresh.now es made c.in_ok-entries.ensures.ordered c.in_ok-entries.ensures.entries c.in_ok-entries.ensures.paths c.in_ok-records.ensures in
    let free = unshared (to_found c.args.old.now c.args.fresh.now es entries) c.in_ok-entries.ensures.none in
    let settles = tests_next g.met.D.TreeDisk.laws c.in_ok-drafts.ensures.tests c.in_ok-plan.ensures.tests in
    let run = tests_next g.met.D.TreeDisk.laws settles c.in_ok-orphan.ensures.tests in
    tested_refusal _ run refl (λ tells.
    subst (IsFirstRefusal c.args.old.now c.args.fresh.now c.args.options.now tree) (sym c.in_ok-parent_missing-in-Some.ensures)
    (ends_orphan c.args.options.now tree made entries c.in_ok-entries.ensures.entries c.in_ok-drafts.drafts.items c.in_ok-plan.plan c.in-Some.path (g.met.D.TreeDisk.laws.reads_well_formed c.args.disk.now) free
    (c.in_ok-drafts.ensures.tests.found tells) (tests_value settles tells) (sym (tests_value run tells) ∙ c.in-Some.is)))

pub returns-in_ok-parent_missing-in-Some-clause-owned : goal.returns-in_ok-parent_missing-in-Some-clause-owned
returns-in_ok-parent_missing-in-Some-clause-owned g c =
    let made = c.in_ok-entries.entries.items in
    let es = c.in_ok-records.records.entries in
    let entries = entries_are c.args.old.now c.args.fresh.now es made c.in_ok-entries.ensures.ordered c.in_ok-entries.ensures.entries c.in_ok-entries.ensures.paths c.in_ok-records.ensures in
    subst (RefusesShared c.args.fresh.now) (sym c.in_ok-parent_missing-in-Some.ensures) (unshared (to_found c.args.old.now c.args.fresh.now es entries) c.in_ok-entries.ensures.none)

pub returns-in_ok-parent_missing-in-Some-clause-stops : goal.returns-in_ok-parent_missing-in-Some-clause-stops
returns-in_ok-parent_missing-in-Some-clause-stops g c = subst IsPlanRefusal (sym c.in_ok-parent_missing-in-Some.ensures) tt

pub returns-in-None-clause-plans : goal.returns-in-None-clause-plans
returns-in-None-clause-plans g c =
    let tree = g.D.TreeDisk.disk.reads c.args.disk.now in
    let made = c.in_ok-entries.entries.items in
    let es = c.in_ok-records.records.entries in
    let entries = entries_are c.args.old.now c.args.fresh.now es made c.in_ok-entries.ensures.ordered c.in_ok-entries.ensures.entries c.in_ok-entries.ensures.paths c.in_ok-records.ensures in
    let free = unshared (to_found c.args.old.now c.args.fresh.now es entries) c.in_ok-entries.ensures.none in
    let settles = tests_next g.met.D.TreeDisk.laws c.in_ok-drafts.ensures.tests c.in_ok-plan.ensures.tests in
    let run = tests_next g.met.D.TreeDisk.laws settles c.in_ok-orphan.ensures.tests in
    tested_found c.into_list.result run (λ tells.
    subst (Rattle.conflict_plan.specs.Plan.IsPlan c.args.old.now c.args.fresh.now c.args.options.now tree) (sym c.into_list.ensures)
    (ends_plan c.args.options.now tree made entries c.in_ok-entries.ensures.entries c.in_ok-drafts.drafts.items c.in_ok-plan.plan (g.met.D.TreeDisk.laws.reads_well_formed c.args.disk.now) free
    (c.in_ok-drafts.ensures.tests.found tells) (tests_value settles tells) (sym (tests_value run tells) ∙ c.in-None.is)))

pub returns-in-None-clause-owned : goal.returns-in-None-clause-owned
returns-in-None-clause-owned g c =
    let made = c.in_ok-entries.entries.items in
    let es = c.in_ok-records.records.entries in
    let entries = entries_are c.args.old.now c.args.fresh.now es made c.in_ok-entries.ensures.ordered c.in_ok-entries.ensures.entries c.in_ok-entries.ensures.paths c.in_ok-records.ensures in
    unshared (to_found c.args.old.now c.args.fresh.now es entries) c.in_ok-entries.ensures.none

pub returns-in-None-clause-plannable : goal.returns-in-None-clause-plannable
returns-in-None-clause-plannable g c =
    let made = c.in_ok-entries.entries.items in
    let es = c.in_ok-records.records.entries in
    let entries = entries_are c.args.old.now c.args.fresh.now es made c.in_ok-entries.ensures.ordered c.in_ok-entries.ensures.entries c.in_ok-entries.ensures.paths c.in_ok-records.ensures in
    subst (ArePlannable c.args.old.now c.args.fresh.now) (sym c.into_list.ensures)
    (are_plannable c.args.old.now c.args.fresh.now es entries made c.in_ok-drafts.drafts.items c.in_ok-plan.plan c.in_ok-entries.ensures.entries c.in_ok-drafts.ensures.picked c.in_ok-plan.ensures.kept)
