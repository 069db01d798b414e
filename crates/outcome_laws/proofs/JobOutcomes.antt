-- A job of a system has one outcome: its effect, or the first test that fails.
use Rattle.std.proofs.Common.{◌≡◌, ◌≤◌, inl, inr, ℕ, List, Ok, Err, sym, ap, ◌∙◌, subst, arith}
use Rattle.conary_cli.specs.cli-call.cny-base.declared.limits.TheConstants.{DATABASE_LIMIT}
use Rattle.conary_cli.specs.cli-call.cny-base.declared.options.Options.{Options}
use Rattle.conary_cli.specs.cli-call.cny-base.declared.refusal.Refusal.{Refusal}
use Rattle.conary_cli.specs.cli-call.trove-stream.declared.parts.TroveParts.{TroveParts}
use Rattle.conary_cli.specs.cli-call.tree-disk.Tree.{Tree, WellFormed}
use Rattle.conary_cli.specs.cli-call.journal-log.declared.put.Put.{Put}
use Rattle.conary_cli.specs.cli-call.conflict-plan.declared.planned.Planned.{Planned}
use Rattle.conary_cli.specs.cli-call.conflict-plan.Plan as planning
use Rattle.conary_cli.specs.cli-call.job-targets.declared.targets.Targets.{Targets}
use Rattle.conary_cli.specs.cli-call.job-targets.Outcome.{AreTargets, IsFirstRefusal}
use Rattle.conary_cli.specs.cli-call.local-db.declared.db.Db.{Db}
use Rattle.conary_cli.specs.cli-call.local-db.SystemState.{IsSystemState}
use Rattle.conary_cli.specs.cli-call.system-core.Job.{db_of, unmet, unplanned, untargeted, untested, last, IsJobRefusal, IsTested, IsTestRefusal, PassesTests, Sources}
use Rattle.conary_cli.specs.cli-call.system-core.Last.{database_size, too_large, too_many, IsRefusedLast}
use Rattle.conary_cli.specs.cli-call.system-core.Lists.{ListStep}
use Rattle.conary_cli.specs.cli-call.system-core.Steps.{no_list, no_job, IsRefusal}
use Rattle.conary_cli.specs.cli-call.cny-laws.State.{Change as Step, Effect, RootState}
use Rattle.cny_report.specs.Jobs.{changes_text}
use Rattle.update_job.specs.declared.comparing.Change.{Change}
use Rattle.update_job.specs.Changes.{AreChanges}
use Rattle.conary_cli.specs.root-commands.JobOutcome.{IsChangeBy, IsJobEffect, JobOutcome}
use Rattle.conary_cli.proofs.cli-call.system-core.JobEnding.{passes_size}
use Rattle.outcome_laws.specs.OneOutcome.{AtMostOne}
use Rattle.outcome_laws.proofs.Jobs.{changes_once}
use Rattle.outcome_laws.proofs.Requirements.{never_unmet, unmet_once}
use Rattle.outcome_laws.proofs.Sets.{effect_once}
use Rattle.outcome_laws.proofs.Targets.{targets_once, refusal_once, never_refused}
use Rattle.outcome_laws.proofs.Tests.{done, refused}

-- A job has one plan over a well-formed tree, or one first refusal of it, and never both.
pub record PlanLaws : Type 0 where
  pub plan : (old fresh : List TroveParts) (options : Options) (tree : Tree) (a b : List Planned) → WellFormed tree → planning.IsPlan old fresh options tree a → planning.IsPlan old fresh options tree b → a ≡ b
  pub refusal : (old fresh : List TroveParts) (options : Options) (tree : Tree) (why other : Refusal) → WellFormed tree → planning.IsFirstRefusal old fresh options tree why → planning.IsFirstRefusal old fresh options tree other → why ≡ other
  pub either : (old fresh : List TroveParts) (options : Options) (tree : Tree) (plan : List Planned) (why : Refusal) → WellFormed tree → planning.IsPlan old fresh options tree plan → planning.IsFirstRefusal old fresh options tree why → ⊥

-- One list follows at most, or it is refused for one reason, and never both.
pub record StepLaws (step : ListStep) : Type 0 where
  pub leads : AtMostOne step.leads
  pub refuses : AtMostOne step.refuses
  pub apart : (list : List TroveParts) (why : Refusal) → step.leads list → step.refuses why → ⊥

-- ---- the last tests

last_once : (db : Db) (list : List TroveParts) (puts : List Put) → AtMostOne (IsRefusedLast db list puts)
last_once db list puts p q (too_large big is) (too_large also other) = is ∙ sym other
last_once db list puts p q (too_large big is) (too_many small some full other) = absurd (omega (arith, big, small))
last_once db list puts p q (too_many small some full is) (too_large big other) = absurd (omega (arith, big, small))
last_once db list puts p q (too_many small some full is) (too_many also more again other) = is ∙ sym other

module _ (plans : PlanLaws) (from : Sources) (answers : (name : List ℕ) → AtMostOne (from.answers name)) (s : RootState) (system : IsSystemState s) where
  -- ---- the tests of the list and of the tree

  tested_once : (list : List TroveParts) → AtMostOne (IsTested from s.installed list s.tree)
  tested_once list t u h g =
      let planned : h.planned ≡ g.planned = plans.plan s.installed list from.options s.tree h.planned g.planned system.tree h.plan g.plan in
      targets_once from.carried from.answers answers s.tree g.planned t u (subst (λ (l : List Planned). AreTargets from.carried from.answers l s.tree t) planned h.targets) g.targets

  never_test : (list : List TroveParts) (t : Targets) (why : Refusal) → IsTested from s.installed list s.tree t → IsTestRefusal from s.installed list s.tree why → ⊥
  never_test list t why h (unmet u) = never_unmet list u.0 u.1 h.closed u.2
  never_test list t why h (unplanned closed first) = plans.either s.installed list from.options s.tree h.planned why system.tree h.plan first
  never_test list t why h (untargeted closed planned plan first) =
      let same : h.planned ≡ planned = plans.plan s.installed list from.options s.tree h.planned planned system.tree h.plan plan in
      never_refused from.carried from.answers answers s.tree planned t why (subst (λ (l : List Planned). AreTargets from.carried from.answers l s.tree t) same h.targets) first

  test_once : (list : List TroveParts) → AtMostOne (IsTestRefusal from s.installed list s.tree)
  test_once list p q (unmet u) (unmet v) = unmet_once list p q u v
  test_once list p q (unmet u) (unplanned closed first) = absurd (never_unmet list u.0 u.1 closed u.2)
  test_once list p q (unmet u) (untargeted closed planned plan first) = absurd (never_unmet list u.0 u.1 closed u.2)
  test_once list p q (unplanned closed first) (unmet v) = absurd (never_unmet list v.0 v.1 closed v.2)
  test_once list p q (unplanned closed first) (unplanned also other) = plans.refusal s.installed list from.options s.tree p q system.tree first other
  test_once list p q (unplanned closed first) (untargeted also planned plan other) = absurd (plans.either s.installed list from.options s.tree planned p system.tree plan first)
  test_once list p q (untargeted closed planned plan first) (unmet v) = absurd (never_unmet list v.0 v.1 closed v.2)
  test_once list p q (untargeted closed planned plan first) (unplanned also other) = absurd (plans.either s.installed list from.options s.tree planned q system.tree plan other)
  test_once list p q (untargeted closed planned plan first) (untargeted also others another other) =
      let same : planned ≡ others = plans.plan s.installed list from.options s.tree planned others system.tree plan another in
      refusal_once from.carried from.answers answers s.tree others p q (subst (λ (l : List Planned). IsFirstRefusal from.carried from.answers l s.tree p) same first) other

  passes_once : (list : List TroveParts) → AtMostOne (PassesTests from s list)
  passes_once list a b h g = h.1 ∙ ap (λ (t : Targets). t.puts) (tested_once list h.0 g.0 h.2 g.2) ∙ sym g.1

  -- ---- all tests

  job_refusal_once : (list : List TroveParts) → AtMostOne (IsJobRefusal from s list)
  job_refusal_once list p q (untested h) (untested g) = test_once list p q h g
  job_refusal_once list p q (untested h) (last puts passes g) = absurd (never_test list passes.0 p passes.2 h)
  job_refusal_once list p q (last puts passes h) (untested g) = absurd (never_test list passes.0 q passes.2 g)
  job_refusal_once list p q (last puts passes h) (last others also g) =
      last_once (db_of s) list others p q (subst (λ (l : List Put). IsRefusedLast (db_of s) list l p) (passes_once list puts others passes also) h) g

  -- ---- the effect

  change_once : (list : List TroveParts) (puts : List Put) → AtMostOne (IsChangeBy s list puts)
  change_once list puts a b (inl h) (inl g) = h.1 ∙ sym g.1
  change_once list puts a b (inl h) (inr g) = absurd (g.0.something h.0)
  change_once list puts a b (inr h) (inl g) = absurd (h.0.something g.0)
  change_once list puts a b (inr h) (inr g) = h.1 ∙ sym g.1

  -- a job that changes something, or nothing, isn't refused by the last tests
  never_last : (list : List TroveParts) (puts : List Put) (why : Refusal) (step : Step) → IsChangeBy s list puts step → IsRefusedLast (db_of s) list puts why → ⊥
  never_last list puts why step (inl h) (too_large big is) =
      let small : database_size list ≤ DATABASE_LIMIT = subst (λ (l : List TroveParts). database_size l ≤ DATABASE_LIMIT) (sym h.0.same_list) (passes_size s.installed system.fits) in
      absurd (omega (arith, big, small))
  never_last list puts why step (inl h) (too_many small some full is) = some h.0
  never_last list puts why step (inr h) (too_large big is) = let small = h.0.short in absurd (omega (arith, big, small))
  never_last list puts why step (inr h) (too_many small some full is) = h.0.room full

  never_job : (list : List TroveParts) (puts : List Put) (why : Refusal) (step : Step) → PassesTests from s list puts → IsChangeBy s list puts step → IsJobRefusal from s list why → ⊥
  never_job list puts why step passes h (untested g) = never_test list passes.0 why passes.2 g
  never_job list puts why step passes h (last others also g) =
      never_last list puts why step h (subst (λ (l : List Put). IsRefusedLast (db_of s) list l why) (passes_once list others puts also passes) g)

  -- by one list after the job
  effects_by : (list : List TroveParts) (puts others : List Put) (c d : List Change) (x y : Effect) → PassesTests from s list puts → PassesTests from s list others → AreChanges s.installed list c → AreChanges s.installed list d
      → IsChangeBy s list puts x.change → IsChangeBy s list others y.change → x.out ≡ changes_text c → y.out ≡ changes_text d → x ≡ y
  effects_by list puts others c d x y passes also are again h g out text =
      let same : puts ≡ others = passes_once list puts others passes also in
      effect_once x y
      (change_once list others x.change y.change (subst (λ (l : List Put). IsChangeBy s list l x.change) same h) g)
      (out ∙ ap changes_text (changes_once s.installed list c d are again) ∙ sym text)

  module _ (step : ListStep) (steps : StepLaws step) where
    effects_once : (x y : Effect) → IsJobEffect from step s x → IsJobEffect from step s y → x ≡ y
    effects_once x y h g =
        let same : h.list ≡ g.list = steps.leads h.list g.list h.leads g.leads in
        effects_by g.list h.puts g.puts h.changes g.changes x y
        (subst (λ (l : List TroveParts). PassesTests from s l h.puts) same h.passes) g.passes
        (subst (λ (l : List TroveParts). AreChanges s.installed l h.changes) same h.are) g.are
        (subst (λ (l : List TroveParts). IsChangeBy s l h.puts x.change) same h.change) g.change
        h.out g.out

    never_both : (x : Effect) (why : Refusal) → IsJobEffect from step s x → IsRefusal from step s why → ⊥
    never_both x why h (no_list refuses) = steps.apart h.list why h.leads refuses
    never_both x why h (no_job list leads job) =
        let same : list ≡ h.list = steps.leads list h.list leads h.leads in
        never_job h.list h.puts why x.change h.passes h.change (subst (λ (l : List TroveParts). IsJobRefusal from s l why) same job)

    refusals_once : (p q : Refusal) → IsRefusal from step s p → IsRefusal from step s q → p ≡ q
    refusals_once p q (no_list h) (no_list g) = steps.refuses p q h g
    refusals_once p q (no_list h) (no_job list leads job) = absurd (steps.apart list p leads h)
    refusals_once p q (no_job list leads job) (no_list g) = absurd (steps.apart list q leads g)
    refusals_once p q (no_job list leads job) (no_job other also another) =
        job_refusal_once other p q (subst (λ (l : List TroveParts). IsJobRefusal from s l p) (steps.leads list other leads also) job) another

    pub job_once : AtMostOne (JobOutcome from step s)
    job_once (Ok x) (Ok y) h g = ap done (effects_once x y h g)
    job_once (Ok x) (Err q) h g = absurd (never_both x q h g)
    job_once (Err p) (Ok y) h g = absurd (never_both y p g h)
    job_once (Err p) (Err q) h g = ap refused (refusals_once p q h g)
