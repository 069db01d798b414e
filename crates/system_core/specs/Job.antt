-- What a job with a given list after it makes of a system: its tests in their order.
use Rattle.std.specs.Prelude.{◌≡◌, List, None}
use Rattle.rollback_stack.specs.cny-base.declared.options.Options.{Options}
use Rattle.rollback_stack.specs.cny-base.declared.refusal.Fault.TheVariants as fault
use Rattle.rollback_stack.specs.cny-base.declared.refusal.Refusal.{Refusal}
use Rattle.rollback_stack.specs.change-set.declared.change.Carried.{Carried}
use Rattle.rollback_stack.specs.trove-stream.declared.parts.TroveParts.{TroveParts}
use Rattle.rollback_stack.specs.tree-disk.Tree.{Tree}
use Rattle.rollback_stack.specs.journal-log.declared.put.Put.{Put}
use Rattle.rollback_stack.specs.content-store.Contents.{Answers}
use Rattle.conflict_plan.specs.declared.planned.Planned.{Planned}
use Rattle.conflict_plan.specs.Plan as planning
use Rattle.dep_closure.specs.Closed.{IsClosed, IsUnmetOrMemory}
use Rattle.job_targets.specs.declared.targets.Targets.{Targets}
use Rattle.job_targets.specs.Carrying.{whole_targets}
use Rattle.job_targets.specs.Outcome as outcome
use Rattle.system_core.specs.Last.{IsRefusedLast}
use Rattle.local_db.specs.declared.db.Db.{Db}
use Rattle.local_db.specs.SystemState.{SystemState, newest, oldest}

-- What a job is made from: the contents that come along, what a search of the others answers, and what it may replace.
pub record Sources : Type 1 where
  pub carried : List Carried
  pub answers : Answers
  pub options : Options

abbrev pub sources_of : List Carried → Answers → Options → Sources
sources_of carried answers options = record { carried = carried; answers = answers; options = options }

-- no contents at all
abbrev pub no_answers : Answers
no_answers name found = found ≡ None

-- ---- the tests of the list and of the tree

-- The list after the job is closed, this is the job's plan over the tree, and these are its writes and what stood at its paths.
pub record IsTested (from : Sources) (before list : List TroveParts) (tree : Tree) (made : Targets) : Type 0 where
  pub closed : IsClosed list
  pub planned : List Planned
  pub plan : planning.IsPlan before list from.options tree planned
  pub targets : outcome.AreTargets from.carried from.answers planned tree made

-- the same of targets that may name staged files: of those that they mean
abbrev pub IsTestedWhole : Sources → List TroveParts → List TroveParts → Tree → Targets → Type 0
IsTestedWhole from before list tree made = IsTested from before list tree (whole_targets tree made)

-- The first of these tests that fails: the list isn't closed; there is no plan; or there are no writes of the plan.
pub data IsTestRefusal (from : Sources) (before list : List TroveParts) (tree : Tree) (why : Refusal) : Type 0 where
  unmet : IsUnmetOrMemory list (fault.Refused why) → IsTestRefusal from before list tree why
  unplanned : IsClosed list → planning.IsFirstRefusal before list from.options tree why → IsTestRefusal from before list tree why
  untargeted : IsClosed list → (planned : List Planned) → planning.IsPlan before list from.options tree planned
      → outcome.IsFirstRefusal from.carried from.answers planned tree why → IsTestRefusal from before list tree why

-- ---- all tests, of a system

-- the database of a system
abbrev pub db_of : SystemState → Db
db_of s = record { installed = s.installed; oldest = oldest s.stack; newest = newest s.stack }

-- these are the writes of a job that passed the tests of the list and of the tree
abbrev pub PassesTests : Sources → SystemState → List TroveParts → List Put → Type 0
PassesTests from s list puts = (made : Targets) × (puts ≡ made.puts) × IsTested from s.installed list s.tree made

-- The first test of a job that fails: one of the list or of the tree, and then one of the database after it.
pub data IsJobRefusal (from : Sources) (s : SystemState) (list : List TroveParts) (why : Refusal) : Type 0 where
  untested : IsTestRefusal from s.installed list s.tree why → IsJobRefusal from s list why
  last : (puts : List Put) → PassesTests from s list puts → IsRefusedLast (db_of s) list puts why → IsJobRefusal from s list why
