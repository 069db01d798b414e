-- What the rollbacks among the events restore that `play` makes.
--
-- An example, by hand. The events are a call of `install`, which makes /etc/motd; an edit of /etc/hosts; a call of `update`, which changes
-- /etc/motd; a stopped call of `rollback`, whose cut is 1; and a call of `rollback`. The steps before the stopped call are the line of
-- `install`, the edit and the line of `update`. The job of `update` is the newest then, and the edit came before it: so the state after the
-- stopped call has the /etc/motd of `install`. Then the job of `install` is the newest again, and the edit isn't at its path: the last call,
-- whose status is 0, takes /etc/motd away and leaves the edit.
use Rattle.std.specs.Prelude.{◌≡◌, ◌⊎◌, ℕ, ◌≤◌, false, List, ◌∷◌, ◌++◌, None, Ok, Err}
use Rattle.conary_cli.specs.cli-call.cny-base.declared.refusal.Refusal.{Refusal}
use Rattle.conary_cli.specs.cli-call.tree-disk.Tree.{Tree}
use Rattle.conary_cli.specs.cli-call.local-db.SystemState.{is_listed, StackItem}
use Rattle.conary_cli.specs.cli-call.system-core.FixedDirs.{fixed_dirs}
use Rattle.conary_cli.specs.cli-call.system-core.Job.{db_of}
use Rattle.conary_cli.specs.cli-call.system-core.Restoring.{IsException, IsRestored}
use Rattle.conary_cli.specs.cli-call.cny-laws.declared.failure.Failure.TheVariants as failure
use Rattle.conary_cli.specs.cli-call.cny-laws.Report.{End}
use Rattle.conary_cli.specs.cli-call.cny-laws.State.{State, tree_of}
use Rattle.conary_cli.specs.cli-words.declared.call_words.Call.TheVariants as call
use Rattle.conary_cli.specs.cli-words.declared.words.Command.TheVariants as command
use Rattle.conary_cli.specs.cli-words.Calls.{AreCall}
use Rattle.conary_cli.specs.cli-words.Words.{AreWords}
use Rattle.outcome_laws.specs.declared.playing.Event.{Event}
use Rattle.outcome_laws.specs.declared.playing.Event.TheVariants as event
use Rattle.outcome_laws.specs.Cuts.{CannotOpen}
use Rattle.outcome_laws.specs.Histories.{Event as HistoryEvent}
use Rattle.outcome_laws.specs.Play.{answered, met, stopped, EventEnd}
use Rattle.outcome_laws.specs.Played.{FoldsOne, FoldsTold, IsHistory}
use Rattle.outcome_laws.specs.Steps.{AreSteps, OfAlterations, Step, StepsTo}

-- ---- the fold, step by step

-- the fold of the events is that of a history, whose steps these are
pub record HasSteps (events : List Event) (ends : List EventEnd) (cuts : List ℕ) (s t : State) : Type 0 where
  pub history : List HistoryEvent
  pub told : IsHistory events ends history
  pub steps : List Step
  pub are : AreSteps history cuts steps
  pub lead : StepsTo steps s t

-- ---- the job

-- THE NEWEST JOB, at whose paths nothing was edited since. Behind the first of the steps it was the newest, and the tree the one that it
-- left, as right behind the line that made it. None of the other steps is an edit at one of its paths, and behind them it is the newest
-- again, as where newer jobs were taken back.
pub record IsUntouched (o : StackItem) (steps : List Step) (s t : State) : Type 0 where
  pub first : List Step
  pub since : List Step
  pub are : steps ≡ first ++ since
  pub made : State
  pub before : StepsTo first s made
  pub olds : List StackItem
  pub stack : made.root.stack ≡ o ∷ olds
  pub tree : made.root.tree ≡ o.after
  pub later : StepsTo since made t
  pub beside : OfAlterations (λ e. is_listed o.paths e.path ≡ false) since
  pub others : List StackItem
  pub again : t.root.stack ≡ o ∷ others

-- ---- its rollback

-- these words are `rollback`, of the newest job
pub record IsRollback (words : List (List ℕ)) : Type 0 where
  pub calls : AreCall words (Ok (call.Single (command.Rollback None)))
  pub are : AreWords words (Ok (command.Rollback None))

-- one of the two exceptions, or a fixed directory isn't one
abbrev pub IsExcepted : StackItem → State → Refusal → Type 0
IsExcepted o s why = IsException o s.root.tree why ⊎ (fixed_dirs (tree_of s.root) ≡ Err why)

-- it has its old nodes and its list again
abbrev pub HasRestored : StackItem → State → State → Type 0
HasRestored o s t = IsRestored o s.root.tree (db_of t.root) t.root.tree

-- A line ended so, and led from the one state to the other: done, it restores what stood before the job; else it is refused.
abbrev pub EndsBack : StackItem → State → State → End → Type 0
EndsBack o s t (Ok x) = HasRestored o s t
EndsBack o s t (Err (failure.Refused why)) = (t ≡ s) × IsExcepted o s why
EndsBack o s t (Err _) = ⊥

-- a fault of a disk or want of memory
abbrev pub IsFault : ℕ → Type 0
IsFault status = (5 ≤ status) × (status ≤ 7)

-- Nothing is changed: it is refused, a fault cut it off, or the root, which read this tree, couldn't be opened.
abbrev pub IsUndone : StackItem → Tree → ℕ → State → Type 0
IsUndone o tree status s = ((status ≡ 1) × (why : Refusal) × IsExcepted o s why) ⊎ (IsFault status ⊎ (CannotOpen tree × (status ≡ 0 → ⊥)))

-- A call that answered this status: it restores what stood before the job, also where a fault cut it off behind that; or nothing is changed.
abbrev pub CallBack : StackItem → Tree → ℕ → State → State → Type 0
CallBack o tree status s t = (HasRestored o s t × ((status ≡ 0) ⊎ IsFault status)) ⊎ ((t ≡ s) × IsUndone o tree status s)

-- so of an event that ended so; of a call into which a crash fell by what it answered, which nobody read
abbrev pub RollsBack : StackItem → EventEnd → State → State → Type 0
RollsBack o (answered tree status out) s t = CallBack o tree status s t
RollsBack o (stopped tree status out) s t = CallBack o tree status s t
RollsBack o (met tree) s t = ⊥

-- the event is a call of `rollback`, or one into which a crash fell
abbrev pub CallsRollback : Event → Type 0
CallsRollback (event.Call l) = IsRollback l.words
CallsRollback (event.Stopped l repo_calls root_calls pick) = IsRollback l.words
CallsRollback (event.Edit path _) = ⊥

-- ---- the whole

-- A ROLLBACK among the events, in their fold: to the state before it the events lead that come before, by their steps. Where the newest job
-- is one at whose paths nothing was edited since, it leads from there to what stood before that job; and so do the events behind it.
pub record RestoresAt (events : List Event) (ends : List EventEnd) (e : Event) (end : EventEnd) (behind : List Event) (later : List EventEnd) (cuts : List ℕ) (r u : State) : Type 0 where
  pub firsts : List ℕ
  pub here : List ℕ
  pub rest : List ℕ
  pub are : cuts ≡ firsts ++ here
  pub s : State
  pub t : State
  pub before : FoldsTold events ends firsts r s
  pub one : FoldsOne e end here rest s t
  pub after : FoldsTold behind later rest t u
  pub stepped : HasSteps events ends firsts r s
  pub restores : (o : StackItem) → IsUntouched o stepped.steps r s → RollsBack o end s t
