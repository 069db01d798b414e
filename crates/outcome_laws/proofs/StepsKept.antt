-- What each step of the root keeps holds after a history.
use Rattle.std.proofs.Common.{◌≡◌, inl, inr, ℕ, zero, suc, Bool, true, false, List, [], ◌∷◌, Result, Ok, Err, refl, sym, subst}
use Rattle.conary_cli.specs.cli-call.cny-base.declared.refusal.Refusal.{Refusal}
use Rattle.conary_cli.specs.cli-call.cny-laws.declared.failure.Failure.{Failure}
use Rattle.conary_cli.specs.cli-call.cny-laws.Edits.{edited, Edit}
use Rattle.conary_cli.specs.cli-call.cny-laws.State.{Effect, RootState, State}
use Rattle.cny_batch.specs.declared.line.Line.{Line}
use Rattle.conary_cli.specs.cli-call.local-db.SystemState.{is_listed, StackItem}
use Rattle.conary_cli.specs.cli-call.system-core.Restoring.{IsUnedited}
use Rattle.conary_cli.specs.cli-words.declared.words.Command.{Command}
use Rattle.conary_cli.specs.cli-words.declared.words.Command.TheVariants as command
use Rattle.conary_cli.specs.Commands.{erasing, meaning}
use Rattle.conary_cli.specs.Lines.{shown_as, unshown_outcome, CallLine}
use Rattle.outcome_laws.specs.OneOutcome.{IsState}
use Rattle.outcome_laws.specs.RootSteps.{HasSoundLists, IsRootStep, StepsRoot}
use Rattle.outcome_laws.specs.Machine.{answer_of, Answer, AnswersBy, AnswersLine}
use Rattle.outcome_laws.specs.Histories.{called, crashed, altered, AfterCall, AfterEdit, AfterLines, Event, Folds, OfEdits}
use Rattle.outcome_laws.specs.Steps.{counts, alters, OfAlterations, Step, StepsTo}
use Rattle.outcome_laws.proofs.OneAnswer.{unshown_own}
use Rattle.outcome_laws.proofs.RootSteps.{ask_steps, commit_steps, cook_steps, erase_steps, install_steps, list_committed_steps, list_installed_steps, list_jobs_steps, local_steps, move_steps, roll_back_steps, send_steps, serve_steps, show_steps, take_steps, sync_steps, update_input_steps, update_specs_steps, verify_fully_steps, verify_steps, EachSteps}
use Rattle.outcome_laws.proofs.SinceJobs.{edit_stands, follows_first, follows_last, follows_on, stands_first, stands_last, stands_on, Follows, Stands}
use Rattle.outcome_laws.proofs.SoundLists.{sound_on}

-- ---- the commands

pub each_steps : (c : Command) → EachSteps (meaning c)
each_steps (command.Install options) = install_steps options
each_steps command.ShowChangeSet = show_steps
each_steps (command.Cook next) = cook_steps next
each_steps command.Commit = commit_steps
each_steps command.Serve = serve_steps
each_steps command.AskMirror = ask_steps
each_steps command.TakeMirror = take_steps
each_steps (command.ListCommitted name) = list_committed_steps name
each_steps (command.Update specs options resolve) = update_specs_steps options resolve specs
each_steps (command.UpdateByInput options) = update_input_steps options
each_steps (command.Sync options) = sync_steps options
each_steps (command.Erase names replace) = erase_steps names (erasing replace)
each_steps (command.Rollback number) = roll_back_steps number
each_steps (command.ListInstalled name) = list_installed_steps name
each_steps (command.Verify true names) = verify_fully_steps names
each_steps (command.Verify false names) = verify_steps names
each_steps command.ListJobs = list_jobs_steps
each_steps (command.LocalChanges name) = local_steps name
each_steps (command.SendChanges from to) = send_steps from to
each_steps (command.Move way label given) = move_steps way label given

-- ---- a line

unshown_step : (s : State) (own : Result Effect Refusal) → StepsRoot s own → StepsRoot s (unshown_outcome own)
unshown_step s (Ok e) h = h
unshown_step s (Err r) h = tt

shown_steps : (shown : Bool) (c : Command) → EachSteps (shown_as shown (meaning c))
shown_steps true c s input o h = each_steps c s input o h
shown_steps false c s input o h =
    let own = unshown_own (meaning c) s input o h in
    subst (StepsRoot s) (sym own.2) (unshown_step s own.0 (each_steps c s input own.0 own.1))

answered_step : (s : State) (o : Result Effect Refusal) → StepsRoot s o → IsRootStep s.root (answer_of s o).next.root
answered_step s (Ok e) h = h
answered_step s (Err r) h = inl refl

step_by : (expected : Result Command Failure) (l : CallLine) (s : State) (a : Answer) → AnswersBy expected l s a → IsRootStep s.root a.next.root
step_by (Ok c) l s a h = subst (λ (x : Answer). IsRootStep s.root x.next.root) (sym h.2) (answered_step s h.0 (shown_steps l.shown c s l.line.input h.0 h.1))
step_by (Err e) l s a h = subst (λ (x : Answer). IsRootStep s.root x.next.root) (sym h) (inl refl)

pub line_step : (l : CallLine) (s : State) (a : Answer) → AnswersLine l s a → IsRootStep s.root a.next.root
line_step l s a h = step_by h.expected l s a h.is

-- ---- histories

module _ (P : RootState → Type 0) (on : (x y : RootState) → P x → IsRootStep x y → P y) where
  lines_on : (count : ℕ) (lines : List CallLine) (s t : State) → P s.root → AfterLines count lines s t → P t.root
  lines_on zero lines s t p h = subst (λ (x : State). P x.root) (sym h) p
  lines_on (suc count) [] s t p h = absurd h
  lines_on (suc count) (l ∷ lines) s t p h = lines_on count lines h.0.next t (on s.root h.0.next.root p (line_step l s h.0 h.1)) h.3

  call_on : (l : Line) (count : ℕ) (s t : State) → P s.root → AfterCall l count s t → P t.root
  call_on l zero s t p h = subst (λ (x : State). P x.root) (sym h) p
  call_on l (suc count) s t p h = lines_on (suc count) h.0 s t p h.2

  module _ (Spared : Edit → Type 0) (edit_on : (e : Edit) (x : RootState) → Spared e → P x → P (edited x e)) where
    altered_on : (e : Edit) (s t : State) → Spared e → P s.root → AfterEdit e s t → P t.root
    altered_on e s t spared p (inl h) = subst (λ (x : State). P x.root) (sym h.1) (edit_on e s.root spared p)
    altered_on e s t spared p (inr h) = subst (λ (x : State). P x.root) (sym h.1) p

    pub folds_on : (events : List Event) (cuts : List ℕ) (s t : State) → OfEdits Spared events → P s.root → Folds events cuts s t → P t.root
    folds_on [] [] s t spared p h = subst (λ (x : State). P x.root) (sym h) p
    folds_on [] (cut ∷ cuts) s t spared p h = absurd h
    folds_on (called l ∷ events) [] s t spared p h = absurd h
    folds_on (called l ∷ events) (cut ∷ cuts) s t spared p h = folds_on events cuts h.0 t spared (call_on l cut s h.0 p h.1) h.2
    folds_on (crashed l ∷ events) [] s t spared p h = absurd h
    folds_on (crashed l ∷ events) (cut ∷ cuts) s t spared p h = folds_on events cuts h.0 t spared (call_on l cut s h.0 p h.1) h.2
    folds_on (altered e ∷ events) cuts s t spared p h = folds_on events cuts h.0 t spared.1 (altered_on e s h.0 spared.0 p h.1) h.2

    pub steps_on : (steps : List Step) (s t : State) → OfAlterations Spared steps → P s.root → StepsTo steps s t → P t.root
    steps_on [] s t spared p h = subst (λ (x : State). P x.root) (sym h) p
    steps_on (counts l ∷ steps) s t spared p h = steps_on steps h.0.next t spared (on s.root h.0.next.root p (line_step l s h.0 h.1)) h.3
    steps_on (alters e ∷ steps) s t spared p h = steps_on steps h.0 t spared.1 (altered_on e s h.0 spared.0 p h.1) h.2

-- ---- lists

any_edits : (events : List Event) → OfEdits (λ _. Unit {0}) events
any_edits [] = tt
any_edits (called l ∷ events) = any_edits events
any_edits (crashed l ∷ events) = any_edits events
any_edits (altered e ∷ events) = (tt, any_edits events)

pub sound_lists : (events : List Event) (cuts : List ℕ) (s t : State) → HasSoundLists s.root → Folds events cuts s t → HasSoundLists t.root
sound_lists events cuts s t sound h = folds_on HasSoundLists sound_on (λ _. Unit {0}) (λ e x any p. record { installed = p.installed; stacked = p.stacked }) events cuts s t (any_edits events) sound h

-- ---- jobs at whose paths nothing was edited

module _ (o : StackItem) (olds rest : List StackItem) (events : List Event) (cuts : List ℕ) (s t : State) (state : IsState s) (stack : s.root.stack ≡ o ∷ olds) (tree : s.root.tree ≡ o.after) (later : t.root.stack ≡ o ∷ rest) (folds : Folds events cuts s t) where
  pub unedited_since : OfEdits (λ e. is_listed o.paths e.path ≡ false) events → IsUnedited o t.root.tree
  unedited_since spared = stands_last o t.root rest later
      (folds_on (Stands o) (stands_on o) (λ e. is_listed o.paths e.path ≡ false) (edit_stands o) events cuts s t spared (stands_first o s.root olds state.root stack tree) folds)

  pub same_since : OfEdits (λ e. ⊥) events → t.root.tree ≡ o.after
  same_since none = follows_last o t.root rest later
      (folds_on (Follows o) (follows_on o) (λ e. ⊥) (λ e x never p. absurd never) events cuts s t none (follows_first o s.root olds state.root stack tree) folds)
