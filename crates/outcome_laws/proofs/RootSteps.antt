-- Each command makes one of three steps of the root: none, a job, or its newest jobs are taken back.
use Rattle.std.proofs.Common.{◌≡◌, inl, inr, ℕ, Bool, List, [], ◌∷◌, Option, Some, None, Result, Ok, Err, refl, sym, ap, subst}
use Rattle.conary_cli.specs.cli-call.cny-base.declared.options.Options.{Options}
use Rattle.conary_cli.specs.cli-call.cny-base.declared.refusal.Refusal.{Refusal}
use Rattle.conary_cli.specs.cli-call.cny-base.declared.refusal.Refusal.TheVariants as refusal
use Rattle.conary_cli.specs.cli-call.change-set.declared.change.Carried.{Carried}
use Rattle.conary_cli.specs.cli-call.change-set.declared.change.ChangeSet.{ChangeSet}
use Rattle.conary_cli.specs.cli-call.trove-parts.declared.id.TroveId.{TroveId}
use Rattle.conary_cli.specs.cli-call.trove-stream.declared.parts.TroveParts.{TroveParts}
use Rattle.conary_cli.specs.cli-call.trove-stream.Installed.{trove_of}
use Rattle.conary_cli.specs.cli-call.content-store.Contents.{ContentMap}
use Rattle.conary_cli.specs.cli-call.cny-laws.Reading.{given}
use Rattle.conary_cli.specs.cli-call.cny-laws.State.{nothing, Change, Effect, Meaning, State, Then, after, tree_of}
use Rattle.conary_cli.specs.cli-call.cny-laws.WholeCall.{Outcome}
use Rattle.conary_cli.specs.cli-call.system-core.FixedDirs.{fixed_dirs}
use Rattle.conary_cli.specs.cli-call.system-core.Job.{no_answers, sources_of, Sources}
use Rattle.conary_cli.specs.cli-call.system-core.Lists.{ListStep, to_erased, to_list, to_updated}
use Rattle.conary_cli.specs.cli-call.ManifestInput.{OfManifest}
use Rattle.conary_cli.specs.cli-call.SetInput.{OfChangeSet}
use Rattle.cny_manifest.specs.declared.made.Made.{Made}
use Rattle.cny_version.specs.Label.{LabelParts}
use Rattle.repo_index.specs.Catalogue.{named}
use Rattle.repo_load.specs.State.{troves_of}
use Rattle.repo_shadow.specs.declared.way.Way.{Way}
use Rattle.trove_spec.specs.declared.config.Config.{Config}
use Rattle.trove_spec.specs.declared.given.GivenSpec.{GivenSpec}
use Rattle.trove_spec.specs.AndThen.{AndThen}
use Rattle.trove_spec.specs.Meant.{Expands, ExpandsFrom, Means}
use Rattle.trove_spec.specs.RootConfig.{HasConfig}
use Rattle.conary_cli.specs.root-commands.sys-model.declared.model.Model.{Model}
use Rattle.conary_cli.specs.root-commands.sys-model.RootModel.{HasModel}
use Rattle.conary_cli.specs.root-commands.sys-model.Wanted.{Wants}
use Rattle.conary_cli.specs.repo-commands.AskMirror.{ask_mirror, AnswersAsked}
use Rattle.conary_cli.specs.repo-commands.Commit.{commit, Commits}
use Rattle.conary_cli.specs.repo-commands.Cook.{cook, cooked_set, Cooks, CommitsSet}
use Rattle.conary_cli.specs.repo-commands.Listing as committed
use Rattle.conary_cli.specs.repo-commands.Moving.{move, set_of_troves, IsMoved}
use Rattle.conary_cli.specs.repo-commands.Sending as sending
use Rattle.conary_cli.specs.repo-commands.Serving.{serve, AnswersReplies}
use Rattle.conary_cli.specs.repo-commands.ShowChangeSet.{show_change_set, IsDescribed}
use Rattle.conary_cli.specs.repo-commands.TakeMirror.{take_mirror, OfReply}
use Rattle.conary_cli.specs.root-commands.Erase.{erase}
use Rattle.conary_cli.specs.root-commands.Install.{first_reserved, install, InstallsMade, UnlessReserved}
use Rattle.conary_cli.specs.root-commands.JobOutcome.{IsChangeBy, JobOutcome}
use Rattle.conary_cli.specs.root-commands.Jobs.{list_jobs, ListsJobs}
use Rattle.conary_cli.specs.root-commands.Listing as installed
use Rattle.conary_cli.specs.root-commands.LocalChanges as local
use Rattle.conary_cli.specs.root-commands.RollingBack.{meant_number, roll_back, TakesBackTo}
use Rattle.conary_cli.specs.root-commands.Syncing.{sync, AdoptsList, AdoptsWanted, SyncsWith}
use Rattle.conary_cli.specs.root-commands.Update.{answers_of, update_input, Comes, UpdatesBy, UpdatesTo}
use Rattle.conary_cli.specs.root-commands.UpdateSpecs.{update_specs, BringAll, MeanAll}
use Rattle.conary_cli.specs.root-commands.Verifying.{no_contents, verify_fully, verify_installed, VerifiesWith}
use Rattle.outcome_laws.specs.RootSteps.{StepsRoot}

-- each outcome of a command of this meaning makes such a step
abbrev pub EachSteps : Meaning → Type 0
EachSteps m = (s : State) (input : List ℕ) (o : Result Effect Refusal) → Outcome m s input o → StepsRoot s o

module _ (s : State) where
  -- a refusal makes none
  refused_step : (o : Result Effect Refusal) (r : Refusal) → o ≡ Err r → StepsRoot s o
  refused_step o r is = subst (StepsRoot s) (sym is) tt

  -- nor does an effect that leaves the root
  left_step : (e : Effect) → (after s e.change).root ≡ s.root → StepsRoot s (Ok e)
  left_step e is = inl is

  -- or changes nothing at all
  none_step : (e : Effect) → e.change ≡ nothing → StepsRoot s (Ok e)
  none_step e is = inl (ap (λ (c : Change). (after s c).root) is)

-- ---- tests that come before

module _ (s : State) {A : Type 0} where
  then_step : (test : Result A Refusal) (Is : A → Result Effect Refusal → Type 0) → ((x : A) (o : Result Effect Refusal) → Is x o → StepsRoot s o) → (o : Result Effect Refusal) → Then test Is o → StepsRoot s o
  then_step (Ok x) Is each o h = each x o h
  then_step (Err r) Is each o h = refused_step s o r h

  and_then_step : (Test : Result A Refusal → Type 0) (Rest : A → Result Effect Refusal → Type 0) → ((x : A) (o : Result Effect Refusal) → Rest x o → StepsRoot s o) → (o : Result Effect Refusal) → AndThen Test Rest o → StepsRoot s o
  and_then_step Test Rest each o (inl finds) = each finds.value o finds.rest
  and_then_step Test Rest each o (inr by) = refused_step s o by.refusal by.is

shared_step : (m : Meaning) → ((s : State) (bytes : List ℕ) (o : Result Effect Refusal) → m.IsOutcome s bytes o → StepsRoot s o) → EachSteps m
shared_step m each s input o h = then_step s (fixed_dirs (tree_of s.root)) (λ _. Then (given m.takes_input input) (m.IsOutcome s))
    (λ _. then_step s (given m.takes_input input) (m.IsOutcome s) (each s)) o h

module _ (s : State) (bytes : List ℕ) where
  set_step : (Is : ChangeSet → Result Effect Refusal → Type 0) → ((set : ChangeSet) (o : Result Effect Refusal) → Is set o → StepsRoot s o) → (o : Result Effect Refusal) → OfChangeSet bytes Is o → StepsRoot s o
  set_step Is each o (inl has) = each has.set o has.is
  set_step Is each o (inr none) = refused_step s o none.fault none.is

  reply_step : (Is : ChangeSet → Result Effect Refusal → Type 0) → ((set : ChangeSet) (o : Result Effect Refusal) → Is set o → StepsRoot s o) → (o : Result Effect Refusal) → OfReply bytes Is o → StepsRoot s o
  reply_step Is each o (inl has) = each has.set o has.is
  reply_step Is each o (inr none) = refused_step s o (refusal.Malformed none.place) none.is

  manifest_step : (Is : Made → Result Effect Refusal → Type 0) → ((made : Made) (o : Result Effect Refusal) → Is made o → StepsRoot s o) → (o : Result Effect Refusal) → OfManifest bytes Is o → StepsRoot s o
  manifest_step Is each o (inl has) = each has.made o has.is
  manifest_step Is each o (inr none) = refused_step s o none.fault none.is

-- ---- jobs

module _ (s : State) where
  job_step : (from : Sources) (step : ListStep) (o : Result Effect Refusal) → JobOutcome from step s.root o → StepsRoot s o
  job_step from step (Err r) h = tt
  job_step from step (Ok e) h = by h.change
    where
      by : IsChangeBy s.root h.list h.puts e.change → StepsRoot s (Ok e)
      by (inl same) = none_step s e same.1
      by (inr job) = inr (inl (record {
        list = h.list;
        puts = h.puts;
        sound = record { closed = h.passes.2.closed; unshared = h.passes.2.plan.unshared };
        is = ap (λ (c : Change). (after s c).root) job.1;
      }))

  back_step : (number : ℕ) (o : Result Effect Refusal) → TakesBackTo number s.root o → StepsRoot s o
  back_step number (Ok e) h = inr (inr (record { number = number; can = h.can; is = ap (λ (c : Change). (after s c).root) h.change }))
  back_step number (Err r) h = tt

  unreserved_step : (path : Option (List ℕ)) (Is : Result Effect Refusal → Type 0) → ((o : Result Effect Refusal) → Is o → StepsRoot s o) → (o : Result Effect Refusal) → UnlessReserved path Is o → StepsRoot s o
  unreserved_step None Is each o h = each o h
  unreserved_step (Some path) Is each o h = refused_step s o (refusal.Reserved path) h

  update_step : (options : Options) (carried : List Carried) (troves : List TroveParts) (o : Result Effect Refusal) → UpdatesTo options carried troves s o → StepsRoot s o
  update_step options carried troves o h = job_step (sources_of carried (answers_of s.repository.contents) options) (to_updated s.root.installed troves) o h

  commit_step : (set : ChangeSet) (o : Result Effect Refusal) → Commits set s.repository o → StepsRoot s o
  commit_step set (Ok e) h = left_step s e (ap (λ (x : Effect). (after s x.change).root) h.is)
  commit_step set (Err r) h = tt

  commit_set_step : (set : Result ChangeSet Refusal) (o : Result Effect Refusal) → CommitsSet s.repository set o → StepsRoot s o
  commit_set_step (Ok set) o h = commit_step set o h
  commit_set_step (Err r) o h = refused_step s o r h

pub erase_steps : (names : List (List ℕ)) (options : Options) → EachSteps (erase names options)
erase_steps names options = shared_step (erase names options) (λ s bytes o h. job_step s (sources_of [] no_answers options) (to_erased s.root.installed names) o h)

pub install_steps : (options : Options) → EachSteps (install options)
install_steps options = shared_step (install options) (λ s bytes o h.
    manifest_step s bytes (λ made. UnlessReserved (first_reserved made.troves) (InstallsMade options made s.root))
    (λ made p g. unreserved_step s (first_reserved made.troves) (InstallsMade options made s.root)
    (λ q i. job_step s (sources_of made.contents no_answers options) (to_updated s.root.installed made.troves) q i) p g) o h)

pub update_input_steps : (options : Options) → EachSteps (update_input options)
update_input_steps options = shared_step (update_input options) (λ s bytes o h.
    set_step s bytes (λ (set : ChangeSet). UpdatesBy options set s)
    (λ set p g. and_then_step s (Comes s.root.installed set.parts) (λ (troves : List TroveParts). UpdatesTo options set.contents troves s)
    (λ troves q i. update_step s options set.contents troves q i) p g) o h)

pub update_specs_steps : (options : Options) (resolve : Bool) (givens : List GivenSpec) → EachSteps (update_specs options resolve givens)
update_specs_steps options resolve givens = shared_step (update_specs options resolve givens) (λ s bytes o h.
    and_then_step s (HasConfig (tree_of s.root))
    (λ (config : Config). AndThen (MeanAll (troves_of s.repository.commits) config givens) (λ (ids : List TroveId). AndThen (BringAll resolve (troves_of s.repository.commits) s.root.installed config ids) (λ (troves : List TroveParts). UpdatesTo options [] troves s)))
    (λ config p g. and_then_step s (MeanAll (troves_of s.repository.commits) config givens)
    (λ (ids : List TroveId). AndThen (BringAll resolve (troves_of s.repository.commits) s.root.installed config ids) (λ (troves : List TroveParts). UpdatesTo options [] troves s))
    (λ ids q i. and_then_step s (BringAll resolve (troves_of s.repository.commits) s.root.installed config ids) (λ (troves : List TroveParts). UpdatesTo options [] troves s)
    (λ troves t j. update_step s options [] troves t j) q i) p g) o h)

pub sync_steps : (options : Options) → EachSteps (sync options)
sync_steps options = shared_step (sync options) (λ s bytes o h.
    and_then_step s (HasConfig (tree_of s.root)) (λ (config : Config). SyncsWith options config s)
    (λ config p g. and_then_step s (HasModel (tree_of s.root)) (λ (model : Model). AdoptsWanted options config model s)
    (λ model q i. and_then_step s (Wants (troves_of s.repository.commits) config model.lines) (λ (list : List TroveParts). AdoptsList options list s)
    (λ list t j. job_step s (sources_of [] (answers_of s.repository.contents) options) (to_list list) t j) q i) p g) o h)

pub roll_back_steps : (number : Option ℕ) → EachSteps (roll_back number)
roll_back_steps number = shared_step (roll_back number) (λ s bytes o h. back_step s (meant_number number s.root) o h)

-- ---- commits

pub commit_steps : EachSteps commit
commit_steps = shared_step commit (λ s bytes o h. set_step s bytes (λ (set : ChangeSet). Commits set s.repository) (commit_step s) o h)

pub take_steps : EachSteps take_mirror
take_steps = shared_step take_mirror (λ s bytes o h. reply_step s bytes (λ (set : ChangeSet). Commits set s.repository) (commit_step s) o h)

pub cook_steps : (next : Bool) → EachSteps (cook next)
cook_steps next = shared_step (cook next) (λ s bytes o h. manifest_step s bytes (Cooks next s.repository)
    (λ made p g. commit_set_step s (cooked_set next (troves_of s.repository.commits) made) p g) o h)

pub move_steps : (way : Way) (label : LabelParts) (given : GivenSpec) → EachSteps (move way label given)
move_steps way label given = shared_step (move way label given) (λ s bytes o h.
    and_then_step s (HasConfig (tree_of s.root))
    (λ (config : Config). AndThen (Means (troves_of s.repository.commits) config given) (λ (root : TroveId). AndThen (IsMoved way label (troves_of s.repository.commits) root) (λ (made : List TroveParts). Commits (set_of_troves made) s.repository)))
    (λ config p g. and_then_step s (Means (troves_of s.repository.commits) config given)
    (λ (root : TroveId). AndThen (IsMoved way label (troves_of s.repository.commits) root) (λ (made : List TroveParts). Commits (set_of_troves made) s.repository))
    (λ root q i. and_then_step s (IsMoved way label (troves_of s.repository.commits) root) (λ (made : List TroveParts). Commits (set_of_troves made) s.repository)
    (λ made t j. commit_step s (set_of_troves made) t j) q i) p g) o h)

-- ---- commands that change nothing

module _ (s : State) where
  listed_step : (name : Option (List ℕ)) (troves : List TroveParts) (o : Result Effect Refusal) → o ≡ installed.listed name troves → StepsRoot s o
  listed_step name troves o is = subst (StepsRoot s) (sym is) (by name)
    where
      described : (n : List ℕ) (found : Option TroveParts) → StepsRoot s (installed.described_of n found)
      described n None = tt
      described n (Some t) = inl refl

      by : (name : Option (List ℕ)) → StepsRoot s (installed.listed name troves)
      by None = inl refl
      by (Some n) = described n (trove_of n troves)

  committed_step : (name : Option (List ℕ)) (troves : List TroveParts) (o : Result Effect Refusal) → o ≡ committed.listed name troves → StepsRoot s o
  committed_step name troves o is = subst (StepsRoot s) (sym is) (by name)
    where
      told : (n : List ℕ) (found : List TroveParts) → StepsRoot s (committed.listed_of n found)
      told n [] = tt
      told n (t ∷ found) = inl refl

      by : (name : Option (List ℕ)) → StepsRoot s (committed.listed name troves)
      by None = inl refl
      by (Some n) = told n (named n troves)

  verified_step : (contents : ContentMap) (names : List (List ℕ)) (o : Result Effect Refusal) → VerifiesWith contents names s.root o → StepsRoot s o
  verified_step contents names (Ok e) h = left_step s e (ap (λ (x : Effect). (after s x.change).root) h.1)
  verified_step contents names (Err r) h = tt

  set_of_step : (name : List ℕ) (o : Result Effect Refusal) → local.IsSetOf name s.root o → StepsRoot s o
  set_of_step name (Ok e) h = none_step s e h.answered.0
  set_of_step name (Err r) h = tt

  local_step : (name : List ℕ) (o : Result Effect Refusal) → local.ChangesLocally name s.root o → StepsRoot s o
  local_step name (Ok e) h = set_of_step name (Ok e) h
  local_step name (Err r) h = tt

  shown_step : (bytes : List ℕ) (o : Result Effect Refusal) → IsDescribed bytes o → StepsRoot s o
  shown_step bytes (Ok e) h = left_step s e (ap (λ (x : Effect). (after s x.change).root) h.2)
  shown_step bytes (Err r) h = tt

  replied_step : (bytes : List ℕ) (o : Result Effect Refusal) → AnswersReplies s.repository bytes o → StepsRoot s o
  replied_step bytes (Ok e) h = left_step s e (ap (λ (x : Effect). (after s x.change).root) h.2)
  replied_step bytes (Err r) h = tt

  asked_step : (troves : List TroveParts) (o : Result Effect Refusal) → AnswersAsked troves o → StepsRoot s o
  asked_step troves (Ok e) h = left_step s e (ap (λ (x : Effect). (after s x.change).root) h.2)
  asked_step troves (Err r) h = tt

  told_step : (o : Result Effect Refusal) → ListsJobs s.root o → StepsRoot s o
  told_step (Ok e) h = left_step s e (ap (λ (x : Effect). (after s x.change).root) h.effect_is)
  told_step (Err r) h = tt

  sent_step : (old fresh : List TroveParts) (o : Result Effect Refusal) → sending.IsSent s.repository old fresh o → StepsRoot s o
  sent_step old fresh (Ok e) h = none_step s e h.answered.0
  sent_step old fresh (Err r) h = tt

pub list_committed_steps : (name : Option (List ℕ)) → EachSteps (committed.list_committed name)
list_committed_steps name = shared_step (committed.list_committed name) (λ s bytes o h. committed_step s name (troves_of s.repository.commits) o h)

pub list_installed_steps : (name : Option (List ℕ)) → EachSteps (installed.list_installed name)
list_installed_steps name = shared_step (installed.list_installed name) (λ s bytes o h. listed_step s name s.root.installed o h)

pub list_jobs_steps : EachSteps list_jobs
list_jobs_steps = shared_step list_jobs (λ s bytes o h. told_step s o h)

pub verify_steps : (names : List (List ℕ)) → EachSteps (verify_installed names)
verify_steps names = shared_step (verify_installed names) (λ s bytes o h. verified_step s no_contents names o h)

pub verify_fully_steps : (names : List (List ℕ)) → EachSteps (verify_fully names)
verify_fully_steps names = shared_step (verify_fully names) (λ s bytes o h. verified_step s s.repository.contents names o h)

pub local_steps : (name : List ℕ) → EachSteps (local.change_locally name)
local_steps name = shared_step (local.change_locally name) (λ s bytes o h. local_step s name o h)

pub show_steps : EachSteps show_change_set
show_steps = shared_step show_change_set (λ s bytes o h. shown_step s bytes o h)

pub serve_steps : EachSteps serve
serve_steps = shared_step serve (λ s bytes o h. replied_step s bytes o h)

pub ask_steps : EachSteps ask_mirror
ask_steps = shared_step ask_mirror (λ s bytes o h. asked_step s (troves_of s.repository.commits) o h)

pub send_steps : (from : Option GivenSpec) (to : GivenSpec) → EachSteps (sending.changeset from to)
send_steps from to = shared_step (sending.changeset from to) (λ s bytes o h.
    and_then_step s (HasConfig (tree_of s.root))
    (λ (config : Config). AndThen (ExpandsFrom (troves_of s.repository.commits) config from) (λ (old : List TroveParts).
    AndThen (Expands (troves_of s.repository.commits) config to) (λ (fresh : List TroveParts). sending.IsSent s.repository old fresh)))
    (λ config p g. and_then_step s (ExpandsFrom (troves_of s.repository.commits) config from)
    (λ (old : List TroveParts). AndThen (Expands (troves_of s.repository.commits) config to) (λ (fresh : List TroveParts). sending.IsSent s.repository old fresh))
    (λ old q i. and_then_step s (Expands (troves_of s.repository.commits) config to) (λ (fresh : List TroveParts). sending.IsSent s.repository old fresh)
    (λ fresh t j. sent_step s old fresh t j) q i) p g) o h)
