-- What `sync` leads to, and that it changes nothing from then on.
use Rattle.std.proofs.Common.{◌≡◌, inl, inr, ℕ, false, List, [], Option, Result, Ok, Err, sym, ◌∙◌, subst}
use Rattle.conary_cli.specs.cli-call.cny-base.declared.node.Node.{Node}
use Rattle.conary_cli.specs.cli-call.cny-base.declared.options.Options.{Options}
use Rattle.conary_cli.specs.cli-call.cny-base.declared.refusal.Refusal.{Refusal}
use Rattle.conary_cli.specs.cli-call.cny-base.declared.refusal.What.TheVariants as what
use Rattle.conary_cli.specs.cli-call.trove-stream.declared.parts.TroveParts.{TroveParts}
use Rattle.conary_cli.specs.cli-call.tree-disk.Rows.{bytes_of}
use Rattle.conary_cli.specs.cli-call.Answer.{answer}
use Rattle.conary_cli.specs.cli-call.cny-laws.Reading.{given}
use Rattle.conary_cli.specs.cli-call.cny-laws.State.{after, Effect, State, Then, tree_of}
use Rattle.conary_cli.specs.cli-call.cny-laws.WholeCall.{Outcome, OwnOutcome}
use Rattle.conary_cli.specs.cli-call.system-core.FixedDirs.{fixed_dirs}
use Rattle.conary_cli.specs.cli-call.system-core.Job.{sources_of}
use Rattle.cny_report.specs.Troves.{nothing_changes}
use Rattle.repo_load.specs.State.{troves_of, Commit}
use Rattle.trove_spec.specs.AndThen.{AndThen, Finds}
use Rattle.trove_spec.specs.declared.config.Config.{Config}
use Rattle.trove_spec.specs.RootConfig.{HasConfig, HasConfigIn}
use Rattle.trove_spec.specs.RootFile.{within_limit}
use Rattle.conary_cli.specs.root-commands.sys-model.declared.model.Model.{Model}
use Rattle.conary_cli.specs.root-commands.sys-model.RootModel.{HasModel, HasModelIn}
use Rattle.conary_cli.specs.root-commands.sys-model.Wanted.{Wants}
use Rattle.conary_cli.proofs.root-commands.sys-model.ModelSizes.{file_of}
use Rattle.conary_cli.specs.root-commands.Syncing.{sync, AdoptsList, AdoptsWanted, Syncs, SyncsWith}
use Rattle.conary_cli.specs.root-commands.Update.{answers_of}
use Rattle.conary_cli.proofs.root-commands.JobStays.{list_after, same_list_stays}
use Rattle.outcome_laws.specs.OneOutcome.{HasOneOutcome, IsState}
use Rattle.outcome_laws.specs.RootSteps.{IsSound}
use Rattle.outcome_laws.specs.Syncs.{KeepsModel, WantsList}

-- ---- tests that passed

then_done : {A : Type 0} (test : Result A Refusal) (Is : A → Result Effect Refusal → Type 0) (e : Effect) → Then test Is (Ok e) → (x : A) × Is x (Ok e)
then_done (Ok x) Is e h = (x, h)
then_done (Err r) Is e h = absurd (cc h)

found_done : {A B : Type 0} (Test : Result A Refusal → Type 0) (Rest : A → Result B Refusal → Type 0) (x : B) → AndThen Test Rest (Ok x) → Finds Test Rest (Ok x)
found_done Test Rest x (inl finds) = finds
found_done Test Rest x (inr by) = absurd (cc by.is)

-- the tests that all commands share pass where the fixed directories stand
shared_done : (options : Options) (t : State) (more : List ℕ) (o : Result Effect Refusal) → fixed_dirs (tree_of t.root) ≡ Ok tt → Syncs options t o → Outcome (sync options) t more o
shared_done options t more o fixed own = subst (λ (r : Result (Unit {0}) Refusal). Then r (λ _. OwnOutcome (sync options) t more) o) (sym fixed) own

-- ---- what was done

-- the list that the model wanted, and the job with it after it
record IsSynced (options : Options) (s : State) (e : Effect) : Type 0 where
  list : List TroveParts
  wants : WantsList s list
  job : AdoptsList options list s (Ok e)

synced : (options : Options) (s : State) (input : List ℕ) (e : Effect) → Outcome (sync options) s input (Ok e) → IsSynced options s e
synced options s input e h =
    let fixed = then_done (fixed_dirs (tree_of s.root)) (λ _. OwnOutcome (sync options) s input) e h in
    let read = then_done (given false input) (λ _. Syncs options s) e fixed.1 in
    let config = found_done (HasConfig (tree_of s.root)) (λ (config : Config). SyncsWith options config s) e read.1 in
    let model = found_done (HasModel (tree_of s.root)) (λ (model : Model). AdoptsWanted options config.value model s) e config.rest in
    let made = model.value in
    let list = found_done (Wants (troves_of s.repository.commits) config.value made.lines) (λ (list : List TroveParts). AdoptsList options list s) e model.rest in record {
      list = list.value;
      wants = record { config = config.value; configured = config.found; model = model.value; says = model.found; wants = list.found };
      job = list.rest;
    }

installed_is : (options : Options) (s : State) (e : Effect) (is : IsSynced options s e) → (after s e.change).root.installed ≡ is.list
installed_is options s e is = list_after (sources_of [] (answers_of s.repository.contents) options) is.list s e is.job

-- ---- the laws

pub wants_after : (options : Options) (s : State) (input : List ℕ) (e : Effect) → Outcome (sync options) s input (Ok e) → WantsList s (after s e.change).root.installed
wants_after options s input e h = let is = synced options s input e h in subst (WantsList s) (sym (installed_is options s e is)) is.wants

-- a later state of which the list is installed wants it too
wants_still : (s t : State) (list : List TroveParts) → KeepsModel s t list → WantsList s list → WantsList t list
wants_still s t list kept is =
    let model = is.model in record {
      config = is.config;
      configured = subst (λ (o : Option Node). HasConfigIn (within_limit what.Config (bytes_of o)) (Ok is.config)) (sym kept.config) is.configured;
      model = model;
      says = subst (λ (o : Option Node). HasModelIn (file_of o) (Ok model)) (sym kept.model) is.says;
      wants = subst (λ (commits : List Commit). Wants (troves_of commits) is.config model.lines (Ok list)) (sym kept.commits) is.wants;
    }

-- of a state that wants its installed list nothing changes
stays_done : (options : Options) (t : State) → IsState t → WantsList t t.root.installed → IsSound t.root.installed → Syncs options t (Ok (answer nothing_changes))
stays_done options t state is sound =
    inl (record {
      value = is.config;
      found = is.configured;
      rest =
          inl (record {
            value = is.model;
            found = is.says;
            rest =
                inl (record {
                  value = t.root.installed;
                  found = is.wants;
                  rest =
                      same_list_stays (sources_of [] (answers_of t.repository.contents) options) t.root state.root sound.closed sound.unshared;
                });
          });
    })

pub still : ((options : Options) → HasOneOutcome (sync options)) → (options other : Options) (s t : State) (input more : List ℕ) (e : Effect) (outcome : Result Effect Refusal) → Outcome (sync options) s input (Ok e) → IsState t
    → KeepsModel s t (after s e.change).root.installed → fixed_dirs (tree_of t.root) ≡ Ok tt → Outcome (sync other) t more outcome → outcome ≡ Ok (answer nothing_changes)
still one options other s t input more e outcome h state kept fixed o =
    let is = synced options s input e h in
    let list = installed_is options s e is in
    let same : is.list ≡ t.root.installed = sym list ∙ sym kept.installed in
    let job = is.job in
    let tests = job.passes.2 in
    let plan = tests.plan in
    let sound : IsSound job.list = record { closed = tests.closed; unshared = plan.unshared } in
    let wants = wants_still s t (after s e.change).root.installed kept (wants_after options s input e h) in
    one other t more state outcome (Ok (answer nothing_changes)) o
    (shared_done other t more (Ok (answer nothing_changes)) fixed
    (stays_done other t state (subst (WantsList t) (sym kept.installed) wants) (subst IsSound (job.leads ∙ same) sound)))
