-- How a job changes the root, by a state whose root it stores.
use Rattle.std.proofs.Common.{◌≡◌, ◌≤◌, ℕ, List, Option, Result, Ok, Err, refl, sym, ap, ◌∙◌, inl, inr, arith}
use Rattle.std.specs.Prelude.{◌⊎◌}
use Rattle.std.specs.FinMap.{get}
use Rattle.cli_call.specs.cny-base.declared.refusal.Refusal.{Refusal}
use Rattle.cli_call.specs.cny-base.declared.stop.Stop.{Stop}
use Rattle.cli_call.specs.cny-base.declared.stop.Stop.TheVariants as stop
use Rattle.cli_call.specs.tree-disk.Tree.{Tree}
use Rattle.cli_call.specs.tree-disk.Disk.{DiskModel, IsDisk, HasRead}
use Rattle.cli_call.proofs.tree-disk.ConfinedLaws.{leaves_weaker}
use Rattle.cli_call.proofs.tree-disk.Unfailed.{unfailed_weaker}
use Rattle.cli_call.specs.journal-log.declared.put.Put.{Put}
use Rattle.cli_call.specs.trove-stream.declared.parts.TroveParts.{TroveParts}
use Rattle.local_db.specs.declared.db.Db.{Db}
use Rattle.update_job.specs.declared.comparing.Change.{Change}
use Rattle.update_job.specs.Changes.{AreChanges}
use Rattle.local_db.specs.declared.format.Format.TheVariants.{Two}
use Rattle.local_db.specs.Steps.{after_job, old_of}
use Rattle.cli_call.specs.system-core.RootWriting as writes
use Rattle.cli_call.specs.system-core.Last.{ChangesNeither, PassesLast}
use Rattle.cli_call.specs.system-core.JobWriting as settling
use Rattle.cli_call.specs.system-core.declared.done.Done.{Done}
use Rattle.cli_call.specs.system-core.Job.{PassesTests, Sources, db_of}
use Rattle.cli_call.specs.system-core.Lists.{ListStep}
use Rattle.cli_call.specs.system-core.Steps.{StepEnds, StaysOrChanges, IsStepDone, StopsOnTheWay, changed, reading, unchanged, writing}
use Rattle.cny_report.specs.Jobs.{changes_text}
use Rattle.cli_call.specs.cny-laws.declared.failure.Failure.{Failure}
use Rattle.cli_call.specs.cny-laws.declared.failure.Failure.TheVariants as failure
use Rattle.cli_call.proofs.ChangingRoot.{ChangesRoot, of_either}
use Rattle.cli_call.specs.Command.{AnswersAs, end_of}
use Rattle.cli_call.proofs.CommandLaws.{goes_read, read_shown}
use Rattle.cli_call.specs.cny-laws.Report.{status_of}
use Rattle.cli_call.proofs.RootLaws.{root_laws}
use Rattle.cli_call.specs.cny-laws.State.{nothing, on_root, Effect, RootState, State, Takes}
use Rattle.cli_call.specs.cny-laws.Stops.{root_failure}
use Rattle.cli_call.specs.cny-laws.Store.{RestsAt}
use Rattle.cli_call.proofs.StoreLaws.{settled_rests}
use Rattle.cli_call.specs.cny-laws.Stores.{root_store}
use Rattle.root_commands.specs.JobOutcome.{JobOutcome}
use Rattle.local_db.proofs.cny-base.Lists.{contains_first}
use Rattle.local_db.proofs.Systems.{listed_paths as listed_target}

-- a stop at no damaged content
abbrev pub IsUndamaged : Stop → Type 0
IsUndamaged (stop.FarDamaged path) = ⊥
IsUndamaged _ = Unit {0}

module _ {T : Type 0} {root_disk : DiskModel T} (root_disk_laws : IsDisk root_disk) (root root' : T) (now : Db) (from : Sources) (step : ListStep) (s : State) (rests : RestsAt root_store root_disk root s.root) where
  abbrev IsOutcome : Result Effect Refusal → Type 0
  IsOutcome = JobOutcome from step s.root

  -- it was only read
  still : (f : Result (List ℕ) Failure) → HasRead root_disk root root' (Unit {0}) → AnswersAs IsOutcome s s f → ChangesRoot root_disk IsOutcome s root root' f
  still f read answers = record {
    next = s.root;
    answers = answers;
    goes = goes_read root_laws root_disk_laws root root' s.root (end_of f) read rests;
    outside = λ q out left. ap (λ (t : Tree). get t q) read.same.reads;
    seen = unfailed_weaker (λ t is. inl is) (read_shown root_disk_laws read);
  }

  -- a job that passed its tests
  module _ (list : List TroveParts) (leads : step.leads list) (puts : List Put) (passes : PassesTests from s.root list puts) (changes : List Change) (are : AreChanges s.root.installed list changes) where
    -- neither the tree nor the list changes
    abbrev same_effect : Effect
    same_effect = record { change = nothing; out = changes_text changes }

    same_is : ChangesNeither (db_of s.root) list puts → IsOutcome (Ok same_effect)
    same_is none = record { list = list; leads = leads; puts = puts; passes = passes; changes = changes; are = are; change = inl (none, refl); out = refl }

    module _ (passed : PassesLast (db_of s.root) list puts) where
      abbrev then : RootState
      then = after_job puts list s.root

      abbrev effect : Effect
      effect = record { change = on_root then; out = changes_text changes }

      effect_is : IsOutcome (Ok effect)
      effect_is = record { list = list; leads = leads; puts = puts; passes = passes; changes = changes; are = are; change = inr (passed, refl); out = refl }

      moved : (w : Result (Unit {0}) Stop) (f : Result (List ℕ) Failure) → writes.TakesRoot root_disk Two s.root then puts root root' w → (status_of (end_of f) ≤ 4 → RestsAt root_store root_disk root' then)
          → AnswersAs IsOutcome s (record { root = then; repository = s.repository }) f → ChangesRoot root_disk IsOutcome s root root' f
      moved w f goes rests_then answers = record {
        next = then;
        answers = answers;
        goes = record {
          images = leaves_weaker (of_either s.root then) goes.images;
          rests = rests_then;
          reads = of_either s.root then (root_disk.reads root') goes.reads;
        };
        outside = λ q out left.
            let leaves = left effect effect_is in
            goes.others q out (sym (listed_target puts q) ∙ leaves.added (old_of puts s.root) (contains_first (old_of puts s.root) _) (omega arith));
        seen = unfailed_weaker (λ t shown. inr (effect, effect_is, shown)) goes.shown;
      }

      -- on the way from the one to the other
      cut : (e : Stop) (f : Failure) → (status_of (Err f) ≤ 4 → ⊥) → writes.TakesRoot root_disk Two s.root then puts root root' (Err e)
          → ((next : State) → (next ≡ s) ⊎ Takes IsOutcome s next (λ bytes. Unit {0}) → AnswersAs IsOutcome s next (Err f)) → ChangesRoot root_disk IsOutcome s root root' (Err f)
      cut e f high goes answers = moved (Err e) (Err f) goes (λ le. absurd (high le))
          (answers (record { root = then; repository = s.repository }) (inr (record { effect = effect; is = effect_is; leads = refl; bytes = tt })))

      stands : writes.TakesRoot root_disk Two s.root then puts root root' settling.done → RestsAt root_store root_disk root' then
      stands goes = settled_rests root_laws root' then (record { flag_clear = goes.rests.flag_clear; synced = goes.rests.synced }) (inr goes.rests.stores)

  on_the_way : (e : Stop) (f : Failure) → (status_of (Err f) ≤ 4 → ⊥) → ((next : State) → (next ≡ s) ⊎ Takes IsOutcome s next (λ bytes. Unit {0}) → AnswersAs IsOutcome s next (Err f))
      → StopsOnTheWay root_disk from step s.root root root' e → ChangesRoot root_disk IsOutcome s root root' (Err f)
  on_the_way e f high answers (reading read) = still (Err f) read (answers s (inl refl))
  on_the_way e f high answers (writing list leads puts passes passed changes are goes) = cut list leads puts passes changes are passed e f high goes answers

  pub stopped : (e : Stop) → StepEnds root_disk from step s.root root root' now (Err e) → IsUndamaged e → ChangesRoot root_disk IsOutcome s root root' (Err (root_failure e))
  stopped (stop.Refused why) ends whole = still (Err (failure.Refused why)) (record { answer = tt; same = ends.same; time = ends.time }) (ends.answer, refl)
  stopped stop.Failed ends whole = on_the_way stop.Failed failure.RootFault (λ le. omega (arith, le)) (λ next is. is) ends
  stopped stop.Memory ends whole = on_the_way stop.Memory failure.Memory (λ le. omega (arith, le)) (λ next is. is) ends
  stopped (stop.Damaged path) ends whole = absurd ends
  stopped stop.FarFailed ends whole = still (Err failure.RepositoryFault) ends (inl refl)
  stopped (stop.FarDamaged path) ends whole = absurd whole

  -- it is done, and this was told
  told_by : (list : List TroveParts) → step.leads list → (puts : List Put) → PassesTests from s.root list puts → (changes : List Change) → AreChanges s.root.installed list changes → (number : Option ℕ) (text : List ℕ) → text ≡ changes_text changes
      → StaysOrChanges root_disk s.root list puts root root' now number → ChangesRoot root_disk IsOutcome s root root' (Ok text)
  told_by list leads puts passes changes are number text is (unchanged none read db n) =
      still (Ok text) read (record { effect = same_effect list leads puts passes changes are; is = same_is list leads puts passes changes are none; leads = refl; bytes = sym is })
  told_by list leads puts passes changes are number text is (changed passed goes db n) =
      moved list leads puts passes changes are passed settling.done (Ok text) goes (λ le. stands list leads puts passes changes are passed goes)
      (record { effect = effect list leads puts passes changes are passed; is = effect_is list leads puts passes changes are passed; leads = refl; bytes = sym is })

  -- no memory was left to tell it
  untold_by : (list : List TroveParts) → step.leads list → (puts : List Put) → PassesTests from s.root list puts → (changes : List Change) → AreChanges s.root.installed list changes → (number : Option ℕ)
      → StaysOrChanges root_disk s.root list puts root root' now number → ChangesRoot root_disk IsOutcome s root root' (Err failure.Memory)
  untold_by list leads puts passes changes are number (unchanged none read db n) = still (Err failure.Memory) read (inl refl)
  untold_by list leads puts passes changes are number (changed passed goes db n) =
      moved list leads puts passes changes are passed settling.done (Err failure.Memory) goes (λ le. absurd (omega (arith, le)))
      (inr (record { effect = effect list leads puts passes changes are passed; is = effect_is list leads puts passes changes are passed; leads = refl; bytes = tt }))

  pub told_text : (made : Done) (text : List ℕ) → text ≡ changes_text made.changes → IsStepDone root_disk from step s.root root root' now made → ChangesRoot root_disk IsOutcome s root root' (Ok text)
  told_text made text is d = told_by d.list d.leads d.puts d.passes made.changes d.changes made.number text is d.ends

  pub untold_text : (made : Done) → IsStepDone root_disk from step s.root root root' now made → ChangesRoot root_disk IsOutcome s root root' (Err failure.Memory)
  untold_text made d = untold_by d.list d.leads d.puts d.passes made.changes d.changes made.number d.ends
