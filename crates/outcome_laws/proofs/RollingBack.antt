-- The outcome of a rollback of the newest job, at whose paths nothing was edited.
use Rattle.std.proofs.Common.{◌≡◌, ℕ, false, List, ◌∷◌, None, Result, Ok, Err, sym, ap, subst}
use Rattle.std.specs.FinMap.{get}
use Rattle.conary_cli.specs.cli-call.cny-base.declared.refusal.Refusal.{Refusal}
use Rattle.conary_cli.specs.cli-call.tree-disk.Tree.{Tree}
use Rattle.conary_cli.specs.cli-call.local-db.SystemState.{newest, IsSystemState, StackItem, SystemState}
use Rattle.conary_cli.specs.cli-call.cny-laws.Reading.{given}
use Rattle.conary_cli.specs.cli-call.cny-laws.State.{Change, Effect, State, Then, after, tree_of}
use Rattle.conary_cli.specs.cli-call.cny-laws.WholeCall.{Outcome}
use Rattle.conary_cli.specs.cli-call.system-core.FixedDirs.{fixed_dirs}
use Rattle.conary_cli.specs.cli-call.system-core.Job.{db_of}
use Rattle.conary_cli.specs.cli-call.system-core.Restoring.{IsRestored, IsUnedited}
use Rattle.conary_cli.specs.cli-call.system-core.RestoringAll.{AreRestored}
use Rattle.conary_cli.specs.cli-call.system-core.Several.{jobs_below, jobs_to, rolled_back_to}
use Rattle.conary_cli.proofs.cli-call.system-core.OneJob.{has_newest, newest_exception, newest_restored, newest_unedited}
use Rattle.conary_cli.proofs.cli-call.system-core.Sequence.{after_list, after_tree, after_whole}
use Rattle.conary_cli.specs.root-commands.RollingBack.{roll_back, TakesBackTo}
use Rattle.conary_cli.proofs.RestoreEnds.{exception_to, items_to}
use Rattle.outcome_laws.specs.Restoring.{EndsRestored}

module _ (s : SystemState) (system : IsSystemState s) (number : ℕ) where
  all_restored : AreRestored (jobs_to number s.stack) s (db_of (rolled_back_to number s)) (rolled_back_to number s).tree
  all_restored = record {
    each = λ q out. after_tree (jobs_to number s.stack) (jobs_below number s.stack) s (items_to s system number) q;
    list = after_list (jobs_to number s.stack) (jobs_below number s.stack) s;
    whole = λ follow q out. ap (λ (t : Tree). get t q) (after_whole (jobs_to number s.stack) (jobs_below number s.stack) s (items_to s system number) follow);
  }

module _ (s : State) (system : IsSystemState s.root) (o : StackItem) (olds : List StackItem) (stack : s.root.stack ≡ o ∷ olds) (unedited : IsUnedited o s.root.tree) where
  newest_ends : (outcome : Result Effect Refusal) → TakesBackTo (newest s.root.stack) s.root outcome → EndsRestored o s outcome
  newest_ends (Ok e) h = subst (λ (c : Change). IsRestored o s.root.tree (db_of (after s c).root) (after s c).root.tree) (sym h.change)
      (newest_restored s.root system o olds stack (db_of (rolled_back_to (newest s.root.stack) s.root)) (rolled_back_to (newest s.root.stack) s.root).tree (all_restored s.root system (newest s.root.stack)))
  newest_ends (Err why) h = newest_exception s.root system o olds stack why
      (exception_to s.root system (newest s.root.stack) (has_newest s.root system o olds stack) (newest_unedited s.root system o olds stack unedited) why h)

  pub ends_restored : (input : List ℕ) (outcome : Result Effect Refusal) → fixed_dirs (tree_of s.root) ≡ Ok tt → Outcome (roll_back None) s input outcome → EndsRestored o s outcome
  ends_restored input outcome dirs h = newest_ends outcome (subst (λ (d : Result (Unit {0}) Refusal). Then d (λ _. Then (given false input) ((roll_back None).IsOutcome s)) outcome) dirs h)
