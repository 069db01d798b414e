-- What `rollback` restores, by how its call ended.
use Rattle.std.proofs.Common.{◌≡◌, ◌≤◌, refl, arith, inl, inr, ⊎_elim, ℕ, Bool, true, false, List, ◌∷◌, ◌++◌, Option, Some, None, Result, Ok, Err, All, Contains, ◌∙◌, ap, subst}
use Rattle.std.specs.FinMap.{get}
use Rattle.root_commands.specs.cli-call.cny-base.declared.refusal.Refusal.{Refusal}
use Rattle.root_commands.specs.cli-call.cny-base.declared.refusal.Refusal.TheVariants.{Edited, NoJob, Parent, StackEmpty}
use Rattle.cny_version.specs.cny-base.Flow.{SinkState}
use Rattle.root_commands.specs.cli-call.tree-disk.Tree.{Tree}
use Rattle.root_commands.specs.cli-call.tree-disk.Disk.{DiskModel}
use Rattle.root_commands.specs.cli-call.local-db.SystemState.{IsStackItem, IsSystemState, StackItem, SystemState, newest}
use Rattle.root_commands.specs.cli-call.local-db.Stores.{StoresSystem}
use Rattle.root_commands.proofs.cli-call.local-db.Several.{rollbacks_system}
use Rattle.root_commands.specs.cli-call.system-core.RestoringAll.{AreRestored, AreUnedited, IsExceptionTo}
use Rattle.root_commands.specs.cli-call.system-core.Several.{HasJob, IsRefusalTo, jobs_below, jobs_to, rolled_back_to}
use Rattle.root_commands.proofs.cli-call.system-core.Counting.{split_at}
use Rattle.root_commands.proofs.cli-call.system-core.OneJob.{has_newest, newest_exception, newest_restored, newest_unedited}
use Rattle.root_commands.proofs.cli-call.system-core.Restored.{left_alone, put_into}
use Rattle.root_commands.proofs.cli-call.system-core.Sequence.{after_list, after_tree, after_whole}
use Rattle.root_commands.specs.cli-call.system-core.FixedDirs.{fixed_dirs}
use Rattle.root_commands.specs.RollingBack.{TakesBackTo, roll_back, take_back}
use Rattle.root_commands.specs.cli-call.Line.{EndsWriting, Moment, RunsLine}
use Rattle.root_commands.specs.cli-call.cny-laws.Call.{CallState}
use Rattle.root_commands.specs.cli-call.cny-laws.Reading.{given}
use Rattle.root_commands.specs.cli-call.cny-laws.State.{on_root, Change, Effect, Meaning, State, Then, after, tree_of}
use Rattle.root_commands.specs.cli-call.cny-laws.Store.{RestsAt}
use Rattle.root_commands.specs.cli-call.cny-laws.Stores.{root_store}
use Rattle.root_commands.specs.cli-call.cny-laws.declared.failure.Failure.TheVariants as failure
use Rattle.root_commands.specs.cli-call.cny-laws.Report.{End, status_of}
use Rattle.root_commands.specs.cli-call.cny-laws.WholeCall.{CallEnds, HasEffect, IsCall, Outcome}
use Rattle.cli_words.specs.declared.words.Command.{Command}
use Rattle.conary_cli.specs.Commands.{is_of_root, meaning, scope_of}
use Rattle.conary_cli.specs.Lines.{shown_as, unshown_outcome}
use Rattle.conary_cli.specs.Restores.{LineRestores, RestoresBy, RestoresNewest, RestoresDownTo, RollbackRestores}
use Rattle.root_commands.specs.cli-call.system-core.Job.{db_of}
use Rattle.cny_version.proofs.cny-base.Lists.{left_all as all_front, all_at as all_middle, nothing_in}
use Rattle.root_commands.proofs.cli-call.system-core.Systems.{managed_so as managed}

-- ---- what a root stores, in either format

is_system : (x : Tree) (s : SystemState) → StoresSystem x s → IsSystemState s
is_system x s (inl one) = one.system
is_system x s (inr two) = two.system

-- ---- all jobs down to a number

module _ (s : SystemState) (system : IsSystemState s) (number : ℕ) where
  pub items_to : All IsStackItem (jobs_to number s.stack)
  items_to = all_front IsStackItem (jobs_to number s.stack) (jobs_below number s.stack) (subst (All IsStackItem) (split_at number s.stack) system.olds)

  all_restored_to : (y : Tree) → StoresSystem y (rolled_back_to number s) → AreRestored (jobs_to number s.stack) s (db_of (rolled_back_to number s)) y
  all_restored_to y stores = record {
    each = λ q out. managed y (rolled_back_to number s) stores q out ∙ after_tree (jobs_to number s.stack) (jobs_below number s.stack) s items_to q;
    list = after_list (jobs_to number s.stack) (jobs_below number s.stack) s;
    whole = λ follow q out. managed y (rolled_back_to number s) stores q out
        ∙ ap (λ (t : Tree). get t q) (after_whole (jobs_to number s.stack) (jobs_below number s.stack) s items_to follow);
  }

  item_of : (newer : List StackItem) (o : StackItem) (olds : List StackItem) → s.stack ≡ newer ++ o ∷ olds → IsStackItem o
  item_of newer o olds stack = all_middle IsStackItem newer o olds (subst (All IsStackItem) stack system.olds)

  module _ (has : HasJob s.stack number) (unedited : AreUnedited s number) where
    pub exception_to : (why : Refusal) → IsRefusalTo s number why → IsExceptionTo s number why
    exception_to StackEmpty is = absurd (nothing_in has.0 (subst (λ (l : List StackItem). Contains l has.0) is has.1))
    exception_to (NoJob n) is = absurd (is.2 has)
    exception_to (Edited path) is = record {
      asked = is.asked;
      newer = is.newer;
      job = is.job;
      olds = is.olds;
      stack_is = is.stack_is;
      down_to = is.down_to;
      can = is.can;
      holds = put_into is.job (item_of is.newer is.job is.olds is.stack_is) _ (unedited is.newer is.job is.olds is.stack_is is.down_to is.can) path is.holds;
    }
    exception_to (Parent path) is = record {
      asked = is.asked;
      newer = is.newer;
      job = is.job;
      olds = is.olds;
      stack_is = is.stack_is;
      down_to = is.down_to;
      can = is.can;
      holds = left_alone is.job (item_of is.newer is.job is.olds is.stack_is) _ (unedited is.newer is.job is.olds is.stack_is is.down_to is.can)
          (rollbacks_system is.newer (is.job ∷ is.olds) s system is.stack_is is.can).0.tree path is.holds;
    }
    exception_to _ is = absurd is

-- ---- how a call ended

-- where the fixed directories stand, the outcome is that of the rollback
own_outcome : (number : Option ℕ) (s : State) (input : List ℕ) (o : Result Effect Refusal) → fixed_dirs (tree_of s.root) ≡ Ok tt → Outcome (roll_back number) s input o → take_back number s.root o
own_outcome number s input o dirs is = subst (λ (d : Result (Unit {0}) Refusal). Then d (λ _. Then (given false input) ((roll_back number).IsOutcome s)) o) dirs is

module _ {T : Type 0} (root_disk : DiskModel T) (now : T) (end : End) where
  module _ (s : State) where
    -- after an effect the root rests at the state after it
    abbrev pub EndedBy : Result Effect Refusal → Type 0
    EndedBy (Ok e) = (end ≡ Ok tt) × RestsAt root_store root_disk now (after s e.change).root
    EndedBy (Err r) = end ≡ Err (failure.Refused r)

    -- an outcome by which it ended
    abbrev pub HasEnd : (Result Effect Refusal → Type 0) → Type 0
    HasEnd IsOutcome = (o : Result Effect Refusal) × IsOutcome o × EndedBy o

    ended_by : (IsOutcome : Result Effect Refusal → Type 0) (next : State) (how : End) (out out' : SinkState) → end ≡ how → status_of how ≤ 2 → CallEnds IsOutcome s next out out' how → (HasEffect how → RestsAt root_store root_disk now next.root) → HasEnd IsOutcome
    ended_by IsOutcome next (Ok x) out out' is small t rests = (Ok t.effect, t.is, (is, subst (λ (y : State). RestsAt root_store root_disk now y.root) t.leads (rests tt)))
    ended_by IsOutcome next (Err (failure.Refused r)) out out' is small h rests = (Err r, h.0, is)
    ended_by IsOutcome next (Err failure.InputFault) out out' is small h rests = absurd (omega (arith, small))
    ended_by IsOutcome next (Err failure.OutputFault) out out' is small h rests = absurd (omega (arith, small))
    ended_by IsOutcome next (Err failure.RootFault) out out' is small h rests = absurd (omega (arith, small))
    ended_by IsOutcome next (Err failure.RepositoryFault) out out' is small h rests = absurd (omega (arith, small))
    ended_by IsOutcome next (Err failure.Memory) out out' is small h rests = absurd (omega (arith, small))
    ended_by IsOutcome next _ out out' is small h rests = absurd h

    -- the same of a command over disks that are open
    pub line_ended_by : (IsOutcome : Result Effect Refusal → Type 0) (next : State) (how : End) (out out' : SinkState) → end ≡ how → status_of how ≤ 2 → EndsWriting IsOutcome s next out out' how → RestsAt root_store root_disk now next.root → HasEnd IsOutcome
    line_ended_by IsOutcome next (Ok x) out out' is small t rests = (Ok t.effect, t.is, (is, subst (λ (y : State). RestsAt root_store root_disk now y.root) t.leads rests))
    line_ended_by IsOutcome next (Err (failure.Refused r)) out out' is small h rests = (Err r, h.0, is)
    line_ended_by IsOutcome next (Err failure.OutputFault) out out' is small h rests = absurd (omega (arith, small))
    line_ended_by IsOutcome next (Err failure.RootFault) out out' is small h rests = absurd (omega (arith, small))
    line_ended_by IsOutcome next (Err failure.RepositoryFault) out out' is small h rests = absurd (omega (arith, small))
    line_ended_by IsOutcome next (Err failure.Memory) out out' is small h rests = absurd (omega (arith, small))
    line_ended_by IsOutcome next _ out out' is small h rests = absurd h

    rests_at : (e : Effect) (t : SystemState) → e.change ≡ on_root t → EndedBy (Ok e) → RestsAt root_store root_disk now t
    rests_at e t is ended = subst (λ (c : Change). RestsAt root_store root_disk now (after s c).root) is ended.1

    module _ (system : IsSystemState s.root) where
      all_ended : (number : ℕ) (o : Result Effect Refusal) → TakesBackTo number s.root o → EndedBy o → RestoresDownTo root_disk number s.root now end
      all_ended number (Ok e) is ended has unedited =
          let rests = rests_at e (rolled_back_to number s.root) is.change ended in
          inl (record { ended = ended.0; next = rolled_back_to number s.root; rests = rests; restored = all_restored_to s.root system number (root_disk.reads now) rests.stored })
      all_ended number (Err r) is ended has unedited = inr (record { refusal = r; is = exception_to s.root system number has unedited r is; ended = ended })

      -- the newest alone
      newest_ended : (o : Result Effect Refusal) → TakesBackTo (newest s.root.stack) s.root o → EndedBy o → RestoresNewest root_disk s.root now end
      newest_ended o is ended job olds stack unedited = ⊎_elim
          (λ done. inl (record { ended = done.ended; next = done.next; rests = done.rests; restored = newest_restored s.root system job olds stack (db_of done.next) (root_disk.reads now) done.restored }))
          (λ met. inr (record { refusal = met.refusal; is = newest_exception s.root system job olds stack met.refusal met.is; ended = met.ended }))
          (all_ended (newest s.root.stack) o is ended (has_newest s.root system job olds stack) (newest_unedited s.root system job olds stack unedited))

      pub restores : (number : Option ℕ) (o : Result Effect Refusal) → take_back number s.root o → EndedBy o → RestoresBy root_disk number s.root now end
      restores None o is ended = newest_ended o is ended
      restores (Some number) o is ended = all_ended number o is ended

    restored_so : IsSystemState s.root → (number : Option ℕ) (input : List ℕ) → HasEnd (Outcome (roll_back number) s input) → fixed_dirs (tree_of s.root) ≡ Ok tt → RestoresBy root_disk number s.root now end
    restored_so system number input a dirs = restores system number a.0 (own_outcome number s input a.0 dirs a.1) a.2

pub rollback_restores : {T P : Type 0} (root_disk : DiskModel T) (repo_disk : DiskModel P) (before now : CallState T P) (err err' : SinkState) (status : ℕ) (c : Command) (call : IsCall root_disk repo_disk (scope_of c) (meaning c) before now err err' status) → RollbackRestores root_disk repo_disk c before now call.end
rollback_restores root_disk repo_disk before now err err' status c call = record {
  restores = λ number is root repo s recovers dirs small.
      let f = call.from root repo s recovers in
      let ended = ended_by root_disk now.root call.end s (Outcome (meaning c) s call.input) f.next call.end before.out now.out refl small f.ends (λ h. (f.rests h).root) in
      restored_so root_disk now.root call.end s (is_system recovers.root.tree s.root recovers.root.stored) number call.input
      (subst (λ (d : Command). HasEnd root_disk now.root call.end s (Outcome (meaning d) s call.input)) is ended) dirs;
  restores_alone = λ number is root s recovers dirs small.
      let f = (call.on_root (ap is_of_root is)).from root s recovers in
      ⊎_elim
      (λ stops. inl stops)
      (λ ends.
      let ended = ended_by root_disk now.root call.end s (Outcome (meaning c) s call.input) f.next call.end before.out now.out refl small ends f.rests in
      inr (restored_so root_disk now.root call.end s (is_system recovers.tree s.root recovers.stored) number call.input
      (subst (λ (d : Command). HasEnd root_disk now.root call.end s (Outcome (meaning d) s call.input)) is ended) dirs))
      f.ends;
}

-- ---- a line

module _ {T : Type 0} (root_disk : DiskModel T) (now : T) (end : End) (s : State) where
  own_end : (own : Result Effect Refusal) → EndedBy root_disk now end s (unshown_outcome own) → EndedBy root_disk now end s own
  own_end (Ok e) h = h
  own_end (Err r) h = h

  -- also of one of which nothing is written
  shown_end : (shown : Bool) (m : Meaning) (input : List ℕ) → HasEnd root_disk now end s ((shown_as shown m).IsOutcome s input) → HasEnd root_disk now end s (m.IsOutcome s input)
  shown_end true m input h = h
  shown_end false m input h = let own = h.1 in (own.0, own.1, own_end own.0 (subst (EndedBy root_disk now end s) own.2 h.2))

pub line_restores : {T P : Type 0} (root_disk : DiskModel T) (repo_disk : DiskModel P) (c : Command) (shown : Bool) (bytes : List ℕ) (old new : Moment T P) (end : End) → RunsLine root_disk repo_disk (scope_of c) (shown_as shown (meaning c)) bytes old new end → LineRestores root_disk c old.at.root new.at.root end
line_restores root_disk repo_disk c shown bytes old new end runs number is told s rests small =
    let f = (runs.alone (ap is_of_root is)).told told s rests in
    let ended = line_ended_by root_disk new.at.root end s ((shown_as shown (meaning c)).IsOutcome s bytes) f.next end old.out new.out refl small f.ends (f.root.rests (omega (arith, small))) in
    let own = subst (λ (d : Command). HasEnd root_disk new.at.root end s ((meaning d).IsOutcome s bytes)) is (shown_end root_disk new.at.root end s shown (meaning c) bytes ended) in
    restores root_disk new.at.root end s (is_system (root_disk.reads old.at.root) s.root rests.stored) number own.0 own.1 own.2
