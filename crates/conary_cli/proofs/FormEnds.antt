-- The form of the input decides how a command ends.
use Rattle.std.proofs.Common.{◌≡◌, ℕ, ◌+◌, ◌≤◌, Bool, true, cond, List, length, Result, Ok, Err, refl, sym, ap, ◌∙◌, subst, inl, inr, ⊎_elim, arith}
use Rattle.std.specs.Prelude.{◌⊎◌}
use Rattle.std.proofs.lemmas.Bool.{le-ltb}
use Rattle.root_commands.specs.cli-call.cny-base.declared.options.Options.{Options}
use Rattle.root_commands.specs.cli-call.cny-base.declared.refusal.Refusal.{Refusal}
use Rattle.root_commands.specs.cli-call.cny-base.declared.refusal.Refusal.TheVariants as refusal
use Rattle.root_commands.specs.cli-call.cny-base.declared.refusal.What.TheVariants.{Input}
use Rattle.cny_version.specs.cny-base.Flow.{SinkState}
use Rattle.cny_manifest.specs.declared.made.Made.{Made}
use Rattle.cny_manifest.specs.FirstFault as manifest_fault
use Rattle.cny_manifest.specs.Makes.{Makes}
use Rattle.root_commands.specs.cli-call.tree-disk.Disk.{DiskModel}
use Rattle.root_commands.specs.cli-call.change-set.declared.change.ChangeSet.{ChangeSet}
use Rattle.root_commands.specs.cli-call.change-set.ChangeSet.{IsSetStream}
use Rattle.root_commands.specs.cli-call.cny-laws.Call.{CallState, StopsForRepository}
use Rattle.root_commands.specs.cli-call.system-core.FixedDirs.{fixed_dirs}
use Rattle.root_commands.specs.cli-call.cny-laws.Input.{input_limit, within_limit}
use Rattle.root_commands.specs.cli-call.cny-laws.Reading.{given}
use Rattle.root_commands.specs.cli-call.cny-laws.State.{State, Effect, Meaning, tree_of, Then}
use Rattle.root_commands.specs.cli-call.cny-laws.Report.{End, status_of}
use Rattle.root_commands.specs.cli-call.cny-laws.Store.{RestsAt}
use Rattle.root_commands.specs.cli-call.cny-laws.Stores.{root_store}
use Rattle.root_commands.specs.cli-call.cny-laws.WholeCall.{CallEnds, FromRoots, FromStates, HasEffect, IsCall, Outcome, RestBoth}
use Rattle.root_commands.specs.cli-call.cny-laws.declared.failure.Failure.TheVariants as failure
use Rattle.cli_words.specs.declared.words.Command.{Command}
use Rattle.cli_words.specs.declared.words.Command.TheVariants as command
use Rattle.conary_cli.specs.Commands.{meaning, is_of_root, scope_of}
use Rattle.conary_cli.specs.FormDecides.{HasEnd, DecidesForm, DecidesSet, DecidesUpdate, FormDecides, IsCallAnswered, IsCallAnsweredOnRoot}
use Rattle.root_commands.specs.Install.{first_reserved, InstallsMade, UnlessReserved, install}
use Rattle.root_commands.specs.Update.{UpdatesBy, update_input}
use Rattle.root_commands.specs.cli-call.ManifestInput.{OfManifest}
use Rattle.root_commands.specs.cli-call.SetInput.{OfChangeSet}
use Rattle.repo_commands.specs.ShowChangeSet.{described, IsDescribed, show_change_set}

-- ---- the outcome by the form

within : (input : List ℕ) → length input ≤ input_limit → within_limit input ≡ Ok input
within input le = ap (λ b. cond b (Err (refusal.TooLarge Input (input_limit + 1))) (Ok input)) (le-ltb input_limit (length input) le)

-- where the shared tests pass, the outcome is the command's own
own_outcome : (m : Meaning) (s : State) (input : List ℕ) (o : Result Effect Refusal) → m.takes_input ≡ true → fixed_dirs (tree_of s.root) ≡ Ok tt → length input ≤ input_limit → Outcome m s input o → m.IsOutcome s input o
own_outcome m s input o takes dirs le is =
    let is_given : given m.takes_input input ≡ Ok input = ap (λ (b : Bool). given b input) takes ∙ within input le in
    subst (λ (g : Result (List ℕ) Refusal). Then g (m.IsOutcome s) o) is_given
    (subst (λ (d : Result (Unit {0}) Refusal). Then d (λ _. Then (given m.takes_input input) (m.IsOutcome s)) o) dirs is)

-- ---- how a call ends

-- Bytes are the stream of one change set at most. They make one value at most, and have no first fault then.
pub record InputLaws : Type 0 where
  pub set : (set other : ChangeSet) (bytes : List ℕ) → IsSetStream set bytes → IsSetStream other bytes → set ≡ other
  pub made : (bytes : List ℕ) (a b : Made) → Makes bytes a → Makes bytes b → a ≡ b
  pub excluded : (bytes : List ℕ) (a : Made) (f : Refusal) → Makes bytes a → manifest_fault.IsFirstFault bytes f → ⊥

abbrev Installs : Options → State → Made → Result Effect Refusal → Type 0
Installs options s value = UnlessReserved (first_reserved value.troves) (InstallsMade options value s.root)

installed_as : InputLaws → (options : Options) (Ended : Result Effect Refusal → Type 0) (input : List ℕ) (s : State) (o : Result Effect Refusal) → OfManifest input (Installs options s) o → Ended o → DecidesForm options input s Ended
installed_as laws options Ended input s o (inl makes) ended = record {
  made = λ value is. (o, subst (λ (a : Made). Installs options s a o) (laws.made input makes.made value makes.makes is) makes.is, ended);
  refused = λ none. absurd (none makes.made makes.makes);
}
installed_as laws options Ended input s o (inr faulty) ended = record {
  made = λ value is. absurd (laws.excluded input value faulty.fault is faulty.first);
  refused = λ none. (faulty.fault, faulty.first, subst Ended faulty.is ended);
}

updated_as : InputLaws → (options : Options) (Ended : Result Effect Refusal → Type 0) (input : List ℕ) (s : State) (o : Result Effect Refusal) → OfChangeSet input (λ (set : ChangeSet). UpdatesBy options set s) o → Ended o → DecidesUpdate options input s Ended
updated_as laws options Ended input s o (inl spells) ended = record {
  updated = λ set is. (o, subst (λ (c : ChangeSet). UpdatesBy options c s o) (laws.set spells.set set input spells.spelled is) spells.is, ended);
  refused = λ none. absurd (none spells.set spells.spelled);
}
updated_as laws options Ended input s o (inr faulty) ended = record {
  updated = λ set is. absurd (faulty.none set is);
  refused = λ none. (faulty.fault, faulty.first, subst Ended faulty.is ended);
}

shown_as : InputLaws → (Ended : Result Effect Refusal → Type 0) (input : List ℕ) (o : Result Effect Refusal) → IsDescribed input o → Ended o → DecidesSet input Ended
shown_as laws Ended input (Ok e) is ended = record {
  shown = λ set spelled. subst (λ (x : Effect). Ended (Ok x)) (is.2 ∙ ap described (laws.set is.0 set input is.1 spelled)) ended;
  refused = λ none. absurd (none is.0 is.1);
}
shown_as laws Ended input (Err r) is ended = record {
  shown = λ set spelled. absurd (is.1 set spelled);
  refused = λ none. (r, is.0, ended);
}

module _ {T P : Type 0} (root_disk : DiskModel T) (repo_disk : DiskModel P) (before now : CallState T P) where
  -- an outcome by which the call was done or refused
  answered : (IsOutcome : Result Effect Refusal → Type 0) (s next : State) (end : End) → status_of end ≤ 2 → CallEnds IsOutcome s next before.out now.out end → (HasEffect end → RestBoth root_disk repo_disk now next)
      → HasEnd IsOutcome (λ o. IsCallAnswered root_disk repo_disk s o before now end)
  answered IsOutcome s next (Ok x) small t rests = (Ok t.effect, t.is, record { ended = refl; rests = subst (λ (y : State). RestBoth root_disk repo_disk now y) t.leads (rests tt); out = t.bytes })
  answered IsOutcome s next (Err (failure.Refused r)) small h rests = (Err r, h.0, refl)
  answered IsOutcome s next (Err failure.InputFault) small h rests = absurd (omega (arith, small))
  answered IsOutcome s next (Err failure.OutputFault) small h rests = absurd (omega (arith, small))
  answered IsOutcome s next (Err failure.RootFault) small h rests = absurd (omega (arith, small))
  answered IsOutcome s next (Err failure.RepositoryFault) small h rests = absurd (omega (arith, small))
  answered IsOutcome s next (Err failure.Memory) small h rests = absurd (omega (arith, small))
  answered IsOutcome s next _ small h rests = absurd h

  -- the same of the root alone
  answered_on_root : (IsOutcome : Result Effect Refusal → Type 0) (s next : State) (end : End) → status_of end ≤ 2 → CallEnds IsOutcome s next before.out now.out end → (HasEffect end → RestsAt root_store root_disk now.root next.root) → next.repository ≡ s.repository
      → HasEnd IsOutcome (λ o. IsCallAnsweredOnRoot root_disk repo_disk s o before now end)
  answered_on_root IsOutcome s next (Ok x) small t rests stays = (
    Ok t.effect,
    t.is,
    record {
      ended = refl;
      rests = subst (λ (y : State). RestsAt root_store root_disk now.root y.root) t.leads (rests tt);
      stays = ap (λ (y : State). y.repository) (sym t.leads) ∙ stays;
      out = t.bytes;
    },
  )
  answered_on_root IsOutcome s next (Err (failure.Refused r)) small h rests stays = (Err r, h.0, refl)
  answered_on_root IsOutcome s next (Err failure.InputFault) small h rests stays = absurd (omega (arith, small))
  answered_on_root IsOutcome s next (Err failure.OutputFault) small h rests stays = absurd (omega (arith, small))
  answered_on_root IsOutcome s next (Err failure.RootFault) small h rests stays = absurd (omega (arith, small))
  answered_on_root IsOutcome s next (Err failure.RepositoryFault) small h rests stays = absurd (omega (arith, small))
  answered_on_root IsOutcome s next (Err failure.Memory) small h rests stays = absurd (omega (arith, small))
  answered_on_root IsOutcome s next _ small h rests stays = absurd h

  -- an outcome of the command, by which it ended
  abbrev HasCommandEnd : State → List ℕ → (Result Effect Refusal → Type 0) → Command → Type 0
  HasCommandEnd s input Ended c = HasEnd (Outcome (meaning c) s input) Ended

  as_form : InputLaws → (options : Options) (Ended : Result Effect Refusal → Type 0) (input : List ℕ) (s : State) → HasCommandEnd s input Ended (command.Install options) → fixed_dirs (tree_of s.root) ≡ Ok tt → length input ≤ input_limit → DecidesForm options input s Ended
  as_form laws options Ended input s a dirs le = installed_as laws options Ended input s a.0 (own_outcome (install options) s input a.0 refl dirs le a.1) a.2

  as_set : InputLaws → (Ended : Result Effect Refusal → Type 0) (input : List ℕ) (s : State) → HasCommandEnd s input Ended command.ShowChangeSet → fixed_dirs (tree_of s.root) ≡ Ok tt → length input ≤ input_limit → DecidesSet input Ended
  as_set laws Ended input s a dirs le = shown_as laws Ended input a.0 (own_outcome show_change_set s input a.0 refl dirs le a.1) a.2

  as_update : InputLaws → (options : Options) (Ended : Result Effect Refusal → Type 0) (input : List ℕ) (s : State) → HasCommandEnd s input Ended (command.UpdateByInput options) → fixed_dirs (tree_of s.root) ≡ Ok tt → length input ≤ input_limit → DecidesUpdate options input s Ended
  as_update laws options Ended input s a dirs le = updated_as laws options Ended input s a.0 (own_outcome (update_input options) s input a.0 refl dirs le a.1) a.2

  module _ (c : Command) (err err' : SinkState) (status : ℕ) (call : IsCall root_disk repo_disk (scope_of c) (meaning c) before now err err' status) where
    abbrev Answered : State → Result Effect Refusal → Type 0
    Answered s = λ o. IsCallAnswered root_disk repo_disk s o before now call.end

    abbrev OnRoot : State → Result Effect Refusal → Type 0
    OnRoot s = λ o. IsCallAnsweredOnRoot root_disk repo_disk s o before now call.end

    abbrev Ends : State → Command → Type 0
    Ends s d = HasCommandEnd s call.input (Answered s) d

    abbrev EndsOnRoot : State → Command → Type 0
    EndsOnRoot s d = HasCommandEnd s call.input (OnRoot s) d

    -- from a state to which both disks recover
    ends : status_of call.end ≤ 2 → FromStates root_disk repo_disk before (λ s. Ends s c)
    ends small root repo s recovers = let f = call.from root repo s recovers in answered (Outcome (meaning c) s call.input) s f.next call.end small f.ends f.rests

    -- from a state whose root the root recovers to
    ends_on_root : is_of_root c ≡ true → status_of call.end ≤ 2 → FromRoots root_disk repo_disk before (λ s. StopsForRepository root_disk repo_disk before now call.end ⊎ EndsOnRoot s c)
    ends_on_root is small root s recovers = let f = (call.on_root is).from root s recovers in ⊎_elim
        (λ stops. inl stops)
        (λ how. inr (answered_on_root (Outcome (meaning c) s call.input) s f.next call.end small how f.rests f.stays))
        f.ends

    pub form_decides : InputLaws → FormDecides root_disk repo_disk c call.input before now call.end
    form_decides laws = record {
      manifest = λ options is root repo s recovers dirs le small. as_form laws options (Answered s) call.input s (subst (Ends s) is (ends small root repo s recovers)) dirs le;
      set = λ is root repo s recovers dirs le small. as_set laws (Answered s) call.input s (subst (Ends s) is (ends small root repo s recovers)) dirs le;
      update = λ options is root repo s recovers dirs le small. as_update laws options (Answered s) call.input s (subst (Ends s) is (ends small root repo s recovers)) dirs le;
      manifest_alone = λ options is root s recovers dirs le small. ⊎_elim
          (λ stops. inl stops)
          (λ a. inr (as_form laws options (OnRoot s) call.input s (subst (EndsOnRoot s) is a) dirs le))
          (ends_on_root (ap is_of_root is) small root s recovers);
      set_alone = λ is root s recovers dirs le small. ⊎_elim
          (λ stops. inl stops)
          (λ a. inr (as_set laws (OnRoot s) call.input s (subst (EndsOnRoot s) is a) dirs le))
          (ends_on_root (ap is_of_root is) small root s recovers);
    }
