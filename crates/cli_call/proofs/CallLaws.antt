-- A whole call keeps its promise, from what was opened, read, performed, written and reported.
use Rattle.std.proofs.Common.{◌≡◌, ◌+◌, ℕ, Bool, true, false, cond, nat_lt, List, [], length, Some, Ok, Err, IfSome, refl, ap, ◌∙◌, inl, ⊎_elim, arith}
use Rattle.std.specs.Prelude.{◌⊎◌}
use Rattle.std.proofs.lemmas.Bool.{ltb-false}
use Rattle.std.proofs.lemmas.List.{drop_all}
use Rattle.cny_laws.specs.system-core.cny-base.declared.refusal.Refusal.TheVariants.{TooLarge}
use Rattle.cny_laws.specs.system-core.cny-base.declared.refusal.What.TheVariants.{Input}
use Rattle.repo_load.specs.cny-base.Flow.{SinkState}
use Rattle.cny_laws.specs.system-core.tree-disk.Disk.{DiskModel, IsDisk}
use Rattle.cny_laws.specs.system-core.tree-disk.Confined.{Among}
use Rattle.cny_laws.proofs.system-core.tree-disk.ConfinedLaws.{confined_start, leaves_weaker}
use Rattle.cny_laws.specs.system-core.tree-disk.Steps.{no_name}
use Rattle.cny_laws.proofs.system-core.tree-disk.Unfailed.{unfailed_start}
use Rattle.cny_laws.specs.declared.failure.Failure.{Failure}
use Rattle.cny_laws.specs.declared.opened.Opened.{Opened}
use Rattle.cli_call.specs.Command.{disks, AreReady}
use Rattle.cny_laws.specs.Call.{CallState, AreOpened}
use Rattle.cli_call.specs.Runs.{RunsCall}
use Rattle.cli_call.proofs.BlockedEnds.{meets_log}
use Rattle.cli_call.proofs.CallFacts.{call_facts}
use Rattle.cli_call.proofs.CallKnown.{call_known}
use Rattle.cny_laws.specs.Input.{input_limit, within_limit, left_after_reading}
use Rattle.cli_call.proofs.InputLaws.{some_so}
use Rattle.cny_laws.specs.Reading.{ReadsGiven}
use Rattle.cny_laws.specs.Report.{End, Reports}
use Rattle.cny_laws.specs.State.{Meaning, tree_of, Scope}
use Rattle.cli_call.proofs.RootLaws.{reached_dirs}
use Rattle.cny_laws.specs.RootOpening.{ShowsBetween}
use Rattle.cny_laws.specs.Store.{IsStore}
use Rattle.cli_call.proofs.StoreLaws.{as_state, nothing_done, none_yet}
use Rattle.cny_laws.specs.Stores.{root_store, repository_store}
use Rattle.cny_laws.specs.WholeCall.{IsCall}
use Rattle.cny_laws.specs.system-core.cny-base.declared.stop.Stop.TheVariants as stop
use Rattle.cny_laws.specs.declared.failure.Failure.TheVariants as failure

-- what is left of an input within its limit
nothing_left : (input bytes : List ℕ) (b : Bool) → nat_lt input_limit (length input) ≡ b → cond b (Err (TooLarge Input (input_limit + 1))) (Ok input) ≡ Ok bytes → left_after_reading input ≡ []
nothing_left input bytes true is h = absurd (cc h)
nothing_left input bytes false is h = drop_all (input_limit + 1) input (omega (arith, ltb-false input_limit (length input) is))

all_read : (input bytes : List ℕ) → within_limit input ≡ Ok bytes → left_after_reading input ≡ []
all_read input bytes h = nothing_left input bytes (nat_lt input_limit (length input)) refl h

-- ---- the input

module _ {T P : Type 0} (root_disk : DiskModel T) (repo_disk : DiskModel P) (m : Meaning) (before now : CallState T P) where
  unread_call : (scope : Scope) → m.takes_input ≡ false → (end : End) → RunsCall root_disk repo_disk scope m before now end → now.input ≡ before.input
  unread_call scope off end how = ⊎_elim
      (λ stops. stops.unread)
      (λ goes. ⊎_elim (λ stops. (stops.reads.untaken off).0) (λ runs. (runs.reads.untaken off).0) goes.runs)
      how

  read_taken : (bytes : List ℕ) → m.takes_input ≡ true → ReadsGiven m.takes_input before.input now.input (Ok bytes) → IfSome before.input.left (λ input. now.input.left ≡ Some [])
  read_taken bytes on reads = by m.takes_input on reads
    where
      by : (b : Bool) → b ≡ true → ReadsGiven b before.input now.input (Ok bytes) → IfSome before.input.left (λ input. now.input.left ≡ Some [])
      by true is r = some_so before.input.left (λ input h. h.1 ∙ ap Some (all_read input bytes h.0)) (r.taken refl)
      by false is r = absurd (cc is)

  not_ok : (e : Failure) (end : End) → end ≡ Err e → end ≡ Ok tt → ⊥
  not_ok e end is ok = cc (is, ok)

  read_whole : (scope : Scope) → m.takes_input ≡ true → (end : End) → end ≡ Ok tt → RunsCall root_disk repo_disk scope m before now end → IfSome before.input.left (λ input. now.input.left ≡ Some [])
  read_whole scope on end ok how = ⊎_elim
      (λ stops. absurd (not_ok stops.failure end stops.is ok))
      (λ goes. ⊎_elim (λ stops. absurd (not_ok stops.failure end stops.is ok)) (λ runs. read_taken runs.bytes on runs.reads) goes.runs)
      how

-- ---- the whole

-- (with how it ended)
pub whole_call : {T P : Type 0} {root_disk : DiskModel T} {repo_disk : DiskModel P} → IsDisk root_disk → IsDisk repo_disk → IsStore repository_store → (scope : Scope) (m : Meaning) (before now : CallState T P) (err err' : SinkState) (status : ℕ) (end : End)
    → RunsCall root_disk repo_disk scope m before now end → Reports end err err' status → (call : IsCall root_disk repo_disk scope m before now err err' status) × (call.end ≡ end)
whole_call {root_disk = root_disk} {repo_disk = repo_disk} root_laws repo_laws store_laws scope m before now err err' status end runs reports =
    let known = call_known root_laws repo_laws store_laws scope m before now end runs in
    let facts = call_facts root_laws repo_laws before now scope m end runs in (
      record {
        end = end;
        reports = reports;
        input = known.input;
        is_input = known.is;
        unread = λ off. unread_call root_disk repo_disk m before now scope off end runs;
        read_to_end = λ ok on. read_whole root_disk repo_disk m before now scope on end ok runs;
        reaches = known.reaches;
        facts = facts;
        log = meets_log root_disk repo_disk scope m known.input before now end known.reaches facts known.from;
        from = known.from;
        on_root = known.on_root;
        on_repository = known.on_repository;
      },
      refl,
    )

-- Memory ran out before anything was done: the root wasn't opened.
pub memory_call : {T P : Type 0} {root_disk : DiskModel T} {repo_disk : DiskModel P} → IsDisk root_disk → (scope : Scope) (m : Meaning) (before : CallState T P) → RunsCall root_disk repo_disk scope m before before (Err failure.Memory)
memory_call {root_disk = root_disk} root_laws scope m before = inl (record {
  failure = failure.Memory;
  is = refl;
  stops = inl (record {
    stop = stop.Memory;
    is = refl;
    opens = record {
      later = omega arith;
      from = λ told s rec. record {
        images = leaves_weaker (as_state root_disk before.root s rec) (none_yet root_laws root_store.base before.root);
        seen = unfailed_start before.root (ShowsBetween (root_disk.reads before.root) (tree_of s));
        reads = rec;
        outside = λ clear q out. refl;
      };
      opened = λ told. tt;
      kept = λ told none. absurd none;
      missing = λ told r is. nothing_done root_laws before.root;
      untouched = λ told none. confined_start root_laws (Among no_name) before.root;
      rules = tt;
      stops = tt;
    };
    same = refl;
  });
  unread = refl;
  silent = refl;
})

-- On disks that were opened a command may begin.
pub opened_ready : {T P : Type 0} {root_disk : DiskModel T} {repo_disk : DiskModel P} → IsDisk root_disk → (root root' : T) (repo repo' : P) (opened : Opened) → AreOpened root_disk repo_disk root root' repo repo' opened → AreReady root_disk repo_disk (disks root' repo' opened)
opened_ready {root_disk = root_disk} root_laws root root' repo repo' opened opens = record {
  root = λ told. let is = opens.opens_root.opened told in record {
    fixed = reached_dirs (root_disk.reads root) (root_disk.reads root') (root_laws.reads_well_formed root) is.reached ∙ is.fixed;
    flag_clear = is.settled.flag_clear;
    synced = is.settled.synced;
    holds = is.holds;
  };
  database = opens.opens_root.rules;
  repo = λ told. let is = opens.opens.opened told in record { settled = is.settled; catalogue = is.value_is };
  rules = opens.rules;
}
