-- A call of a command, from its steps.
use Rattle.std.proofs.Common.{◌≡◌, ◌⊎◌, ℕ, ◌≤◌, Bool, List, Result, Ok, Err, refl, sym, ap, subst, inl, inr, ⊎_elim, arith}
use Rattle.cny_version.specs.cny-base.Flow.{SourceState, SinkState}
use Rattle.root_commands.specs.cli-call.tree-disk.Disk.{DiskModel, IsDisk}
use Rattle.root_commands.specs.cli-call.cny-laws.declared.failure.Failure.{Failure}
use Rattle.root_commands.specs.cli-call.cny-laws.declared.failure.Failure.TheVariants as failure
use Rattle.root_commands.specs.cli-call.cny-laws.Call.{CallState}
use Rattle.root_commands.specs.cli-call.Runs.{RunsOpen}
use Rattle.root_commands.proofs.cli-call.CallLaws.{whole_call}
use Rattle.root_commands.specs.cli-call.Line.{Moment, RunsLine}
use Rattle.root_commands.specs.cli-call.cny-laws.Reading.{ReadsGiven}
use Rattle.root_commands.specs.cli-call.cny-laws.Report.{End, Reports, status_of}
use Rattle.root_commands.specs.cli-call.cny-laws.State.{Meaning, Scope}
use Rattle.root_commands.specs.cli-call.cny-laws.Store.{IsStore}
use Rattle.root_commands.specs.cli-call.cny-laws.Stores.{repository_store}
use Rattle.root_commands.specs.cli-call.cny-laws.WholeCall.{IsNoCall}
use Rattle.cli_words.specs.declared.words.Command.{Command}
use Rattle.conary_cli.specs.Commands.{meaning, scope_of, RunsWords, RunsSome, IsWholeCall, IsSomeCall}
use Rattle.conary_cli.specs.Records.{EndsOpened}
use Rattle.cli_words.specs.Words.{AreWords, OrMemory}
use Rattle.conary_cli.proofs.RestoreEnds.{rollback_restores}

module _ {T P : Type 0} {root_disk : DiskModel T} {repo_disk : DiskModel P} (scope : Scope) (m : Meaning) (takes : Bool) (old new : SourceState) where
  -- the input wasn't read
  pub not_read : (at : Moment T P) (e : Failure) → takes ≡ m.takes_input → ReadsGiven takes old new (Err e) → RunsOpen root_disk repo_disk scope m old new at at (Err e)
  not_read at e is reads = inl (record { failure = e; is = refl; reads = subst (λ (b : Bool). ReadsGiven b old new (Err e)) is reads; same = refl })

  -- it was, and the command was performed
  pub was_read : (from to : Moment T P) (end : End) (bytes given : List ℕ) → bytes ≡ given → takes ≡ m.takes_input → ReadsGiven takes old new (Ok given) → RunsLine root_disk repo_disk scope m bytes from to end → RunsOpen root_disk repo_disk scope m old new from to end
  was_read from to end bytes given same is reads runs = inr (record {
    bytes = bytes;
    reads = subst (λ (b : Bool). ReadsGiven b old new (Ok bytes)) is (subst (λ (l : List ℕ). ReadsGiven takes old new (Ok l)) (sym same) reads);
    runs = runs;
  })

-- the whole
pub whole_words : {T P : Type 0} {root_disk : DiskModel T} {repo_disk : DiskModel P} → IsDisk root_disk → IsDisk repo_disk → IsStore repository_store → (before now : CallState T P) (err err' : SinkState) (status : ℕ) (end : End) (words : Result Command Failure)
    → RunsWords root_disk repo_disk words before now end → Reports end err err' status → IsWholeCall root_disk repo_disk words before now err err' status
whole_words {root_disk = root_disk} {repo_disk = repo_disk} root_laws repo_laws store_laws before now err err' status end (Ok c) runs reports =
    let whole = whole_call root_laws repo_laws store_laws (scope_of c) (meaning c) before now err err' status end runs.0 reports in
    record {
      call = whole.0;
      records = subst (λ (x : End). EndsOpened root_disk repo_disk c before now x) (sym whole.1) runs.1;
      restores = rollback_restores root_disk repo_disk before now err err' status c whole.0;
    }
whole_words root_laws repo_laws store_laws before now err err' status end (Err e) runs reports = record {
  same = runs.0;
  reports = ⊎_elim
      (λ is. inl (subst (λ (x : End). Reports x err err' status) is reports))
      (λ is. inr (subst (λ (x : End). Reports x err err' status) is reports))
      runs.1;
}

-- ---- whatever the words are

-- what isn't for want of memory is so
pub or_memory : {A : Type 0} (IsSo : Result A Failure → Type 0) (e : Failure) → OrMemory IsSo (Err e) → IsSo (Err e) ⊎ (e ≡ failure.Memory)
or_memory IsSo failure.Memory are = inr refl
or_memory IsSo _ are = inl are

-- words that weren't read as a command are none, or memory ran out
pub some_unread : {T P : Type 0} (root_disk : DiskModel T) (repo_disk : DiskModel P) (words : List (List ℕ)) (before : CallState T P) (e : Failure) → OrMemory (AreWords words) (Err e) → RunsSome root_disk repo_disk words before before (Err e)
some_unread root_disk repo_disk words before e are = ⊎_elim (λ is. inl (Err e, is, (refl, inl refl))) (λ memory. inr (refl, ap Err memory)) (or_memory (AreWords words) e are)

-- the words are one of some, or memory ran out before they were read
pub some_called : {T P A : Type 0} (Are Runs Is : A → Type 0) (before now : CallState T P) (err err' : SinkState) (status : ℕ) (end : End) → ((expected : A) → Runs expected → Is expected)
    → ((expected : A) × Are expected × Runs expected) ⊎ ((now ≡ before) × (end ≡ Err failure.Memory)) → Reports end err err' status → ((expected : A) × Are expected × Is expected) ⊎ IsNoCall failure.Memory before now err err' status
some_called Are Runs Is before now err err' status end each (inl some) reports = inl (some.0, some.1, each some.0 some.2)
some_called Are Runs Is before now err err' status end each (inr none) reports = inr (record { same = none.0; reports = inr (subst (λ (x : End). Reports x err err' status) none.1 reports) })

-- ---- statuses

small_status : (e : Failure) → status_of (Err e) ≤ 8
small_status failure.Usage = omega arith
small_status _ = omega arith

pub known_status : (end : End) (err err' : SinkState) (status : ℕ) → Reports end err err' status → status ≤ 8
known_status (Ok x) err err' status h = let is : status ≡ 0 = h.0 in omega (arith, is)
known_status (Err e) err err' status (inl tells) = let is : status ≡ status_of (Err e) = tells.answered in omega (arith, is, small_status e)
known_status (Err e) err err' status (inr want) = let is : status ≡ 7 = want.1.answered in omega (arith, is)

pub whole_status : {T P : Type 0} (root_disk : DiskModel T) (repo_disk : DiskModel P) (words : Result Command Failure) (before now : CallState T P) (err err' : SinkState) (status : ℕ) → IsWholeCall root_disk repo_disk words before now err err' status → status ≤ 8
whole_status root_disk repo_disk (Ok c) before now err err' status is = known_status is.call.end err err' status is.call.reports
whole_status root_disk repo_disk (Err e) before now err err' status is = ⊎_elim (known_status (Err e) err err' status) (known_status (Err failure.Memory) err err' status) is.reports

-- no status is above 8
pub some_status : {T P : Type 0} (root_disk : DiskModel T) (repo_disk : DiskModel P) (words : List (List ℕ)) (before now : CallState T P) (err err' : SinkState) (status : ℕ) → IsSomeCall root_disk repo_disk words before now err err' status → status ≤ 8
some_status root_disk repo_disk words before now err err' status (inl some) = whole_status root_disk repo_disk some.0 before now err err' status some.2
some_status root_disk repo_disk words before now err err' status (inr none) = whole_status root_disk repo_disk (Err failure.Memory) before now err err' status none
