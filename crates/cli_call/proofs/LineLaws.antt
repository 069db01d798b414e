-- A command with what it writes, from what its own function did and from what was written.
use Rattle.std.proofs.Common.{◌≡◌, ◌≤◌, ℕ, List, Option, Some, None, Result, Ok, Err, refl, sym, ap, subst, inr, arith}
use Rattle.std.specs.Io.KnownBytes.{Appends, Keeps}
use Rattle.cny_laws.specs.system-core.cny-base.declared.refusal.Refusal.{Refusal}
use Rattle.repo_load.specs.cny-base.Flow.{SinkState, AppendsPart}
use Rattle.cny_laws.specs.system-core.tree-disk.Disk.{DiskModel}
use Rattle.cny_laws.specs.system-core.tree-disk.Tree.{Name}
use Rattle.cny_laws.specs.declared.failure.Failure.{Failure}
use Rattle.cny_laws.specs.declared.failure.Failure.TheVariants as failure
use Rattle.cli_call.specs.Alone.{AnswersOpened, PerformsWithin}
use Rattle.cli_call.specs.Command.{Disks, HasFailureCause, Goes, AnswersAs, end_of}
use Rattle.cny_laws.specs.Report.{ChangesNothing, End, status_of}
use Rattle.cli_call.specs.Line.{Moment, WritesAnswer, EndsWriting, LineByOpened, LineCause, RunsLine}
use Rattle.cny_laws.specs.State.{Scope, State, Effect, Meaning, Takes}
use Rattle.cny_laws.specs.Store.{Store}

pub keeps_same : (a : Option (List ℕ)) → Keeps a a
keeps_same None = tt
keeps_same (Some x) = refl

pub keeps_still : (before now : SinkState) → now ≡ before → Keeps before.written now.written
keeps_still before now same = subst (λ (o : SinkState). Keeps before.written o.written) (sym same) (keeps_same before.written)

pub takes_so : {IsOutcome : Result Effect Refusal → Type 0} {s next : State} {P Q : List ℕ → Type 0} → ((bytes : List ℕ) → P bytes → Q bytes) → Takes IsOutcome s next P → Takes IsOutcome s next Q
takes_so f t = record { effect = t.effect; is = t.is; leads = t.leads; bytes = f t.effect.out t.bytes }

goes_on : {D X : Type 0} {store : Store X} {disk : DiskModel D} {x y : X} {old new : D} (first then : End) → (status_of then ≤ 4 → status_of first ≤ 4) → Goes store disk x y old new first → Goes store disk x y old new then
goes_on first then fewer goes = record { images = goes.images; rests = λ le. goes.rests (fewer le); reads = goes.reads }

abbrev with_out : {T P : Type 0} → Disks T P → SinkState → Moment T P
with_out d out = record { at = d; out = out }

-- what an error of a command is as the end of a line
error_ends : (IsOutcome : Result Effect Refusal → Type 0) (s next : State) (before now : SinkState) (e : Failure) → Keeps before.written now.written → AnswersAs IsOutcome s next (Err e) → EndsWriting IsOutcome s next before now (Err e)
error_ends IsOutcome s next before now (failure.Refused r) keeps h = (h.0, h.1, keeps)
error_ends IsOutcome s next before now failure.RootFault keeps h = (h, keeps)
error_ends IsOutcome s next before now failure.RepositoryFault keeps h = (h, keeps)
error_ends IsOutcome s next before now failure.Memory keeps h = (h, keeps)
error_ends IsOutcome s next before now _ keeps h = absurd h

error_cause : {T P : Type 0} (root_disk : DiskModel T) (repo_disk : DiskModel P) (old new : Disks T P) (before now : SinkState) (e : Failure) → Keeps before.written now.written → HasFailureCause root_disk repo_disk old new (Err e) → LineCause root_disk repo_disk (with_out old before) (with_out new now) (Err e)
error_cause root_disk repo_disk old new before now (failure.Refused r) keeps h = keeps
error_cause root_disk repo_disk old new before now failure.Memory keeps h = keeps
error_cause root_disk repo_disk old new before now (failure.Damaged path) keeps h = (h, keeps)
error_cause root_disk repo_disk old new before now failure.RootFault keeps h = (h, keeps)
error_cause root_disk repo_disk old new before now failure.RepositoryFault keeps h = (h, keeps)
error_cause root_disk repo_disk old new before now _ keeps h = absurd h

module _ {T P : Type 0} {root_disk : DiskModel T} {repo_disk : DiskModel P} {m : Meaning} {input : List ℕ} {old new : Disks T P} (before now : SinkState) (scope : Scope) where
  -- a line ended as its command did, or by the write: what the command did is what the line did
  line_ends : (result : Result (List ℕ) Failure) (end : End) → before.faults ≤ now.faults → LineCause root_disk repo_disk (with_out old before) (with_out new now) end
      → (status_of end ≤ 4 → status_of (end_of result) ≤ 4) → (status_of end ≤ 7 → status_of (end_of result) ≤ 7) → (ChangesNothing end → ChangesNothing (end_of result)) → ((path : Name) → end ≡ Err (failure.Damaged path) → result ≡ Err (failure.Damaged path))
      → ((s next : State) → AnswersAs (m.IsOutcome s input) s next result → EndsWriting (m.IsOutcome s input) s next before now end)
      → PerformsWithin root_disk repo_disk scope m input old new result
      → RunsLine root_disk repo_disk scope m input (with_out old before) (with_out new now) end
  line_ends result end later cause fewer undamaged nothing named ends done = record {
    root_later = done.performs.root_later;
    repo_later = done.performs.repo_later;
    out_later = later;
    cause = cause;
    rest = λ le. done.performs.rest (fewer le);
    same = λ none. done.performs.same (nothing none);
    within = done.performs.within;
    told = λ root repo s stands. let f = done.performs.told root repo s stands in record {
      next = f.next;
      ends = ends s f.next f.answers;
      apart = f.apart;
      root = goes_on (end_of result) end fewer f.root;
      repo = goes_on (end_of result) end fewer f.repo;
      outside = f.outside;
      seen = f.seen;
    };
    alone = λ is. let a = done.alone is in record {
      repo = a.repo;
      damaged = λ path same. a.damaged path (named path same);
      told = λ told s rests. let f = a.told told s rests in record {
        next = f.next;
        ends = ends s f.next f.answers;
        stays = f.stays;
        root = goes_on (end_of result) end fewer f.root;
        outside = f.outside;
        seen = f.seen;
      };
    };
    apart = λ is. let a = done.apart is in record {
      root = a.root;
      damaged = λ path same. a.damaged path (named path same);
      told = λ told s rests. let f = a.told told s rests in record {
        next = f.next;
        ends = ends s (record { root = s.root; repository = f.next }) f.answers;
        repo = goes_on (end_of result) end fewer f.goes;
      };
    };
    by_lists = λ is. let a = done.lists is in record { root = a.root; repo = a.repo; ends = λ s has. ends s s (a.answers s has) };
    by_tree = λ is told s has. ends s s ((done.tree is).answers told s has);
    by_opened = λ is told repo_told s has. opened_line s (done.opened is repo_told told s has);
    by_contents = λ is told repo_told whole s has contents. opened_line s (done.by_contents is told repo_told (undamaged whole) s has contents);
    by_records = λ is told s has records. ends s s (done.by_records is told s has records);
    files_stay = done.files;
    root_read = done.root_read;
    repo_read = done.repo_read;
  }
    where
      opened_line : (s : State) → AnswersOpened root_disk repo_disk (m.IsOutcome s input) s old new result → LineByOpened root_disk repo_disk (m.IsOutcome s input) s (with_out old before) (with_out new now) end
      opened_line s a = record { next = a.next; ends = ends s a.next a.answers; holds = λ le. a.holds (fewer le); moments = a.moments }

  error_line : (e : Failure) → before.faults ≤ now.faults → now ≡ before → PerformsWithin root_disk repo_disk scope m input old new (Err e)
      → RunsLine root_disk repo_disk scope m input (with_out old before) (with_out new now) (Err e)
  error_line e later same done =
      let keeps = keeps_still before now same in
      line_ends (Err e) (Err e) later (error_cause root_disk repo_disk old new before now e keeps done.performs.cause) (λ le. le) (λ le. le) (λ none. none) (λ path is. let one : e ≡ failure.Damaged path = cc is in ap Err one)
      (λ s next answers. error_ends (m.IsOutcome s input) s next before now e keeps answers) done

  -- the whole line
  pub line_written : (result : Result (List ℕ) Failure) (end : End) → PerformsWithin root_disk repo_disk scope m input old new result → WritesAnswer result before now end
      → RunsLine root_disk repo_disk scope m input (with_out old before) (with_out new now) end
  line_written (Err e) end done writes = subst (λ (x : End). RunsLine root_disk repo_disk scope m input (with_out old before) (with_out new now) x) (sym writes.wrote.0) (error_line e writes.later writes.wrote.1 done)
  line_written (Ok text) (Ok x) done writes = line_ends (Ok text) (Ok x) writes.later tt (λ le. le) (λ le. le) (λ none. none) (λ path is. absurd (cc is))
      (λ s next answers. takes_so (λ bytes is. subst (λ b. Appends before.written now.written b) (sym is) writes.wrote) answers) done
  line_written (Ok text) (Err failure.OutputFault) done writes = line_ends (Ok text) (Err failure.OutputFault) writes.later writes.wrote.0 (λ le. omega arith) (λ le. omega arith) (λ none. none) (λ path is. absurd (cc is))
      (λ s next answers. takes_so (λ bytes is. subst (λ b. AppendsPart before.written now.written b) (sym is) writes.wrote.1) answers) done
  line_written (Ok text) (Err failure.Memory) done writes = line_ends (Ok text) (Err failure.Memory) writes.later writes.wrote (λ le. absurd (omega (arith, le))) (λ le. omega arith) (λ none. none) (λ path is. absurd (cc is))
      (λ s next answers. (inr (takes_so (λ bytes is. tt) answers), writes.wrote)) done
  line_written (Ok text) _ done writes = absurd writes.wrote
