-- A call of several lines, from its steps.
use Rattle.std.proofs.Common.{◌≡◌, ℕ, Bool, false, List, [], Ok, Err, refl, sym, subst, inl, inr, ⊎_elim, arith}
use Rattle.std.specs.Prelude.{◌⊎◌}
use Rattle.cny_version.specs.cny-base.Flow.{SourceState, SinkState}
use Rattle.root_commands.specs.cli-call.tree-disk.Disk.{DiskModel, IsDisk}
use Rattle.root_commands.proofs.cli-call.tree-disk.Moments.{rose_before}
use Rattle.root_commands.specs.cli-call.Alone.{AnswersByLists, PerformsAlone, PerformsWithin}
use Rattle.root_commands.specs.cli-call.Command.{AreReady, Performs, disks}
use Rattle.root_commands.specs.cli-call.Line.{Moment, RunsLine}
use Rattle.root_commands.specs.cli-call.Runs.{RunsCall, after_opening}
use Rattle.root_commands.proofs.cli-call.BlockedEnds.{as_pair, as_record}
use Rattle.root_commands.proofs.cli-call.CallLaws.{opened_ready, whole_call}
use Rattle.root_commands.proofs.cli-call.OpenedEnds.{files_kept}
use Rattle.root_commands.proofs.cli-call.CommandLaws.{none_read, performs_reading}
use Rattle.root_commands.proofs.cli-call.InputLaws.{read_input_of}
use Rattle.root_commands.proofs.cli-call.LineLaws.{line_written}
use Rattle.root_commands.proofs.cli-call.RootLaws.{opened_root_rests, root_laws}
use Rattle.root_commands.proofs.cli-call.RootStates.{fixed_state}
use Rattle.root_commands.proofs.cli-call.AloneLaws.{alone_reading}
use Rattle.root_commands.proofs.cli-call.StoreLaws.{nothing_done, opened_rests}
use Rattle.root_commands.specs.cli-call.cny-laws.declared.failure.Failure.{Failure}
use Rattle.root_commands.specs.cli-call.cny-laws.declared.failure.Failure.TheVariants as failure
use Rattle.root_commands.specs.cli-call.cny-laws.declared.opened.Opened.{Opened}
use Rattle.root_commands.specs.cli-call.cny-laws.Call.{AreOpened, CallState}
use Rattle.root_commands.specs.cli-call.cny-laws.Reading.{ReadsGiven}
use Rattle.root_commands.specs.cli-call.cny-laws.Report.{End, Reports}
use Rattle.root_commands.specs.cli-call.cny-laws.Edits.{all_edited, edits_beside, with_tree}
use Rattle.root_commands.specs.cli-call.cny-laws.Store.{IsStore}
use Rattle.root_commands.specs.cli-call.cny-laws.Stores.{repository_store}
use Rattle.root_commands.specs.cli-call.cny-laws.WholeCall.{FromStates, after_edits}
use Rattle.root_commands.specs.cli-call.tree-journal.CanBePut.{AllCanBePut}
use Rattle.root_commands.proofs.cli-call.cny-laws.SeveralEdits.{all_kept, kept_beside}
use Rattle.conary_cli.specs.RunsSeveral.{GoesOnLines, MakesNone, ReadsNone, RunsSeveral}
use Rattle.conary_cli.specs.Several.{IsLinesCall, LinesCause, LinesFrom, Making, before_lines, of_input}
use Rattle.conary_cli.proofs.LinesRun.{lines_from, lines_known, MomentCause}

-- bytes that were read and make no lines, as a command that was refused for them, or ran out of memory
module _ {T P : Type 0} {root_disk : DiskModel T} {repo_disk : DiskModel P} (root_disk_laws : IsDisk root_disk) (repo_disk_laws : IsDisk repo_disk) (store_laws : IsStore repository_store) (takes : Bool) (AreLines : Making) (bytes : List ℕ) (at : Moment T P)
    (ready : AreReady root_disk repo_disk at.at) where
  none_performs : (e : Failure) → MakesNone AreLines bytes e → Performs root_disk repo_disk (before_lines takes AreLines) bytes at.at at.at (Err e)
  none_performs (failure.Refused r) none = performs_reading root_disk_laws repo_disk_laws root_laws store_laws (before_lines takes AreLines) bytes at.at at.at ready (none_read root_disk_laws repo_disk_laws at.at at.at refl refl) (Err (failure.Refused r)) tt
      (λ root repo s stands. (r, refl, none))
  none_performs failure.Memory none = performs_reading root_disk_laws repo_disk_laws root_laws store_laws (before_lines takes AreLines) bytes at.at at.at ready (none_read root_disk_laws repo_disk_laws at.at at.at refl refl) (Err failure.Memory) tt tt
  none_performs _ none = absurd none

  none_alone : (e : Failure) → MakesNone AreLines bytes e → PerformsAlone root_disk repo_disk (before_lines takes AreLines) bytes at.at at.at (Err e)
  none_alone (failure.Refused r) none = alone_reading repo_disk root_disk_laws root_laws (before_lines takes AreLines) bytes at.at at.at (Err (failure.Refused r)) refl (λ told. nothing_done root_disk_laws at.at.root) (λ told s rests. (r, refl, none)) (λ path named. absurd (cc named))
  none_alone failure.Memory none = alone_reading repo_disk root_disk_laws root_laws (before_lines takes AreLines) bytes at.at at.at (Err failure.Memory) refl (λ told. nothing_done root_disk_laws at.at.root) tt (λ path named. absurd (cc named))
  none_alone _ none = absurd none

  none_listed : (e : Failure) → MakesNone AreLines bytes e → AnswersByLists root_disk repo_disk (before_lines takes AreLines) bytes at.at at.at (Err e)
  none_listed (failure.Refused r) none = record { root = refl; repo = refl; answers = λ s has. ((r, refl, none), refl) }
  none_listed failure.Memory none = record { root = refl; repo = refl; answers = λ s has. inl refl }
  none_listed _ none = absurd none

  none_within : (e : Failure) → MakesNone AreLines bytes e → PerformsWithin root_disk repo_disk of_input (before_lines takes AreLines) bytes at.at at.at (Err e)
  none_within e none = record {
    performs = none_performs e none;
    alone = λ is. none_alone e none;
    apart = λ is. absurd (cc is);
    tree = λ is. absurd (cc is);
    opened = λ is. absurd (cc is);
    by_contents = λ is. absurd (cc is);
    by_records = λ is. absurd (cc is);
    files = files_kept repo_disk_laws at.at.opened.catalogue false at.at.repo;
    lists = λ is. none_listed e none;
    root_read = λ is told. nothing_done root_disk_laws at.at.root;
    repo_read = λ is told. nothing_done repo_disk_laws at.at.repo;
  }

  pub none_made : (e : Failure) → MakesNone AreLines bytes e → RunsLine root_disk repo_disk of_input (before_lines takes AreLines) bytes at at (Err e)
  none_made e none = line_written at.out at.out of_input (Err e) (Err e) (none_within e none) (record { later = omega arith; wrote = (refl, refl) })

module _ {T P : Type 0} {root_disk : DiskModel T} {repo_disk : DiskModel P} (root_disk_laws : IsDisk root_disk) (repo_disk_laws : IsDisk repo_disk) (store_laws : IsStore repository_store) (takes : Bool) (AreLines : Making) (before now : CallState T P) (end : End) where
  module _ (goes : GoesOnLines root_disk repo_disk takes AreLines before now end) where
    abbrev begun : Moment T P
    begun = after_opening root_disk repo_disk before goes.root goes.repo goes.opened

    abbrev ended : Moment T P
    ended = record { at = disks now.root now.repo goes.last; out = now.out }

    from : FromStates root_disk repo_disk before (λ s. LinesFrom root_disk repo_disk goes.lines s goes.root goes.repo before now end)
    from root_told repo_told s recovers =
        let opens = goes.opens in
        let root_rests = opened_root_rests before.root goes.root goes.opened.db s.root (opens.opens_root.opened root_told) recovers.root in
        let repo_rests = opened_rests store_laws before.repo goes.repo goes.opened.catalogue s.repository (opens.opens.opened repo_told) recovers.repo in
        let at = lines_from root_disk_laws repo_disk_laws store_laws root_told repo_told goes.lines s begun ended end (record { root = root_rests; repo = repo_rests }) goes.runs in
        record {
          fixed = fixed_state root_disk_laws before root_told s recovers.root goes.root goes.opened.db (opens.opens_root.opened root_told);
          states = at.states;
          ends = at.ends;
          root_opening = (opens.opens_root.from root_told s.root recovers.root).images;
          repo_opening = opens.opens.images repo_told;
          lives = at.lives;
          rests = λ le. record { root = at.root_rests le; repo = at.repo_rests le };
          root_reads = at.root_reads;
          repo_reads = at.repo_reads;
        }

    cause_of : (x : End) → MomentCause root_disk repo_disk begun ended x → LinesCause root_disk repo_disk before now x
    cause_of (Err failure.RootFault) h = rose_before (root_disk.faults before.root) (root_disk.faults goes.root) (root_disk.faults now.root) goes.opens.opens_root.later h
    cause_of (Err failure.RepositoryFault) h = rose_before (repo_disk.faults before.repo) (repo_disk.faults goes.repo) (repo_disk.faults now.repo) goes.opens.opens.later h
    cause_of (Err failure.OutputFault) h = h
    cause_of (Err failure.InputFault) h = h
    cause_of (Err (failure.Damaged path)) h = h
    cause_of _ h = tt

  -- the whole; what others edited before the recovery is said as `meets_log` says it of a command
  pub whole_lines : (err err' : SinkState) (status : ℕ) → RunsSeveral root_disk repo_disk takes AreLines before now end → Reports end err err' status → IsLinesCall root_disk repo_disk takes AreLines before now err err' status
  whole_lines err err' status (inl runs) reports = inl (whole_call root_disk_laws repo_disk_laws store_laws of_input (before_lines takes AreLines) before now err err' status end runs reports).0
  whole_lines err err' status (inr goes) reports =
      let read = read_input_of takes before.input now.input (Ok goes.reads.bytes) goes.reads.reads in
      let known = lines_known repo_disk_laws goes.lines (begun goes) (ended goes) end goes.runs in
      let ready = opened_ready root_disk_laws before.root goes.root before.repo goes.repo goes.opened goes.opens in
      inr (record {
        end = end;
        reports = reports;
        input = read.input;
        is_input = read.is;
        bytes = goes.reads.bytes;
        gives = read.gives;
        reads = goes.reads.reads;
        lines = goes.lines;
        are = goes.reads.are;
        root = goes.root;
        repo = goes.repo;
        opened = goes.opened;
        last = goes.last;
        opens = goes.opens;
        runs = goes.runs;
        later = record {
          input = goes.reads.reads.later;
          out = known.out_later;
          root = omega (arith, goes.opens.opens_root.later, known.root_later);
          repo = omega (arith, goes.opens.opens.later, known.repo_later);
        };
        cause = cause_of goes end known.cause;
        rest = known.rest (record {
          root = λ told. record { flag_clear = (ready.root told).flag_clear; synced = (ready.root told).synced };
          repo = λ told. (ready.repo told).settled;
        });
        within = known.within;
        from = from goes;
        edited = λ told repo_told s tree edits puts are is set holds can rec repo.
            let stays = subst (AllCanBePut puts) is can in
            let root = as_record (all_edited tree edits) (root_disk.reads before.root) (with_tree s.root (all_edited s.root.tree (edits_beside puts edits))) is (kept_beside tree s.root edits puts are set holds stays (as_pair tree s.root rec)) in
            from goes told repo_told (after_edits s (edits_beside puts edits)) (record { root = root; repo = repo });
        edited_clear = λ told repo_told s tree edits are is clear rec repo.
            let root = as_record (all_edited tree edits) (root_disk.reads before.root) (with_tree s.root (all_edited s.root.tree edits)) is (all_kept edits tree s.root are clear (as_pair tree s.root rec)) in
            from goes told repo_told (after_edits s edits) (record { root = root; repo = repo });
      })

-- the input wasn't read, or makes no lines
pub none_read_call : {T P : Type 0} {root_disk : DiskModel T} {repo_disk : DiskModel P} → IsDisk root_disk → IsDisk repo_disk → (takes : Bool) (AreLines : Making) (before now : CallState T P) (root : T) (repo : P) (opened : Opened) → AreOpened root_disk repo_disk before.root root before.repo repo opened
    → now.root ≡ root → now.repo ≡ repo → now.out ≡ before.out → (e : Failure) → ReadsNone takes AreLines before.input now.input e → IsStore repository_store → RunsCall root_disk repo_disk of_input (before_lines takes AreLines) before now (Err e)
none_read_call {T = T} {P = P} {root_disk = root_disk} {repo_disk = repo_disk} root_disk_laws repo_disk_laws takes AreLines before now root repo opened opens same_root same_repo silent e none store_laws = inr (record {
  root = root;
  repo = repo;
  opened = opened;
  opened' = opened;
  opens = opens;
  runs = ⊎_elim (λ unread. inl (record { failure = e; is = refl; reads = unread; same = same })) (λ made. inr (record { bytes = made.0; reads = made.1; runs = at_end made.0 made.2 })) none;
})
  where
    begun : Moment T P
    begun = after_opening root_disk repo_disk before root repo opened

    same : record { at = disks now.root now.repo opened; out = now.out } ≡ begun
    same = cc (same_root, same_repo, silent)

    at_end : (bytes : List ℕ) → MakesNone AreLines bytes e → RunsLine root_disk repo_disk of_input (before_lines takes AreLines) bytes begun (record { at = disks now.root now.repo opened; out = now.out }) (Err e)
    at_end bytes makes = subst (λ (m : Moment T P). RunsLine root_disk repo_disk of_input (before_lines takes AreLines) bytes begun m (Err e)) (sym same)
        (none_made root_disk_laws repo_disk_laws store_laws takes AreLines bytes begun (opened_ready root_disk_laws before.root root before.repo repo opened opens) e makes)

-- no input is taken
pub nothing_taken : (input : SourceState) → ReadsGiven false input input (Ok [])
nothing_taken input = record {
  later = omega arith;
  cause = tt;
  untaken = λ off. (refl, λ bytes is. sym (cc is), λ r is. absurd (cc is));
  taken = λ on. absurd (cc on);
  some = λ on. absurd (cc on);
}
