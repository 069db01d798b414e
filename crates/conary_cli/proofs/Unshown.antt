-- A command of which nothing is written: it keeps its clauses by a meaning that answers no bytes.
use Rattle.std.proofs.Common.{ℕ, List, [], Result, Ok, Err, refl, inl, inr, arith}
use Rattle.cny_version.specs.cny-base.Flow.{SinkState}
use Rattle.root_commands.specs.cli-call.tree-disk.Tree.{Tree}
use Rattle.root_commands.specs.cli-call.tree-disk.Disk.{DiskModel}
use Rattle.root_commands.proofs.cli-call.tree-disk.Unfailed.{unfailed_weaker}
use Rattle.root_commands.specs.cli-call.Alone.{ActsOnRepository, AnswersByContents, AnswersByLists, AnswersByOpened, AnswersByRecords, AnswersByTree, AnswersOpened, PerformsAlone, PerformsWithin}
use Rattle.root_commands.specs.cli-call.Command.{AnswersAs, Disks, Performs, end_of}
use Rattle.root_commands.specs.cli-call.Line.{RunsLine, WritesAnswer}
use Rattle.root_commands.specs.cli-call.cny-laws.declared.failure.Failure.{Failure}
use Rattle.root_commands.specs.cli-call.cny-laws.declared.failure.Failure.TheVariants as failure
use Rattle.root_commands.specs.cli-call.cny-laws.Shown.{IsShown}
use Rattle.root_commands.specs.cli-call.cny-laws.State.{Effect, IsNext, Meaning, Scope, State, Takes}
use Rattle.root_commands.proofs.cli-call.LineLaws.{line_written}
use Rattle.std.proofs.KnownBytes.{Appends-nil}
use Rattle.cli_words.specs.declared.words.Command.{Command}
use Rattle.conary_cli.specs.Commands.{PerformsCommand, meaning, scope_of}
use Rattle.conary_cli.specs.Lines.{unshown, unshown_outcome}

-- the same answer without its bytes
abbrev pub without_text : Result (List ℕ) Failure → Result (List ℕ) Failure
without_text (Ok text) = Ok []
without_text (Err e) = Err e

module _ (m : Meaning) (input : List ℕ) (s : State) where
  unshown_effect : (e : Effect) → m.IsOutcome s input (Ok e) → (unshown m).IsOutcome s input (unshown_outcome (Ok e))
  unshown_effect e is = (Ok e, is, refl)

  takes_unshown : {next : State} {One Two : List ℕ → Type 0} → Two [] → Takes (m.IsOutcome s input) s next One → Takes ((unshown m).IsOutcome s input) s next Two
  takes_unshown none takes = record { effect = record { change = takes.effect.change; out = [] }; is = unshown_effect takes.effect takes.is; leads = takes.leads; bytes = none }

  next_unshown : {next : State} → IsNext (m.IsOutcome s input) s next → IsNext ((unshown m).IsOutcome s input) s next
  next_unshown (inl same) = inl same
  next_unshown (inr takes) = inr (takes_unshown tt takes)

  answers_unshown : (next : State) (result : Result (List ℕ) Failure) → AnswersAs (m.IsOutcome s input) s next result → AnswersAs ((unshown m).IsOutcome s input) s next (without_text result)
  answers_unshown next (Ok text) h = takes_unshown refl h
  answers_unshown next (Err (failure.Refused r)) h = ((Err r, h.0, refl), h.1)
  answers_unshown next (Err failure.RootFault) h = next_unshown h
  answers_unshown next (Err failure.RepositoryFault) h = next_unshown h
  answers_unshown next (Err failure.Memory) h = next_unshown h
  answers_unshown next (Err _) h = absurd h

  shown_unshown : (before t : Tree) → IsShown (m.IsOutcome s input) s before t → IsShown ((unshown m).IsOutcome s input) s before t
  shown_unshown before t (inl same) = inl same
  shown_unshown before t (inr h) = inr (record { change = h.0.change; out = [] }, unshown_effect h.0 h.1, h.2)

module _ {T P : Type 0} {root_disk : DiskModel T} {repo_disk : DiskModel P} {m : Meaning} {input : List ℕ} {old new : Disks T P} where
  performs_unshown : (result : Result (List ℕ) Failure) → Performs root_disk repo_disk m input old new result → Performs root_disk repo_disk (unshown m) input old new (without_text result)
  performs_unshown (Ok text) done = record {
    root_later = done.root_later;
    repo_later = done.repo_later;
    cause = tt;
    rest = done.rest;
    same = done.same;
    within = done.within;
    told = λ root repo s stands. let f = done.told root repo s stands in record {
      next = f.next;
      answers = answers_unshown m input s f.next (Ok text) f.answers;
      apart = f.apart;
      root = f.root;
      repo = f.repo;
      outside = λ q out left. f.outside q out (λ e is. left (record { change = e.change; out = [] }) (unshown_effect m input s e is));
      seen = unfailed_weaker (shown_unshown m input s (root_disk.reads old.root)) f.seen;
    };
  }
  performs_unshown (Err e) done = record {
    root_later = done.root_later;
    repo_later = done.repo_later;
    cause = done.cause;
    rest = done.rest;
    same = done.same;
    within = done.within;
    told = λ root repo s stands. let f = done.told root repo s stands in record {
      next = f.next;
      answers = answers_unshown m input s f.next (Err e) f.answers;
      apart = f.apart;
      root = f.root;
      repo = f.repo;
      outside = λ q out left. f.outside q out (λ x is. left (record { change = x.change; out = [] }) (unshown_effect m input s x is));
      seen = unfailed_weaker (shown_unshown m input s (root_disk.reads old.root)) f.seen;
    };
  }

  -- ---- the same of less than both disks

  alone_unshown : (result : Result (List ℕ) Failure) → PerformsAlone root_disk repo_disk m input old new result → PerformsAlone root_disk repo_disk (unshown m) input old new (without_text result)
  alone_unshown (Ok text) done = record {
    repo = done.repo;
    damaged = λ path is told. absurd (cc is);
    told = λ told s rests. let f = done.told told s rests in record {
      next = f.next;
      answers = answers_unshown m input s f.next (Ok text) f.answers;
      stays = f.stays;
      root = f.root;
      outside = λ q out left. f.outside q out (λ e is. left (record { change = e.change; out = [] }) (unshown_effect m input s e is));
      seen = unfailed_weaker (shown_unshown m input s (root_disk.reads old.root)) f.seen;
    };
  }
  alone_unshown (Err x) done = record {
    repo = done.repo;
    damaged = done.damaged;
    told = λ told s rests. let f = done.told told s rests in record {
      next = f.next;
      answers = answers_unshown m input s f.next (Err x) f.answers;
      stays = f.stays;
      root = f.root;
      outside = λ q out left. f.outside q out (λ e is. left (record { change = e.change; out = [] }) (unshown_effect m input s e is));
      seen = unfailed_weaker (shown_unshown m input s (root_disk.reads old.root)) f.seen;
    };
  }

  acts_unshown : (result : Result (List ℕ) Failure) → ActsOnRepository root_disk repo_disk m input old new result → ActsOnRepository root_disk repo_disk (unshown m) input old new (without_text result)
  acts_unshown (Ok text) done = record {
    root = done.root;
    later = done.later;
    cause = tt;
    rest = done.rest;
    same = done.same;
    within = done.within;
    damaged = λ path is told. absurd (cc is);
    told = λ told s rests. let f = done.told told s rests in record { next = f.next; answers = answers_unshown m input s (record { root = s.root; repository = f.next }) (Ok text) f.answers; goes = f.goes };
  }
  acts_unshown (Err x) done = record {
    root = done.root;
    later = done.later;
    cause = done.cause;
    rest = done.rest;
    same = done.same;
    within = done.within;
    damaged = done.damaged;
    told = λ told s rests. let f = done.told told s rests in record { next = f.next; answers = answers_unshown m input s (record { root = s.root; repository = f.next }) (Err x) f.answers; goes = f.goes };
  }

  lists_unshown : (result : Result (List ℕ) Failure) → AnswersByLists root_disk repo_disk m input old new result → AnswersByLists root_disk repo_disk (unshown m) input old new (without_text result)
  lists_unshown result done = record { root = done.root; repo = done.repo; answers = λ s has. answers_unshown m input s s result (done.answers s has) }

  tree_unshown : (result : Result (List ℕ) Failure) → AnswersByTree root_disk repo_disk m input old new result → AnswersByTree root_disk repo_disk (unshown m) input old new (without_text result)
  tree_unshown result done = record { root = done.root; repo = done.repo; answers = λ told s has. answers_unshown m input s s result (done.answers told s has) }

nothing_written : (result : Result (List ℕ) Failure) (out : SinkState) → WritesAnswer (without_text result) out out (end_of result)
nothing_written (Ok text) out = record { later = omega arith; wrote = Appends-nil out.written }
nothing_written (Err e) out = record { later = omega arith; wrote = (refl, refl) }

module _ {T P : Type 0} (root_disk : DiskModel T) (repo_disk : DiskModel P) (m : Meaning) (input : List ℕ) (old new : Disks T P) where
  state_unshown : (s : State) (result : Result (List ℕ) Failure) → AnswersOpened root_disk repo_disk (m.IsOutcome s input) s old new result → (let n = unshown m in AnswersOpened root_disk repo_disk (n.IsOutcome s input) s old new (without_text result))
  state_unshown s (Ok text) by = record { next = by.next; answers = answers_unshown m input s by.next (Ok text) by.answers; holds = by.holds; moments = by.moments }
  state_unshown s (Err e) by = record { next = by.next; answers = answers_unshown m input s by.next (Err e) by.answers; holds = by.holds; moments = by.moments }

  opened_unshown : (result : Result (List ℕ) Failure) → AnswersByOpened root_disk repo_disk m input old new result → AnswersByOpened root_disk repo_disk (unshown m) input old new (without_text result)
  opened_unshown result done told s has = state_unshown s result (done told s has)

  contents_unshown : (result : Result (List ℕ) Failure) → AnswersByContents root_disk repo_disk m input old new result → AnswersByContents root_disk repo_disk (unshown m) input old new (without_text result)
  contents_unshown (Ok text) done told repo_told low s has whole = state_unshown s (Ok text) (done told repo_told low s has whole)
  contents_unshown (Err e) done told repo_told low s has whole = state_unshown s (Err e) (done told repo_told low s has whole)

  records_unshown : (result : Result (List ℕ) Failure) → AnswersByRecords root_disk repo_disk m input old new result → AnswersByRecords root_disk repo_disk (unshown m) input old new (without_text result)
  records_unshown result done told s has records = answers_unshown m input s s result (done told s has records)

-- what a command promises that works on so much
within_unshown : {T P : Type 0} {root_disk : DiskModel T} {repo_disk : DiskModel P} (scope : Scope) (m : Meaning) (input : List ℕ) (old new : Disks T P) (result : Result (List ℕ) Failure) → PerformsWithin root_disk repo_disk scope m input old new result
    → PerformsWithin root_disk repo_disk scope (unshown m) input old new (without_text result)
within_unshown {root_disk = root_disk} {repo_disk = repo_disk} scope m input old new result done = record {
  performs = performs_unshown result done.performs;
  alone = λ is. alone_unshown result (done.alone is);
  apart = λ is. acts_unshown result (done.apart is);
  tree = λ is. tree_unshown result (done.tree is);
  opened = λ is repo_told. opened_unshown root_disk repo_disk m input old new result (done.opened is repo_told);
  by_contents = λ is. contents_unshown root_disk repo_disk m input old new result (done.by_contents is);
  by_records = λ is. records_unshown root_disk repo_disk m input old new result (done.by_records is);
  files = done.files;
  lists = λ is. lists_unshown result (done.lists is);
  root_read = done.root_read;
  repo_read = done.repo_read;
}

-- the whole line
pub unshown_line : {T P : Type 0} {root_disk : DiskModel T} {repo_disk : DiskModel P} (c : Command) (bytes : List ℕ) (old new : Disks T P) (result : Result (List ℕ) Failure) (out : SinkState) → PerformsCommand root_disk repo_disk c bytes old new result
    → RunsLine root_disk repo_disk (scope_of c) (unshown (meaning c)) bytes (record { at = old; out = out }) (record { at = new; out = out }) (end_of result)
unshown_line c bytes old new result out done = line_written out out (scope_of c) (without_text result) (end_of result) (within_unshown (scope_of c) (meaning c) bytes old new result done.performs) (nothing_written result out)
