-- A line from how its words were read, what its command was given, and what the command did.
use Rattle.std.proofs.Common.{◌≡◌, ◌<◌, ◌+◌, ℕ, suc, true, false, length, drop, get_or, List, ◌∷◌, Result, Ok, Err, refl, sym, ap, ◌∙◌, subst, inl, inr, arith}
use Rattle.std.specs.Prelude.{IsTrue, OnOk}
use lib.Seq.{drop-cons}
use Rattle.root_commands.specs.cli-call.tree-disk.Disk.{DiskModel}
use Rattle.cny_batch.specs.declared.line.Line.{Line}
use Rattle.cny_version.specs.cny-base.Flow.{SourceState, SinkState}
use Rattle.root_commands.specs.cli-call.Command.{AreReady, Disks}
use Rattle.root_commands.specs.cli-call.cny-laws.Call.{CallState}
use Rattle.root_commands.specs.cli-call.Line.{Moment, RunsLine}
use Rattle.root_commands.specs.cli-call.cny-laws.declared.failure.Failure.{Failure}
use Rattle.root_commands.specs.cli-call.cny-laws.declared.failure.Failure.TheVariants as failure
use Rattle.root_commands.specs.cli-call.cny-laws.Report.{End}
use Rattle.cli_words.specs.declared.words.Command.{Command}
use Rattle.conary_cli.specs.Commands.{meaning, scope_of}
use Rattle.conary_cli.specs.Lines.{CallLine, GivesOf, RunsOf, RunsOne, all_shown, shown_as}
use Rattle.conary_cli.specs.Records.{EndsWhole}
use Rattle.conary_cli.proofs.RestoreEnds.{line_restores}
use Rattle.cli_words.specs.Words.{AreWords, IsOnly, OrMemory, ReadsWords}

-- the disks at a moment, with an output beside them
abbrev pub at_out : {T P : Type 0} → Disks T P → SinkState → Moment T P
at_out d out = record { at = d; out = out }

-- what a call has, with an input beside it
abbrev pub call_at : {T P : Type 0} → SourceState → T → P → SinkState → CallState T P
call_at input root repo out = record { input = input; root = root; repo = repo; out = out }

-- what words were read as, which they are alone
pub read_only : (words : List (List ℕ)) (c : Command) → AreWords words (Ok c) → ((expected : Result Command Failure) → AreWords words expected → ReadsWords expected (Ok c)) → IsOnly (AreWords words) (Ok c)
read_only words c is read = record { is = is; only = λ other are. sym (read other are) }

-- what holds after Ok
pub ok_holds : {A B X : Type 0} (r : Result A B) (a : A) → r ≡ Ok a → OnOk r X → X
ok_holds (Ok x) a is h = h
ok_holds (Err e) a is h = absurd (cc is)

module _ {T P : Type 0} (root_disk : DiskModel T) (repo_disk : DiskModel P) (l : CallLine) (words : List (List ℕ)) (same : words ≡ l.line.words) (at : Moment T P) where
  own_only : (expected : Result Command Failure) → IsOnly (AreWords words) expected → IsOnly (AreWords l.line.words) expected
  own_only expected are = subst (λ (w : List (List ℕ)). IsOnly (AreWords w) expected) same are

  -- words that weren't read as a command
  pub unread_line : (e : Failure) → OrMemory (AreWords words) (Err e) → ((expected : Result Command Failure) → AreWords words expected → ReadsWords expected (Err e)) → RunsOne root_disk repo_disk l at at (Err e)
  unread_line failure.Memory is read = inr (record { same = refl; is = refl })
  unread_line failure.Usage is read = inl (Err failure.Usage, own_only (Err failure.Usage) (record { is = is; only = λ other are. sym (read other are) }), (refl, refl, tt))
  unread_line (failure.Refused r) is read = inl (Err (failure.Refused r), own_only (Err (failure.Refused r)) (record { is = is; only = λ other are. sym (read other are) }), (refl, refl, tt))
  unread_line failure.InputFault is read = absurd (read (Err failure.InputFault) is)
  unread_line failure.OutputFault is read = absurd (read (Err failure.OutputFault) is)
  unread_line failure.RootFault is read = absurd (read (Err failure.RootFault) is)
  unread_line failure.RepositoryFault is read = absurd (read (Err failure.RepositoryFault) is)
  unread_line (failure.Damaged path) is read = absurd (read (Err (failure.Damaged path)) is)

  -- words that were read as a command, and what that did
  pub read_line : (c : Command) → IsOnly (AreWords words) (Ok c) → (new : Moment T P) (end : End) → RunsOf root_disk repo_disk (Ok c) l at new end → RunsOne root_disk repo_disk l at new end
  read_line c are new end runs = inl (Ok c, own_only (Ok c) are, runs)

-- a command with what it is given of a line's input
module _ {T P : Type 0} (root_disk : DiskModel T) (repo_disk : DiskModel P) (l : CallLine) (c : Command) (at : Moment T P) where
  -- that is refused
  pub refused_line : (e : Failure) → GivesOf (meaning c).takes_input l.line.input (Err e) → RunsOf root_disk repo_disk (Ok c) l at at (Err e)
  refused_line (failure.Refused r) gives = inl (record { refusal = r; is = refl; refuses = gives; same = refl })
  refused_line _ gives = absurd gives

  -- it was performed
  pub line_done : (bytes : List ℕ) → GivesOf (meaning c).takes_input l.line.input (Ok bytes) → (new : Moment T P) (end : End)
      → RunsLine root_disk repo_disk (scope_of c) (shown_as l.shown (meaning c)) bytes at new end → (IsTrue root_disk.tells → EndsWhole c (root_disk.reads at.at.root) at.at.opened.db end) → (l.shown ≡ false → new.out ≡ at.out) → (end ≡ Ok tt → AreReady root_disk repo_disk new.at) → RunsOf root_disk repo_disk (Ok c) l at new end
  line_done bytes gives new end runs records quiet again = inr (record { bytes = bytes; gives = gives; runs = runs; records = records; restores = line_restores root_disk repo_disk c l.shown bytes at new end runs; quiet = quiet; again = again })

-- the next of some lines
next_of : {A : Type 0} (lines : List A) (k : ℕ) (line : A) → k < length lines → line ≡ get_or lines k line → drop k lines ≡ line ∷ drop (k + 1) lines
next_of lines k line lt is =
    let one : suc k ≡ k + 1 = omega arith in
    drop-cons lines k line lt ∙ ap (λ l. l ∷ drop (suc k) lines) (sym is) ∙ ap (λ n. line ∷ drop n lines) one

pub next_shown : (lines : List Line) (k : ℕ) (line : Line) → k < length lines → line ≡ get_or lines k line → all_shown (drop k lines) ≡ record { shown = true; line = line } ∷ all_shown (drop (k + 1) lines)
next_shown lines k line lt is = ap all_shown (next_of lines k line lt is)
