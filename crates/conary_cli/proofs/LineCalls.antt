-- A line by itself: the call of a command whose input is told.
use Rattle.std.proofs.Common.{◌≡◌, ℕ, Bool, true, false, List, length, Result, Ok, Err, nat_lt, cond, refl, sym, ap, subst, inl, inr, arith}
use Rattle.std.specs.Prelude.{IsTrue}
use Rattle.root_commands.specs.cli-call.cny-base.declared.refusal.Refusal.{Refusal}
use Rattle.root_commands.specs.cli-call.cny-laws.declared.failure.Failure.TheVariants as failure
use Rattle.root_commands.specs.cli-call.cny-laws.Input.{input_limit, within_limit}
use Rattle.root_commands.specs.cli-call.cny-laws.Reading.{ReadsGiven, given, left_by}
use Rattle.root_commands.specs.cli-call.tree-disk.Disk.{DiskModel, IsDisk}
use Rattle.cny_batch.specs.declared.line.Line.{Line}
use Rattle.root_commands.specs.cli-call.cny-laws.declared.failure.Failure.{Failure}
use Rattle.root_commands.specs.cli-call.cny-laws.Call.{CallState}
use Rattle.root_commands.specs.cli-call.Line.{Moment}
use Rattle.root_commands.specs.cli-call.Runs.{RunsCall, RunsOpen}
use Rattle.root_commands.specs.cli-call.cny-laws.Report.{End}
use Rattle.cli_words.specs.declared.words.Command.{Command}
use Rattle.root_commands.proofs.cli-call.CallLaws.{memory_call}
use Rattle.conary_cli.specs.Commands.{RunsSome, RunsWords, meaning, scope_of}
use Rattle.conary_cli.specs.Lines.{RunsOf}
use Rattle.conary_cli.specs.Records.{EndsOpened, EndsWhole}
use Rattle.conary_cli.specs.Program.{RunsAlone, told_source}
use Rattle.cli_words.specs.Words.{AreWords, IsOnly, OrMemory, ReadsWords}
use Rattle.conary_cli.proofs.Calls.{some_unread}
use Rattle.conary_cli.proofs.RecordEnds.{memory_whole, unread_whole}

of_cond : {E : Type 0} (b : Bool) (e : E) (input bytes : List ℕ) → cond b (Err e) (Ok input) ≡ Ok bytes → input ≡ bytes
of_cond true e input bytes h = absurd (cc h)
of_cond false e input bytes h = cc h

within_same : (input bytes : List ℕ) → within_limit input ≡ Ok bytes → within_limit bytes ≡ Ok bytes
within_same input bytes h = subst (λ (l : List ℕ). within_limit l ≡ Ok bytes) (of_cond (nat_lt input_limit (length input)) _ input bytes h) h

pub told_reads : (takes : Bool) (input bytes : List ℕ) → given takes input ≡ Ok bytes → ReadsGiven takes (told_source input) (told_source (left_by takes input)) (Ok bytes)
told_reads true input bytes gives = record {
  later = omega arith;
  cause = tt;
  untaken = λ off. absurd (cc off);
  taken = λ on. (gives, refl);
  some = λ on. within_same input bytes gives;
}
told_reads false input bytes gives = record {
  later = omega arith;
  cause = tt;
  untaken = λ off. (refl, λ other is. cc (gives, is), λ r is. cc is);
  taken = λ on. absurd (cc on);
  some = λ on. absurd (cc on);
}

pub told_refused : (takes : Bool) (input : List ℕ) (r : Refusal) → given takes input ≡ Err r → ReadsGiven takes (told_source input) (told_source (left_by takes input)) (Err (failure.Refused r))
told_refused true input r gives = record {
  later = omega arith;
  cause = tt;
  untaken = λ off. absurd (cc off);
  taken = λ on. (gives, refl);
  some = λ on. (input, gives);
}
told_refused false input r gives = absurd (cc gives)

same_end : (f e : Failure) → ◌≡◌ {A = Result Command Failure} (Err f) (Err e) → ◌≡◌ {A = End} (Err e) (Err f)
same_end f e h = let same : f ≡ e = cc h in ap Err (sym same)

-- words that weren't read, as whatever they are
no_command : {T P : Type 0} {root_disk : DiskModel T} (repo_disk : DiskModel P) → IsDisk root_disk → (before : CallState T P) (expected : Result Command Failure) (e : Failure) → ReadsWords expected (Err e) → RunsWords root_disk repo_disk expected before before (Err e)
no_command repo_disk root_laws before (Ok c) failure.Memory reads = (memory_call root_laws (scope_of c) (meaning c) before, memory_whole c before before)
no_command repo_disk root_laws before (Err f) failure.Memory reads = (refl, inr refl)
no_command repo_disk root_laws before (Ok c) failure.Usage reads = absurd (cc reads)
no_command repo_disk root_laws before (Err f) failure.Usage reads = (refl, inl (same_end f _ reads))
no_command repo_disk root_laws before (Ok c) (failure.Refused r) reads = absurd (cc reads)
no_command repo_disk root_laws before (Err f) (failure.Refused r) reads = (refl, inl (same_end f _ reads))
no_command repo_disk root_laws before expected _ reads = absurd reads

pub unread_alone : {T P : Type 0} {root_disk : DiskModel T} (repo_disk : DiskModel P) → IsDisk root_disk → (words own : List (List ℕ)) → words ≡ own → (before : CallState T P) (e : Failure) → OrMemory (AreWords words) (Err e)
    → ((expected : Result Command Failure) → AreWords words expected → ReadsWords expected (Err e)) → RunsAlone root_disk repo_disk own before before (Err e)
unread_alone {root_disk = root_disk} repo_disk root_laws words own same before e are read = (
  subst (λ (w : List (List ℕ)). RunsSome root_disk repo_disk w before before (Err e)) same (some_unread root_disk repo_disk words before e are),
  λ expected is. no_command repo_disk root_laws before expected e (read expected (subst (λ (w : List (List ℕ)). AreWords w expected) (sym same) is)),
)

-- words that were read as a command
pub begun_alone : {T P : Type 0} (root_disk : DiskModel T) (repo_disk : DiskModel P) (words own : List (List ℕ)) → words ≡ own → (c : Command) → IsOnly (AreWords words) (Ok c) → (before now : CallState T P) (end : End)
    → RunsCall root_disk repo_disk (scope_of c) (meaning c) before now end → EndsOpened root_disk repo_disk c before now end → RunsAlone root_disk repo_disk own before now end
begun_alone root_disk repo_disk words own same c are before now end runs records = (
  inl (Ok c, subst (λ (w : List (List ℕ)). AreWords w (Ok c)) same are.is, (runs, records)),
  λ expected is. subst (λ (x : Result Command Failure). RunsWords root_disk repo_disk x before now end) (are.only expected (subst (λ (w : List (List ℕ)). AreWords w expected) (sym same) is)) (runs, records),
)

-- what a command did over open disks with what it was given of a line's input, as with an input that is told
pub given_alone : {T P : Type 0} (root_disk : DiskModel T) (repo_disk : DiskModel P) (c : Command) (line : Line) (old new : Moment T P) (end : End) → RunsOf root_disk repo_disk (Ok c) (record { shown = true; line = line }) old new end
    → RunsOpen root_disk repo_disk (scope_of c) (meaning c) (told_source line.input) (told_source (left_by (meaning c).takes_input line.input)) old new end
given_alone root_disk repo_disk c line old new end (inl refuses) = inl (record { failure = failure.Refused refuses.refusal; is = refuses.is; reads = told_refused (meaning c).takes_input line.input refuses.refusal refuses.refuses; same = refuses.same })
given_alone root_disk repo_disk c line old new end (inr given) = inr (record { bytes = given.bytes; reads = told_reads (meaning c).takes_input line.input given.bytes given.gives; runs = given.runs })

pub given_whole : {T P : Type 0} (root_disk : DiskModel T) (repo_disk : DiskModel P) (c : Command) (line : Line) (old new : Moment T P) (end : End) → RunsOf root_disk repo_disk (Ok c) (record { shown = true; line = line }) old new end
    → IsTrue root_disk.tells → EndsWhole c (root_disk.reads old.at.root) old.at.opened.db end
given_whole root_disk repo_disk c line old new end (inl refuses) told = subst (λ (x : End). EndsWhole c (root_disk.reads old.at.root) old.at.opened.db x) (sym refuses.is)
    (unread_whole c (root_disk.reads old.at.root) old.at.opened.db (meaning c).takes_input (failure.Refused refuses.refusal) refl (told_refused (meaning c).takes_input line.input refuses.refusal refuses.refuses))
given_whole root_disk repo_disk c line old new end (inr given) told = given.records told
