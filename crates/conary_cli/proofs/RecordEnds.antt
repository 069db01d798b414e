-- No damaged record is passed over by a whole call.
use Rattle.std.proofs.Common.{◌≡◌, ℕ, Bool, false, List, Result, Ok, Err, refl, sym, subst, arith}
use Rattle.root_commands.specs.cli-call.cny-base.declared.refusal.Refusal.{Refusal}
use Rattle.cny_version.specs.cny-base.Flow.{SourceState, SinkState}
use Rattle.root_commands.specs.cli-call.local-db.declared.db.Db.{Db}
use Rattle.root_commands.specs.cli-call.tree-disk.Disk.{DiskModel}
use Rattle.root_commands.specs.cli-call.tree-disk.Tree.{Tree}
use Rattle.root_commands.specs.cli-call.cny-laws.declared.failure.Failure.{Failure}
use Rattle.root_commands.specs.cli-call.cny-laws.declared.failure.Failure.TheVariants as failure
use Rattle.root_commands.specs.cli-call.cny-laws.Call.{CallState}
use Rattle.root_commands.specs.cli-call.Line.{Wrote}
use Rattle.root_commands.specs.cli-call.cny-laws.Reading.{ReadsGiven}
use Rattle.root_commands.specs.cli-call.cny-laws.Report.{End}
use Rattle.cli_words.specs.declared.words.Command.{Command}
use Rattle.cli_words.specs.declared.words.Command.TheVariants as command
use Rattle.root_commands.specs.Records.{NoneIs}
use Rattle.conary_cli.specs.Commands.{meaning}
use Rattle.conary_cli.specs.Records.{EndsOpened, EndsWhole, IsDamagedFirst, IsDamagedFor}

-- ---- commands that read no record

pub none_read : (c d : Command) (x : Tree) (db : Db) (r : Result (List ℕ) Failure) → c ≡ d → NoneIs (IsDamagedFor d x db) → NoneIs (IsDamagedFirst d x db) → EndsWhole c x db r
none_read c d x db r is none first = subst (λ (b : Command). EndsWhole b x db r) (sym is) (at r)
  where
    at : (q : Result (List ℕ) Failure) → EndsWhole d x db q
    at (Ok text) = none
    at (Err (failure.Refused why)) = first
    at _ = tt

-- ---- from the command to the line

-- what was answered was written
pub written_whole : (c : Command) (x : Tree) (db : Db) (answered : Result (List ℕ) Failure) (before now : SinkState) (end : End) → Wrote answered before now end → EndsWhole c x db answered → EndsWhole c x db end
written_whole c x db (Err e) before now end wrote whole = subst (λ (r : End). EndsWhole c x db r) (sym wrote.0) (as_end e whole)
  where
    as_end : (f : Failure) → EndsWhole {A = List ℕ} c x db (Err f) → EndsWhole {A = Unit {0}} c x db (Err f)
    as_end (failure.Refused r) h = h
    as_end _ h = tt
written_whole c x db (Ok text) before now (Ok done) wrote whole = whole
written_whole c x db (Ok text) before now (Err (failure.Refused r)) wrote whole = absurd wrote
written_whole c x db (Ok text) before now _ wrote whole = tt

-- ---- the input

never_refused : {old new : SourceState} (takes : Bool) (r : Refusal) → takes ≡ false → ReadsGiven takes old new (Err (failure.Refused r)) → ⊥
never_refused takes r none reads = (reads.untaken none).2 r refl

first_none : {old new : SourceState} (c : Command) (x : Tree) (db : Db) (takes : Bool) (r : Refusal) → takes ≡ (meaning c).takes_input → ReadsGiven takes old new (Err (failure.Refused r)) → NoneIs (IsDamagedFirst c x db)
first_none (command.Rollback number) x db takes r is reads path damaged = never_refused takes r is reads
first_none command.ListJobs x db takes r is reads path damaged = never_refused takes r is reads
first_none _ x db takes r is reads path damaged = damaged

-- it wasn't read
pub unread_whole : {old new : SourceState} (c : Command) (x : Tree) (db : Db) (takes : Bool) (e : Failure) → takes ≡ (meaning c).takes_input → ReadsGiven takes old new (Err e) → EndsWhole {A = Unit {0}} c x db (Err e)
unread_whole c x db takes (failure.Refused r) is reads = first_none c x db takes r is reads
unread_whole c x db takes _ is reads = tt

-- ---- the whole call

module _ {T P : Type 0} {root_disk : DiskModel T} {repo_disk : DiskModel P} where
  -- memory ran out before the words were read
  pub memory_whole : (c : Command) (before now : CallState T P) → EndsOpened root_disk repo_disk c before now (Err failure.Memory)
  memory_whole c before now le told = absurd (omega (arith, le))
