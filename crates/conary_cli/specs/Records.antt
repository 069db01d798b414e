-- No damaged record is passed over, also where the root stores no system.
use Rattle.std.specs.Prelude.{◌⊎◌, ◌≤◌, IsTrue, Result, Ok}
use Rattle.root_commands.specs.cli-call.local-db.declared.db.Db.{Db}
use Rattle.root_commands.specs.cli-call.rollback-stack.Inverse.{IsDamagedJob}
use Rattle.root_commands.specs.cli-call.tree-disk.Disk.{DiskModel}
use Rattle.root_commands.specs.cli-call.tree-disk.Tree.{Name, Tree}
use Rattle.root_commands.specs.cli-call.cny-laws.declared.failure.Failure.{Failure}
use Rattle.root_commands.specs.cli-call.cny-laws.Call.{CallState, NotOpened, OpensRoot}
use Rattle.root_commands.specs.cli-call.cny-laws.Report.{End, status_of}
use Rattle.cli_words.specs.declared.words.Command.{Command}
use Rattle.cli_words.specs.declared.words.Command.TheVariants as command
use Rattle.root_commands.specs.Records.{FindsNone, IsDamagedBack, IsDamagedOfAll, last_job}

-- what isn't damaged where the command is done
abbrev pub IsDamagedFor : Command → Tree → Db → Name → Type 0
IsDamagedFor (command.Rollback number) tree db path = IsDamagedBack number tree db path
IsDamagedFor command.ListJobs tree db path = IsDamagedOfAll tree db path
IsDamagedFor _ tree db path = ⊥

-- what isn't where it is refused
abbrev pub IsDamagedFirst : Command → Tree → Db → Name → Type 0
IsDamagedFirst (command.Rollback number) tree db path = IsDamagedJob tree db (last_job number db) path
IsDamagedFirst command.ListJobs tree db path = IsDamagedOfAll tree db path
IsDamagedFirst _ tree db path = ⊥

-- so it ended
abbrev pub EndsWhole : {A : Type 0} → Command → Tree → Db → Result A Failure → Type 0
EndsWhole c tree db result = FindsNone (IsDamagedFor c tree db) (IsDamagedFirst c tree db) result

module _ {T P : Type 0} (root_disk : DiskModel T) (repo_disk : DiskModel P) where
  -- The root was opened, and the command ended so on it.
  pub record EndsOnRoot (c : Command) (before : T) (end : End) : Type 0 where
    pub root : T
    pub db : Db
    pub opens : OpensRoot root_disk repo_disk before root (Ok db)
    pub whole : EndsWhole c (root_disk.reads root) db end

  -- where it is done or refused, unless the disks weren't opened
  abbrev pub EndsOpened : Command → CallState T P → CallState T P → End → Type 0
  EndsOpened c before now end = status_of end ≤ 1 → IsTrue root_disk.tells → NotOpened root_disk repo_disk before now end ⊎ EndsOnRoot c before.root end
