-- A command's whole call by its steps: the disks are opened, its input is read, it is performed, and what it answers is written.
use Rattle.std.specs.Prelude.{◌≡◌, ◌⊎◌, ℕ, List, Result, Ok, Err}
use Rattle.repo_index.specs.Catalogue.{CatalogueParts, no_commits}
use Rattle.repo_load.specs.cny-base.Flow.{SourceState}
use Rattle.cny_laws.specs.system-core.tree-disk.Disk.{DiskModel}
use Rattle.cny_laws.specs.declared.failure.Failure.{Failure}
use Rattle.cny_laws.specs.declared.opened.Opened.{Opened}
use Rattle.cli_call.specs.Command.{disks}
use Rattle.cli_call.specs.Line.{Moment, RunsLine}
use Rattle.cny_laws.specs.Reading.{ReadsGiven}
use Rattle.cny_laws.specs.Report.{End}
use Rattle.cny_laws.specs.State.{Meaning, Scope}
use Rattle.cny_laws.specs.Call.{CallState, StopsOpening, AreOpened, NotOpened}

module _ {T P : Type 0} (root_disk : DiskModel T) (repo_disk : DiskModel P) where
  -- ---- opening

  abbrev pub OpensBoth : T → T → P → P → Result Opened Failure → Type 0
  OpensBoth root root' repo repo' (Ok opened) = AreOpened root_disk repo_disk root root' repo repo' opened
  OpensBoth root root' repo repo' (Err e) = StopsOpening root_disk repo_disk root root' repo repo' e

  -- Both were opened, and nothing is kept of the repository's catalogue.
  pub record AreOpenedForRoot (root root' : T) (repo repo' : P) (opened : Opened) : Type 0 where
    pub catalogue : CatalogueParts
    pub are : AreOpened root_disk repo_disk root root' repo repo' (record { db = opened.db; catalogue = catalogue })
    pub none : opened.catalogue ≡ no_commits

  abbrev pub OpensForRoot : T → T → P → P → Result Opened Failure → Type 0
  OpensForRoot root root' repo repo' (Ok opened) = AreOpenedForRoot root root' repo repo' opened
  OpensForRoot root root' repo repo' (Err e) = StopsOpening root_disk repo_disk root root' repo repo' e

  -- ---- disks that are open

  -- The input wasn't read, and nothing else was done; or it was, and the command was performed.
  pub record StopsReading (m : Meaning) (input input' : SourceState) (old new : Moment T P) (end : End) : Type 0 where
    pub failure : Failure
    pub is : end ≡ Err failure
    pub reads : ReadsGiven m.takes_input input input' (Err failure)
    pub same : new ≡ old

  pub record RunsWith (scope : Scope) (m : Meaning) (input input' : SourceState) (old new : Moment T P) (end : End) : Type 0 where
    pub bytes : List ℕ
    pub reads : ReadsGiven m.takes_input input input' (Ok bytes)
    pub runs : RunsLine root_disk repo_disk scope m bytes old new end

  abbrev pub RunsOpen : Scope → Meaning → SourceState → SourceState → Moment T P → Moment T P → End → Type 0
  RunsOpen scope m input input' old new end = StopsReading m input input' old new end ⊎ RunsWith scope m input input' old new end

  -- ---- the whole call

  abbrev pub after_opening : CallState T P → T → P → Opened → Moment T P
  after_opening before root repo opened = record { at = disks root repo opened; out = before.out }

  abbrev pub at_end : CallState T P → Opened → Moment T P
  at_end now opened' = record { at = disks now.root now.repo opened'; out = now.out }

  pub record GoesOn (scope : Scope) (m : Meaning) (before now : CallState T P) (end : End) : Type 0 where
    pub root : T
    pub repo : P
    pub opened : Opened
    pub opened' : Opened
    pub opens : AreOpened root_disk repo_disk before.root root before.repo repo opened
    pub runs : RunsOpen scope m before.input now.input (after_opening before root repo opened) (at_end now opened') end

  -- (by a command that works on so much)
  abbrev pub RunsCall : Scope → Meaning → CallState T P → CallState T P → End → Type 0
  RunsCall scope m before now end = NotOpened root_disk repo_disk before now end ⊎ GoesOn scope m before now end
