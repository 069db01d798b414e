-- How a command ends that answers from the database of the root.
use Rattle.std.proofs.Common.{◌≡◌, ℕ, List, Result, refl, sym, ap, ◌∙◌, subst}
use Rattle.std.specs.Prelude.{IsTrue}
use Rattle.cli_call.specs.cny-base.declared.refusal.Fault.{Fault}
use Rattle.cli_call.specs.cny-base.declared.refusal.Refusal.{Refusal}
use Rattle.cli_call.specs.cny-base.Reserved.{is_reserved}
use Rattle.cli_call.specs.tree-disk.Disk.{DiskModel, HasRead, IsDisk}
use Rattle.cli_call.specs.tree-disk.Tree.{AgreesOutside}
use Rattle.local_db.specs.declared.db.Db.{Db}
use Rattle.local_db.specs.Installed.{IsInstalled}
use Rattle.cli_call.proofs.RootLaws.{stored_outside}
use Rattle.cli_call.specs.trove-stream.declared.parts.TroveParts.{TroveParts}
use Rattle.local_db.specs.declared.format.Format.TheVariants.{Two}
use Rattle.local_db.specs.Stores.{StoresIn}
use Rattle.cli_call.specs.cny-laws.declared.failure.Failure.{Failure}
use Rattle.cli_call.specs.cny-laws.declared.opened.Opened.{Opened}
use Rattle.cli_call.specs.Alone.{AnswersByTree, PerformsAlone}
use Rattle.cli_call.specs.cny-laws.Call.{HasOpened, HasTree}
use Rattle.cli_call.proofs.AloneLaws.{AnswersAlone, AnswersWhere, tree_reading, where_weaker}
use Rattle.cli_call.proofs.Answered as answers
use Rattle.cli_call.proofs.Answered.{result_of}
use Rattle.cli_call.specs.Command.{Disks, disks, AreReady, Performs}
use Rattle.cli_call.proofs.RootDatabase.{held_database, one_format}
use Rattle.cli_call.specs.cny-laws.State.{tree_of, Effect, Meaning, RootState, State}
use Rattle.cli_call.specs.cny-laws.Store.{IsStore, RestsAt}
use Rattle.cli_call.specs.cny-laws.Stores.{root_store, repository_store}
use Rattle.cli_call.specs.Answer.{AnswersSo}
use Rattle.cli_call.proofs.system-core.Held.{OneDatabase}

-- what a command that works on the root's tree and its installed list alone needs of a state
pub record IsSeen {T : Type 0} (root_disk : DiskModel T) (root : T) (opened : Opened) (s : State) : Type 0 where
  pub list : opened.db.installed ≡ s.root.installed
  pub rules : IsInstalled s.root.installed
  pub outer : AgreesOutside is_reserved (root_disk.reads root) (tree_of s.root)

-- each state that has what was read when the disks were opened is one
pub opened_seen : {T : Type 0} {root_disk : DiskModel T} (root : T) (opened : Opened) (s : State) → HasOpened root_disk root opened s → IsSeen root_disk root opened s
opened_seen root opened s has = let system = has.system in record { list = ap (λ (d : Db). d.installed) (sym has.database); rules = system.list; outer = has.outer }

module _ {T P : Type 0} {root_disk : DiskModel T} {repo_disk : DiskModel P} (law : OneDatabase) (m : Disks T P) (ready : AreReady root_disk repo_disk m) where
  -- the installed troves are those of each system that the root stores
  pub installed_are : IsTrue root_disk.tells → (s : State) → RestsAt root_store root_disk m.root s.root → m.opened.db.installed ≡ s.root.installed
  installed_are told s rests = (held_database law (root_disk.reads m.root) m.opened.db s.root (ready.root told).holds rests.stored).list

  -- each system that it stores is stored in format 2
  pub stored_two : {x : RootState} → IsTrue root_disk.tells → RestsAt root_store root_disk m.root x → StoresIn Two (root_disk.reads m.root) x
  stored_two {x = x} told rests = one_format law (root_disk.reads m.root) m.opened.db.installed m.opened.db.oldest m.opened.db.newest x (ready.root told).holds rests.stored

  -- a system that the root stores is one that is seen, and so is each state that has the tree and the list
  pub rests_seen : IsTrue root_disk.tells → (s : State) → RestsAt root_store root_disk m.root s.root → IsSeen root_disk m.root m.opened s
  rests_seen told s rests =
      let held = held_database law (root_disk.reads m.root) m.opened.db s.root (ready.root told).holds rests.stored in
      record { list = held.list; rules = held.stores.system.list; outer = stored_outside (root_disk.reads m.root) s.root rests.stored }

  pub tree_seen : (s : State) → HasTree root_disk m.root m.opened s → IsSeen root_disk m.root m.opened s
  tree_seen s has = record { list = sym has.lists.installed; rules = subst IsInstalled (sym has.lists.installed) ready.database.installed; outer = has.outer }

  -- both clauses of what it answers from each state that is seen
  pub seen_alone : (takes : Meaning) (input : List ℕ) (result : Result (List ℕ) Failure) → AnswersWhere root_disk.tells (IsSeen root_disk m.root m.opened) takes input result → AnswersAlone root_disk takes input m.root result
  seen_alone takes input result h = where_weaker takes input rests_seen result h

  pub seen_tree : (takes : Meaning) (input : List ℕ) (root : T) → (IsTrue root_disk.tells → HasRead root_disk m.root root (Unit {0})) → (result : Result (List ℕ) Failure) → AnswersWhere root_disk.tells (IsSeen root_disk m.root m.opened) takes input result
      → AnswersByTree root_disk repo_disk takes input m (disks root m.repo m.opened) result
  seen_tree takes input root read result h = tree_reading repo_disk takes input m (disks root m.repo m.opened) result refl read (where_weaker takes input (λ told s has. tree_seen s has) result h)

  module _ (takes : Meaning) (input : List ℕ) (outcome : List TroveParts → Result Effect Refusal) (means : (s : State) (o : Result Effect Refusal) → o ≡ outcome s.root.installed → takes.IsOutcome s input o) where
    by_list : IsTrue root_disk.tells → (s : State) → RestsAt root_store root_disk m.root s.root → (o : Result Effect Refusal) → outcome m.opened.db.installed ≡ o → takes.IsOutcome s input o
    by_list told s rests o is = means s o (sym (ap outcome (sym (installed_are told s rests)) ∙ is))

    pub answered : IsDisk root_disk → IsDisk repo_disk → IsStore repository_store → (r : Result (List ℕ) Fault) → AnswersSo (outcome m.opened.db.installed) r → Performs root_disk repo_disk takes input m m (result_of r)
    answered root_disk_laws repo_disk_laws store_laws r is =
        answers.answered root_disk_laws repo_disk_laws store_laws takes input m ready (outcome m.opened.db.installed) (λ root repo s stands. by_list root s stands.root) r is

    pub answered_alone : IsDisk root_disk → (r : Result (List ℕ) Fault) → AnswersSo (outcome m.opened.db.installed) r → PerformsAlone root_disk repo_disk takes input m m (result_of r)
    answered_alone root_disk_laws r is = answers.answered_alone repo_disk root_disk_laws takes input m (outcome m.opened.db.installed) by_list r is
