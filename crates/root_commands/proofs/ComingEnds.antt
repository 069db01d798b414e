-- How an update by a change set follows from the job of the troves that it makes.
use Rattle.std.proofs.Common.{◌≡◌, List, Result, Err, refl, subst, inl, inr}
use Rattle.std.specs.Prelude.{IsTrue}
use Rattle.cli_call.specs.cny-base.declared.options.Options.{Options}
use Rattle.cli_call.specs.cny-base.declared.refusal.Fault.{Fault}
use Rattle.cli_call.specs.cny-base.declared.refusal.Fault.TheVariants as fault
use Rattle.cli_call.specs.cny-base.declared.refusal.Refusal.{Refusal}
use Rattle.cli_call.specs.tree-disk.Disk.{DiskModel}
use Rattle.cli_call.specs.trove-stream.declared.parts.TroveParts.{TroveParts}
use Rattle.cli_call.specs.change-set.Contents.{IfRefused}
use Rattle.cli_call.specs.change-set.declared.change.ChangeSet.{ChangeSet}
use Rattle.update_job.specs.Made.{AreMade, IsFirstRefused}
use Rattle.cli_call.specs.Command.{Disks, AreReady, StandsFor}
use Rattle.cli_call.proofs.RootDatabase.{held_database}
use Rattle.cli_call.specs.cny-laws.State.{Effect, State}
use Rattle.root_commands.specs.Update.{UpdatesBy, UpdatesTo}
use Rattle.cli_call.proofs.system-core.Held.{OneDatabase}

-- on a state with this installed list
module _ (s : State) (installed : List TroveParts) (same_list : installed ≡ s.root.installed) (options : Options) (set : ChangeSet) where
  pub refused_on : (f : Fault) → IfRefused (IsFirstRefused installed set.parts) f → (refused : Refusal) → f ≡ fault.Refused refused → UpdatesBy options set s (Err refused)
  refused_on f is refused same = inr (record {
    refusal = refused;
    refused = subst (λ (list : List TroveParts). IsFirstRefused list set.parts refused) same_list (subst (IfRefused (IsFirstRefused installed set.parts)) same is);
    is = refl;
  })

  pub made_on : (troves : List TroveParts) → AreMade installed set.parts troves → (outcome : Result Effect Refusal) → UpdatesTo options set.contents troves s outcome → UpdatesBy options set s outcome
  made_on troves are outcome is = inl (record { value = troves; found = subst (λ (list : List TroveParts). AreMade list set.parts troves) same_list are; rest = is })

module _ {T P : Type 0} {root_disk : DiskModel T} {repo_disk : DiskModel P} (law : OneDatabase) (old : Disks T P) (ready : AreReady root_disk repo_disk old) (told : IsTrue root_disk.tells) (s : State) (stands : StandsFor root_disk repo_disk old s) where
  -- the list at hand is that of the system
  pub same_installed : old.opened.db.installed ≡ s.root.installed
  same_installed = let held = held_database law (root_disk.reads old.root) old.opened.db s.root (ready.root told).holds stands.root.stored in held.list

  module _ (options : Options) (set : ChangeSet) where
    pub set_refused : (f : Fault) → IfRefused (IsFirstRefused old.opened.db.installed set.parts) f → (refused : Refusal) → f ≡ fault.Refused refused → UpdatesBy options set s (Err refused)
    set_refused f is refused same = refused_on s old.opened.db.installed same_installed options set f is refused same

    pub set_made : (troves : List TroveParts) → AreMade old.opened.db.installed set.parts troves → (outcome : Result Effect Refusal) → UpdatesTo options set.contents troves s outcome → UpdatesBy options set s outcome
    set_made troves are outcome is = made_on s old.opened.db.installed same_installed options set troves are outcome is
