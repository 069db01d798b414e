-- How `sync` ends: by what the model file says, and by what its lines make.
use Rattle.std.proofs.Common.{◌≡◌, List, Result, Ok, Err, refl, subst, inl, inr}
use Rattle.std.specs.Prelude.{IsTrue, Option}
use Rattle.cli_call.specs.cny-base.declared.node.Node.{Node}
use Rattle.cli_call.specs.cny-base.declared.options.Options.{Options}
use Rattle.cli_call.specs.cny-base.declared.refusal.Refusal.{Refusal}
use Rattle.cli_call.specs.tree-disk.Disk.{DiskModel}
use Rattle.cli_call.specs.trove-stream.declared.parts.TroveParts.{TroveParts}
use Rattle.trove_spec.specs.declared.config.Config.{Config}
use Rattle.sys_model.specs.declared.model.Model.{Model}
use Rattle.sys_model.specs.RootModel.{model_path, HasModel, HasModelIn}
use Rattle.sys_model.specs.Wanted.{Wants}
use Rattle.sys_model.proofs.ModelSizes.{file_of}
use Rattle.repo_load.specs.State.{troves_of}
use Rattle.cli_call.specs.Command.{Disks, AreReady, StandsFor}
use Rattle.cli_call.specs.cny-laws.State.{Effect, State}
use Rattle.cli_call.proofs.ReadingEnds.{troves_are, CatalogueIs, IsTextFile}
use Rattle.root_commands.specs.Syncing.{AdoptsList, AdoptsWanted}

-- ---- the model file

pub model_text : IsTextFile HasModel
model_text = record {
  path = model_path;
  foreign = refl;
  same = λ t u r same has. subst (λ (o : Option Node). HasModelIn (file_of o) r) same has;
}

-- what is wanted of these troves is wanted of those of a state with them
module _ (s : State) (committed : List TroveParts) (same : committed ≡ troves_of s.repository.commits) (options : Options) (config : Config) (model : Model) where
  wants : (r : Result (List TroveParts) Refusal) → Wants committed config model.lines r → Wants (troves_of s.repository.commits) config model.lines r
  wants r is = subst (λ (t : List TroveParts). Wants t config model.lines r) same is

  pub unwanted_on : (refused : Refusal) → Wants committed config model.lines (Err refused) → AdoptsWanted options config model s (Err refused)
  unwanted_on refused is = inr (record { refusal = refused; refused = wants (Err refused) is; is = refl })

  pub adopted_on : (list : List TroveParts) → Wants committed config model.lines (Ok list) → (outcome : Result Effect Refusal) → AdoptsList options list s outcome → AdoptsWanted options config model s outcome
  adopted_on list is outcome adopts = inl (record { value = list; found = wants (Ok list) is; rest = adopts })

module _ {T P : Type 0} {root_disk : DiskModel T} {repo_disk : DiskModel P} where
  -- ---- the list

  module _ (law : CatalogueIs) (options : Options) (config : Config) (model : Model) (old : Disks T P) (ready : AreReady root_disk repo_disk old) (told : IsTrue repo_disk.tells) (s : State) (stands : StandsFor root_disk repo_disk old s) where
    pub none_wanted : (refused : Refusal) → Wants old.opened.catalogue.troves config model.lines (Err refused) → AdoptsWanted options config model s (Err refused)
    none_wanted refused is = unwanted_on s old.opened.catalogue.troves (troves_are law old ready told s stands) options config model refused is

    pub list_adopted : (list : List TroveParts) → Wants old.opened.catalogue.troves config model.lines (Ok list) → (outcome : Result Effect Refusal) → AdoptsList options list s outcome → AdoptsWanted options config model s outcome
    list_adopted list is outcome adopts = adopted_on s old.opened.catalogue.troves (troves_are law old ready told s stands) options config model list is outcome adopts
