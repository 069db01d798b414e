-- What `sync` leads to, and from which states on it changes nothing.
use Rattle.std.specs.Prelude.{◌≡◌, List, Ok}
use Rattle.std.specs.FinMap.{get}
use Rattle.conary_cli.specs.cli-call.trove-stream.declared.parts.TroveParts.{TroveParts}
use Rattle.conary_cli.specs.cli-call.cny-laws.State.{State, tree_of}
use Rattle.repo_load.specs.State.{troves_of}
use Rattle.trove_spec.specs.declared.config.Config.{Config}
use Rattle.trove_spec.specs.RootConfig.{config_path, HasConfig}
use Rattle.conary_cli.specs.root-commands.sys-model.declared.model.Model.{Model}
use Rattle.conary_cli.specs.root-commands.sys-model.RootModel.{model_path, HasModel}
use Rattle.conary_cli.specs.root-commands.sys-model.Wanted.{Wants}

-- This is the list that the root's model wants of the repository, by the root's configuration.
pub record WantsList (s : State) (list : List TroveParts) : Type 0 where
  pub config : Config
  pub configured : HasConfig (tree_of s.root) (Ok config)
  pub model : Model
  pub says : HasModel (tree_of s.root) (Ok model)
  pub wants : Wants (troves_of s.repository.commits) config model.lines (Ok list)

-- The later state has the commits of the earlier one, its configuration file and its model file, and this installed list. Whatever else
-- stands may be other.
pub record KeepsModel (s t : State) (list : List TroveParts) : Type 0 where
  pub commits : t.repository.commits ≡ s.repository.commits
  pub config : get (tree_of t.root) config_path ≡ get (tree_of s.root) config_path
  pub model : get (tree_of t.root) model_path ≡ get (tree_of s.root) model_path
  pub installed : t.root.installed ≡ list
