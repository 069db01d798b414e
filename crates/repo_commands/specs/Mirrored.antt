-- One repository takes over what it lacks of another one by three commands.
use Rattle.std.specs.Prelude.{ℕ, List, Ok}
use Rattle.repo_load.specs.State.{IsRepository}
use Rattle.cli_call.specs.cny-laws.State.{Effect, State}
use Rattle.repo_commands.specs.AskMirror.{ask_mirror}
use Rattle.repo_commands.specs.Serving.{serve}
use Rattle.repo_commands.specs.TakeMirror.{take_mirror}

-- `mirror ask` answers, `serve` answers that on the other disk, and `mirror take` of what this answers is done, to this effect.
pub record IsMirrored (own other : State) (told : Effect) : Type 0 where
  pub other_is : IsRepository other.repository
  pub input : List ℕ
  pub asked : Effect
  pub served : Effect
  pub asks : ask_mirror.IsOutcome own input (Ok asked)
  pub serves : serve.IsOutcome other asked.out (Ok served)
  pub takes : take_mirror.IsOutcome own served.out (Ok told)
