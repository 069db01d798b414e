-- A list without some names and with some troves.
use Rattle.std.specs.Prelude.{◌≡◌, ℕ, if◌then◌else◌, List, Option, None}
use Rattle.std.specs.List.{list_any}
use Rattle.std.specs.Str.{bytes_eq}
use Rattle.trove_stream.specs.cny-base.declared.refusal.Fault.{Fault}
use Rattle.trove_stream.specs.cny-base.declared.refusal.Fault.TheVariants.{Refused, Memory}
use Rattle.trove_stream.specs.Installed.{IsRising, trove_of}
use Rattle.trove_stream.specs.declared.parts.TroveParts.{TroveParts}
use Rattle.dep_closure.specs.Closed.{IsUnmetOrMemory}
pub use Rattle.trove_stream.specs.Either.{or_else}

-- what has this name after the change: the trove that comes; else nothing, where the name goes; else what had it before
abbrev pub trove_after : List (List ℕ) → List TroveParts → List TroveParts → List ℕ → Option TroveParts
trove_after gone come old name = or_else (trove_of name come) (if list_any (bytes_eq name) gone then None else trove_of name old)

-- the list without the names that go and with the troves that come, in name order
pub record IsChanged (gone : List (List ℕ)) (come old new : List TroveParts) : Type 0 where
  pub rising : IsRising new
  pub each : (name : List ℕ) → trove_of name new ≡ trove_after gone come old name

-- the refusal of the first requirement that the changed list doesn't meet, or want of memory
abbrev pub RefusesChange : List (List ℕ) → List TroveParts → List TroveParts → Fault → Type 0
RefusesChange gone come old (Refused refusal) = (new : List TroveParts) × IsChanged gone come old new × IsUnmetOrMemory new (Refused refusal)
RefusesChange gone come old Memory = Unit {0}
