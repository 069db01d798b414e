-- What a source and a sink mean, and what their calls do.
use Rattle.std.specs.Prelude.{◌≡◌, ℕ, ◌≤◌, List, take, drop, Option, Result, Ok, Err, IsErrOf}
use Rattle.std.specs.Io.KnownBytes.{Appends, Keeps}
use Rattle.cny_base.specs.Count.{Rose, next}
use Rattle.cny_base.specs.declared.fault.FlowFault.{FlowFault}
use Rattle.cny_base.specs.declared.fault.FlowFault.TheVariants.{Failed, Memory}

-- the meanings of a source
pub record SourceModel (S : Type 0) : Type 1 where
  -- the bytes that are left, where the source tells them
  pub left : S → Option (List ℕ)
  -- how often the source has failed; a count that stays at its greatest value
  pub faults : S → ℕ

-- the meanings of a sink
pub record SinkModel (S : Type 0) : Type 1 where
  -- the bytes that were written, where the sink tells them
  pub written : S → Option (List ℕ)
  -- how often the sink has failed; a count that stays at its greatest value
  pub faults : S → ℕ

-- what a source tells at one moment
pub record SourceState : Type 0 where
  pub left : Option (List ℕ)
  pub faults : ℕ

-- what a sink tells at one moment
pub record SinkState : Type 0 where
  pub written : Option (List ℕ)
  pub faults : ℕ

-- all that a source tells, and all that a sink tells
abbrev pub source_state : {S : Type 0} → SourceModel S → S → SourceState
source_state source s = record { left = source.left s; faults = source.faults s }

abbrev pub sink_state : {S : Type 0} → SinkModel S → S → SinkState
sink_state sink s = record { written = sink.written s; faults = sink.faults s }

-- The count of faults never falls, `Failed` comes only where it rose, and want of memory is no fault.
pub record HasCause {T : Type 0} (before now : ℕ) (result : Result T FlowFault) : Type 0 where
  pub later : before ≤ now
  pub failed : IsErrOf result Failed → Rose before now
  pub no_fault : IsErrOf result Memory → now ≡ before

-- A buffer stays as it was behind the bytes that were moved into it. After an error that is all of it.
abbrev pub KeepsRest : {E : Type 0} → Result ℕ E → List ℕ → List ℕ → Type 0
KeepsRest (Ok count) old new = drop count new ≡ drop count old
KeepsRest (Err _) old new = new ≡ old

-- some first part of bytes was appended
abbrev pub AppendsPart : Option (List ℕ) → Option (List ℕ) → List ℕ → Type 0
AppendsPart old new bytes = (count : ℕ) × Appends old new (take count bytes)

-- All bytes are appended at `Ok`, a first part of them at `Failed`, and none at `Memory`.
abbrev pub GiveAppends : Option (List ℕ) → Option (List ℕ) → Result (Unit {0}) FlowFault → List ℕ → Type 0
GiveAppends old new (Ok _) bytes = Appends old new bytes
GiveAppends old new (Err Failed) bytes = AppendsPart old new bytes
GiveAppends old new (Err Memory) bytes = Keeps old new

-- the count of faults after a call: one more after `Failed`, and else as it was
abbrev pub faults_after : {T : Type 0} → Result T FlowFault → ℕ → ℕ
faults_after (Err Failed) faults = next faults
faults_after _ faults = faults
