-- Why a step of the work stops.
use Rattle.std.specs.Prelude.{◌≡◌, false, Bool, List, ◌∷◌, ◌++◌, All, Contains}
use Rattle.tree_disk.specs.Tree.{Name}
use Rattle.tree_disk.specs.cny-base.declared.text.TextFault.{TextFault}
use Rattle.tree_disk.specs.cny-base.declared.text.TextFault.TheVariants as fault
use Rattle.tree_disk.specs.declared.disk.Look.{Look}
use Rattle.cny_pack.specs.Causes.{IsFirstBad}
use Rattle.cny_pack.specs.Plan.{IsFit, RefusesOne}
use Rattle.cny_pack.specs.declared.head.Words.{Words}
use Rattle.cny_pack.specs.declared.stop.BadWord.{BadWord}
use Rattle.cny_pack.specs.declared.stop.Halt.{Halt}
use Rattle.cny_pack.specs.declared.stop.Halt.TheVariants as halt
use Rattle.cny_pack.specs.declared.stop.PackStop.{PackStop}
use Rattle.cny_pack.specs.declared.stop.PackStop.TheVariants as pack
use Rattle.cny_pack.specs.declared.stop.Unfit.{Unfit}
use Rattle.cny_pack.specs.declared.stop.Unfit.TheVariants as unfit

-- ---- words

-- what a word that isn't read makes of the whole
abbrev pub unread : TextFault → BadWord → PackStop
unread fault.Bad word = pack.Word word
unread fault.Memory word = pack.Memory

-- this word is refused, for this reason, or no memory was left
abbrev pub IsUnread : BadWord → Type 0 → PackStop → Type 0
IsUnread word Why (pack.Word other) = (other ≡ word) × Why
IsUnread word Why pack.Memory = Unit {0}
IsUnread word Why _ = ⊥

-- the first bad word is refused, or no memory was left
abbrev pub IsHeadStop : Words → PackStop → Type 0
IsHeadStop words (pack.Word word) = IsFirstBad words word
IsHeadStop words pack.Memory = Unit {0}
IsHeadStop words _ = ⊥

-- ---- what stands at paths

-- of what was seen, in its order, the first that can't be in a manifest is refused
abbrev pub RefusesFirst : List (Name × Look) → Bool → PackStop → Type 0
RefusesFirst seen skip stop =
    (done : List (Name × Look)) × (pair : Name × Look) × (rest : List (Name × Look)) × (done ++ pair ∷ rest ≡ seen)
    × (skip ≡ false → All IsFit done) × RefusesOne pair.0 pair.1 skip stop

-- the disk failed, which holds then, or no memory was left
abbrev pub IsLookStop : Type 0 → PackStop → Type 0
IsLookStop disk pack.DiskFailed = disk
IsLookStop disk pack.Memory = Unit {0}
IsLookStop disk _ = ⊥

-- the rules are broken, which holds then, or no memory was left
abbrev pub IsJudgeStop : Type 0 → PackStop → Type 0
IsJudgeStop broken pack.NoTroves = broken
IsJudgeStop broken pack.Memory = Unit {0}
IsJudgeStop broken _ = ⊥

-- ---- entries

-- An entry isn't written: this holds where it can't be, where the disk failed, and where the sink failed.
abbrev pub IsHalt : (Unfit → Type 0) → (disk sink : Type 0) → Halt → Type 0
IsHalt cannot disk sink (halt.Unfit why) = cannot why
IsHalt cannot disk sink halt.DiskFailed = disk
IsHalt cannot disk sink halt.SinkFailed = sink
IsHalt cannot disk sink halt.Memory = Unit {0}

-- no entry is refused
abbrev pub Never : Unfit → Type 0
Never why = ⊥

-- this holds where a file has changed, and for nothing else an entry is refused
abbrev pub OnlyChanged : Type 0 → Unfit → Type 0
OnlyChanged P unfit.Changed = P
OnlyChanged P _ = ⊥

-- this holds where nobody tells an owner, and for nothing else an entry is refused
abbrev pub OnlyNoOwner : Type 0 → Unfit → Type 0
OnlyNoOwner P unfit.NoOwner = P
OnlyNoOwner P _ = ⊥

-- what an entry at the path that isn't written makes of the whole
abbrev pub IsStopAt : Name → Halt → PackStop → Type 0
IsStopAt path (halt.Unfit why) (pack.Unfit other so) = (other ≡ path) × (so ≡ why)
IsStopAt path halt.DiskFailed pack.DiskFailed = Unit {0}
IsStopAt path halt.SinkFailed pack.SinkFailed = Unit {0}
IsStopAt path (halt.Unfit why) pack.Memory = Unit {0}
IsStopAt path halt.Memory pack.Memory = Unit {0}
IsStopAt path _ _ = ⊥

-- Entries aren't all written: this holds where one can't be, where the disk failed, and where the sink failed.
abbrev pub IsGivingStop : (Name → Unfit → Type 0) → (disk sink : Type 0) → PackStop → Type 0
IsGivingStop cannot disk sink (pack.Unfit path why) = cannot path why
IsGivingStop cannot disk sink pack.DiskFailed = disk
IsGivingStop cannot disk sink pack.SinkFailed = sink
IsGivingStop cannot disk sink pack.Memory = Unit {0}
IsGivingStop cannot disk sink _ = ⊥
