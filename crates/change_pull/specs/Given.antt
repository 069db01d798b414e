-- What a pull stands for: the bytes that it was given, and what they decide.
use Rattle.std.specs.Prelude.{ℕ, List, map, Option, Some, None, Result, Ok, Err, length}
use Rattle.cny_stream.specs.Decided.{Decided}
use Rattle.journal_log.specs.tree-disk.Tree.{Name, Tree}
use Rattle.change_set.specs.cny-base.declared.refusal.Refusal.{Refusal}
use Rattle.change_set.specs.cny-base.declared.refusal.Refusal.TheVariants as refusal
use Rattle.change_set.specs.cny-base.declared.refusal.What.TheVariants.{Content}
use Rattle.change_set.specs.cny-base.declared.stop.Stop.{Stop}
use Rattle.change_set.specs.cny-base.declared.stop.Stop.TheVariants.{Refused, Memory, Failed, Damaged, FarFailed, FarDamaged}
use Rattle.change_set.specs.declared.change.ChangeSet.{ChangeSet}
use Rattle.change_set.specs.FirstFault.{IsFirstFault}
use Rattle.change_pull.specs.declared.halt.Halt.{Halt}
use Rattle.change_pull.specs.declared.halt.Halt.TheVariants as halts
use Rattle.change_pull.specs.declared.pull.Pull.{Pull}
use Rattle.change_pull.specs.declared.pull.Pulled.{Pulled}
use Rattle.change_pull.specs.declared.reading.Reading.{Reading}
use Rattle.change_pull.specs.Files.{carried_in}
use Rattle.change_pull.specs.Halts.{stop_of}
use Rattle.change_pull.specs.Open.{IsOpen}

-- It was stopped by a refusal, which the bytes decide.
abbrev pub IsStopped : List ℕ → Halt → Type 0
IsStopped given (halts.Malformed at) = Decided IsFirstFault given (refusal.Malformed at)
IsStopped given (halts.TooLarge size) = Decided IsFirstFault given (refusal.TooLarge Content size)
IsStopped given halts.Failed = ⊥
IsStopped given halts.Memory = ⊥

abbrev pub IsGivenTo : Option Halt → Reading → Name → List ℕ → Type 0
IsGivenTo None reading dir given = IsOpen reading dir given
IsGivenTo (Some halt) reading dir given = IsStopped given halt

-- A pull was given these bytes, and its contents go below this directory. No call of it failed and none lacked memory.
abbrev pub IsGiven : Pull → Name → List ℕ → Type 0
IsGiven pull dir given = IsGivenTo pull.over pull.reading dir given

abbrev pub stop_told : Option Halt → Option Stop
stop_told None = None
stop_told (Some halt) = Some (stop_of halt)

-- how many contents of it are whole
abbrev pub count_of : Pull → ℕ
count_of pull = length pull.reading.staged.items

-- It was given these bytes, and they decide nothing.
abbrev pub IsUndecided : Pull → Name → List ℕ → Type 0
IsUndecided pull dir given = IsOpen pull.reading dir given

-- the stop that it tells from now on
abbrev pub told_stop : Pull → Option Stop
told_stop pull = stop_told pull.over

-- where a stop is a refusal, this holds of it
abbrev pub IfRefused : (Refusal → Type 0) → Stop → Type 0
IfRefused P (Refused refusal) = P refusal
IfRefused P Memory = Unit {0}
IfRefused P Failed = Unit {0}
IfRefused P (Damaged path) = ⊥
IfRefused P FarFailed = ⊥
IfRefused P (FarDamaged path) = ⊥

-- this holds where the call ended well or with a refusal
abbrev pub UnlessFailing : Result Unit Stop → Type 0 → Type 0
UnlessFailing (Ok u) P = P
UnlessFailing (Err (Refused refusal)) P = P
UnlessFailing (Err stop) P = Unit {0}

-- the change set of what was pulled, with the bytes that stand in the files
abbrev pub set_in : Tree → Pulled → ChangeSet
set_in tree pulled = record { parts = pulled.parts; contents = map (carried_in tree) pulled.staged }
