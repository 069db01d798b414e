-- Paths that no trove may record.
use Rattle.std.specs.Prelude.{◌≡◌, ℕ, Bool, if◌then◌else◌, List, [], ◌∷◌, Option, Some, None}
use Rattle.trove_parts.specs.cny-base.Reserved.{is_forbidden}
use Rattle.trove_parts.specs.cny-base.declared.refusal.Fault.{Fault}
use Rattle.trove_parts.specs.cny-base.declared.refusal.Fault.TheVariants.{Refused, Memory}
use Rattle.trove_parts.specs.cny-base.declared.refusal.Refusal.TheVariants.{Reserved}
use Rattle.trove_parts.specs.cny-stream.Record.{is_dir}
use Rattle.trove_parts.specs.declared.files.FileAt.{FileAt}
use Rattle.trove_stream.specs.declared.parts.TroveParts.{TroveParts}

-- no trove may record its path as it does
abbrev pub is_forbidden_file : FileAt → Bool
is_forbidden_file file = is_forbidden file.path (is_dir file.rec)

-- the path of the first such file
abbrev pub first_forbidden : List FileAt → Option (List ℕ)
first_forbidden [] = None
first_forbidden (file ∷ files) = if is_forbidden_file file then Some file.path else first_forbidden files

-- the refusal of this path, or want of memory
abbrev pub IsReservedOrMemory : List ℕ → Fault → Type 0
IsReservedOrMemory path (Refused refusal) = refusal ≡ Reserved path
IsReservedOrMemory path Memory = Unit {0}

-- the trove records no path that no trove may record
abbrev pub IsAllowed : TroveParts → Type 0
IsAllowed t = first_forbidden t.files ≡ None
