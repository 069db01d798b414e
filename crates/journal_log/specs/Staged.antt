-- Which staged files writes name, and which writes hold the bytes of files themselves.
use Rattle.std.specs.Prelude.{◌≡◌, ℕ, ◌<◌, ◌^◌, Bool, true, false, List, ◌==◌}
use Rattle.std.specs.Fmt.{decimal}
use Rattle.std.specs.List.{All, list_any}
use Rattle.tree_disk.specs.Tree.{same_name}
use Rattle.journal_log.specs.declared.put.Want.{Want}
use Rattle.journal_log.specs.declared.put.Want.TheVariants.{Nothing, Dir, File, Link, Staged}
use Rattle.journal_log.specs.declared.put.Put.{Put}

-- a file with its bytes
abbrev pub is_file_want : Want → Bool
is_file_want Nothing = false
is_file_want (Dir mode) = false
is_file_want (File mode bytes) = true
is_file_want (Link target) = false
is_file_want (Staged mode number size name) = false

-- none of the writes holds the bytes of a file
abbrev pub HaveNoBytes : List Put → Type 0
HaveNoBytes puts = All (λ p. is_file_want p.want ≡ false) puts

-- the write takes its bytes from the staged file with this number
abbrev pub is_staged_as : ℕ → Want → Bool
is_staged_as number Nothing = false
is_staged_as number (Dir mode) = false
is_staged_as number (File mode bytes) = false
is_staged_as number (Link target) = false
is_staged_as number (Staged mode n size name) = n == number

-- one of the writes takes its bytes from the staged file with this number
abbrev pub names_staged : List Put → ℕ → Bool
names_staged puts number = list_any (λ p. is_staged_as number p.want) puts

-- the write takes its bytes from the staged file whose last name is this
abbrev pub is_staged_at : List ℕ → Want → Bool
is_staged_at last Nothing = false
is_staged_at last (Dir mode) = false
is_staged_at last (File mode bytes) = false
is_staged_at last (Link target) = false
is_staged_at last (Staged mode number size name) = same_name (decimal number) last

-- one of the writes takes its bytes from the staged file whose last name is this
abbrev pub names_staged_at : List Put → List ℕ → Bool
names_staged_at puts last = list_any (λ p. is_staged_at last p.want) puts

-- these are the numbers of staged files that the writes name
abbrev pub AreStagedNumbers : List Put → List ℕ → Type 0
AreStagedNumbers puts numbers = (number : ℕ) → list_any (λ n. n == number) numbers ≡ names_staged puts number

-- they fit in four bytes
abbrev pub NumbersFit : List ℕ → Type 0
NumbersFit numbers = (number : ℕ) → list_any (λ n. n == number) numbers ≡ true → number < 2 ^ 32
