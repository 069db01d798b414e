-- The numbers under which the bytes of files are staged.
use Rattle.std.specs.Prelude.{◌≡◌, ◌⊎◌, ℕ, ◌+◌, ◌<◌, ◌≤◌, ◌^◌, ◌==◌, true, false, List, [], ◌∷◌, length, if◌then◌else◌}
use Rattle.std.specs.List.{All, Contains, list_any}
use Rattle.sha1.specs.Sha1.{sha1}
use Rattle.journal_log.specs.declared.put.Want.{Want}
use Rattle.journal_log.specs.declared.put.Want.TheVariants.{Nothing, Dir, File, Link, Staged}
use Rattle.journal_log.specs.declared.put.Put.{Put}
use Rattle.journal_log.specs.Staged.{is_file_want, names_staged}

-- a file that takes its bytes from the staged file with this number, in place of one with its bytes
abbrev pub staged_want : ℕ → Want → Want
staged_want number Nothing = Nothing
staged_want number (Dir mode) = Dir mode
staged_want number (File mode bytes) = Staged mode number (length bytes) (sha1 bytes)
staged_want number (Link target) = Link target
staged_want number (Staged mode n size name) = Staged mode n size name

-- how many files with their bytes there are
abbrev pub file_count : List Put → ℕ
file_count [] = 0
file_count (p ∷ puts) = (if is_file_want p.want then 1 else 0) + file_count puts

-- the writes with the bytes of their files staged under these numbers, one after the other
abbrev pub with_numbers : List ℕ → List Put → List Put
with_numbers numbers [] = []
with_numbers [] (p ∷ puts) = p ∷ puts
with_numbers (n ∷ numbers) (p ∷ puts) = record { path = p.path; want = staged_want n p.want } ∷ with_numbers (if is_file_want p.want then numbers else n ∷ numbers) puts

-- they strictly rise
abbrev pub NumbersRise : List ℕ → Type 0
NumbersRise [] = Unit {0}
NumbersRise (n ∷ numbers) = All (λ m. n < m) numbers × NumbersRise numbers

-- the least numbers that no staged write names, in rising order
pub record AreLeastFree (puts : List Put) (numbers : List ℕ) : Type 0 where
  pub rise : NumbersRise numbers
  pub free : All (λ n. names_staged puts n ≡ false) numbers
  pub least : (m n : ℕ) → Contains numbers n → m < n → (names_staged puts m ≡ true) ⊎ Contains numbers m

-- The same writes, with the bytes of each file staged: in path order the files have the least numbers that no staged
-- write names. They fit in four bytes.
pub record IsNumbered (puts made : List Put) : Type 0 where
  pub numbers : List ℕ
  pub free : AreLeastFree puts numbers
  pub fit : All (λ n. n < 2 ^ 32) numbers
  pub enough : length numbers ≡ file_count puts
  pub writes : made ≡ with_numbers numbers puts

-- ---- number by number

-- the least number from `from` on that isn't among these
pub record IsNextFree (used : List ℕ) (from number : ℕ) : Type 0 where
  pub from_on : from ≤ number
  pub fits : number < 2 ^ 32
  pub free : list_any (λ n. n == number) used ≡ false
  pub least : (m : ℕ) → from ≤ m → m < number → list_any (λ n. n == m) used ≡ true

-- A file's bytes are staged under the next free number, and the search goes on behind it; any other write stays.
abbrev pub IsNumberedNext : List ℕ → Put → ℕ → ℕ → Put → Type 0
IsNumberedNext used p from to made =
    (made ≡ p) × (to ≡ from) × (is_file_want p.want ≡ false)
    ⊎ (number : ℕ) × IsNextFree used from number × (to ≡ number + 1) × (is_file_want p.want ≡ true) × (made ≡ record { path = p.path; want = staged_want number p.want })
