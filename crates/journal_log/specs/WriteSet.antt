-- Which lists of writes are write sets, and which of them a log can hold.
use Rattle.std.specs.Prelude.{◌≡◌, ◌≢◌, ℕ, ◌≤◌, ◌<◌, ◌^◌, false, IsTrue, List, [], ◌∷◌, length}
use Rattle.std.specs.List.{All}
use Rattle.std.specs.Ordering.{nat_cmp}
use Rattle.std.specs.declared.cmp.Ordering.TheVariants.{Less}
use Rattle.std.specs.Cmp.Lexicographic.{slice_cmp}
use Rattle.tree_disk.specs.cny-base.Path.{is_path, root}
use Rattle.tree_disk.specs.cny-base.Below.{is_below}
use Rattle.tree_disk.specs.cny-base.Target as base
use Rattle.tree_disk.specs.Tree.{Name}
use Rattle.journal_log.specs.declared.put.Want.{Want}
use Rattle.journal_log.specs.declared.put.Want.TheVariants.{Nothing, Dir, File, Link, Staged}
use Rattle.journal_log.specs.declared.put.Put.{Put}
use Rattle.journal_log.specs.Own.{is_own, staged_file}
use Rattle.journal_log.specs.Targets.{is_dir_want}

-- the path comes before that of the next write
abbrev pub ComesBefore : Put → List Put → Type 0
ComesBefore p [] = Unit {0}
ComesBefore p (q ∷ puts) = slice_cmp nat_cmp p.path q.path ≡ Less

-- the paths strictly rise
abbrev pub Rises : List Put → Type 0
Rises [] = Unit {0}
Rises (p ∷ puts) = ComesBefore p puts × Rises puts

-- what the fields of a staged file hold: a mode, two numbers of four bytes, and a digest
pub record IsStagedForm (mode number size : ℕ) (name : List ℕ) : Type 0 where
  pub mode_fits : mode ≤ 4095
  pub number_fits : number < 2 ^ 32
  pub size_fits : size < 2 ^ 32
  pub name_long : length name ≡ 20

-- what the types of a write hold
abbrev pub IsFormed : Want → Type 0
IsFormed Nothing = Unit {0}
IsFormed (Dir mode) = mode ≤ 4095
IsFormed (File mode bytes) = mode ≤ 4095
IsFormed (Link target) = IsTrue (base.is_target target)
IsFormed (Staged mode number size name) = IsStagedForm mode number size name

-- A log holds no bytes of files, but names files that hold them: each has a path in the directory of staged bytes.
abbrev pub CanBeLogged : Name → Want → Type 0
CanBeLogged base Nothing = Unit {0}
CanBeLogged base (Dir mode) = Unit {0}
CanBeLogged base (File mode bytes) = ⊥
CanBeLogged base (Link target) = Unit {0}
CanBeLogged base (Staged mode number size name) = IsTrue (is_path (staged_file base number))

-- A path that a log can name: neither `/` nor one of the journal's own.
pub record CanBeNamed (base path : Name) : Type 0 where
  pub not_root : path ≢ root
  pub not_own : is_own base path ≡ false

-- Writes that can be made in one go: their paths strictly rise, and below a target that isn't a directory nothing is to stand.
pub record IsWriteSet (puts : List Put) : Type 0 where
  pub rises : Rises puts
  pub paths : All (λ p. IsTrue (is_path p.path)) puts
  pub formed : All (λ p. IsFormed p.want) puts
  pub nothing_below : All (λ p. is_dir_want p.want ≡ false → All (λ q. IsTrue (is_below p.path q.path) → q.want ≡ Nothing) puts) puts

-- A write set that a log can hold.
pub record IsLoggable (base : Name) (puts : List Put) : Type 0 where
  pub write_set : IsWriteSet puts
  pub named : All (λ p. CanBeNamed base p.path) puts
  pub logged : All (λ p. CanBeLogged base p.want) puts
