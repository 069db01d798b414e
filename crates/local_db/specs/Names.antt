-- The names of the files in the private directory of a root tree.
use Rattle.std.specs.Prelude.{ℕ, Bool, false, ◌||◌, not, List, [], ◌∷◌, ◌++◌, codes}
use Rattle.std.specs.Fmt as fmt
use Rattle.trove_stream.specs.cny-base.Path.{join}
use Rattle.trove_stream.specs.cny-base.Reserved.{private_directory, is_reserved}
use Rattle.tree_journal.specs.tree-disk.Tree.{Name, same_name}
use Rattle.tree_journal.specs.tree-disk.Clear.{is_within}
use Rattle.local_db.specs.SystemState.{StackItem, SystemState}

-- the database
abbrev pub database : Name
database = join private_directory (codes "db")

-- the rollback record of a job
abbrev pub record_file : ℕ → Name
record_file number = join private_directory (codes "r." ++ fmt.decimal number)

-- the directory of the contents that a job saved
abbrev pub saved : ℕ → Name
saved number = join private_directory (codes "s." ++ fmt.decimal number)

-- the names of one job that count: its record, and its saved contents with all below
abbrev pub is_job_name : ℕ → Name → Bool
is_job_name number q = same_name q (record_file number) || is_within (saved number) q

abbrev pub is_job_name_of : List StackItem → Name → Bool
is_job_name_of [] q = false
is_job_name_of (o ∷ olds) q = is_job_name o.number q || is_job_name_of olds q

-- the places of one job: its record and its saved contents, with all that stands below
abbrev pub is_job_place : ℕ → Name → Bool
is_job_place number q = is_within (record_file number) q || is_within (saved number) q

-- the names that count for a system: those outside the private directory, the database, and those of its jobs
abbrev pub counts : SystemState → Name → Bool
counts s q = not (is_reserved q) || (same_name q database || is_job_name_of s.stack q)
