-- The database once jobs are taken back.
use Rattle.std.specs.Prelude.{ℕ, ◌-◌, nat_lt, if◌then◌else◌, List}
use Rattle.job_targets.specs.trove-stream.declared.parts.TroveParts.{TroveParts}
use Rattle.local_db.specs.declared.db.Db.{Db}

-- the numbers of a stack whose jobs from `number` on are gone
abbrev pub oldest_below : ℕ → ℕ → ℕ
oldest_below oldest number = if nat_lt oldest number then oldest else 0

abbrev pub newest_below : ℕ → ℕ → ℕ
newest_below oldest number = if nat_lt oldest number then number - 1 else 0

abbrev pub db_below : Db → List TroveParts → ℕ → Db
db_below db before number = record { installed = before; oldest = oldest_below db.oldest number; newest = newest_below db.oldest number }
