-- The database once jobs are taken back is one.
use Rattle.std.proofs.Common.{◌≡◌, ◌-◌, ◌≤◌, inl, inr, ⊎_elim, ℕ, Bool, true, false, nat_lt, List, refl, arith}
use Rattle.std.specs.Prelude.{if◌then◌else◌}
use Rattle.std.proofs.lemmas.Bool.{ltb-true}
use Rattle.job_targets.specs.trove-stream.declared.parts.TroveParts.{TroveParts}
use Rattle.local_db.specs.declared.db.Db.{Db}
use Rattle.local_db.specs.declared.format.Format.TheVariants.{Two}
use Rattle.local_db.specs.Formats.{AreEnds, Fits}
use Rattle.local_db.specs.Installed.{IsInstalled}
use Rattle.local_db.specs.Stores.{IsDatabase}
use Rattle.rollback_stack.specs.Database.{newest_below, oldest_below}
use Rattle.rollback_stack.specs.Inverse.{IsOnStack}

ends_below : (low high number : ℕ) → AreEnds low high → 1 ≤ low → low ≤ number → number ≤ high → (b : Bool) → nat_lt low number ≡ b → AreEnds (if b then low else 0) (if b then number - 1 else 0)
ends_below low high number ends some kept made false is = inl (refl, refl)
ends_below low high number ends some kept made true is =
    let less = ltb-true low number is in
    ⊎_elim
    (λ none. let zero_low = none.0 in absurd (omega (arith, zero_low, some)))
    (λ job.
    let few = job.2 in
    let most = job.3 in
    inr (some, omega (arith, less), omega (arith, made, few), omega (arith, made, most)))
    ends

pub database_below : (db : Db) (list : List TroveParts) (number : ℕ) → AreEnds db.oldest db.newest → IsOnStack db number → IsInstalled list → Fits Two list
    → IsDatabase Two list (oldest_below db.oldest number) (newest_below db.oldest number)
database_below db list number ends on installed fits = record {
  installed = installed;
  ends = ends_below db.oldest db.newest number ends on.some on.kept on.made (nat_lt db.oldest number) refl;
  fits = fits;
}
