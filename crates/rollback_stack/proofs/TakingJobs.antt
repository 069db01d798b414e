-- Jobs that are taken back one after the other.
use Rattle.std.proofs.Common.{◌≡◌, ℕ, ◌+◌, ◌-◌, List, [], ◌∷◌, ◌++◌, refl, sym, ◌∙◌, ap, subst, length-append}
use Rattle.job_targets.specs.trove-stream.declared.parts.TroveParts.{TroveParts}
use Rattle.job_targets.specs.tree-disk.Tree.{Tree}
use Rattle.local_db.specs.declared.db.Db.{Db}
use Rattle.local_db.specs.declared.format.Format.TheVariants.{Two}
use Rattle.rollback_stack.specs.JobReading.{HoldsRecord}
use Rattle.past_jobs.proofs.JobLaws.{none_found, undone_next}
use Rattle.past_jobs.specs.Seen.{FoundMarks}
use Rattle.rollback_stack.specs.Taking.{AreTaken, HasTakenJob}
use Rattle.rollback_stack.proofs.Noting.{records_push}

-- none so far
pub none_taken : (x : Tree) (db : Db) (list : List TroveParts) (found : FoundMarks) → list ≡ db.installed → found.entries ≡ [] → AreTaken x db 0 list found
none_taken x db list found same none = record {
  jobs = [];
  long = refl;
  holds = same;
  undone = record { found_are = none_found db.newest found none; can = tt };
}

-- one job more
pub one_taken : (x : Tree) (db : Db) (count : ℕ) (list next : List TroveParts) (old new : FoundMarks) → AreTaken x db count list old → HasTakenJob x (db.newest - count) list next old new
    → AreTaken x db (count + 1) next new
one_taken x db count list next old new so_far taken = record {
  jobs = so_far.jobs ++ taken.es ∷ [];
  long = length-append so_far.jobs (taken.es ∷ []) ∙ ap (λ (n : ℕ). n + 1) so_far.long;
  holds = records_push Two x db.newest db.installed list next so_far.jobs taken.es so_far.holds
      (subst (λ (n : ℕ). HoldsRecord Two x (db.newest - n) list next taken.es) (sym so_far.long) taken.holds);
  undone = undone_next x db.newest so_far.jobs taken.es old new so_far.undone taken.can
      (taken.found db.newest so_far.jobs (ap (λ (n : ℕ). db.newest - n) (sym so_far.long)) so_far.undone.found_are);
}
