use Rattle.std.proofs.Common.{◌≤◌, List, ℕ, length, subst, sym, arith}
use Rattle.job_targets.proofs.Paths.{saved_short}
use Rattle.job_targets.proofs.old.old_file.Goals as goal

pub content_in-requires : goal.content_in-requires
content_in-requires g c = subst (λ (l : List ℕ). length l ≤ 983) (sym c.in_ok-dir.ensures) (saved_short c.args.number (omega arith))
