use Rattle.std.proofs.Common.{◌≡◌, ◌≤◌, length, drop, false, ℕ, List}
use Rattle.cny_base.specs.Path.{has_slash}
use Rattle.cny_base.proofs.path_grammar.name_start.Given as goal

pub record NoSlashFrom (at : ℕ) (bytes : List ℕ) : Type 0 where
  pub within : at ≤ length bytes
  pub no_slash : has_slash (drop at bytes) ≡ false

abbrev pub invariant-loop-at : goal.invariant-loop-at
invariant-loop-at l = NoSlashFrom l.at l.bytes

abbrev pub decreases-loop-at : goal.decreases-loop-at
decreases-loop-at l = l.at
