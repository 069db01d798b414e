use Rattle.std.proofs.Common.{◌≡◌, ℕ, List}
use Rattle.manifest_troves.specs.Shares.{share_at, with_deps}
use Rattle.manifest_troves.proofs.shares.take_deps.Given as goal

abbrev pub invariant-loop-line : goal.invariant-loop-line
invariant-loop-line l = (name : List ℕ) → share_at l.shares name ≡ with_deps l.kind name (share_at l.fn.shares name) l.yielded
