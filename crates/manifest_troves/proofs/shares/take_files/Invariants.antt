use Rattle.std.proofs.Common.{◌≡◌, ℕ, List}
use Rattle.manifest_troves.specs.Shares.{share_at, with_files}
use Rattle.manifest_troves.proofs.shares.take_files.Given as goal

abbrev pub invariant-loop-file : goal.invariant-loop-file
invariant-loop-file l = (name : List ℕ) → share_at l.shares name ≡ with_files l.whole name (share_at l.fn.shares name) l.yielded
