use Rattle.std.proofs.Common.{◌≡◌, ◌+◌, ◌-◌, ◌^◌, ◌≤◌, min, length}
use Rattle.root_edits.specs.Verify.{asked}
use Rattle.root_edits.specs.Local.{records}
use Rattle.root_edits.proofs.asked.count_paths.Given as goal

abbrev pub invariant-loop-rest : goal.invariant-loop-rest
invariant-loop-rest l = record {
  so_far : min (l.count + length (records (asked l.names l.rest))) (2 ^ 64 - 1) ≡ min (length (records (asked l.names l.troves))) (2 ^ 64 - 1);
  fits : l.count ≤ 2 ^ 64 - 1;
}

abbrev pub decreases-loop-rest : goal.decreases-loop-rest
decreases-loop-rest l = length l.rest
