use Rattle.std.proofs.Common.{◌≡◌, ◌≤◌, length}
use Rattle.conary_manifest.proofs.host_dir.fill.Given as goal

abbrev pub invariant-loop : goal.invariant-loop
invariant-loop g l = record {
  room : length l.buf ≡ length l.fn.buf;
  within : l.filled ≤ length l.buf;
}
