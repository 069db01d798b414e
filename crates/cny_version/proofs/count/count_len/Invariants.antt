use Rattle.std.proofs.Common.{◌≡◌, ◌+◌, ◌*◌, ◌≤◌, length, take}
use Rattle.cny_version.proofs.CountLoops.{more_text}
use Rattle.cny_version.proofs.count.count_len.Given as goal

abbrev pub invariant-loop-number : goal.invariant-loop-number
invariant-loop-number l = record {
  len : l.size ≡ l.initial.size + length (more_text (take l.number-index l.rest));
  short : l.size ≤ 10 + 11 * l.number-index;
}
