use Rattle.std.proofs.Common.{◌≤◌, ◌+◌, ◌-◌, length}
use Rattle.std.specs.Io.KnownBytes.{Consumes}
use Rattle.cny_laws.specs.Input.{input_limit}
use Rattle.cli_call.proofs.input.read_input.Given as goal

abbrev pub invariant-loop-bytes : goal.invariant-loop-bytes
invariant-loop-bytes g l = record {
  within : length l.bytes.items ≤ input_limit;
  read : Consumes (g.I.Source.source.left l.fn.input) (g.I.Source.source.left l.input) l.bytes.items;
  later : g.I.Source.source.faults l.fn.input ≤ g.I.Source.source.faults l.input;
}

abbrev pub decreases-loop-bytes : goal.decreases-loop-bytes
decreases-loop-bytes g l = input_limit + 1 - length l.bytes.items
