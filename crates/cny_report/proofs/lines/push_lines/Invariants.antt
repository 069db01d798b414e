use Rattle.std.proofs.Common.{◌≡◌, ◌++◌, string_bytes, take, flat_map}
use Rattle.cny_report.proofs.lines.push_lines.Given as goal

abbrev pub invariant-loop-value : goal.invariant-loop-value
invariant-loop-value g l = string_bytes l.out ≡ string_bytes l.initial.out ++ flat_map (λ (x : g.row.T.Denot). l.word ++ g.T.Line.line x) (take l.value-index l.values)
