use Rattle.std.proofs.Common.{◌≡◌, IsTrue, length, map, drop}
use Rattle.std.specs.List.{All}
use Rattle.trove_stream.specs.cny-base.Path.{is_path}
use Rattle.conflict_plan.specs.declared.entries.Entry.{Entry}
use Rattle.conflict_plan.specs.Entries.{entry_of, first_shared}
use Rattle.conflict_plan.proofs.entries.entries_of.Given as goal

abbrev pub invariant-loop-path : goal.invariant-loop-path
invariant-loop-path l = record {
  made : l.entries.items ≡ map entry_of l.yielded;
  paths : All (λ (e : Entry). IsTrue (is_path e.path)) l.entries.items;
  rest : first_shared l.fn.records.entries ≡ first_shared (drop (length l.yielded) l.fn.records.entries);
}
