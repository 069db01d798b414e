use Rattle.std.proofs.Common.{ℕ, List, Contains, take}
use Rattle.std.specs.Prelude.{IsTrue}
use Rattle.repo_index.specs.trove-stream.declared.parts.TroveParts.{TroveParts}
use Rattle.sys_model.specs.Growing.{is_doubted}
use Rattle.sys_model.proofs.noting.doubt_troves.Given as goal

abbrev pub invariant-loop-trove : goal.invariant-loop-trove
invariant-loop-trove l = record {
  all : (t : TroveParts) → Contains (take l.trove-index l.troves) t → IsTrue (is_doubted l.doubted t.id.name);
  still : (name : List ℕ) → IsTrue (is_doubted l.fn.doubted name) → IsTrue (is_doubted l.doubted name);
}
