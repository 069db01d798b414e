use Rattle.std.proofs.Common.{◌≡◌, ℕ, List, Contains, Some, slice_get, take}
use Rattle.std.specs.Prelude.{IsTrue}
use Rattle.repo_index.specs.trove-stream.declared.parts.TroveParts.{TroveParts}
use Rattle.sys_model.specs.Growing.{is_doubted}
use Rattle.sys_model.proofs.noting.doubt_places.Given as goal

abbrev pub invariant-loop-place : goal.invariant-loop-place
invariant-loop-place l = record {
  all : (place : ℕ) (t : TroveParts) → Contains (take l.place-index l.places) place → slice_get l.catalogue.troves place ≡ Some t → IsTrue (is_doubted l.doubted t.id.name);
  still : (name : List ℕ) → IsTrue (is_doubted l.fn.doubted name) → IsTrue (is_doubted l.doubted name);
}
