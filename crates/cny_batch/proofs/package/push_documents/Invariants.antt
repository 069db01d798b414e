use Rattle.std.proofs.Common.{◌≡◌, ◌-◌, ◌+◌, ◌++◌}
use Rattle.cny_batch.specs.Manifests.{document_entry, each_from}
use Rattle.cny_batch.proofs.package.push_documents.Given as goal

-- what is still to be written
abbrev pub invariant-loop-place : goal.invariant-loop-place
invariant-loop-place l = l.out ++ each_from (document_entry l.number) l.place (42 - l.place) ≡ l.fn.out ++ each_from (document_entry l.number) 0 42
