use Rattle.std.proofs.Common.{IsTrue, List, Ok, length, Contains}
use Rattle.update_job.specs.trove-parts.declared.files.FileAt.{FileAt}
use Rattle.tree_scan.specs.declared.verification.Finding.{Finding}
use Rattle.content_store.specs.Searches.{no_refusal, Searches}
use Rattle.root_edits.specs.Verify.{asked, AreAdded, LacksOne}
use Rattle.root_edits.specs.Local.{records}
use Rattle.root_edits.proofs.verifying.verify_troves.Given as goal

abbrev pub invariant-loop-rest : goal.invariant-loop-rest
invariant-loop-rest g l = record {
  run : Searches {X = Unit {0}} g.T.TreeDisk.disk g.C.Contents.contents
      (λ answers tree done. (end : List Finding) → AreAdded answers tree (records (asked l.names l.rest)) l.lines.items end → AreAdded answers tree (records (asked l.names l.troves)) l.fn.lines.items end)
      no_refusal (λ told answers tree. IsTrue told → LacksOne answers tree (records (asked l.names l.troves))) l.fn.root l.root l.fn.far l.far (Ok tt);
  among : (f : FileAt) → Contains (records (asked l.names l.rest)) f → Contains (records (asked l.names l.troves)) f;
}

abbrev pub decreases-loop-rest : goal.decreases-loop-rest
decreases-loop-rest g l = length l.rest
