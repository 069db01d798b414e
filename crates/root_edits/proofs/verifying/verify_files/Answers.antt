use Rattle.std.proofs.Common.{arith}
use Rattle.root_edits.proofs.Added.{added_next, among_next, lacks_next}
use Rattle.root_edits.proofs.SearchLaws.{searches_then}
use Rattle.root_edits.proofs.verifying.verify_files.Goals as goal

pub loop-rest-preserved : goal.loop-rest-preserved
loop-rest-preserved g c = record {
  run = searches_then g.met.C.Contents.laws g.met.T.TreeDisk.laws c.loop-rest.invariant.run c.in_ok-verify_file.ensures
      (λ tells other same so_far z next end added. so_far end (added_next _ other same _ c.loop-rest.rest.now c.file-item.result _ _ end (omega (arith, c.in-len1-up.len_at_least)) c.file-item.is next added))
      (λ tells other same so_far lacks. lacks_next _ other same _ c.loop-rest.rest.now c.args.files.now c.file-item.result (omega (arith, c.in-len1-up.len_at_least)) c.file-item.is c.loop-rest.invariant.among lacks);
  among = among_next c.loop-rest.rest.now c.args.files.now (omega (arith, c.in-len1-up.len_at_least)) c.loop-rest.invariant.among;
}
