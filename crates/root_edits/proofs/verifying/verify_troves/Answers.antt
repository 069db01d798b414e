use Rattle.std.proofs.Common.{◌∷◌, [], arith}
use Rattle.root_edits.specs.Verify.{asked, LacksOne}
use Rattle.root_edits.proofs.Added.{troves_among_next, troves_lack_next, troves_next}
use Rattle.content_store.proofs.SearchLaws.{searches_stop}
use Rattle.root_edits.proofs.SearchLaws.{searches_then}
use Rattle.root_edits.specs.Local.{records}
use Rattle.root_edits.proofs.verifying.verify_troves.Goals as goal

pub loop-rest-preserved : goal.loop-rest-preserved
loop-rest-preserved g c = record {
  run = searches_then g.met.C.Contents.laws g.met.T.TreeDisk.laws c.loop-rest.invariant.run c.in_ok-verify_trove.ensures
      (λ tells other same so_far z next end added. so_far end (troves_next _ other same _ c.args.names.now c.loop-rest.rest.now c.trove-item.result _ _ end (omega (arith, c.in-len1-up.len_at_least)) c.trove-item.is next added))
      (λ tells other same so_far lacks. troves_lack_next _ other same _ c.args.names.now c.loop-rest.rest.now (records (asked c.args.names.now c.args.troves.now)) c.trove-item.result (omega (arith, c.in-len1-up.len_at_least)) c.trove-item.is c.loop-rest.invariant.among lacks);
  among = troves_among_next c.args.names.now c.loop-rest.rest.now (records (asked c.args.names.now c.args.troves.now)) (omega (arith, c.in-len1-up.len_at_least)) c.loop-rest.invariant.among;
}

pub returns-in_err-verify_trove : goal.returns-in_err-verify_trove
returns-in_err-verify_trove g c =
    let names = c.args.names.now in
    searches_then g.met.C.Contents.laws g.met.T.TreeDisk.laws {S = λ answers tree (z : Unit {0}). ⊥} {M = λ answers tree. LacksOne answers tree (records (asked names (c.trove-item.result ∷ [])))} c.loop-rest.invariant.run
    (searches_stop c.in_err-verify_trove.ensures c.from_residual.ensures.1 (λ refusal none. none) (λ lacks. lacks))
    (λ tells other same so_far z none. absurd none)
    (λ tells other same so_far lacks. troves_lack_next _ other same _ names c.loop-rest.rest.now (records (asked names c.args.troves.now)) c.trove-item.result (omega (arith, c.in-len1-up.len_at_least)) c.trove-item.is c.loop-rest.invariant.among lacks)
