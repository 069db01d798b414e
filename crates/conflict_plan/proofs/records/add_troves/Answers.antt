use Rattle.std.proofs.Common.{ap, arith, ◌∙◌}
use Rattle.std.specs.BTreeMap.{get}
use Rattle.std.specs.Cmp.Lexicographic.{slice_cmp}
use Rattle.std.specs.Ordering.{nat_cmp}
use Rattle.trove_stream.specs.trove-parts.declared.id.TroveId.{TroveId}
use Rattle.conflict_plan.specs.Claims.{claims_in}
use Rattle.conflict_plan.specs.Records.{noted_all}
use Rattle.conflict_plan.proofs.Ahead.{trove_noted}
use Rattle.conflict_plan.proofs.records.add_troves.Goals as goal

pub loop-trove-preserved : goal.loop-trove-preserved
loop-trove-preserved c = λ path.
    let mid = get (slice_cmp nat_cmp) c.loop-trove.records path in
    let t = c.trove-item.result in
    trove_noted c.args.side c.args.list.now c.loop-trove.trove-index t path
    (get (slice_cmp nat_cmp) c.args.records.now path) mid (get (slice_cmp nat_cmp) c.add_files.new.records path)
    (omega arith) c.trove-item.is (c.loop-trove.invariant path)
    (c.in_ok-add_files.ensures path
    ∙ ap (λ (i : TroveId). noted_all c.args.side (claims_in i.name c.files.result.now path) mid) c.id.ensures.value
    ∙ ap (λ fs. noted_all c.args.side (claims_in t.id.name fs path) mid) c.files.ensures.value)
