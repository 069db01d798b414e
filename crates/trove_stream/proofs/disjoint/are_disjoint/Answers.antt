use Rattle.std.proofs.Common.{sym, arith}
use Rattle.trove_stream.proofs.Merging.{AreOrders, less_drop, greater_drop}
use Rattle.trove_stream.proofs.disjoint.are_disjoint.Goals as goal

pub merge-preserved-in-Less : goal.merge-preserved-in-Less
merge-preserved-in-Less g c =
    let m = g.A.Meets in
    let laws : AreOrders m.is_same m.across m.order m.other_order = record { tied = g.met.A.Meets.tied; below = g.met.A.Meets.below; beyond = g.met.A.Meets.beyond } in
    λ rest. c.merge.invariant
    (less_drop m.is_same m.across m.order m.other_order laws c.args.ones.now c.args.others.now c.merge.one c.merge.other c.index-ones-one.result c.index-others-other.result (omega arith) (omega arith)
    c.index-ones-one.is c.index-others-other.is c.requires.others (sym c.in-Less.ensures.order) rest)

pub merge-preserved : goal.merge-preserved
merge-preserved g c =
    let m = g.A.Meets in
    let laws : AreOrders m.is_same m.across m.order m.other_order = record { tied = g.met.A.Meets.tied; below = g.met.A.Meets.below; beyond = g.met.A.Meets.beyond } in
    λ rest. c.merge.invariant
    (greater_drop m.is_same m.across m.order m.other_order laws c.args.ones.now c.args.others.now c.merge.one c.merge.other c.index-ones-one.result c.index-others-other.result (omega arith) (omega arith)
    c.index-ones-one.is c.index-others-other.is c.requires.ones (sym c.in-Greater.ensures.order) rest)
