use Rattle.std.proofs.Common.{◌++◌, List, ap, ◌∙◌, arith}
use Rattle.std.proofs.lemmas.List.{take_rest}
use Rattle.trove_stream.proofs.Members.{within_front}
use Rattle.change_rel.proofs.Passes.{amend_kept, amend_gone, amend_behind, amend_replaced, amend_unfit, amend_left, amend_rest}
use Rattle.change_rel.proofs.amending.amended.Goals as goal

pub returns-then-away-gone : goal.returns-then-away-gone
returns-then-away-gone g c =
    let e = g.T.Element in
    amend_left e.key_of e.order g.met.T.Element.total c.args.gone.now c.args.set.now c.args.old.now c.merge.fresh.items c.merge.away c.merge.next c.merge.at c.if-at-old.true c.if-away-gone.true c.merge.invariant.so_far

pub returns-then-at-old : goal.returns-then-at-old
returns-then-at-old g c =
    let e = g.T.Element in
    amend_rest e.key_of e.order g.met.T.Element.total c.args.gone.now c.args.set.now c.args.old.now c.merge.fresh.items c.merge.away c.merge.next c.merge.at c.if-at-old.true c.if-away-gone.false c.requires.set c.merge.invariant.so_far
    c.new.result (c.new.ensures ∙ c.in_ok-push_copies.ensures ∙ ap (λ (l : List g.row.T.Denot). c.merge.fresh.items ++ l) (take_rest c.args.set.now c.merge.next))

pub merge-preserved-in-Kept : goal.merge-preserved-in-Kept
merge-preserved-in-Kept g c =
    let e = g.T.Element in
    record {
      at_in = omega arith;
      next_in = c.merge.invariant.next_in;
      so_far = amend_kept e.key_of e.order g.met.T.Element.total c.args.gone.now c.args.set.now c.args.old.now c.merge.away c.merge.next c.merge.at c.index-old-at.result c.if-at-old.false c.index-old-at.is
          c.requires.gone c.requires.set c.requires.old c.requires.apart c.merge.fresh.items c.merge.invariant.so_far c.in-Kept.ensures c.push_copy.new.copies.items c.in_ok-push_copy-in-Kept.ensures;
    }

pub merge-preserved-in-Gone : goal.merge-preserved-in-Gone
merge-preserved-in-Gone g c =
    let e = g.T.Element in
    record {
      at_in = omega arith;
      next_in = c.merge.invariant.next_in;
      so_far = amend_gone e.key_of e.order g.met.T.Element.total c.args.gone.now c.args.set.now c.args.old.now c.merge.away c.merge.next c.merge.at c.index-old-at.result c.if-at-old.false c.index-old-at.is
          c.requires.gone c.requires.set c.requires.old c.requires.apart c.merge.fresh.items c.merge.invariant.so_far c.in-Gone.ensures;
    }

pub merge-preserved-in-Replaced : goal.merge-preserved-in-Replaced
merge-preserved-in-Replaced g c =
    let e = g.T.Element in
    let within = within_front c.merge.next c.args.set.now c.in-Replaced.ensures.0 c.in-Replaced.ensures.1 c.in-Replaced.ensures.2 in
    record {
      at_in = omega arith;
      next_in = omega arith;
      so_far = amend_replaced e.key_of e.order g.met.T.Element.total c.args.gone.now c.args.set.now c.args.old.now c.merge.away c.merge.next c.merge.at c.index-old-at.result c.if-at-old.false c.index-old-at.is
          c.requires.gone c.requires.set c.requires.old c.requires.apart c.merge.fresh.items c.merge.invariant.so_far c.index-set-next.result within c.index-set-next.is
          c.push_copy-in-Replaced.new.copies.items c.in_ok-push_copy-in-Replaced.ensures c.in-Replaced.ensures;
    }

pub merge-preserved : goal.merge-preserved
merge-preserved g c =
    let e = g.T.Element in
    let within = within_front c.merge.next c.args.set.now c.in-Behind.ensures.0 c.in-Behind.ensures.1 c.in-Behind.ensures.2 in
    record {
      at_in = c.merge.invariant.at_in;
      next_in = omega arith;
      so_far = amend_behind e.key_of e.order g.met.T.Element.total c.args.gone.now c.args.set.now c.args.old.now c.merge.away c.merge.next c.merge.at c.index-old-at.result c.if-at-old.false c.index-old-at.is
          c.requires.gone c.requires.set c.requires.old c.requires.apart c.merge.fresh.items c.merge.invariant.so_far c.index-set-next-in-Behind.result within c.index-set-next-in-Behind.is
          c.push_copy-in-Behind.new.copies.items c.in_ok-push_copy-in-Behind.ensures c.in-Behind.ensures;
    }

pub returns-in-Unfit : goal.returns-in-Unfit
returns-in-Unfit g c =
    let e = g.T.Element in
    amend_unfit e.key_of e.order g.met.T.Element.total c.args.gone.now c.args.set.now c.args.old.now c.merge.away c.merge.next c.merge.at c.index-old-at.result c.if-at-old.false c.index-old-at.is
    c.requires.gone c.requires.set c.requires.old c.requires.apart c.merge.fresh.items c.merge.invariant.so_far c.in-Unfit.ensures
