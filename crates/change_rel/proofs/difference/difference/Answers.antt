use Rattle.std.proofs.Common.{◌++◌, [], List, drop, map, ⊎_elim, sym, ap, ◌∙◌, arith, append-nil}
use Rattle.std.proofs.lemmas.List.{take_rest}
use Rattle.change_rel.proofs.Passes.{differ_gone, differ_set, differ_kept, differ_replaced, differ_rest_set, differ_rest_gone, as_found, more_gone, more_set, no_more_set}
use Rattle.change_rel.proofs.difference.difference.Goals as goal

pub returns-then-at-old : goal.returns-then-at-old
returns-then-at-old g c =
    let e = g.T.Element in
    as_found e.key_of e.order g.met.T.Element.total (c.merge.gone.items ++ []) (c.merge.set.items ++ drop c.merge.next c.args.fresh.now) c.args.old.now c.args.fresh.now
    (c.merge.invariant.so_far.whole [] (drop c.merge.next c.args.fresh.now) (differ_rest_set e.key_of e.order g.met.T.Element.total c.args.old.now c.args.fresh.now c.merge.at c.merge.next c.if-at-old.true c.requires.fresh))
    c.changes_of.result.gone c.changes_of.result.set (c.changes_of.ensures.gone ∙ sym (append-nil c.merge.gone.items))
    (c.changes_of.ensures.set ∙ c.in_ok-push_copies.ensures ∙ ap (λ (l : List g.row.T.Denot). c.merge.set.items ++ l) (take_rest c.args.fresh.now c.merge.next))

pub returns-then-next-fresh : goal.returns-then-next-fresh
returns-then-next-fresh g c =
    let e = g.T.Element in
    as_found e.key_of e.order g.met.T.Element.total (c.merge.gone.items ++ map e.key_of (drop c.merge.at c.args.old.now)) (c.merge.set.items ++ []) c.args.old.now c.args.fresh.now
    (c.merge.invariant.so_far.whole (map e.key_of (drop c.merge.at c.args.old.now)) [] (differ_rest_gone e.key_of e.order g.met.T.Element.total c.args.old.now c.args.fresh.now c.merge.at c.merge.next c.if-next-fresh.true c.requires.old))
    c.changes_of-then-next-fresh.result.gone c.changes_of-then-next-fresh.result.set
    (c.changes_of-then-next-fresh.ensures.gone ∙ c.in_ok-push_keys.ensures ∙ ap (λ (l : List g.row.T.Denot). c.merge.gone.items ++ map e.key_of l) (take_rest c.args.old.now c.merge.at))
    (c.changes_of-then-next-fresh.ensures.set ∙ sym (append-nil c.merge.set.items))

pub merge-preserved-in-Less : goal.merge-preserved-in-Less
merge-preserved-in-Less g c =
    let e = g.T.Element in
    record {
      at_in = omega arith;
      next_in = c.merge.invariant.next_in;
      so_far = more_gone e.key_of e.order g.met.T.Element.total c.merge.gone.items c.merge.set.items _ _ c.args.old.now c.args.fresh.now c.merge.invariant.so_far (e.key_of c.index-old-at.result) c.push_key.new.keys.items c.in_ok-push_key-in-Less.ensures _ _
          (λ more others d. differ_gone e.key_of e.order g.met.T.Element.total c.args.old.now c.args.fresh.now c.merge.at c.merge.next c.index-old-at.result c.index-fresh-next.result c.if-at-old.false c.if-next-fresh.false
          c.index-old-at.is c.index-fresh-next.is c.requires.old c.requires.fresh more others (sym c.in-Less.ensures.order) d);
    }

pub merge-preserved-in-Equal : goal.merge-preserved-in-Equal
merge-preserved-in-Equal g c =
    let e = g.T.Element in
    record {
      at_in = omega arith;
      next_in = omega arith;
      so_far = ⊎_elim
          (λ same. no_more_set e.key_of e.order g.met.T.Element.total c.merge.gone.items c.merge.set.items _ _ c.args.old.now c.args.fresh.now c.merge.invariant.so_far c.push_changed.new.set.items same.1 _ _
          (λ more others d. differ_kept e.key_of e.order g.met.T.Element.total c.args.old.now c.args.fresh.now c.merge.at c.merge.next c.index-old-at.result c.index-fresh-next.result c.if-at-old.false c.if-next-fresh.false
          c.index-old-at.is c.index-fresh-next.is c.requires.old c.requires.fresh more others same.0 d))
          (λ other. more_set e.key_of e.order g.met.T.Element.total c.merge.gone.items c.merge.set.items _ _ c.args.old.now c.args.fresh.now c.merge.invariant.so_far c.index-fresh-next.result c.push_changed.new.set.items other.1 _ _
          (λ more others d. differ_replaced e.key_of e.order g.met.T.Element.total c.args.old.now c.args.fresh.now c.merge.at c.merge.next c.index-old-at.result c.index-fresh-next.result c.if-at-old.false c.if-next-fresh.false
          c.index-old-at.is c.index-fresh-next.is c.requires.old c.requires.fresh more others (c.meet.ensures.equal c.in-Equal.is) other.0 d))
          c.in_ok-push_changed-in-Equal.ensures;
    }

pub merge-preserved : goal.merge-preserved
merge-preserved g c =
    let e = g.T.Element in
    record {
      at_in = c.merge.invariant.at_in;
      next_in = omega arith;
      so_far = more_set e.key_of e.order g.met.T.Element.total c.merge.gone.items c.merge.set.items _ _ c.args.old.now c.args.fresh.now c.merge.invariant.so_far c.index-fresh-next.result c.push_copy.new.copies.items c.in_ok-push_copy-in-Greater.ensures _ _
          (λ more others d. differ_set e.key_of e.order g.met.T.Element.total c.args.old.now c.args.fresh.now c.merge.at c.merge.next c.index-old-at.result c.index-fresh-next.result c.if-at-old.false c.if-next-fresh.false
          c.index-old-at.is c.index-fresh-next.is c.requires.old c.requires.fresh more others (sym c.in-Greater.ensures.order) d);
    }
