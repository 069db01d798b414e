use Rattle.std.proofs.Common.{◌≡◌, ◌+◌, ◌∷◌, List, drop, sym, subst}
use Rattle.std.proofs.lemmas.List.Elements.{All-nil}
use Rattle.std.specs.declared.cmp.Ordering.TheVariants.{Less}
use Rattle.trove_stream.specs.Amends.{Fits, IsBelow}
use Rattle.trove_stream.proofs.Members.{drop_all}
use Rattle.change_rel.proofs.Passes.{below_from, fate_from, unfit_set}
use Rattle.trove_stream.proofs.Merging.{front_at}
use Rattle.change_rel.proofs.amending.fate_of.Goals as goal

pub returns-then-next-set : goal.returns-then-next-set
returns-then-next-set g c =
    let e = g.T.Element in
    fate_from e.key_of e.order g.met.T.Element.total c.args.item.now (drop c.args.away c.args.gone.now) (drop c.args.next c.args.set.now) c.fate_by_keys.result c.fate_by_keys.ensures
    (subst (λ (l : List g.row.T.Denot). IsBelow e.key_of e.order (e.key_of c.args.item.now) l) (sym (drop_all c.args.next c.args.set.now c.if-next-set.true)) (All-nil (λ (y : g.row.T.Denot). e.order (e.key_of c.args.item.now) (e.key_of y) ≡ Less)))

pub returns-then-is_same : goal.returns-then-is_same
returns-then-is_same g c = λ old below fits.
    let e = g.T.Element in
    unfit_set e.key_of e.order g.met.T.Element.total c.args.item.now c.index-set-next.result (drop c.args.away c.args.gone.now) (drop (c.args.next + 1) c.args.set.now) old (c.is_same.ensures.0 c.if-is_same.true)
    (subst (λ (l : List g.row.T.Denot). Fits e.key_of (drop c.args.away c.args.gone.now) l (c.args.item.now ∷ old)) (front_at c.args.next c.args.set.now c.index-set-next.result c.if-next-set.false c.index-set-next.is) fits)

pub returns-in-Less : goal.returns-in-Less
returns-in-Less g c =
    let e = g.T.Element in
    fate_from e.key_of e.order g.met.T.Element.total c.args.item.now (drop c.args.away c.args.gone.now) (drop c.args.next c.args.set.now) c.fate_by_keys-in-Less.result c.fate_by_keys-in-Less.ensures
    (below_from e.key_of e.order g.met.T.Element.total (e.key_of c.args.item.now) c.args.next c.args.set.now c.index-set-next.result c.if-next-set.false c.index-set-next.is c.requires.set (sym c.in-Less.ensures.order))
