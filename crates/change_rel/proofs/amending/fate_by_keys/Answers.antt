use Rattle.std.proofs.Common.{◌+◌, ◌∷◌, List, drop, sym, subst}
use Rattle.trove_stream.specs.Amends.{Fits}
use Rattle.change_rel.proofs.Passes.{keys_below_from, unfit_key}
use Rattle.trove_stream.proofs.Merging.{front_at}
use Rattle.change_rel.proofs.amending.fate_by_keys.Goals as goal

pub returns-in-Less : goal.returns-in-Less
returns-in-Less g c =
    let e = g.T.Element in
    keys_below_from e.key_of e.order g.met.T.Element.total (e.key_of c.args.item.now) c.args.away c.args.gone.now c.index-gone-away.result c.if-away-gone.false c.index-gone-away.is c.requires.gone (sym c.in-Less.ensures.order)

pub returns-in-Greater : goal.returns-in-Greater
returns-in-Greater g c = λ set old below fits.
    let e = g.T.Element in
    unfit_key e.key_of e.order g.met.T.Element.total c.args.item.now c.index-gone-away.result (drop (c.args.away + 1) c.args.gone.now) set old (sym c.in-Greater.ensures.order) below
    (subst (λ (l : List g.row.K.Denot). Fits e.key_of l set (c.args.item.now ∷ old)) (front_at c.args.away c.args.gone.now c.index-gone-away.result c.if-away-gone.false c.index-gone-away.is) fits)
