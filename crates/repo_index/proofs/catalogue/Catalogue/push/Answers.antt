use Rattle.std.proofs.Common.{◌≡◌, List, [], ◌∷◌, ◌++◌, length, None, sym, ap, subst, ◌∙◌, rules}
use Rattle.trove_stream.specs.declared.parts.TroveParts.{TroveParts}
use Rattle.repo_index.specs.Catalogue.{CatalogueParts, found, HasDistinctIds}
use Rattle.repo_index.specs.Index.{IsIndexOf}
use Rattle.repo_index.proofs.Placing.{distinct_push}
use Rattle.repo_index.proofs.catalogue.Catalogue.push.Goals as goal

pub invariant_of-self-in_err-add : goal.invariant_of-self-in_err-add
invariant_of-self-in_err-add c =
    let troves = c.self.inside.troves.items in
    let kept : c.reserve.new.self.items ≡ troves = c.in_ok-reserve.ensures.items in record {
      distinct = subst HasDistinctIds (sym kept) c.self.invariant.distinct;
      index_is = subst (λ (l : List TroveParts). IsIndexOf l c.add.new.self) (sym kept) (c.in_err-add.ensures.err troves c.self.invariant.index_is);
    }

pub invariant_of-self-2 : goal.invariant_of-self-2
invariant_of-self-2 c =
    let troves = c.self.inside.troves.items in
    let t = c.args.trove in
    let kept : c.reserve.new.self.items ≡ troves = c.in_ok-reserve.ensures.items in
    let longer : c.push.new.self.items ≡ troves ++ t ∷ [] = c.in_ok-push.ensures.items ∙ ap (λ (l : List TroveParts). l ++ t ∷ []) kept in
    let none : found t.id troves ≡ None = ap (λ (v : CatalogueParts). found t.id v.troves) c.self.view_is ∙ c.requires in
    let count : c.len.result ≡ length c.reserve.new.self.items = search rules in
    let place : c.len.result ≡ length troves = count ∙ ap (λ (l : List TroveParts). length l) kept in record {
      distinct = subst HasDistinctIds (sym longer) (distinct_push troves t c.self.invariant.distinct none);
      index_is = subst (λ (l : List TroveParts). IsIndexOf l c.add.new.self) (sym longer) (c.in_ok-add.ensures.ok troves c.self.invariant.index_is place);
    }
