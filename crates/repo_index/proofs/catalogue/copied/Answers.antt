use Rattle.std.proofs.Common.{◌≡◌, ◌<◌, List, [], ◌∷◌, ◌++◌, length, take, sym, ap, subst, ◌∙◌, arith, rules}
use Rattle.std.proofs.lemmas.List.{take_all, take_more}
use Rattle.trove_stream.specs.declared.parts.TroveParts.{TroveParts}
use Rattle.repo_index.specs.Catalogue.{HasDistinctIds}
use Rattle.repo_index.specs.Index.{IsIndexOf}
use Rattle.repo_index.proofs.catalogue.copied.Goals as goal

pub loop-trove-preserved : goal.loop-trove-preserved
loop-trove-preserved c =
    let troves = c.args.troves.now in
    let copies = c.loop-trove.copies.items in
    let i = c.loop-trove.trove-index in
    let x = c.trove-item.result in
    let within : i < length troves = omega arith in
    let place : c.len.result ≡ length copies = search rules in
    let longer : c.push.new.self.items ≡ copies ++ x ∷ [] = c.in_ok-push.ensures.items ∙ ap (λ (t : TroveParts). copies ++ t ∷ []) c.in_ok-copy.ensures in record {
      copies_are = longer ∙ ap (λ (l : List TroveParts). l ++ x ∷ []) c.loop-trove.invariant.copies_are ∙ ap (λ (t : TroveParts). take i troves ++ t ∷ []) c.trove-item.is ∙ sym (take_more troves i x within);
      index_is = subst (λ (l : List TroveParts). IsIndexOf l c.add.new.self) (sym longer) (c.in_ok-add.ensures.ok copies c.loop-trove.invariant.index_is place);
    }

pub invariant_of-result : goal.invariant_of-result
invariant_of-result c =
    let troves = c.args.troves.now in
    let all : c.loop-trove.copies.items ≡ troves = c.loop-trove.invariant.copies_are ∙ take_all c.loop-trove.trove-index troves c.loop-trove-test.false in record {
      distinct = subst HasDistinctIds (sym all) c.requires;
      index_is = c.loop-trove.invariant.index_is;
    }
