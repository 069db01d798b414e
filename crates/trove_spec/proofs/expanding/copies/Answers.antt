use Rattle.std.proofs.Common.{◌≡◌, ◌+◌, ◌<◌, List, [], ◌∷◌, ◌++◌, length, take, map, Bor, sym, ap, ◌∙◌, arith}
use Rattle.std.proofs.lemmas.List.{take_more}
use Rattle.repo_index.specs.trove-stream.declared.parts.TroveParts.{TroveParts}
use Rattle.trove_spec.proofs.ConfigLines.{take-map}
use Rattle.trove_spec.proofs.InOrder.{now_of}
use Rattle.cny_version.proofs.cny-base.Lists.{map_push as map-push}
use Rattle.trove_spec.proofs.expanding.copies.Goals as goal

pub loop-trove-preserved : goal.loop-trove-preserved
loop-trove-preserved c =
    let troves = c.args.troves.now in
    let i = c.loop-trove.trove-index in
    let x = c.trove-item.result in
    let copied = c.loop-trove.items.items in
    let within : i < length troves = omega arith in
    let one_more : take (i + 1) troves ≡ take i troves ++ x ∷ [] = take_more troves i x within ∙ ap (λ (y : Bor TroveParts). take i troves ++ y ∷ []) (sym c.trove-item.is) in
    let longer : take (i + 1) (map now_of troves) ≡ take i (map now_of troves) ++ x.now ∷ [] =
    take-map now_of (i + 1) troves ∙ ap (map now_of) one_more ∙ map-push now_of (take i troves) x ∙ ap (λ (l : List TroveParts). l ++ x.now ∷ []) (sym (take-map now_of i troves)) in
    c.in_ok-push.ensures.items ∙ ap (λ (t : TroveParts). copied ++ t ∷ []) c.in_ok-copy.ensures ∙ ap (λ (l : List TroveParts). l ++ x.now ∷ []) c.loop-trove.invariant ∙ sym longer
