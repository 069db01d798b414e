use Rattle.std.proofs.Common.{◌≡◌, ◌+◌, ◌<◌, List, [], ◌∷◌, ◌++◌, length, take, map, All, sym, ap, subst, ◌∙◌, arith}
use Rattle.std.proofs.lemmas.List.{take_more}
use Rattle.std.proofs.lemmas.List.Elements.{All-push}
use Rattle.trove_stream.specs.trove-parts.declared.id.TroveId.{TroveId}
use Rattle.trove_stream.specs.trove-parts.Id.{IsTroveId}
use Rattle.repo_index.specs.Next.{id_with}
use Rattle.cny_version.proofs.cny-base.Lists.{map_push as map-push}
use Rattle.repo_index.proofs.with_version.ids_with.Goals as goal

pub loop-id-preserved : goal.loop-id-preserved
loop-id-preserved c =
    let f = id_with c.args.version.now in
    let ids = c.args.ids.now in
    let i = c.loop-id.id-index in
    let x = c.id-item.result in
    let old = c.loop-id.made.items in
    let within : i < length ids = omega arith in
    let longer : map f (take (i + 1) ids) ≡ map f (take i ids) ++ f x ∷ [] =
    ap (map f) (take_more ids i x within ∙ ap (λ (id : TroveId). take i ids ++ id ∷ []) (sym c.id-item.is)) ∙ map-push f (take i ids) x in record {
      ids_are = c.in_ok-add_with.ensures.added ∙ ap (λ (l : List TroveId). l ++ f x ∷ []) c.loop-id.invariant.ids_are ∙ sym longer;
      valid = subst (All IsTroveId) (sym c.in_ok-add_with.ensures.added) (All-push IsTroveId old (f x) c.loop-id.invariant.valid c.in_ok-add_with.ensures.valid);
    }
