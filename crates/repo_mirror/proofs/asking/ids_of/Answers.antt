use Rattle.std.proofs.Common.{◌++◌, [], ◌∷◌, List, map, take, All, sym, ap, ◌∙◌, subst, arith}
use Rattle.std.proofs.lemmas.List.Elements.{All-push}
use Rattle.change_set.specs.trove-parts.declared.id.TroveId.{TroveId}
use Rattle.change_set.specs.trove-parts.Id.{IsTroveId}
use Rattle.repo_load.proofs.cny-base.Lists.{map_push}
use Rattle.repo_mirror.proofs.Lengthening.{take_next}
use Rattle.repo_mirror.proofs.Asked.{id_of}
use Rattle.repo_mirror.proofs.asking.ids_of.Goals as goal

pub loop-trove-preserved : goal.loop-trove-preserved
loop-trove-preserved c =
    let i = c.loop-trove.trove-index in
    let troves = c.args.troves.now in
    let t = c.trove-item.result in
    let id = c.in_ok-id.ensures ∙ c.id.ensures.value in (
      c.in_ok-push.ensures.items ∙ ap (λ (x : TroveId). c.loop-trove.ids.items ++ x ∷ []) id ∙ ap (λ (l : List TroveId). l ++ id_of t ∷ []) c.loop-trove.invariant.0
          ∙ sym (map_push id_of (take i troves) t) ∙ ap (map id_of) (sym (take_next troves i t (omega arith) c.trove-item.is)),
      subst (All IsTroveId) (sym c.in_ok-push.ensures.items) (All-push IsTroveId c.loop-trove.ids.items c.in_ok-id.id c.loop-trove.invariant.1 c.is_valid.ensures),
    )
