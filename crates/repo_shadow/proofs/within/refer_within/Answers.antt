use Rattle.std.proofs.Common.{◌≡◌, ◌<◌, ◌≤◌, true, List, length, All, refl, subst, arith}
use Rattle.std.proofs.lemmas.List.{take_all}
use Rattle.std.proofs.lemmas.List.Elements.{All-more}
use Rattle.repo_index.specs.trove-parts.declared.id.TroveId.{TroveId}
use Rattle.repo_index.specs.trove-stream.declared.parts.TroveParts.{TroveParts}
use Rattle.repo_shadow.specs.Within.{HasId, RefersWithin}
use Rattle.repo_shadow.proofs.within.refer_within.Goals as goal

pub loop-trove-preserved : goal.loop-trove-preserved
loop-trove-preserved c =
    let all = c.args.catalogue.now.troves in
    let troves = c.args.troves.now in
    let i = c.loop-trove.trove-index in
    let x = c.trove-item.result in
    let within : i < length troves = omega arith in
    let has : c.has_all.result ≡ true = c.if-not-has_all.false in
    let here : RefersWithin all x = subst (λ (refs : List TroveId). All (HasId all) refs) c.refs.ensures.value (c.has_all.ensures.0 has) in
    All-more (RefersWithin all) troves i x within c.loop-trove.invariant (subst (λ (t : TroveParts). RefersWithin all t) c.trove-item.is here)

pub returns : goal.returns
returns c =
    let all = c.args.catalogue.now.troves in
    let troves = c.args.troves.now in
    let ended : length troves ≤ c.loop-trove.trove-index = omega arith in (
      (λ _. subst (λ (l : List TroveParts). All (RefersWithin all) l) (take_all c.loop-trove.trove-index troves ended) c.loop-trove.invariant),
      (λ _. refl),
    )
