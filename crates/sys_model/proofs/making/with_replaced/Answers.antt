use Rattle.std.proofs.Common.{◌≤◌, List, length, map, ap, sym, subst, ◌∙◌, arith}
use Rattle.std.proofs.lemmas.List.{take_all}
use Rattle.repo_index.specs.trove-stream.declared.parts.TroveParts.{TroveParts}
use Rattle.repo_index.specs.trove-stream.Installed.{IsRising}
use Rattle.sys_model.specs.Wanted.{in_place_of}
use Rattle.sys_model.proofs.MadeLists.{rising_in_place}
use Rattle.sys_model.proofs.making.with_replaced.Goals as goal

pub of_rising-requires : goal.of_rising-requires
of_rising-requires c =
    let list = c.args.list.now in
    let found = c.args.found.now in
    let ended : length list ≤ c.loop-trove.trove-index = omega (arith, ap length c.troves-trove-items.ensures.value) in
    subst (λ (l : List TroveParts). IsRising l) (sym (c.loop-trove.invariant ∙ ap (map (in_place_of found)) (take_all c.loop-trove.trove-index list ended)))
    (rising_in_place found list c.troves-trove-items.ensures.rising)
