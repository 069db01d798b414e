use Rattle.std.proofs.Common.{◌≡◌, ◌≢◌, ap, rules, arith}
use Rattle.std.proofs.lemmas.Fn.{always_returns_same}
use Rattle.change_pull.specs.declared.staged.Staged.{Staged}
use Rattle.change_pull.proofs.Sizes.{staged_against}
use Rattle.job_targets.proofs.StagedPlaces.{place_found, place_missed, place_other}
use Rattle.job_targets.proofs.carried.place_of.Goals as goal

pub returns-then-its_size-size : goal.returns-then-its_size-size
returns-then-its_size-size c tree stand =
    let at = ap (λ (d : Staged). d.size) c.index-contents-place.is in
    let same : c.index-contents-place.result.size ≡ c.args.size = omega (arith, at) in
    place_found c.args.contents.now tree c.args.name.now c.args.size stand c.in-Ok.place c.index-contents-place.result c.in-Ok.ensures.bound c.index-contents-place.is
    (c.in-Ok.ensures.position (staged_against c.args.name.now) (always_returns_same _ _ _ (λ a r g k. search rules))) same

pub returns-else-its_size-size : goal.returns-else-its_size-size
returns-else-its_size-size c tree stand =
    let at = ap (λ (d : Staged). d.size) c.index-contents-place.is in
    let other : c.index-contents-place.result.size ≢ c.args.size = omega (arith, at) in
    place_other c.args.contents.now tree c.args.name.now c.args.size stand c.in-Ok.place c.index-contents-place.result c.in-Ok.ensures.bound c.index-contents-place.is
    (c.in-Ok.ensures.position (staged_against c.args.name.now) (always_returns_same _ _ _ (λ a r g k. search rules))) other

pub returns-in-Err : goal.returns-in-Err
returns-in-Err c tree stand =
    place_missed c.args.contents.now tree c.args.name.now c.args.size stand c.in-Err.field-0
    (c.in-Err.ensures.position (staged_against c.args.name.now) (always_returns_same _ _ _ (λ a r g k. search rules)))
