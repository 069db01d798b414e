use Rattle.std.proofs.Common.{◌≡◌, ◌≢◌, List, ℕ, length, Some, sym, ap, ◌∙◌, rules, arith}
use Rattle.std.proofs.lemmas.Fn.{always_returns_same}
use Rattle.change_set.specs.declared.change.Carried.{Carried}
use Rattle.job_targets.specs.Contents.{carried_bytes}
use Rattle.job_targets.proofs.Carrying.{found_place, missed_place, sized, unsized}
use Rattle.change_set.proofs.Carrying.{against}
use Rattle.change_set.specs.cny-base.Sized.{of_size}
use Rattle.job_targets.proofs.carried.carried_content.Goals as goal

pub returns-then-bytes-size : goal.returns-then-bytes-size
returns-then-bytes-size c =
    let long : length c.get-bytes.result.now ≡ c.args.size = omega arith in
    sized c.args.size (carried_bytes c.args.carried.now c.args.name.now) c.get-bytes.result.now
    (found_place c.args.carried.now c.args.name.now c.requires c.in-Ok.place c.index-carried-place.result c.in-Ok.ensures.bound c.index-carried-place.is
    (c.in-Ok.ensures.position (against c.args.name.now) (always_returns_same _ _ _ (λ a r g k. search rules))) ∙ ap (λ (d : Carried). Some d.bytes) c.index-carried-place.is ∙ ap (λ (l : List ℕ). Some l) (sym c.get-bytes.ensures)) long

pub returns-else-bytes-size : goal.returns-else-bytes-size
returns-else-bytes-size c =
    let long : length c.get-bytes.result.now ≢ c.args.size = omega arith in
    unsized c.args.size (carried_bytes c.args.carried.now c.args.name.now) c.get-bytes.result.now
    (found_place c.args.carried.now c.args.name.now c.requires c.in-Ok.place c.index-carried-place.result c.in-Ok.ensures.bound c.index-carried-place.is
    (c.in-Ok.ensures.position (against c.args.name.now) (always_returns_same _ _ _ (λ a r g k. search rules))) ∙ ap (λ (d : Carried). Some d.bytes) c.index-carried-place.is ∙ ap (λ (l : List ℕ). Some l) (sym c.get-bytes.ensures)) long

pub returns-in-Err : goal.returns-in-Err
returns-in-Err c =
    ap (of_size c.args.size) (sym (missed_place c.args.carried.now c.args.name.now c.requires c.in-Err.field-0
    (c.in-Err.ensures.position (against c.args.name.now) (always_returns_same _ _ _ (λ a r g k. search rules)))))
