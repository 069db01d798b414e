use Rattle.std.proofs.Common.{◌≡◌, sym, rules}
use Rattle.std.proofs.lemmas.Fn.{always_returns_same}
use Rattle.repository.proofs.Searched.{found, missed, searched}
use Rattle.change_rel.proofs.trove-stream.Places.{name_of}
use Rattle.change_rel.proofs.cny-base.Keyed.{against, nowhere}
use Rattle.repository.proofs.between_parts.trove_named.Goals as goal

pub returns-in-Ok-clause-value : goal.returns-in-Ok-clause-value
returns-in-Ok-clause-value c =
    let e = c.index-troves-place.result in
    let named : e.id.name ≡ c.args.name.now = searched name_of c.args.troves.now c.args.name.now c.in-Ok.place e c.index-troves-place.is
    (c.in-Ok.ensures.position (against name_of c.args.name.now) (always_returns_same _ _ _ (λ a r g k. search rules))) in
    sym (found name_of c.args.troves.now c.requires e (c.in-Ok.place, c.in-Ok.ensures.bound, sym c.index-troves-place.is) c.args.name.now named)

pub returns-in-Ok-clause-named : goal.returns-in-Ok-clause-named
returns-in-Ok-clause-named c =
    searched name_of c.args.troves.now c.args.name.now c.in-Ok.place c.index-troves-place.result c.index-troves-place.is
    (c.in-Ok.ensures.position (against name_of c.args.name.now) (always_returns_same _ _ _ (λ a r g k. search rules)))

pub returns-in-Err-clause-value : goal.returns-in-Err-clause-value
returns-in-Err-clause-value c =
    sym (missed name_of c.args.troves.now c.args.name.now (nowhere name_of c.args.troves.now c.args.name.now c.requires c.in-Err.field-0
    (c.in-Err.ensures.position (against name_of c.args.name.now) (always_returns_same _ _ _ (λ a r g k. search rules)))))
