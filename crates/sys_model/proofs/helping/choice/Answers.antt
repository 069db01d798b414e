use Rattle.std.proofs.Common.{◌≡◌, All, ap, subst, ◌∙◌, arith}
use Rattle.std.proofs.lemmas.List.{take_all}
use Rattle.std.proofs.lemmas.List.Elements.{All-more}
use Rattle.cny_version.specs.Label.{LabelParts}
use Rattle.dep_closure.proofs.Meeting.{stands_at}
use Rattle.sys_model.specs.Candidate.{IsForNone}
use Rattle.sys_model.specs.Fit.{IsWished}
use Rattle.sys_model.specs.Providers.{places_in}
use Rattle.sys_model.proofs.Fits.{last_of_all, none_of_all, some_at}
use Rattle.sys_model.proofs.helping.choice.Goals as goal

pub loop-label-preserved : goal.loop-label-preserved
loop-label-preserved c =
    let wish = c.args.wish.now in
    let troves = c.args.catalogue.now.troves in
    let providers = c.args.providers.now in
    let label = c.label-item.result in
    let beside : c.places-places.result.now ≡ places_in providers.names wish.require.now.name = c.places-places.ensures ∙ ap (places_in providers.names) c.name.ensures in
    All-more (λ (l : LabelParts). IsForNone (IsWished wish l) troves) c.args.labels.now c.loop-label.label-index label (omega arith) c.loop-label.invariant
    (subst (λ (l : LabelParts). IsForNone (IsWished wish l) troves) c.label-item.is
    (none_of_all wish.system.now wish.fresh.now wish.require.now troves providers c.requires c.places-places.result.now beside label c.in_default.ensures.none))

pub returns-in-Some-clause-some : goal.returns-in-Some-clause-some
returns-in-Some-clause-some c =
    let wish = c.args.wish.now in
    let troves = c.args.catalogue.now.troves in
    let providers = c.args.providers.now in
    let labels = c.args.labels.now in
    let i = c.loop-label.label-index in
    let label = c.label-item.result in
    let beside : c.places-places.result.now ≡ places_in providers.names wish.require.now.name = c.places-places.ensures ∙ ap (places_in providers.names) c.name.ensures in
    some_at troves c.in-Some.place c.trove_at.result c.trove_at.ensures (λ t there. record {
      number = i;
      label = label;
      there = stands_at labels i label c.loop-label-test.true c.label-item.is;
      last = last_of_all wish.system.now wish.fresh.now wish.require.now troves providers c.requires c.places-places.result.now beside label c.in-Some.place t there c.in-Some.ensures.some;
      none_before = c.loop-label.invariant;
    })

pub returns-clause-none : goal.returns-clause-none
returns-clause-none c =
    let wish = c.args.wish.now in
    subst (All (λ (l : LabelParts). IsForNone (IsWished wish l) c.args.catalogue.now.troves)) (take_all c.loop-label.label-index c.args.labels.now (omega arith)) c.loop-label.invariant
