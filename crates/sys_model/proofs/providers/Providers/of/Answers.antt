use Rattle.std.proofs.Common.{◌≡◌, ℕ, ◌<◌, length, Contains, slice_get, inl, inr, sym, ap, subst, ◌∙◌, arith}
use Rattle.std.proofs.lemmas.Bool.{cases_lt}
use Rattle.std.proofs.lemmas.Option.{same_Some, slice_get_within}
use Rattle.repo_index.specs.trove-stream.declared.parts.TroveParts.{TroveParts}
use Rattle.dep_closure.specs.Closed.{provides_of}
use Rattle.dep_closure.proofs.Meeting.{stands_at}
use Rattle.sys_model.specs.Providers.{places_in}
use Rattle.sys_model.proofs.providers.Providers.of.Goals as goal

pub loop-place-preserved : goal.loop-place-preserved
loop-place-preserved c = λ place t below there. elim (cases_lt place c.loop-place.place) [
  | inl before ↦ λ dep among. c.in_ok-add_trove.ensures.kept dep.name place (c.loop-place.invariant place t before there dep among)
  | inr behind ↦ (
      let troves = c.args.troves.now in
      let i = c.loop-place.place in
      let u = c.index-troves-place.result in
      let same : place ≡ i = omega (arith, below, behind) in
      let within : i < length troves = omega (arith, same, slice_get_within troves place t there) in
      let one : u ≡ t = same_Some u t (sym (stands_at troves i u within c.index-troves-place.is) ∙ ap (slice_get troves) (sym same) ∙ there) in
      λ dep among.
      subst (λ (p : ℕ). Contains (places_in c.add_trove.new.names dep.name) p) (sym same)
      (c.in_ok-add_trove.ensures.noted dep (subst (λ (v : TroveParts). Contains (provides_of v) dep) (sym one) among)))
]

pub returns : goal.returns
returns c = λ place t there.
    let within : place < length c.args.troves.now = slice_get_within c.args.troves.now place t there in
    c.loop-place.invariant place t (omega (arith, within, c.loop-place-test.false)) there
