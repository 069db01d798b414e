use Rattle.std.proofs.Common.{ℕ, List, get_or, Contains, slice_get, ⊎_elim, refl, sym, ap, subst, ◌∙◌, arith}
use Rattle.std.specs.Prelude.{IsTrue}
use Rattle.std.specs.BTreeSet.{BTreeSet}
use Rattle.std.proofs.lemmas.List.{take_all}
use Rattle.std.proofs.lemmas.Option.{none-some, same_Some}
use Rattle.repo_index.specs.trove-parts.declared.id.TroveId.{TroveId}
use Rattle.repo_index.specs.trove-stream.declared.parts.TroveParts.{TroveParts}
use Rattle.update_job.proofs.Elements.{in_more}
use Rattle.sys_model.specs.Growing.{is_doubted}
use Rattle.sys_model.proofs.noting.doubt_places.Goals.{in-Some+in_ok-doubt, in_default}
use Rattle.sys_model.proofs.noting.doubt_places.Goals as goal

pub loop-place-preserved : goal.loop-place-preserved
loop-place-preserved c =
    let troves = c.args.catalogue.now.troves in
    let places = c.args.places.now in
    let i = c.loop-place.place-index in
    let here : ℕ = get_or places i 0 in
    elim c.match-trove_at.branch [
      | in-Some+in_ok-doubt w ↦ (
          let t = w.in-Some.trove.now in
          let after = w.doubt.new.doubted in
          let own : IsTrue (is_doubted after t.id.name) = subst (λ (id : TroveId). IsTrue (is_doubted after id.name)) w.id.ensures.value w.in_ok-doubt.ensures.own in
          record {
            all = λ q u among there. subst (λ (d : BTreeSet (List ℕ)). IsTrue (is_doubted d u.id.name)) (sym w.doubted-is) (⊎_elim
                (λ before. w.in_ok-doubt.ensures.still u.id.name (c.loop-place.invariant.all q u before there))
                (λ same. subst (λ (v : TroveParts). IsTrue (is_doubted after v.id.name)) (same_Some t u (w.in-Some.ensures ∙ ap (slice_get troves) same ∙ there)) own)
                (in_more places i 0 here c.loop-place-test.true refl q among));
            still = λ name is. subst (λ (d : BTreeSet (List ℕ)). IsTrue (is_doubted d name)) (sym w.doubted-is) (w.in_ok-doubt.ensures.still name (c.loop-place.invariant.still name is));
          })
      | in_default w ↦ record {
        all = λ q u among there. subst (λ (d : BTreeSet (List ℕ)). IsTrue (is_doubted d u.id.name)) (sym w.doubted-is) (⊎_elim
            (λ before. c.loop-place.invariant.all q u before there)
            (λ same. absurd (none-some u (w.in_default.ensures ∙ ap (slice_get troves) same ∙ there)))
            (in_more places i 0 here c.loop-place-test.true refl q among));
        still = λ name is. subst (λ (d : BTreeSet (List ℕ)). IsTrue (is_doubted d name)) (sym w.doubted-is) (c.loop-place.invariant.still name is);
      }
    ]

pub returns-clause-all : goal.returns-clause-all
returns-clause-all c = λ place t among there.
    c.loop-place.invariant.all place t (subst (λ (l : List ℕ). Contains l place) (sym (take_all c.loop-place.place-index c.args.places.now (omega (arith, c.loop-place-test.false)))) among) there
