use Rattle.std.proofs.Common.{ℕ, ◌<◌, List, length, get_or, slice_get, Contains, ⊎_elim, refl, ap, sym, subst, ◌∙◌, arith}
use Rattle.std.proofs.lemmas.List.{take_all}
use Rattle.update_job.proofs.Elements.{in_more}
use Rattle.sys_model.proofs.view.is_met_at_any.Goals as goal

pub loop-place-preserved : goal.loop-place-preserved
loop-place-preserved c = λ q t among there.
    let list = c.args.list.now in
    let places = c.args.places.now in
    let i = c.loop-place.place-index in
    let within : i < length places = omega arith in
    ⊎_elim
    (λ before. c.loop-place.invariant q t before there)
    (λ same. c.is_met_at.ensures.unmet c.if-is_met_at.false t (ap (slice_get list) same ∙ there))
    (in_more places i 0 (get_or places i 0) within refl q among)

pub returns-clause-unmet : goal.returns-clause-unmet
returns-clause-unmet c = λ is place t among there.
    c.loop-place.invariant place t (subst (λ (l : List ℕ). Contains l place) (sym (take_all c.loop-place.place-index c.args.places.now (omega arith))) among) there
