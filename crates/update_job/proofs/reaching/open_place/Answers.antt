use Rattle.std.proofs.Common.{◌≡◌, true, eqb, sym, subst, ◌∙◌}
use Rattle.std.specs.List.{list_any}
use Rattle.std.proofs.lemmas.Bool.{eqb-true}
use Rattle.std.proofs.lemmas.Map.Views.{Contains-from_any}
use Rattle.std.proofs.lemmas.Option.{none-some, same_Some}
use Rattle.std.specs.Prelude.{Contains}
use Rattle.update_job.proofs.reaching.open_place.Goals as goal

pub returns-in_err-place-clause-only : goal.returns-in_err-place-clause-only
returns-in_err-place-clause-only c = λ place is. absurd (none-some place (c.in_err-place.ensures.only place is.place_of))

pub returns-then-contains-clause-only : goal.returns-then-contains-clause-only
returns-then-contains-clause-only c = λ place is.
    let barred = c.args.barred.now in
    let known : list_any (eqb c.in_ok-place.place) barred ≡ true = sym c.contains.ensures ∙ c.if-contains.true in
    let one : c.in_ok-place.place ≡ place = same_Some c.in_ok-place.place place (c.in_ok-place.ensures.only place is.place_of) in
    absurd (is.free (subst (Contains barred) one (Contains-from_any eqb-true c.in_ok-place.place barred known)))

pub returns-clause-only : goal.returns-clause-only
returns-clause-only c = λ place is. c.in_ok-place.ensures.only place is.place_of
