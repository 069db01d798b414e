use Rattle.std.proofs.Common.{ℕ, List, Some, ap, sym, ◌∙◌, subst, rules}
use Rattle.std.proofs.lemmas.Fn.{always_returns_same}
use Rattle.trove_stream.specs.declared.parts.TroveParts.{TroveParts}
use Rattle.trove_stream.specs.Installed.{IsRising, IsPlaceOf, IsNameless}
use Rattle.trove_stream.proofs.Places.{against, searched, nowhere, one_place, not_nowhere}
use Rattle.trove_stream.proofs.installed.Installed.place_of.Goals as goal

pub returns-in-Ok-clause-only : goal.returns-in-Ok-clause-only
returns-in-Ok-clause-only c = λ place is.
    let list : List TroveParts = c.deref.result.now in
    let rises : IsRising list = subst IsRising (sym c.deref.ensures.value) c.self.invariant in
    let own : IsPlaceOf c.args.name.now list place = subst (λ (l : List TroveParts). IsPlaceOf c.args.name.now l place) (sym (c.deref.ensures.value ∙ c.self.view_is)) is in
    ap (λ (n : ℕ). Some n) (one_place list c.args.name.now rises c.in-Ok.place place
    (searched list c.args.name.now rises c.in-Ok.place c.in-Ok.ensures.bound (c.in-Ok.ensures.position (against c.args.name.now) (always_returns_same _ _ _ (λ a r g k. search rules)))) own)

pub returns-in-Err-clause-only : goal.returns-in-Err-clause-only
returns-in-Err-clause-only c = λ place is.
    let list : List TroveParts = c.deref.result.now in
    let rises : IsRising list = subst IsRising (sym c.deref.ensures.value) c.self.invariant in
    let own : IsPlaceOf c.args.name.now list place = subst (λ (l : List TroveParts). IsPlaceOf c.args.name.now l place) (sym (c.deref.ensures.value ∙ c.self.view_is)) is in
    absurd (not_nowhere list c.args.name.now place
    (nowhere list c.args.name.now rises c.in-Err.field-0 (c.in-Err.ensures.position (against c.args.name.now) (always_returns_same _ _ _ (λ a r g k. search rules)))) own)

pub returns-in-Ok-clause-some : goal.returns-in-Ok-clause-some
returns-in-Ok-clause-some c =
    let list : List TroveParts = c.deref.result.now in
    let rises : IsRising list = subst IsRising (sym c.deref.ensures.value) c.self.invariant in
    subst (λ (l : List TroveParts). IsPlaceOf c.args.name.now l c.in-Ok.place) (c.deref.ensures.value ∙ c.self.view_is)
    (searched list c.args.name.now rises c.in-Ok.place c.in-Ok.ensures.bound (c.in-Ok.ensures.position (against c.args.name.now) (always_returns_same _ _ _ (λ a r g k. search rules))))

pub returns-in-Err-clause-none : goal.returns-in-Err-clause-none
returns-in-Err-clause-none c =
    let list : List TroveParts = c.deref.result.now in
    let rises : IsRising list = subst IsRising (sym c.deref.ensures.value) c.self.invariant in
    subst (IsNameless c.args.name.now) (c.deref.ensures.value ∙ c.self.view_is)
    (nowhere list c.args.name.now rises c.in-Err.field-0 (c.in-Err.ensures.position (against c.args.name.now) (always_returns_same _ _ _ (λ a r g k. search rules))))
