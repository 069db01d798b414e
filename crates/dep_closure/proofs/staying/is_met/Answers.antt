use Rattle.std.proofs.Common.{◌≡◌, ℕ, List, Bool, true, false, refl, sym, subst, IsTrue}
use Rattle.dep_closure.specs.Slots.{held_after, notes, IsMetBy}
use Rattle.dep_closure.proofs.Meeting.{met_noted}
use Rattle.dep_closure.proofs.Noted.{noted_in, noted_nowhere}
use Rattle.dep_closure.proofs.staying.is_met.Goals as goal

pub returns-in-Some : goal.returns-in-Some
returns-in-Some c = (
  λ h. c.is_met_by_any.ensures.met h,
  λ met. found met c.is_met_by_any.result refl,
)
  where
    found : (met : IsMetBy (held_after c.args.slots.now c.args.edits.now) c.args.require.now) (b : Bool) → c.is_met_by_any.result ≡ b → IsTrue b
    found met true is = refl
    found met false is = absurd (c.is_met_by_any.ensures.unmet is met.name
        (noted_in c.args.providers.now c.name.result.now met.name c.in-Some.names.now (sym c.in-Some.ensures.value)
        (subst (λ (dep : List ℕ). IsTrue (notes c.args.providers.now dep met.name)) (sym c.name.ensures) (met_noted (held_after c.args.slots.now c.args.edits.now) c.args.providers.now c.requires c.args.require.now met)))
        met.trove met.there met.by)

pub returns-in-None : goal.returns-in-None
returns-in-None c = (
  λ h. absurd (cc),
  λ met. absurd (noted_nowhere c.args.providers.now c.name.result.now met.name (sym c.in-None.ensures.value)
      (subst (λ (dep : List ℕ). IsTrue (notes c.args.providers.now dep met.name)) (sym c.name.ensures) (met_noted (held_after c.args.slots.now c.args.edits.now) c.args.providers.now c.requires c.args.require.now met))),
)
