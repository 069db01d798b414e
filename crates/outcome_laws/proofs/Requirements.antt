-- A list of troves is closed, or it has one first requirement that isn't met.
use Rattle.std.proofs.Common.{◌≡◌, ◌<◌, ⊎_elim, List, take, slice_get, sym, ap, ◌∙◌, subst, arith}
use Rattle.std.proofs.lemmas.Bool.{cases_lt}
use Rattle.std.proofs.lemmas.List.Elements.{All-contains}
use Rattle.std.proofs.lemmas.Option.{same_Some}
use Rattle.cny_dep.specs.Dep.{Dependency, dep_text}
use Rattle.conary_cli.specs.cli-call.cny-base.declared.refusal.Fault.TheVariants as fault
use Rattle.conary_cli.specs.cli-call.cny-base.declared.refusal.Refusal.{Refusal}
use Rattle.conary_cli.specs.cli-call.cny-base.declared.refusal.Refusal.TheVariants.{Unmet}
use Rattle.conary_cli.specs.cli-call.trove-stream.declared.parts.TroveParts.{TroveParts}
use Rattle.conary_cli.specs.root-commands.dep-closure.Closed.{HasAllMet, IsClosed, IsFirstOf, IsFirstUnmet, IsMet, IsUnmetOrMemory}
use Rattle.change_rel.proofs.cny-base.Lists.{contains_at}
use Rattle.outcome_laws.proofs.Listings.{take_get}

module _ (list : List TroveParts) where
  not_all_met : (t : TroveParts) (require : Dependency) → IsFirstOf list t.requires_ require → HasAllMet list t → ⊥
  not_all_met t require first all = first.unmet (All-contains (IsMet list) t.requires_ require all (contains_at t.requires_ first.number require first.there))

  pub never_unmet : (t : TroveParts) (require : Dependency) → IsClosed list → IsFirstUnmet list t require → ⊥
  never_unmet t require closed u = not_all_met t require u.first (All-contains (HasAllMet list) list t closed (contains_at list u.place t u.there))

  -- what stands before the first one is met
  trove_before : (t v : TroveParts) (require other : Dependency) (u : IsFirstUnmet list t require) (w : IsFirstUnmet list v other) → u.place < w.place → ⊥
  trove_before t v require other u w less =
      not_all_met t require u.first (All-contains (HasAllMet list) (take w.place list) t w.met (contains_at (take w.place list) u.place t (take_get w.place u.place list less ∙ u.there)))

  requirement_before : (required : List Dependency) (a b : Dependency) (h : IsFirstOf list required a) (g : IsFirstOf list required b) → h.number < g.number → ⊥
  requirement_before required a b h g less =
      h.unmet (All-contains (IsMet list) (take g.number required) a g.met (contains_at (take g.number required) h.number a (take_get g.number h.number required less ∙ h.there)))

  pub first_once : (required : List Dependency) (a b : Dependency) → IsFirstOf list required a → IsFirstOf list required b → a ≡ b
  first_once required a b h g = same_Some a b (sym h.there ∙ ap (slice_get required) number ∙ g.there)
    where
      number : h.number ≡ g.number
      number = ⊎_elim
          (λ less. absurd (requirement_before required a b h g less))
          (λ most. ⊎_elim (λ less. absurd (requirement_before required b a g h less)) (λ also. omega (arith, most, also)) (cases_lt g.number h.number))
          (cases_lt h.number g.number)

  pub trove_once : (t v : TroveParts) (require other : Dependency) → IsFirstUnmet list t require → IsFirstUnmet list v other → t ≡ v
  trove_once t v require other u w = same_Some t v (sym u.there ∙ ap (slice_get list) place ∙ w.there)
    where
      place : u.place ≡ w.place
      place = ⊎_elim
          (λ less. absurd (trove_before t v require other u w less))
          (λ most. ⊎_elim (λ less. absurd (trove_before v t other require w u less)) (λ also. omega (arith, most, also)) (cases_lt w.place u.place))
          (cases_lt u.place w.place)

  pub unmet_once : (p q : Refusal) → IsUnmetOrMemory list (fault.Refused p) → IsUnmetOrMemory list (fault.Refused q) → p ≡ q
  unmet_once p q h g =
      let trove : h.0 ≡ g.0 = trove_once h.0 g.0 h.1 g.1 h.2 g.2 in
      let require : h.1 ≡ g.1 = first_once g.0.requires_ h.1 g.1 (subst (λ (t : TroveParts). IsFirstOf list t.requires_ h.1) trove h.2.first) g.2.first in
      h.3 ∙ ap (λ (t : TroveParts). Unmet t.id.name (dep_text h.1)) trove ∙ ap (λ (d : Dependency). Unmet g.0.id.name (dep_text d)) require ∙ sym g.3
