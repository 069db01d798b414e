-- An update that completes itself ends in one way.
use Rattle.std.proofs.Common.{append-nil, ◌≡◌, ◌<◌, ⊎_elim, inl, inr, List, [], ◌∷◌, ◌++◌, map, take, slice_get, Bool, true, false, Ok, Err, sym, ap, ◌∙◌, subst, arith}
use Rattle.std.specs.Prelude.{Result}
use Rattle.std.proofs.lemmas.Bool.{cases_lt}
use Rattle.std.proofs.lemmas.List.{append_assoc}
use Rattle.std.proofs.lemmas.List.Elements.{All-contains}
use Rattle.std.proofs.lemmas.Option.{same_Some}
use Rattle.cny_dep.specs.Dep.{Dependency, dep_text}
use Rattle.cny_version.specs.Label.{LabelParts}
use Rattle.conary_cli.specs.cli-call.cny-base.declared.refusal.Refusal.{Refusal}
use Rattle.conary_cli.specs.cli-call.cny-base.declared.refusal.Refusal.TheVariants.{Unmet}
use Rattle.conary_cli.specs.cli-call.trove-parts.declared.id.TroveId.{TroveId}
use Rattle.conary_cli.specs.cli-call.trove-stream.declared.parts.TroveParts.{TroveParts}
use Rattle.change_rel.proofs.cny-base.Lists.{contains_at}
use Rattle.conary_cli.specs.root-commands.dep-closure.Closed.{IsClosed, IsFirstOf, IsFirstUnmet}
use Rattle.conary_cli.specs.root-commands.sys-model.Candidate.{HasNoChoice, IsCandidate, IsChosen, IsForNone, IsLast}
use Rattle.conary_cli.specs.root-commands.sys-model.Rounds.{with_added, Adds, AreAdded, Completes, EndsRound, IsHelpless, IsOpen, IsRound}
use Rattle.trove_spec.specs.declared.config.Config.{Config}
use Rattle.update_job.specs.Lists.{IsUpdated}
use Rattle.trove_spec.specs.Expansion.{IsOfOneName}
use Rattle.repo_shadow.proofs.OneMove.{OneExpansion}
use Rattle.conary_cli.specs.root-commands.UpdateSpecs.{BringAll}
use Rattle.outcome_laws.specs.OneOutcome.{AtMostOne}
use Rattle.outcome_laws.proofs.Jobs.{updated_once}
use Rattle.outcome_laws.proofs.Listings.{take_get}
use Rattle.outcome_laws.proofs.Meanings.{one_name, reach_once, two_of_name}
use Rattle.outcome_laws.proofs.Requirements.{first_once, never_unmet, trove_once}

-- ---- the trove that is chosen

last_once : (Is : TroveParts → Type 0) (troves : List TroveParts) → AtMostOne (IsLast Is troves)
last_once Is troves t u h g = same_Some t u (sym h.there ∙ ap (slice_get troves) place ∙ g.there)
  where
    place : h.place ≡ g.place
    place = ⊎_elim
        (λ less. absurd (h.none_later g.place u less g.there g.is))
        (λ most. ⊎_elim (λ less. absurd (g.none_later h.place t less h.there h.is)) (λ also. omega (arith, most, also)) (cases_lt g.place h.place))
        (cases_lt h.place g.place)

module _ (IsOn : LabelParts → TroveParts → Type 0) (labels : List LabelParts) (troves : List TroveParts) where
  -- on none of the labels before the one on which a trove is chosen there is one
  earlier_none : (t u : TroveParts) (h : IsChosen IsOn labels troves t) (g : IsChosen IsOn labels troves u) → h.number < g.number → ⊥
  earlier_none t u h g less =
      let last = h.last in
      All-contains (λ (other : LabelParts). IsForNone (IsOn other) troves) (take g.number labels) h.label g.none_before
      (contains_at (take g.number labels) h.number h.label (take_get g.number h.number labels less ∙ h.there))
      t (contains_at troves last.place t last.there) last.is

  chosen_once : AtMostOne (IsChosen IsOn labels troves)
  chosen_once t u h g = last_once (IsOn g.label) troves t u (subst (λ (l : LabelParts). IsLast (IsOn l) troves t) label h.last) g.last
    where
      number : h.number ≡ g.number
      number = ⊎_elim
          (λ less. absurd (earlier_none t u h g less))
          (λ most. ⊎_elim (λ less. absurd (earlier_none u t g h less)) (λ also. omega (arith, most, also)) (cases_lt g.number h.number))
          (cases_lt h.number g.number)

      label : h.label ≡ g.label
      label = same_Some h.label g.label (sym h.there ∙ ap (slice_get labels) number ∙ g.there)

  -- where one is chosen there is a choice
  never_none : (t : TroveParts) → IsChosen IsOn labels troves t → HasNoChoice IsOn labels troves → ⊥
  never_none t h none =
      let last = h.last in
      All-contains (λ (label : LabelParts). IsForNone (IsOn label) troves) labels h.label none
      (contains_at labels h.number h.label h.there) t (contains_at troves last.place t last.there) last.is

-- ---- a round

module _ (one : OneExpansion) (troves installed : List TroveParts) (config : Config) where
  -- what is the same of two rounds of the same roots
  record AreSame (found other list more : List TroveParts) : Type 0 where
    found_is : found ≡ other
    list_is : list ≡ more

  round_once : (roots : List TroveId) (found other list more : List TroveParts) → IsRound troves installed roots found list → IsRound troves installed roots other more → AreSame found other list more
  round_once roots found other list more h g =
      let same = one troves roots found other h.expansion g.expansion in record {
        found_is = same;
        list_is = updated_once installed other list more (subst (λ (f : List TroveParts). IsUpdated installed f list) same h.updated) g.updated;
      }

  -- what is the same of two rounds of the same roots that aren't closed
  record AreSameOpen (found other : List TroveParts) (trove more : TroveParts) (require need : Dependency) : Type 0 where
    found_is : found ≡ other
    trove_is : trove ≡ more
    require_is : require ≡ need

  open_once : (roots : List TroveId) (found other : List TroveParts) (trove more : TroveParts) (require need : Dependency) → IsOpen troves installed roots found trove require → IsOpen troves installed roots other more need
      → AreSameOpen found other trove more require need
  open_once roots found other trove more require need h g =
      let same = round_once roots found other h.list g.list h.round g.round in
      let unmet : IsFirstUnmet g.list trove require = subst (λ (l : List TroveParts). IsFirstUnmet l trove require) same.list_is h.unmet in
      let trove_is : trove ≡ more = trove_once g.list trove more require need unmet g.unmet in
      let other_unmet = g.unmet in record {
        found_is = same.found_is;
        trove_is = trove_is;
        require_is = first_once g.list more.requires_ require need (subst (λ (t : TroveParts). IsFirstOf g.list t.requires_ require) trove_is unmet.first) other_unmet.first;
      }

  adds_once : (roots : List TroveId) → AtMostOne (Adds troves installed config roots)
  adds_once roots t u h g =
      let same = open_once roots h.found g.found h.trove g.trove h.require g.require h.open_ g.open_ in
      chosen_once (IsCandidate config.flavor g.found g.require) config.labels troves t u
      (subst (λ (f : List TroveParts). IsChosen (IsCandidate config.flavor f g.require) config.labels troves t) same.found_is
      (subst (λ (d : Dependency). IsChosen (IsCandidate config.flavor h.found d) config.labels troves t) same.require_is h.chosen))
      g.chosen

  -- ---- the last round

  helpless_once : (roots : List TroveId) → AtMostOne (IsHelpless troves installed config roots)
  helpless_once roots p q h g =
      let same = open_once roots h.found g.found h.trove g.trove h.require g.require h.open_ g.open_ in
      h.refusal_is ∙ ap (λ (t : TroveParts). Unmet t.id.name (dep_text h.require)) same.trove_is ∙ ap (λ (d : Dependency). Unmet g.trove.id.name (dep_text d)) same.require_is ∙ sym g.refusal_is

  -- a round that isn't closed has no list that is
  never_closed : (roots : List TroveId) (found other list : List TroveParts) (trove : TroveParts) (require : Dependency) → IsOpen troves installed roots found trove require → IsRound troves installed roots other list → IsClosed list → ⊥
  never_closed roots found other list trove require h g closed =
      let same = round_once roots found other h.list list h.round g in
      never_unmet list trove require closed (subst (λ (l : List TroveParts). IsFirstUnmet l trove require) same.list_is h.unmet)

  -- nor has it two troves of one name
  never_two : (roots : List TroveId) (found list : List TroveParts) (why : Refusal) → IsRound troves installed roots found list → IsOfOneName troves roots why → ⊥
  never_two roots found list why h two = two_of_name one troves roots found why h.expansion h.one_each two

  ends_once : (roots : List TroveId) → AtMostOne (EndsRound troves installed config roots)
  ends_once roots (Ok a) (Ok b) h g = let same = one troves roots a b h.1.expansion g.1.expansion in λ i. Ok (same i)
  ends_once roots (Ok a) (Err q) h (inl two) = absurd (never_two roots a h.0 q h.1 two)
  ends_once roots (Ok a) (Err q) h (inr none) = absurd (never_closed roots none.found a h.0 none.trove none.require none.open_ h.1 h.2)
  ends_once roots (Err p) (Ok b) (inl two) g = absurd (never_two roots b g.0 p g.1 two)
  ends_once roots (Err p) (Ok b) (inr none) g = absurd (never_closed roots none.found b g.0 none.trove none.require none.open_ g.1 g.2)
  ends_once roots (Err p) (Err q) (inl two) (inl both) = let same = one_name one troves roots p q two both in λ i. Err (same i)
  ends_once roots (Err p) (Err q) (inl two) (inr none) = let opened = none.open_ in absurd (never_two roots none.found opened.list p opened.round two)
  ends_once roots (Err p) (Err q) (inr none) (inl both) = let opened = none.open_ in absurd (never_two roots none.found opened.list q opened.round both)
  ends_once roots (Err p) (Err q) (inr none) (inr also) = let same = helpless_once roots p q none also in λ i. Err (same i)

  -- a round to which a trove is added isn't the last one
  goes_on : (roots : List TroveId) (t : TroveParts) (result : Result (List TroveParts) Refusal) → Adds troves installed config roots t → EndsRound troves installed config roots result → ⊥
  goes_on roots t (Ok found) h g = never_closed roots h.found found g.0 h.trove h.require h.open_ g.1 g.2
  goes_on roots t (Err why) h (inl two) = let opened = h.open_ in never_two roots h.found opened.list why opened.round two
  goes_on roots t (Err why) h (inr none) =
      let same = open_once roots h.found none.found h.trove none.trove h.require none.require h.open_ none.open_ in
      never_none (IsCandidate config.flavor none.found none.require) config.labels troves t
      (subst (λ (f : List TroveParts). IsChosen (IsCandidate config.flavor f none.require) config.labels troves t) same.found_is
      (subst (λ (d : Dependency). IsChosen (IsCandidate config.flavor h.found d) config.labels troves t) same.require_is h.chosen))
      none.none

  -- ---- all rounds

  -- the roots after all rounds but the first are those after all
  roots_on : (roots : List TroveId) (t : TroveParts) (added : List TroveParts) → with_added roots (t ∷ added) ≡ with_added (roots ++ t.id ∷ []) added
  roots_on roots t added = sym (append_assoc roots (t.id ∷ []) (map (λ (u : TroveParts). u.id) added))

  none_added : (roots : List TroveId) → with_added roots [] ≡ roots
  none_added roots = append-nil roots

  rounds_once : (roots : List TroveId) (added more : List TroveParts) (a b : Result (List TroveParts) Refusal) → AreAdded troves installed config roots added → AreAdded troves installed config roots more
      → EndsRound troves installed config (with_added roots added) a → EndsRound troves installed config (with_added roots more) b → a ≡ b
  rounds_once roots [] [] a b h g x y = ends_once (with_added roots []) a b x y
  rounds_once roots [] (u ∷ more) a b h g x y = absurd (goes_on roots u a g.0 (subst (λ (r : List TroveId). EndsRound troves installed config r a) (none_added roots) x))
  rounds_once roots (t ∷ added) [] a b h g x y = absurd (goes_on roots t b h.0 (subst (λ (r : List TroveId). EndsRound troves installed config r b) (none_added roots) y))
  rounds_once roots (t ∷ added) (u ∷ more) a b h g x y =
      let same : t ≡ u = adds_once roots t u h.0 g.0 in
      rounds_once (roots ++ u.id ∷ []) added more a b
      (subst (λ (v : TroveParts). AreAdded troves installed config (roots ++ v.id ∷ []) added) same h.1) g.1
      (subst (λ (v : TroveParts). EndsRound troves installed config (with_added (roots ++ v.id ∷ []) added) a) same (subst (λ (r : List TroveId). EndsRound troves installed config r a) (roots_on roots t added) x))
      (subst (λ (r : List TroveId). EndsRound troves installed config r b) (roots_on roots u more) y)

  completes_once : (roots : List TroveId) → AtMostOne (Completes troves installed config roots)
  completes_once roots a b h g = rounds_once roots h.added g.added a b h.are g.are h.ends g.ends

  pub bring_once : (resolve : Bool) (roots : List TroveId) → AtMostOne (BringAll resolve troves installed config roots)
  bring_once true roots = completes_once roots
  bring_once false roots = reach_once one troves roots
