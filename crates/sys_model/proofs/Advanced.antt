-- One more round, and how the rounds end.
use Rattle.std.proofs.Common.{◌≡◌, ℕ, ◌<◌, inl, inr, List, [], ◌∷◌, ◌++◌, length, take, Contains, Option, Some, Result, Ok, Err, refl, sym, ap, ◌∙◌, subst, arith, append-nil, length-append}
use Rattle.std.specs.Prelude.{IfErr, IfOk, IfSome}
use Rattle.std.specs.BTreeSet.{BTreeSet}
use Rattle.std.proofs.lemmas.List.{take-append-le, take_all}
use Rattle.std.proofs.lemmas.List.Elements.{Contains-push}
use Rattle.std.proofs.lemmas.Option.{none-some, same_Some}
use Rattle.repo_index.specs.cny-base.declared.refusal.Fault.{Fault}
use Rattle.repo_index.specs.cny-base.declared.refusal.Fault.TheVariants as fault
use Rattle.repo_index.specs.trove-parts.declared.id.TroveId.{TroveId}
use Rattle.repo_index.specs.trove-stream.declared.parts.TroveParts.{TroveParts}
use Rattle.repo_index.proofs.cny-base.Lists.{contains_at}
use Rattle.dep_closure.specs.Slots.{IsClosedBy}
use Rattle.trove_spec.specs.declared.config.Config.{Config}
use Rattle.trove_spec.specs.AndThen.{EndsAs}
use Rattle.trove_spec.specs.Expansion.{IsExpansion, IsUnexpanded}
use Rattle.update_job.specs.Lists.{IsErased}
use Rattle.sys_model.specs.declared.round.Round.{Round}
use Rattle.sys_model.specs.Advancing.{IsStopped}
use Rattle.sys_model.specs.Fit.{Fresh}
use Rattle.sys_model.specs.Growing.{AreByName, HasMore, IsRoundOf}
use Rattle.sys_model.specs.Held.{held, AreNamed, AreServedBut, IsHelpFor, IsNoHelpOrMemory}
use Rattle.sys_model.specs.Rounds.{Adds, Completes, HasReasons}
use Rattle.sys_model.proofs.Completed.{has_reasons, last_found, last_unexpanded, AreRounds}
use Rattle.sys_model.proofs.RoundEnds.{adds_of, closed_round, helpless_of}

-- ---- the round

-- what comes stands under its name
pub named_of : (troves : List TroveParts) (places : List ℕ) (fresh : Fresh) → AreByName troves places fresh → AreNamed troves fresh
named_of troves places fresh by name place t under there =
    let is = by.from name place under in
    ap (λ (u : TroveParts). u.id.name) (same_Some t is.trove (sym there ∙ is.there)) ∙ is.named

-- what stays was installed
pub stays_among : (installed : List TroveParts) (replaced : List (List ℕ)) (kept : List TroveParts) → IsErased installed replaced kept → (t : TroveParts) → Contains kept t → Contains installed t
stays_among installed replaced kept erased t among = let stays = erased.stays t among in contains_at installed stays.place t stays.there

pub front_of : {A : Type 0} (xs ys all : List A) (n : ℕ) → n ≡ length xs → all ≡ xs ++ ys → take n all ≡ xs
front_of xs ys all n long is = ap (λ (k : ℕ). take k all) long ∙ ap (take (length xs)) is ∙ take-append-le (length xs) xs ys (omega arith) ∙ take_all (length xs) xs (omega arith)

pub some_is : {A : Type 0} (o : Option A) (x : A) (P : A → Type 0) → o ≡ Some x → IfSome o P → P x
some_is o x P is h = subst (λ p. IfSome p P) is h

module _ (troves installed : List TroveParts) (config : Config) (roots : List TroveId) (round : Round) (is : IsRoundOf troves installed roots round) where
  -- the same roots and other names that are doubted
  pub with_doubted : (same : List TroveId) (doubted : BTreeSet (List ℕ)) → same ≡ roots → AreServedBut (held troves round.fresh round.kept) doubted
      → IsRoundOf troves installed same (record { places = round.places; fresh = round.fresh; replaced = round.replaced; kept = round.kept; doubted = doubted })
  with_doubted same doubted e served = subst (λ (l : List TroveId). IsRoundOf troves installed l (record { places = round.places; fresh = round.fresh; replaced = round.replaced; kept = round.kept; doubted = doubted })) (sym e) (record {
    distinct = is.distinct;
    gathered = is.gathered;
    by_name = is.by_name;
    replaced = is.replaced;
    erased = is.erased;
    served = served;
  })

  pub adds_help : (t : TroveParts) → IsHelpFor troves round.fresh round.kept config t → Adds troves installed config roots t
  adds_help t help = adds_of troves installed roots round is config help.unmet t help.first help.chosen

  pub stopped_here : (f : Fault) → IsNoHelpOrMemory troves round.fresh round.kept config f → IsStopped troves installed config roots f
  stopped_here (fault.Refused refused) none = inl (helpless_of troves installed roots round is config none.unmet refused none.first none.none none.refusal_is)
  stopped_here fault.Memory none = tt

  pub stopped_then : (t : TroveParts) (new : List TroveId) (f : Fault) → IsHelpFor troves round.fresh round.kept config t → new ≡ roots ++ t.id ∷ [] → IsUnexpanded troves new f → IsStopped troves installed config roots f
  stopped_then t new (fault.Refused refused) help new_is two = inr (t, adds_help t help, subst (λ (l : List TroveId). IsUnexpanded troves l (fault.Refused refused)) new_is two)
  stopped_then t new fault.Memory help new_is two = tt

  -- the trove that is added wasn't reached
  pub grows : (t : TroveParts) (new : List TroveId) (after : Round) → IsHelpFor troves round.fresh round.kept config t → new ≡ roots ++ t.id ∷ [] → IsRoundOf troves installed new after → HasMore round.places after.places
      → length round.places < length after.places
  grows t new after help new_is is_after more = at more.more more.new_is
    where
      place : ℕ
      place = help.chosen.last.place

      in_after : Contains after.places place
      in_after =
          is_after.gathered.roots_in t.id place (subst (λ (l : List TroveId). Contains l t.id) (sym new_is) (Contains-push roots t.id)) (record { trove = t; stands = help.chosen.last.there; id_is = refl })

      not_before : Contains round.places place → ⊥
      not_before among = none-some place (sym help.chosen.last.is.is_new ∙ is.by_name.all place t among help.chosen.last.there)

      at : (l : List ℕ) → after.places ≡ round.places ++ l → length round.places < length after.places
      at [] e = absurd (not_before (subst (λ (l : List ℕ). Contains l place) (e ∙ append-nil round.places) in_after))
      at (x ∷ l) e = omega (arith, ap length e, length-append round.places (x ∷ l))

  -- ---- the last round

  pub ended : (first : List TroveId) (result : Result (List TroveParts) Fault) → AreRounds troves installed config first roots → IsClosedBy (held troves round.fresh round.kept) → IfOk result (IsExpansion troves roots)
      → IfErr result (IsUnexpanded troves roots) → EndsAs (Completes troves installed config first) result
  ended first (Ok found) rounds closed value fault =
      let whole = closed_round troves installed roots round is closed in
      last_found troves installed config first roots found whole.0 whole.1 rounds whole.2 whole.3 value
  ended first (Err f) rounds closed value fault = last_unexpanded troves installed config first roots f rounds fault

pub reasons_of : (troves installed : List TroveParts) (config : Config) (roots : List TroveId) (result : Result (List TroveParts) Fault) → EndsAs (Completes troves installed config roots) result
    → IfOk result (HasReasons troves installed config roots)
reasons_of troves installed config roots (Ok found) is = has_reasons troves installed config roots found is
reasons_of troves installed config roots (Err f) is = tt
