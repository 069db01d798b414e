-- The round of more roots, once what comes is noted.
use Rattle.std.proofs.Common.{◌≡◌, ℕ, ◌-◌, ◌≤◌, List, ◌++◌, length, take, drop, slice_get, Contains, eqb, Option, Some, None, IsSome, Vec, Global, refl, sym, ap, ◌∙◌, subst, arith, length-append}
use Rattle.std.specs.Prelude.{IsTrue}
use Rattle.std.specs.BTreeSet.{BTreeSet}
use Rattle.std.specs.List.{IsDistinct}
use Rattle.std.proofs.lemmas.List.{drop_all, drop-append-le, take_all}
use Rattle.repo_index.specs.trove-parts.declared.id.TroveId.{TroveId}
use Rattle.repo_index.specs.trove-stream.declared.parts.TroveParts.{TroveParts}
use Rattle.update_job.specs.Lists.{IsErased}
use Rattle.sys_model.specs.declared.round.Round.{Round}
use Rattle.sys_model.specs.Fit.{Fresh, place_of}
use Rattle.sys_model.specs.Growing.{is_doubted, AreByName, AreGathered, AreReplaced, HasMore, HasNotedAll, IsRoundOf}
use Rattle.sys_model.proofs.GrownRounds.{grown_names, grown_replaced, same_erased, same_served, served_all}

-- what stands behind the places that were there
pub tail_at : (old more all : List ℕ) (n : ℕ) → n ≡ length old → all ≡ old ++ more → take (length all - n) (drop n all) ≡ more
tail_at old more all n long is =
    let behind : drop n all ≡ more =
    ap (λ (k : ℕ). drop k all) long ∙ ap (drop (length old)) is ∙ drop-append-le (length old) old more (omega arith) ∙ ap (λ (l : List ℕ). l ++ more) (drop_all (length old) old (omega arith)) in
    let rest : length more ≤ length all - n = omega (arith, long, ap length is, length-append old more) in
    ap (take (length all - n)) behind ∙ take_all (length all - n) more rest

module _ (troves installed : List TroveParts) (front roots : List TroveId) (old : Round) (is : IsRoundOf troves installed front old) (places : List ℕ) (fresh : Fresh) (doubted : BTreeSet (List ℕ)) (replaced : List (List ℕ))
    (more : HasMore old.places places) (noted : HasNotedAll troves installed more.more old.fresh fresh old.doubted doubted old.replaced.items replaced) (distinct : IsDistinct eqb places)
    (gathered : AreGathered troves roots places (length places)) where
  names : AreByName troves places fresh
  names = grown_names troves installed front old is places fresh doubted replaced more noted

  are_replaced : AreReplaced installed fresh replaced
  are_replaced = grown_replaced troves installed front old is places fresh doubted replaced more noted

  -- which installed troves stay was found out anew
  pub renewed_round : (new : Round) → new.places ≡ places → new.fresh ≡ fresh → new.replaced.items ≡ replaced → IsErased installed replaced new.kept
      → ((place : ℕ) (t : TroveParts) → Contains places place → slice_get troves place ≡ Some t → IsTrue (is_doubted new.doubted t.id.name)) → ((t : TroveParts) → Contains new.kept t → IsTrue (is_doubted new.doubted t.id.name))
      → IsRoundOf troves installed roots new
  renewed_round new places_are fresh_is replaced_are erased comers stayers = record {
    distinct = subst (IsDistinct eqb) (sym places_are) distinct;
    gathered = subst (λ (l : List ℕ). AreGathered troves roots l (length l)) (sym places_are) gathered;
    by_name = subst (λ (l : List ℕ). AreByName troves l new.fresh) (sym places_are) (subst (AreByName troves places) (sym fresh_is) names);
    replaced = subst (AreReplaced installed new.fresh) (sym replaced_are) (subst (λ (f : Fresh). AreReplaced installed f replaced) (sym fresh_is) are_replaced);
    erased = subst (λ (l : List (List ℕ)). IsErased installed l new.kept) (sym replaced_are) erased;
    served = served_all troves new.fresh new.kept new.doubted coming stayers;
  }
    where
      coming : (name : List ℕ) → IsSome (place_of new.fresh name) → IsTrue (is_doubted new.doubted name)
      coming name some = at (place_of new.fresh name) refl some
        where
          at : (o : Option ℕ) → place_of new.fresh name ≡ o → IsSome o → IsTrue (is_doubted new.doubted name)
          at None e none = absurd (cc none)
          at (Some place) e one =
              let named = names.from name place (ap (λ (f : Fresh). place_of f name) (sym fresh_is) ∙ e) in
              subst (λ (n : List ℕ). IsTrue (is_doubted new.doubted n)) named.named (comers place named.trove named.among named.there)

  -- no more is replaced
  pub kept_round : (names_replaced : Vec (List ℕ) Global) → names_replaced.items ≡ replaced → length replaced ≤ length old.replaced.items
      → IsRoundOf troves installed roots (record { places = places; fresh = fresh; replaced = names_replaced; kept = old.kept; doubted = doubted })
  kept_round names_replaced replaced_are few = record {
    distinct = distinct;
    gathered = gathered;
    by_name = names;
    replaced = subst (AreReplaced installed fresh) (sym replaced_are) are_replaced;
    erased = subst (λ (l : List (List ℕ)). IsErased installed l old.kept) (sym replaced_are) (same_erased troves installed front old is places fresh doubted replaced more noted few);
    served = same_served troves installed front old is places fresh doubted replaced more noted few;
  }
