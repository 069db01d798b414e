-- The trove that is added, by its place.
use Rattle.std.proofs.Common.{◌≡◌, ℕ, ◌+◌, ◌<◌, ◌≤◌, List, length, get_or, take, slice_get, Contains, Option, Some, None, Bor, sym, ◌∙◌, subst, ⊎_elim, arith, ◌⊎◌}
use Rattle.std.specs.Prelude.{IfNone, IfSome}
use Rattle.std.specs.Option.{option_copied}
use Rattle.std.proofs.lemmas.Option.{same_Some}
use Rattle.cny_dep.specs.Dep.{Dependency}
use Rattle.cny_dep.specs.declared.parts.Parts.{Parts}
use Rattle.cny_version.specs.Label.{LabelParts}
use Rattle.repo_index.specs.trove-stream.declared.parts.TroveParts.{TroveParts}
use Rattle.repo_index.proofs.cny-base.Lists.{place_in}
use Rattle.update_job.proofs.Elements.{in_more, more_in, next_in}
use Rattle.sys_model.specs.declared.providers.Providers.{Providers}
use Rattle.sys_model.specs.Candidate.{IsLast, IsForNone}
use Rattle.sys_model.specs.Fit.{Fresh, IsFit, IsFitAt, IsLastAmong, IsNoneAmong}
use Rattle.sys_model.specs.Providers.{places_in, AreNoted}

-- ---- places so far

-- the last of these places at which one stands, or none
abbrev pub LastSoFar : (TroveParts → Type 0) → List TroveParts → List ℕ → Option ℕ → Type 0
LastSoFar Is troves places None = IsNoneAmong Is troves places
LastSoFar Is troves places (Some place) = IsLastAmong Is troves places place

pub none_so_far : (Is : TroveParts → Type 0) (troves : List TroveParts) (places : List ℕ) (last : Option ℕ) → LastSoFar Is troves places last → IfNone last (IsNoneAmong Is troves places)
none_so_far Is troves places None none = none
none_so_far Is troves places (Some place) is = tt

module _ (Is : TroveParts → Type 0) (troves : List TroveParts) (places : List ℕ) (i : ℕ) (place : ℕ) (within : i < length places) (here : place ≡ get_or places i 0) where
  -- nothing stands at the place that counts
  pub last_same : (last : Option ℕ) → LastSoFar Is troves (take i places) last → (IsFitAt Is troves place → ⊥) → LastSoFar Is troves (take (i + 1) places) last
  last_same None none not_here = λ other among fit. ⊎_elim
      (λ before. none other before fit)
      (λ same. not_here (subst (IsFitAt Is troves) (sym same) fit))
      (in_more places i 0 place within here other among)
  last_same (Some last) so_far not_here = record {
    among = more_in places i 0 place within here last so_far.among;
    fit = so_far.fit;
    last = λ other among fit. ⊎_elim
        (λ before. so_far.last other before fit)
        (λ same. absurd (not_here (subst (IsFitAt Is troves) (sym same) fit)))
        (in_more places i 0 place within here other among);
  }

  -- one stands there, and the later of the two is the last one
  pub last_more : (last : Option ℕ) (later : ℕ) → LastSoFar Is troves (take i places) last → IsFitAt Is troves place → place ≤ later → IfSome last (λ other. other ≤ later)
      → IfSome last (λ other. (later ≡ other) ⊎ (later ≡ place)) → IfNone last (later ≡ place) → LastSoFar Is troves (take (i + 1) places) (Some later)
  last_more None later none fit above over either alone = record {
    among = subst (Contains (take (i + 1) places)) (sym alone) (next_in places i 0 place within here);
    fit = subst (IsFitAt Is troves) (sym alone) fit;
    last = λ other among is. ⊎_elim
        (λ before. absurd (none other before is))
        (λ same. omega (arith, same, above))
        (in_more places i 0 place within here other among);
  }
  last_more (Some last) later so_far fit above over either alone = record {
    among = ⊎_elim
        (λ same. subst (Contains (take (i + 1) places)) (sym same) (more_in places i 0 place within here last so_far.among))
        (λ same. subst (Contains (take (i + 1) places)) (sym same) (next_in places i 0 place within here))
        either;
    fit = ⊎_elim (λ same. subst (IsFitAt Is troves) (sym same) so_far.fit) (λ same. subst (IsFitAt Is troves) (sym same) fit) either;
    last = λ other among is. ⊎_elim
        (λ before. (let low = so_far.last other before is in omega (arith, low, over)))
        (λ same. omega (arith, same, above))
        (in_more places i 0 place within here other among);
  }

-- ---- places of all that provide what is required

module _ (system : Parts) (fresh : Fresh) (require : Dependency) (troves : List TroveParts) (providers : Providers) (noted : AreNoted troves providers) (places : List ℕ)
    (beside : places ≡ places_in providers.names require.name) (label : LabelParts) where
  fit_beside : (place : ℕ) (t : TroveParts) → slice_get troves place ≡ Some t → IsFit system fresh require label t → Contains places place
  fit_beside place t there fit =
      subst (λ (l : List ℕ). Contains l place) (sym beside)
      (subst (λ (name : List ℕ). Contains (places_in providers.names name) place) fit.provides.satisfies.name (noted place t there fit.provides.provide fit.provides.provided))

  pub last_of_all : (place : ℕ) (t : TroveParts) → slice_get troves place ≡ Some t → IsLastAmong (IsFit system fresh require label) troves places place → IsLast (IsFit system fresh require label) troves t
  last_of_all place t there is =
      let same : is.fit.trove ≡ t = same_Some is.fit.trove t (sym is.fit.there ∙ there) in
      record {
        place = place;
        there = there;
        is = subst (IsFit system fresh require label) same is.fit.is;
        none_later = λ later u less at fit. (let most = is.last later (fit_beside later u at fit) (record { trove = u; there = at; is = fit }) in absurd (omega (arith, less, most)));
      }

  pub none_of_all : IsNoneAmong (IsFit system fresh require label) troves places → IsForNone (IsFit system fresh require label) troves
  none_of_all none t among fit =
      let at = place_in troves t among in
      none at.0 (fit_beside at.0 t at.2 fit) (record { trove = t; there = at.2; is = fit })

-- the trove at the place that was found, if one stands there
pub some_at : {P : TroveParts → Type 0} (troves : List TroveParts) (place : ℕ) (r : Option (Bor TroveParts)) → option_copied r ≡ slice_get troves place
    → ((t : TroveParts) → slice_get troves place ≡ Some t → P t) → IfSome r (λ (t : Bor TroveParts). P t.now)
some_at troves place None is each = tt
some_at troves place (Some t) is each = each t.now (sym is)
