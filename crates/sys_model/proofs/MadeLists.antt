-- What lines make of a list, and of which troves.
use Rattle.std.proofs.Common.{◌≡◌, ℕ, ◌+◌, ◌<◌, List, [], ◌∷◌, length, get_or, map, take, drop, add-one, drop-cons, Contains, Option, Some, None, Ok, Err, unwrap_or, inl, inr, ⊎_elim, refl, sym, ap, ◌∙◌, subst}
use Rattle.std.specs.Cmp.Lexicographic.{slice_cmp}
use Rattle.std.specs.List.{AllByRecursion}
use Rattle.std.specs.List.Sorted.{IsStrictlySortedBy}
use Rattle.std.specs.Ordering.{nat_cmp}
use Rattle.std.specs.declared.cmp.Ordering.TheVariants.{Less}
use Rattle.std.proofs.lemmas.List.{take-append-drop}
use Rattle.std.proofs.lemmas.List.Elements.{Contains-append_left}
use Rattle.repo_index.specs.cny-base.declared.refusal.Fault.{Fault}
use Rattle.repo_index.specs.cny-base.declared.refusal.Fault.TheVariants as fault
use Rattle.repo_index.specs.cny-base.declared.refusal.Refusal.{Refusal}
use Rattle.repo_index.specs.cny-base.declared.refusal.Refusal.TheVariants as refusal
use Rattle.repo_index.specs.trove-stream.declared.parts.TroveParts.{TroveParts}
use Rattle.repo_index.specs.trove-stream.Installed.{by_name, IsRising, trove_of, IsNameless}
use Rattle.repo_index.specs.Catalogue.{AreCommitted}
use Rattle.repo_index.proofs.cny-base.Lists.{contains_at, contains_cases, contains_first, from_map, nothing_in, place_in}
use Rattle.repo_index.proofs.trove-stream.Names.{is_named, is_there}
use Rattle.update_job.specs.Lists.{IsSecond, IsUnupdated, IsUpdated, IsUnerased, AreInstalled, Stays}
use Rattle.update_job.proofs.Mapped.{one_named}
use Rattle.trove_spec.specs.declared.config.Config.{Config}
use Rattle.trove_spec.specs.declared.given.GivenSpec.{GivenSpec}
use Rattle.trove_spec.specs.AndThen.{EndsAs}
use Rattle.trove_spec.specs.Meant.{Expands}
use Rattle.sys_model.specs.declared.directive.ModelLine.{ModelLine}
use Rattle.sys_model.specs.declared.directive.ModelLine.TheVariants.{Install, Update, Erase}
use Rattle.sys_model.specs.Wanted.{in_place_of, given, PutsIn, TakesOut, Makes, MakesAll}

-- ---- troves that are put in

contains_take : {A : Type 0} (n : ℕ) (xs : List A) (x : A) → Contains (take n xs) x → Contains xs x
contains_take n xs x h = subst (λ l. Contains l x) (take-append-drop n xs) (Contains-append_left (take n xs) (drop n xs) x h)

-- no two troves of a rising list have one name
no_second : (come : List TroveParts) (refused : Refusal) → IsRising come → IsSecond come refused → ⊥
no_second come refused rises is =
    let one = place_in come is.earlier (contains_take is.place come is.earlier is.before) in
    is.differs (one_named come rises one.0 is.place is.earlier is.trove one.2 is.there is.same_name)

pub not_put_in : (list come : List TroveParts) (f : Fault) → IsRising come → IsUnupdated come f → EndsAs (PutsIn list come) (Err f)
not_put_in list come (fault.Refused refused) rises is = no_second come refused rises is
not_put_in list come fault.Memory rises is = tt

-- ---- troves in the places of others

in_place_named : (found : List TroveParts) (t : TroveParts) → (in_place_of found t).id.name ≡ t.id.name
in_place_named found t = at (trove_of t.id.name found) refl
  where
    at : (o : Option TroveParts) → trove_of t.id.name found ≡ o → (unwrap_or o t).id.name ≡ t.id.name
    at None is = refl
    at (Some u) is = is_named found t.id.name u is

rising_map : (f : TroveParts → TroveParts) → ((t : TroveParts) → (f t).id.name ≡ t.id.name) → (list : List TroveParts) → IsRising list → IsRising (map f list)
unfolding IsStrictlySortedBy
rising_map f keeps [] rises = tt
rising_map f keeps (t ∷ list) rises = (all list rises.0, rising_map f keeps list rises.1)
  where
    all : (l : List TroveParts) → AllByRecursion (λ (u : TroveParts). by_name t u ≡ Less) l → AllByRecursion (λ (u : TroveParts). by_name (f t) u ≡ Less) (map f l)
    all [] below = tt
    all (u ∷ us) below = (ap (λ (n : List ℕ). slice_cmp nat_cmp n (f u).id.name) (keeps t) ∙ ap (slice_cmp nat_cmp t.id.name) (keeps u) ∙ below.0, all us below.1)

pub rising_in_place : (found list : List TroveParts) → IsRising list → IsRising (map (in_place_of found) list)
rising_in_place found list rises = rising_map (in_place_of found) (in_place_named found) list rises

-- ---- a trove that is taken out

pub name_is_there : (list : List TroveParts) (name : List ℕ) → AreInstalled list (name ∷ []) → IsNameless name list → ⊥
name_is_there list name all none = all name first none
  where
    first : Contains (name ∷ []) name
    first = contains_first name []

pub not_taken_out : (list : List TroveParts) (name : List ℕ) (f : Fault) → IsUnerased list (name ∷ []) f → EndsAs (TakesOut list name) (Err f)
not_taken_out list name (fault.Refused refused) is =
    let one : is.name ≡ name = ⊎_elim (λ e. sym e) (λ h. absurd (nothing_in is.name h)) (contains_cases name is.name [] (contains_at (name ∷ []) is.number is.name is.there)) in
    (is.refusal_is ∙ ap (λ (n : List ℕ). refusal.NotInstalled n) one, subst (λ (n : List ℕ). IsNameless n list) one is.missing)
not_taken_out list name fault.Memory is = tt

-- ---- committed troves

stays_there : (list : List TroveParts) (IsNamed : List ℕ → Type 0) (t : TroveParts) → Stays list IsNamed t → Contains list t
stays_there list IsNamed t stays = contains_at list stays.place t stays.there

module _ (troves : List TroveParts) (config : Config) where
  -- what a specification means and reaches is committed
  expansion_there : (g : GivenSpec) (found : List TroveParts) → Expands troves config g (Ok found) → AreCommitted troves found
  expansion_there g found (inl is) = is.rest.0.there
  expansion_there g found (inr is) = absurd (cc is.is)

  in_place_there : (found list : List TroveParts) → AreCommitted troves found → AreCommitted troves list → AreCommitted troves (map (in_place_of found) list)
  in_place_there found list fresh old t h =
      let from = from_map (in_place_of found) list t h in
      subst (Contains troves) from.2 (at from.0 from.1 (trove_of from.0.id.name found) refl)
    where
      at : (u : TroveParts) → Contains list u → (o : Option TroveParts) → trove_of u.id.name found ≡ o → Contains troves (unwrap_or o u)
      at u among None is = old u among
      at u among (Some v) is = fresh v (is_there found u.id.name v is)

  put_in_there : (list found new : List TroveParts) → AreCommitted troves found → AreCommitted troves list → IsUpdated list found new → AreCommitted troves new
  put_in_there list found new fresh old is t h = ⊎_elim (λ come. fresh t come) (λ kept. old t (stays_there list _ t kept.stays)) (is.from t h)

  makes_there : (list new : List TroveParts) (line : ModelLine) → AreCommitted troves list → Makes troves config list line (Ok new) → AreCommitted troves new
  makes_there list new (Install spec text) old (inl is) = put_in_there list is.value new (expansion_there (given spec text) is.value is.found) old is.rest
  makes_there list new (Install spec text) old (inr is) = absurd (cc is.is)
  makes_there list new (Update spec text) old (inl is) =
      let same : Ok new ≡ Ok (map (in_place_of is.value) list) = is.rest in
      let e : new ≡ map (in_place_of is.value) list = cc same in
      subst (AreCommitted troves) (sym e) (in_place_there is.value list (expansion_there (given spec text) is.value is.found) old)
  makes_there list new (Update spec text) old (inr is) = absurd (cc is.is)
  makes_there list new (Erase name) old is = λ t h. old t (stays_there list _ t (is.0.stays t h))

  pub all_there : (lines : List ModelLine) (list new : List TroveParts) → AreCommitted troves list → MakesAll troves config lines list (Ok new) → AreCommitted troves new
  all_there [] list new old is = let e : new ≡ list = cc is in subst (AreCommitted troves) (sym e) old
  all_there (line ∷ lines) list new old (inl is) = all_there lines is.value new (makes_there list is.value line old is.found) is.rest
  all_there (line ∷ lines) list new old (inr is) = absurd (cc is.is)

  pub none_there : AreCommitted troves []
  none_there t h = absurd (nothing_in t h)

-- ---- lines that are left

pub next_line : {A : Type 0} (lines : List A) (i : ℕ) (line : A) → i < length lines → line ≡ get_or lines i line → drop i lines ≡ line ∷ drop (i + 1) lines
next_line {A} lines i line within is =
    let front : drop i lines ≡ get_or lines i line ∷ drop (i + 1) lines = rw (add-one, drop-cons lines i line) refl in
    front ∙ ap (λ (x : A). x ∷ drop (i + 1) lines) (sym is)
