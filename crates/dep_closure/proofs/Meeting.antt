-- Requirements that a list meets.
use Rattle.std.proofs.Common.{◌≡◌, ℕ, ◌<◌, ◌⊎◌, inl, inr, ⊎_elim, Bool, true, false, ◌||◌, IsTrue, List, [], ◌∷◌, length, get_or, slice_get, Option, Some, None, is_some, unwrap_or, Bor, String, Contains, refl, sym, ap, ◌∙◌, subst, true≢false}
use Rattle.std.specs.BTreeMap.{BTreeMap, is_at}
use Rattle.std.specs.BTreeSet.{BTreeSet}
use Rattle.std.specs.Cmp.Lexicographic.{slice_cmp}
use Rattle.std.specs.List.{list_any}
use Rattle.std.specs.Option.{option_copied}
use Rattle.std.specs.Ordering.{nat_cmp}
use Rattle.std.proofs.lemmas.List.Elements.{All-nil, All-weaker, All-contains}
use Rattle.std.proofs.lemmas.Option.{slice_get-get_or}
use Rattle.cny_dep.specs.Dep.{Dependency}
use Rattle.cny_dep.specs.Satisfies.{Satisfies}
use Rattle.trove_stream.specs.declared.parts.TroveParts.{TroveParts}
use Rattle.dep_closure.specs.Closed.{own_provide, provides_of}
use Rattle.dep_closure.specs.Slots.{IsMetBy, notes, AreNoted}
use Rattle.dep_closure.proofs.Names.{same, same_means}
use Rattle.trove_stream.proofs.cny-base.Lists.{contains_first as first}

pub at_place : {A : Type 0} (xs : List A) (i : ℕ) (x : A) → i < length xs → x ≡ get_or xs i x → Contains xs x
at_place xs i x within is = (i, within, sym is)

pub stands_at : {A : Type 0} (xs : List A) (i : ℕ) (x : A) → i < length xs → x ≡ get_or xs i x → slice_get xs i ≡ Some x
stands_at {A} xs i x within is = slice_get-get_or xs i x within ∙ ap (λ (y : A). Some y) (sym is)

-- ---- names of which some are still to come

-- each of the names is among those that are left, or passed
pub record PassedSoFar (P : List ℕ → Type 0) (all left : List (List ℕ)) : Type 0 where
  pub each : (name : List ℕ) → list_any (is_at (slice_cmp nat_cmp name)) all ≡ true → (list_any (is_at (slice_cmp nat_cmp name)) left ≡ true) ⊎ P name

pub one_passed : (P : List ℕ → Type 0) (all left rest : List (List ℕ)) (key : List ℕ) → PassedSoFar P all left → left ≡ key ∷ rest → P key → PassedSoFar P all rest
one_passed P all left rest key so_far is own = record {
  each = λ name among. ⊎_elim (λ in_left. by name (same name key) refl (sym (ap (list_any (is_at (slice_cmp nat_cmp name))) is) ∙ in_left)) inr (so_far.each name among);
}
  where
    by : (name : List ℕ) (b : Bool) → same name key ≡ b → (same name key || list_any (is_at (slice_cmp nat_cmp name)) rest) ≡ true → (list_any (is_at (slice_cmp nat_cmp name)) rest ≡ true) ⊎ P name
    by name true equal in_left = inr (subst P (sym (same_means name key equal)) own)
    by name false other in_left = inl (sym (ap (λ (b : Bool). b || list_any (is_at (slice_cmp nat_cmp name)) rest) other) ∙ in_left)

pub all_passed : (P : List ℕ → Type 0) (all left : List (List ℕ)) → PassedSoFar P all left → left ≡ [] → (name : List ℕ) → list_any (is_at (slice_cmp nat_cmp name)) all ≡ true → P name
all_passed P all left so_far is name among = ⊎_elim (λ in_left. absurd (true≢false (sym in_left ∙ ap (list_any (is_at (slice_cmp nat_cmp name))) is))) (λ own. own) (so_far.each name among)

pub passed_weaker : (P Q : List ℕ → Type 0) → ((name : List ℕ) → P name → Q name) → (all left : List (List ℕ)) → PassedSoFar P all left → PassedSoFar Q all left
passed_weaker P Q weaker all left so_far = record {
  each = λ name among. ⊎_elim inl (λ own. inr (weaker name own)) (so_far.each name among);
}

-- ---- requirements that troves meet

pub satisfies_more : (provide other require : Dependency) → Satisfies provide other → Satisfies other require → Satisfies provide require
satisfies_more provide other require one two = record {
  class = one.class ∙ two.class;
  name = one.name ∙ two.name;
  flags = All-weaker (Contains other.flags) (Contains provide.flags) (λ flag there. All-contains (Contains provide.flags) other.flags flag one.flags there) require.flags two.flags;
}

-- what satisfies a provide satisfies all that the provide does
pub as_good : (troves : List ℕ → Option TroveParts) (provide require : Dependency) → IsMetBy troves provide → Satisfies provide require → IsMetBy troves require
as_good troves provide require met is = record {
  name = met.name;
  trove = met.trove;
  there = met.there;
  by = record {
    provide = met.by.provide;
    provided = met.by.provided;
    satisfies = satisfies_more met.by.provide provide require met.by.satisfies is;
  };
}

pub own_met : (troves : List ℕ → Option TroveParts) (name : List ℕ) (t : TroveParts) → troves name ≡ Some t → t.id.name ≡ name → IsMetBy troves (own_provide name)
own_met troves name t there named = record {
  name = name;
  trove = t;
  there = there;
  by = record {
    provide = own_provide t.id.name;
    provided = first (own_provide t.id.name) t.provides;
    satisfies = record { class = refl; name = named; flags = All-nil (Contains []) };
  };
}

pub own_kept : (troves : List ℕ → Option TroveParts) (name : List ℕ) → ((t : TroveParts) → troves name ≡ Some t → t.id.name ≡ name) → (r : Option (Bor TroveParts)) → option_copied r ≡ troves name
    → is_some r ≡ true → IsMetBy troves (own_provide name)
own_kept troves name named None is some = absurd (cc)
own_kept troves name named (Some trove) is some = own_met troves name trove.now (sym is) (named trove.now (sym is))

-- a trove that meets a requirement is noted for its name
pub met_noted : {Y : Type 0} (troves : List ℕ → Option TroveParts) (providers : BTreeMap (String Y) (BTreeSet (List ℕ))) → AreNoted troves providers → (require : Dependency) (met : IsMetBy troves require)
    → IsTrue (notes providers require.name met.name)
met_noted troves providers noted require met =
    subst (λ (dep : List ℕ). IsTrue (notes providers dep met.name)) met.by.satisfies.name
    (All-contains (λ (dep : Dependency). IsTrue (notes providers dep.name met.name)) (provides_of met.trove) met.by.provide (noted.noted met.name met.trove met.there) met.by.provided)

pub other_trove : (o : Option TroveParts) (t u : TroveParts) → o ≡ Some t → o ≡ Some u → t ≡ u
other_trove o t u one other = ap (λ (p : Option TroveParts). unwrap_or p t) (sym one ∙ other)
