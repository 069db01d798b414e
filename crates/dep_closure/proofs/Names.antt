-- Lists of troves in the order of their names, and troves found by their names.
use Rattle.std.proofs.Common.{◌≡◌, ℕ, Bool, true, false, cond, ◌||◌, IsSome, List, [], ◌∷◌, ◌++◌, Option, Some, None, is_some, option_to_list, refl, sym, ap, ◌∙◌, subst, true≢false}
use Rattle.std.specs.BTreeMap.{is_at}
use Rattle.std.specs.Cmp.{Equal-is}
use Rattle.std.specs.Cmp.Lexicographic.{slice_cmp, nat_list_cmp_total}
use Rattle.std.specs.FinMap.{nat_cmp-IsAntisymmetric, slice_cmp-IsAntisymmetric}
use Rattle.std.specs.List.{list_any, AllByRecursion}
use Rattle.std.specs.List.Sorted.{IsStrictlySortedBy}
use Rattle.std.specs.Map.{lookup, keys_of}
use Rattle.std.specs.Ordering.{nat_cmp, is_eq}
use Rattle.std.specs.Str.{bytes_eq}
use Rattle.std.specs.declared.cmp.Ordering.TheVariants.{Less}
use Rattle.std.proofs.lemmas.Cmp.{tied_itself}
use Rattle.trove_stream.specs.Installed.{IsRising, trove_of}
use Rattle.trove_stream.specs.declared.parts.TroveParts.{TroveParts}
use Rattle.dep_closure.specs.Slots.{listed}
use Rattle.trove_stream.proofs.cny-base.ByteLists.{bytes_mean}
use Rattle.trove_stream.proofs.Names.{found_first, found_other}

-- ---- names

-- whether a map takes two names for the same
abbrev pub same : List ℕ → List ℕ → Bool
same x y = is_eq (slice_cmp nat_cmp x y)

pub same_means : (x y : List ℕ) → same x y ≡ true → x ≡ y
same_means x y h = slice_cmp-IsAntisymmetric nat_cmp-IsAntisymmetric x y ((Equal-is (slice_cmp nat_cmp x y)).0 h)

pub same_itself : (x : List ℕ) → same x x ≡ true
same_itself x = ap is_eq (tied_itself nat_list_cmp_total x)

-- ---- one trove of a name

-- ---- one list

-- ---- the troves of some names

module _ (troves : List ℕ → Option TroveParts) (named : (name : List ℕ) (t : TroveParts) → troves name ≡ Some t → t.id.name ≡ name) where
  above : (name : List ℕ) (names : List (List ℕ)) → AllByRecursion (λ (n : List ℕ). slice_cmp nat_cmp name n ≡ Less) names
      → AllByRecursion (λ (u : TroveParts). slice_cmp nat_cmp name u.id.name ≡ Less) (listed troves names)
  above name [] all = tt
  above name (n ∷ names) all = at (above name names all.1) (troves n) refl
    where
      at : AllByRecursion (λ (u : TroveParts). slice_cmp nat_cmp name u.id.name ≡ Less) (listed troves names)
          → (o : Option TroveParts) → troves n ≡ o → AllByRecursion (λ (u : TroveParts). slice_cmp nat_cmp name u.id.name ≡ Less) (option_to_list o ++ listed troves names)
      at rest None is = rest
      at rest (Some u) is = (ap (slice_cmp nat_cmp name) (named n u is) ∙ all.0, rest)

  pub listed_rises : (names : List (List ℕ)) → IsStrictlySortedBy (slice_cmp nat_cmp) names → IsRising (listed troves names)
  unfolding IsStrictlySortedBy
  listed_rises [] sorted = tt
  listed_rises (n ∷ names) sorted = at (listed_rises names sorted.1) (troves n) refl
    where
      at : IsRising (listed troves names) → (o : Option TroveParts) → troves n ≡ o → IsRising (option_to_list o ++ listed troves names)
      at rest None is = rest
      at rest (Some t) is = (
        subst (λ (m : List ℕ). AllByRecursion (λ (u : TroveParts). slice_cmp nat_cmp m u.id.name ≡ Less) (listed troves names)) (sym (named n t is)) (above n names sorted.0),
        rest,
      )

  pub either : (b : Bool) (o : Option TroveParts) → o ≡ None → cond b o None ≡ o
  either true o none = refl
  either false o none = sym none

  other_one : (n : List ℕ) (names : List (List ℕ)) (name : List ℕ) (t : TroveParts) → trove_of name (listed troves names) ≡ cond (list_any (is_at (slice_cmp nat_cmp name)) names) (troves name) None
      → troves n ≡ Some t → same name n ≡ false → (c : Bool) → bytes_eq t.id.name name ≡ c
      → trove_of name (t ∷ listed troves names) ≡ cond (list_any (is_at (slice_cmp nat_cmp name)) names) (troves name) None
  other_one n names name t rest is other true own = absurd (true≢false (sym (ap (same name) (sym (named n t is) ∙ bytes_mean t.id.name name own) ∙ same_itself name) ∙ other))
  other_one n names name t rest is other false apart = found_other t (listed troves names) name apart ∙ rest

  listed_one : (n : List ℕ) (names : List (List ℕ)) (name : List ℕ) → trove_of name (listed troves names) ≡ cond (list_any (is_at (slice_cmp nat_cmp name)) names) (troves name) None
      → (o : Option TroveParts) (b : Bool) → troves n ≡ o → same name n ≡ b
      → trove_of name (option_to_list o ++ listed troves names) ≡ cond (b || list_any (is_at (slice_cmp nat_cmp name)) names) (troves name) None
  listed_one n names name rest None true is equal = rest ∙ either (list_any (is_at (slice_cmp nat_cmp name)) names) (troves name) (ap troves (same_means name n equal) ∙ is)
  listed_one n names name rest None false is equal = rest
  listed_one n names name rest (Some t) true is equal =
      let own : t.id.name ≡ name = named n t is ∙ sym (same_means name n equal) in
      ap (λ (m : List ℕ). trove_of m (t ∷ listed troves names)) (sym own) ∙ found_first t (listed troves names) ∙ sym is ∙ ap troves (sym (same_means name n equal))
  listed_one n names name rest (Some t) false is equal = other_one n names name t rest is equal (bytes_eq t.id.name name) refl

  found_listed : (names : List (List ℕ)) (name : List ℕ) → trove_of name (listed troves names) ≡ cond (list_any (is_at (slice_cmp nat_cmp name)) names) (troves name) None
  found_listed [] name = refl
  found_listed (n ∷ names) name = listed_one n names name (found_listed names name) (troves n) (same name n) refl refl

  pub look_up : (names : List (List ℕ)) (name : List ℕ) → (IsSome (troves name) → list_any (is_at (slice_cmp nat_cmp name)) names ≡ true) → trove_of name (listed troves names) ≡ troves name
  look_up names name present = found_listed names name ∙ at (troves name) refl
    where
      at : (o : Option TroveParts) → troves name ≡ o → cond (list_any (is_at (slice_cmp nat_cmp name)) names) (troves name) None ≡ troves name
      at None is = either (list_any (is_at (slice_cmp nat_cmp name)) names) (troves name) is
      at (Some t) is = ap (λ (b : Bool). cond b (troves name) None) (present (ap is_some is))

-- a key that is found is one of the keys
pub is_key : {K X : Type 0} (test : K → Bool) (entries : List (K × X)) → IsSome (lookup test entries) → list_any test (keys_of entries) ≡ true
is_key test [] found = absurd (cc)
is_key {K} {X} test (e ∷ entries) found = at (is_key test entries) (test e.0) refl
  where
    at : (IsSome (lookup test entries) → list_any test (keys_of entries) ≡ true) → (b : Bool) → test e.0 ≡ b → (b || list_any test (keys_of entries)) ≡ true
    at rest true is = refl
    at rest false is = rest (ap is_some (sym (ap (λ (b : Bool). cond b (Some e.1) (lookup test entries)) is)) ∙ found)
