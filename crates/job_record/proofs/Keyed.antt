-- Lists that strictly rise by the bytes of keys, and what of them is found by a key.
use Rattle.std.proofs.Common.{◌≡◌, ℕ, ◌+◌, ◌<◌, Bool, true, false, cond, List, [], ◌∷◌, ◌++◌, length, get_or, take, find, Option, Some, None, Contains, refl, sym, ap, ◌∙◌, arith, true≢false}
use Rattle.std.specs.Cmp.Lexicographic.{slice_cmp}
use Rattle.std.specs.Option.{option_or, is_some}
use Rattle.std.specs.Ordering.{nat_cmp, eq_by_cmp}
use Rattle.std.specs.Str.{bytes_eq}
use Rattle.std.proofs.lemmas.List.{take_more}
use Rattle.std.proofs.lemmas.List.Folds.{find-append}
use Rattle.std.proofs.lemmas.Map.Text.{is_eq-slice_cmp}
use Rattle.std.proofs.lemmas.Slice.Eq.{bytes_eq-Decides}
use Rattle.change_rel.proofs.cny-base.Keyed.{has_key}
use Rattle.change_rel.proofs.cny-base.Lists.{contains_rest}

-- ---- texts

abbrev pub same : List ℕ → List ℕ → Bool
same x y = eq_by_cmp (slice_cmp nat_cmp) x y

pub same_means : (x y : List ℕ) → same x y ≡ true → x ≡ y
same_means x y h = (bytes_eq-Decides x y).0 (sym (is_eq-slice_cmp x y) ∙ h)

pub same_from : (x y : List ℕ) → x ≡ y → same x y ≡ true
same_from x y e = is_eq-slice_cmp x y ∙ (bytes_eq-Decides x y).1 e

by_cases : (a b : Bool) → (a ≡ true → b ≡ true) → (b ≡ true → a ≡ true) → a ≡ b
by_cases true b f g = sym (f refl)
by_cases false true f g = g refl
by_cases false false f g = refl

pub turned_same : (x y : List ℕ) → same x y ≡ same y x
turned_same x y = by_cases (same x y) (same y x) (λ h. same_from y x (sym (same_means x y h))) (λ h. same_from x y (sym (same_means y x h)))

-- ---- options

pub or_none : {B : Type 0} (o : Option B) → option_or o None ≡ o
or_none None = refl
or_none (Some x) = refl

pub or_later : {B : Type 0} (a b c : Option B) → option_or (option_or a b) c ≡ option_or a (option_or b c)
or_later None b c = refl
or_later (Some x) b c = refl

-- a value is added where none is
pub added : {B : Type 0} (b : Bool) (x : B) (old new : Option B) → (b ≡ true → old ≡ None) → new ≡ cond b (Some x) old → new ≡ option_or old (cond b (Some x) None)
added true x old new none is = is ∙ ap (λ (o : Option _). option_or o (Some x)) (sym (none refl))
added false x old new none is = is ∙ sym (or_none old)

-- a value stays where one is
pub stayed : {B : Type 0} (b : Bool) (x : B) (old : Option B) → (b ≡ true → is_some old ≡ true) → old ≡ option_or old (cond b (Some x) None)
stayed b x (Some y) some = refl
stayed true x None some = absurd (true≢false (sym (some refl)))
stayed false x None some = refl

-- ---- lists

module _ {A : Type 0} (key : A → List ℕ) where
  abbrev pub keyed : List ℕ → List A → Option A
  keyed name list = find (has_key key name) list

  -- what is found is an element with the key
  pub found_is : (list : List A) (name : List ℕ) (t : A) → keyed name list ≡ Some t → Contains list t × (key t ≡ name)
  found_is [] name t is = absurd (cc is)
  found_is (x ∷ list) name t is = at (bytes_eq (key x) name) refl (found_is list name t) is
    where
      at_first : (y u : A) (l : List A) → y ≡ u → Contains (y ∷ l) u
      at_first y u l same = (0, omega arith, same)

      at : (b : Bool) → bytes_eq (key x) name ≡ b → (keyed name list ≡ Some t → Contains list t × (key t ≡ name)) → cond b (Some x) (keyed name list) ≡ Some t → Contains (x ∷ list) t × (key t ≡ name)
      at true e rest is = let same : x ≡ t = cc is in (at_first x t list same, ap key (sym same) ∙ (bytes_eq-Decides (key x) name).0 e)
      at false e rest is = let later = rest is in (contains_rest x t list later.0, later.1)

  -- ---- one element more

  pub found_more : (list : List A) (i : ℕ) (x : A) (name : List ℕ) → i < length list → x ≡ get_or list i x
      → keyed name (take (i + 1) list) ≡ option_or (keyed name (take i list)) (cond (same (key x) name) (Some x) None)
  found_more list i x name within is =
      ap (keyed name) (take_more list i x within ∙ ap (λ (y : A). take i list ++ y ∷ []) (sym is))
      ∙ find-append (has_key key name) (take i list) (x ∷ [])
      ∙ ap (λ (b : Bool). option_or (keyed name (take i list)) (cond b (Some x) None)) (sym (is_eq-slice_cmp (key x) name))
  -- ---- what a binary search doesn't find
