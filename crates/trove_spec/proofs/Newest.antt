-- What is chosen is the best of the newest.
use Rattle.std.proofs.Common.{◌≡◌, Bool, true, false, cond, List, [], ◌∷◌, filter, All, Contains, Option, Some, None, option_and_then, refl, sym, ap, subst, ◌∙◌, true≢false}
use Rattle.std.specs.Cmp.{IsTotalOrder}
use Rattle.std.specs.Cmp.Lexicographic.{nat_list_cmp_total, nat_list_eq_equiv}
use Rattle.std.specs.List.{last_or, fold}
use Rattle.std.specs.Ordering.{is_lt}
use Rattle.std.specs.Str.{bytes_eq}
use Rattle.std.specs.Cmp.{int_cmp_total}
use Rattle.std.proofs.lemmas.Cmp.{on_total, then_total, back_total, tied_itself}
use Rattle.std.proofs.lemmas.List.Elements.{All-nil, All-cons, All-head, All-tail, All-filter, filter_passes, All-contains_itself}
use Rattle.cny_dep.specs.declared.parts.Parts.{Parts}
use Rattle.cny_version.specs.Version.{WholeVersion, version_text}
use Rattle.repo_index.specs.trove-stream.declared.parts.TroveParts.{TroveParts}
use Rattle.trove_spec.specs.Resolve.{points, flavor_of, fit_cmp, is_better, better_of, best, has_version, of_version, chosen_of}
use Rattle.cny_version.proofs.cny-base.Orders.{less_is as less}
use Rattle.cny_version.proofs.cny-base.OptionValues.{same_some as some_same}

-- ---- the order

fit_total : (system : Parts) → IsTotalOrder (fit_cmp system)
fit_total system = then_total (back_total (on_total (points system) int_cmp_total)) (on_total flavor_of nat_list_cmp_total)

no_better_itself : (system : Parts) (t : TroveParts) → is_better system t t ≡ false
no_better_itself system t = ap is_lt (tied_itself (fit_total system) t)

better_trans : (system : Parts) (x y z : TroveParts) → is_better system x y ≡ true → is_better system y z ≡ true → is_better system x z ≡ true
better_trans system x y z first second =
    ap is_lt ((fit_total system).trans x y z (less (fit_cmp system x y) first) (less (fit_cmp system y z) second))

-- ---- the best so far

-- where one isn't better than the best so far, nor is it than the better of that and another
still_no_better : (system : Parts) (o b x : TroveParts) → is_better system o b ≡ false → (c : Bool) → is_better system x b ≡ c → is_better system o (cond c x b) ≡ false
still_no_better system o b x worse false is = worse
still_no_better system o b x worse true is = by (is_better system o x) refl
  where
    by : (c : Bool) → is_better system o x ≡ c → is_better system o x ≡ false
    by false e = e
    by true e = absurd (true≢false (sym (better_trans system o x b e is) ∙ worse))

new_no_better : (system : Parts) (b x : TroveParts) (c : Bool) → is_better system x b ≡ c → is_better system x (cond c x b) ≡ false
new_no_better system b x true is = no_better_itself system x
new_no_better system b x false is = is

keeps : (system : Parts) (o b : TroveParts) (xs : List TroveParts) → is_better system o b ≡ false → is_better system o (fold (better_of system) b xs) ≡ false
keeps system o b [] worse = worse
keeps system o b (x ∷ xs) worse = keeps system o (better_of system b x) xs (still_no_better system o b x worse (is_better system x b) refl)

none_better : (system : Parts) (b : TroveParts) (xs : List TroveParts) → All (λ o. is_better system o (fold (better_of system) b xs) ≡ false) xs
none_better system b [] = All-nil (λ o. is_better system o b ≡ false)
none_better system b (x ∷ xs) =
    let end = fold (better_of system) (better_of system b x) xs in
    All-cons (λ o. is_better system o end ≡ false) x xs (keeps system x (better_of system b x) xs (new_no_better system b x (is_better system x b) refl)) (none_better system (better_of system b x) xs)

best_is : (system : Parts) (xs : List TroveParts) (t : TroveParts) → best system xs ≡ Some t → All (λ o. is_better system o t ≡ false) xs
best_is system [] t e = absurd (cc e)
best_is system (x ∷ xs) t e =
    let end = fold (better_of system) x xs in
    let same : end ≡ t = some_same end t e in
    subst (λ (u : TroveParts). All (λ o. is_better system o u ≡ false) (x ∷ xs)) same
    (All-cons (λ o. is_better system o end ≡ false) x xs (keeps system x x xs (no_better_itself system x)) (none_better system x xs))

-- what holds of each holds of the best
best_keeps : (P : TroveParts → Type 0) (system : Parts) (b : TroveParts) (xs : List TroveParts) → P b → All P xs → P (fold (better_of system) b xs)
best_keeps P system b [] here all = here
best_keeps P system b (x ∷ xs) here all = best_keeps P system (better_of system b x) xs (one (is_better system x b)) (All-tail P x xs all)
  where
    one : (c : Bool) → P (cond c x b)
    one true = All-head P x xs all
    one false = here

best_has : (P : TroveParts → Type 0) (system : Parts) (xs : List TroveParts) (t : TroveParts) → All P xs → best system xs ≡ Some t → P t
best_has P system [] t all e = absurd (cc e)
best_has P system (x ∷ xs) t all e = subst P (some_same (fold (better_of system) x xs) t e) (best_keeps P system x xs (All-head P x xs all) (All-tail P x xs all))

-- ---- the last one

last_passes : {A : Type 0} (p : A → Bool) (x last : A) (xs : List A) → last_or (Some x) xs ≡ Some last → p last ≡ true → filter p (x ∷ xs) ≡ [] → ⊥
last_passes p x last [] is passes none =
    let same : x ≡ last = some_same x last is in
    let here : x ∷ [] ≡ [] = sym (ap (λ (c : Bool). cond c (x ∷ []) []) (ap p same ∙ passes)) ∙ none in
    absurd (cc here)
last_passes {A} p x last (y ∷ ys) is passes none = last_passes p y last ys is passes (rest (p x) none)
  where
    rest : (c : Bool) → cond c (x ∷ filter p (y ∷ ys)) (filter p (y ∷ ys)) ≡ [] → filter p (y ∷ ys) ≡ []
    rest true e = absurd (cc e)
    rest false e = e

same_version : (a b c : WholeVersion) → bytes_eq (version_text a) (version_text c) ≡ true → bytes_eq (version_text b) (version_text a) ≡ true → bytes_eq (version_text b) (version_text c) ≡ true
same_version a b c first second = nat_list_eq_equiv.congr (version_text b) (version_text a) (version_text c) second ∙ first

-- ---- what is chosen

-- the last candidate, from what is chosen
module _ (system : Parts) (candidates : List TroveParts) where
  pub chosen_last : (t last : TroveParts) → chosen_of system candidates ≡ Some t → last_or None candidates ≡ Some last → best system (of_version last.id.version candidates) ≡ Some t
  chosen_last t last e is = sym (ap (option_and_then (λ (l : TroveParts). best system (of_version l.id.version candidates))) is) ∙ e

  some_last : (t : TroveParts) → chosen_of system candidates ≡ Some t → (o : Option TroveParts) → last_or None candidates ≡ o → (last : TroveParts) × (last_or None candidates ≡ Some last)
  some_last t e None is = absurd (cc (sym (ap (option_and_then (λ (l : TroveParts). best system (of_version l.id.version candidates))) is) ∙ e))
  some_last t e (Some last) is = (last, is)

  pub chosen_among : (t : TroveParts) → chosen_of system candidates ≡ Some t → Contains candidates t
  chosen_among t e =
      let last = some_last t e (last_or None candidates) refl in
      best_has (Contains candidates) system (of_version last.0.id.version candidates) t
      (All-filter (has_version last.0.id.version) (Contains candidates) candidates (All-contains_itself candidates)) (chosen_last t last.0 e last.1)

  pub chosen_newest : (t last : TroveParts) → chosen_of system candidates ≡ Some t → last_or None candidates ≡ Some last → has_version last.id.version t ≡ true
  chosen_newest t last e is =
      best_has (λ o. has_version last.id.version o ≡ true) system (of_version last.id.version candidates) t (filter_passes (has_version last.id.version) candidates) (chosen_last t last e is)

unfiltered : {A : Type 0} (p q : A → Bool) (Q : A → Type 0) → ((x : A) → q x ≡ true → p x ≡ true) → (xs : List A) → All Q (filter p xs) → All (λ x. q x ≡ true → Q x) xs
unfiltered p q Q implied [] all = All-nil (λ x. q x ≡ true → Q x)
unfiltered {A} p q Q implied (x ∷ xs) all =
    All-cons (λ y. q y ≡ true → Q y) x xs (λ is. here (p x) refl all is) (unfiltered p q Q implied xs (rest (p x) all))
  where
    here : (c : Bool) → p x ≡ c → All Q (cond c (x ∷ filter p xs) (filter p xs)) → q x ≡ true → Q x
    here true e all' is = All-head Q x (filter p xs) all'
    here false e all' is = absurd (true≢false (sym (implied x is) ∙ e))

    rest : (c : Bool) → All Q (cond c (x ∷ filter p xs) (filter p xs)) → All Q (filter p xs)
    rest true all' = All-tail Q x (filter p xs) all'
    rest false all' = all'

pub chosen_best : (system : Parts) (candidates : List TroveParts) (t last : TroveParts) → chosen_of system candidates ≡ Some t → last_or None candidates ≡ Some last
    → All (λ other. has_version t.id.version other ≡ true → is_better system other t ≡ false) candidates
chosen_best system candidates t last e is =
    unfiltered (has_version last.id.version) (has_version t.id.version) (λ o. is_better system o t ≡ false)
    (λ o same. same_version t.id.version o.id.version last.id.version (chosen_newest system candidates t last e is) same)
    candidates (best_is system (of_version last.id.version candidates) t (chosen_last system candidates t last e is))

pub chosen_best_of : (system : Parts) (candidates : List TroveParts) (t : TroveParts) → chosen_of system candidates ≡ Some t
    → All (λ other. has_version t.id.version other ≡ true → is_better system other t ≡ false) candidates
chosen_best_of system candidates t e = let last = some_last system candidates t e (last_or None candidates) refl in chosen_best system candidates t last.0 e last.1

none_best : (system : Parts) (xs : List TroveParts) → best system xs ≡ None → xs ≡ []
none_best system [] e = refl
none_best system (x ∷ xs) e = absurd (cc e)

last_of : {A : Type 0} (x : A) (xs : List A) → (last : A) × (last_or (Some x) xs ≡ Some last)
last_of x [] = (x, refl)
last_of x (y ∷ ys) = last_of y ys

pub chosen_none_of : (system : Parts) (candidates : List TroveParts) → chosen_of system candidates ≡ None → candidates ≡ []
chosen_none_of system [] e = refl
chosen_none_of system (x ∷ xs) e =
    let last = last_of x xs in
    let v = last.0.id.version in
    let none : best system (of_version v (x ∷ xs)) ≡ None = sym (ap (option_and_then (λ (l : TroveParts). best system (of_version l.id.version (x ∷ xs)))) last.1) ∙ e in
    absurd (last_passes (has_version v) x last.0 xs last.1 (nat_list_eq_equiv.refl (version_text v)) (none_best system (of_version v (x ∷ xs)) none))
