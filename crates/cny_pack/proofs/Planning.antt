-- What was seen and gets an entry.
use Rattle.std.proofs.Common.{◌≡◌, ℕ, Bool, true, false, cond, not, ◌&&◌, ◌||◌, List, [], ◌∷◌, ◌++◌, map, ◌≤◌, Option, Some, None, is_some, refl, sym, ap, subst, ◌∙◌, append_assoc, append-nil, arith}
use Rattle.std.specs.Prelude.{All, Contains, nat_lt, if◌then◌else◌}
use Rattle.std.specs.BTreeMap.{IsOrdered, is_at}
use Rattle.std.specs.Cmp.{second_so}
use Rattle.std.specs.Cmp.Lexicographic.{slice_cmp, nat_list_cmp_total}
use Rattle.std.specs.List.{AllByRecursion, filter, list_any}
use Rattle.std.specs.List.Sorted.{IsStrictlySortedBy}
use Rattle.std.specs.Map.{lookup}
use Rattle.std.specs.Ordering.{nat_cmp}
use Rattle.std.specs.declared.cmp.Ordering.{Ordering}
use Rattle.std.specs.declared.cmp.Ordering.TheVariants.{Less}
use Rattle.std.proofs.lemmas.Bool.{ltb-false}
use Rattle.std.proofs.lemmas.List.{map-append}
use Rattle.std.proofs.lemmas.List.Elements.{All-nil, All-cons, All-head, All-tail, All-map, All-filter, filter_passes, filter-append}
use Rattle.std.proofs.lemmas.List.Kept.{IsStrictlySortedBy-filter}
use Rattle.std.proofs.lemmas.Map.Views.{All-found}
use Rattle.tree_disk.specs.cny-base.Reserved.{is_forbidden}
use Rattle.tree_disk.specs.cny-base.declared.limits.TheConstants.{CONTENT_LIMIT}
use Rattle.tree_disk.specs.Looks.{sees_nothing}
use Rattle.tree_disk.specs.Laws.{same_means}
use Rattle.tree_disk.specs.Tree.{Name, same_name}
use Rattle.tree_disk.specs.declared.disk.Look.{Look}
use Rattle.tree_disk.specs.declared.disk.Look.TheVariants as look
use Rattle.cny_pack.specs.Causes.{sight_path, is_there}
use Rattle.cny_pack.specs.Plan.{unfit_by_size, unfit_of, fits, sight_of, sights_of, CanStand}
use Rattle.cny_pack.specs.Walk.{Found, seen_at}
use Rattle.cny_pack.specs.declared.plan.Sight.{Sight}
use Rattle.cny_pack.specs.declared.stop.Unfit.{Unfit}
use Rattle.cny_pack.specs.declared.stop.Unfit.TheVariants.{TooLarge, Reserved}

-- ---- lists in the order of what a function gives

all_pull : {A B : Type 0} (f : A → B) (P : B → Type 0) (xs : List A) → AllByRecursion P (map f xs) → AllByRecursion (λ x. P (f x)) xs
all_pull f P [] all = tt
all_pull f P (x ∷ xs) all = (all.0, all_pull f P xs all.1)

all_put : {A B : Type 0} (f : A → B) (P : B → Type 0) (xs : List A) → AllByRecursion (λ x. P (f x)) xs → AllByRecursion P (map f xs)
all_put f P [] all = tt
all_put f P (x ∷ xs) all = (all.0, all_put f P xs all.1)

pub sorted_pull : {A B : Type 0} (f : A → B) (cmp : B → B → Ordering) (xs : List A) → IsStrictlySortedBy cmp (map f xs) → IsStrictlySortedBy (λ a b. cmp (f a) (f b)) xs
unfolding IsStrictlySortedBy
sorted_pull f cmp [] sorted = tt
sorted_pull f cmp (x ∷ xs) sorted = (all_pull f (λ y. cmp (f x) y ≡ Less) xs sorted.0, sorted_pull f cmp xs sorted.1)

pub sorted_put : {A B : Type 0} (f : A → B) (cmp : B → B → Ordering) (xs : List A) → IsStrictlySortedBy (λ a b. cmp (f a) (f b)) xs → IsStrictlySortedBy cmp (map f xs)
unfolding IsStrictlySortedBy
sorted_put f cmp [] sorted = tt
sorted_put f cmp (x ∷ xs) sorted = (all_put f (λ y. cmp (f x) y ≡ Less) xs sorted.0, sorted_put f cmp xs sorted.1)

-- ---- values that are there

pub some_there : {A : Type 0} (o : Option A) → is_some o ≡ true → (x : A) × (o ≡ Some x)
some_there None is = absurd (cc is)
some_there (Some x) is = (x, refl)

-- ---- what can be in a manifest

pub sights_more : (xs ys : List (Name × Look)) → sights_of (xs ++ ys) ≡ sights_of xs ++ sights_of ys
sights_more xs ys = ap (map sight_of) (filter-append fits xs ys) ∙ map-append sight_of (filter fits xs) (filter fits ys)

pub can_stand : (seen : List (Name × Look)) → All CanStand (sights_of seen)
can_stand seen = All-map CanStand sight_of (filter fits seen) (filter_passes fits seen)

abbrev pub by_bytes : Name → Name → Ordering
by_bytes = slice_cmp nat_cmp

abbrev pub pair_path : Name × Look → Name
pair_path pair = pair.0

map_twice : (xs : List (Name × Look)) → map sight_path (map sight_of xs) ≡ map pair_path xs
map_twice [] = refl
map_twice (x ∷ xs) = ap (λ (l : List Name). x.0 ∷ l) (map_twice xs)

pub sights_rise : (seen : Found) → IsOrdered by_bytes seen → IsStrictlySortedBy by_bytes (map sight_path (sights_of seen.entries))
sights_rise seen ordered =
    subst (λ (l : List Name). IsStrictlySortedBy by_bytes l) (sym (map_twice (filter fits seen.entries)))
    (sorted_put pair_path by_bytes (filter fits seen.entries)
    (IsStrictlySortedBy-filter (λ (a b : Name × Look). by_bytes a.0 b.0) fits seen.entries (sorted_pull pair_path by_bytes seen.entries ordered)))

-- ---- each was seen

no_unfit : (o : Option Unfit) (nothing : Bool) → (not (is_some o) && not nothing) ≡ true → o ≡ None
no_unfit None nothing is = refl
no_unfit (Some why) nothing is = absurd (cc is)

pub fit_of : (path : Name) (look : Look) → fits (path, look) ≡ true → unfit_of path look ≡ None
fit_of path look is = no_unfit (unfit_of path look) (sees_nothing look) is

pub something : (path : Name) (look : Look) → fits (path, look) ≡ true → sees_nothing look ≡ false
something path look is = at (sees_nothing look) refl (second_so (not (is_some (unfit_of path look))) (not (sees_nothing look)) is)
  where
    at : (b : Bool) → sees_nothing look ≡ b → not b ≡ true → b ≡ false
    at true e nothing = absurd (cc nothing)
    at false e nothing = refl

-- what stands in the list was seen at its path, and can be in a manifest
pub record WasSeen (seen : Found) (sight : Sight) : Type 0 where
  pub at : seen_at seen sight.path ≡ Some sight.look
  pub can : CanStand sight

pub each_seen : (seen : Found) → IsOrdered by_bytes seen → All (WasSeen seen) (sights_of seen.entries)
each_seen seen ordered =
    let found : All (λ (e : Name × Look). seen_at seen e.0 ≡ Some e.1) seen.entries = All-found nat_list_cmp_total seen ordered in
    both (filter fits seen.entries) (All-filter fits (λ (e : Name × Look). seen_at seen e.0 ≡ Some e.1) seen.entries found) (filter_passes fits seen.entries)
  where
    both : (es : List (Name × Look)) → All (λ (e : Name × Look). seen_at seen e.0 ≡ Some e.1) es → All (λ (e : Name × Look). fits e ≡ true) es → All (WasSeen seen) (map sight_of es)
    both [] found passes = All-nil (WasSeen seen)
    both (e ∷ es) found passes =
        All-cons (WasSeen seen) (sight_of e) (map sight_of es)
        (record { at = All-head (λ (e : Name × Look). seen_at seen e.0 ≡ Some e.1) e es found; can = All-head (λ (e : Name × Look). fits e ≡ true) e es passes })
        (both es (All-tail (λ (e : Name × Look). seen_at seen e.0 ≡ Some e.1) e es found) (All-tail (λ (e : Name × Look). fits e ≡ true) e es passes))

-- ---- all is there

there_later : (p : Name) (e : Name × Look) (es : List (Name × Look)) → is_there p (sights_of es) ≡ true → is_there p (sights_of (e ∷ es)) ≡ true
there_later p e es there = at (fits e) refl
  where
    or_true : (a b : Bool) → b ≡ true → (a || b) ≡ true
    or_true true b is = refl
    or_true false b is = is

    at : (kept : Bool) → fits e ≡ kept → is_there p (map sight_of (cond kept (e ∷ filter fits es) (filter fits es))) ≡ true
    at true is = or_true (same_name p e.0) (is_there p (sights_of es)) there
    at false is = there

there_now : (p : Name) (e : Name × Look) (es : List (Name × Look)) → same_name p e.0 ≡ true → fits e ≡ true → is_there p (sights_of (e ∷ es)) ≡ true
there_now p e es same is =
    subst (λ (kept : Bool). is_there p (map sight_of (cond kept (e ∷ filter fits es) (filter fits es))) ≡ true) (sym is)
    (ap (λ (b : Bool). b || is_there p (sights_of es)) same)

some_same : (a b : Look) → (let x : Option Look = Some a in x ≡ Some b) → a ≡ b
some_same a b is = cc is

pub there : (p : Name) (look : Look) (es : List (Name × Look)) → lookup (is_at (by_bytes p)) es ≡ Some look → fits (p, look) ≡ true → is_there p (sights_of es) ≡ true
there p look [] found is = absurd (cc found)
there p look (e ∷ es) found is = at (is_at (by_bytes p) e.0) refl found (λ later. there p look es later is)
  where
    at : (b : Bool) → is_at (by_bytes p) e.0 ≡ b → cond b (Some e.1) (lookup (is_at (by_bytes p)) es) ≡ Some look → (lookup (is_at (by_bytes p)) es ≡ Some look → is_there p (sights_of es) ≡ true) → is_there p (sights_of (e ∷ es)) ≡ true
    at true same found rest =
        let here : p ≡ e.0 = same_means p e.0 same in
        there_now p e es same (ap (λ (q : Name). fits (q, e.1)) (sym here) ∙ ap (λ (l : Look). fits (p, l)) (some_same e.1 look found) ∙ is)
    at false other found rest = there_later p e es (rest found)

-- ---- what is left of a list

pub one_more : (done left rest all : List (Name × Look)) (pair : Name × Look) → done ++ left ≡ all → left ≡ pair ∷ rest → (done ++ pair ∷ []) ++ rest ≡ all
one_more done left rest all pair whole is = append_assoc done (pair ∷ []) rest ∙ ap (λ (l : List (Name × Look)). done ++ l) (sym is) ∙ whole

pub none_left : (done left all : List (Name × Look)) → done ++ left ≡ all → left ≡ [] → done ≡ all
none_left done left all whole is = sym (append-nil done) ∙ ap (λ (l : List (Name × Look)). done ++ l) (sym is) ∙ whole

-- ---- a size that a content may have

small_by : (o : Option Unfit) (forbidden : Bool) → (if forbidden then Some Reserved else o) ≡ None → o ≡ None
small_by o true is = absurd (cc is)
small_by o false is = is

within_limit : (size : ℕ) → unfit_by_size (Some size) ≡ None → size ≤ CONTENT_LIMIT
within_limit size is = at (nat_lt CONTENT_LIMIT size) refl is
  where
    at : (b : Bool) → nat_lt CONTENT_LIMIT size ≡ b → (if b then Some (TooLarge size) else None) ≡ None → size ≤ CONTENT_LIMIT
    at true less is = absurd (cc is)
    at false less is = ltb-false CONTENT_LIMIT size less

pub small : (path : Name) (mode size : ℕ) → fits (path, look.File mode size) ≡ true → size ≤ CONTENT_LIMIT
small path mode size is = within_limit size (small_by (unfit_by_size (Some size)) (is_forbidden path false) (fit_of path (look.File mode size) is))
