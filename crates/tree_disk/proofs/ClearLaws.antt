-- What follows for a name and all names below it.
use Rattle.std.specs.Prelude.{◌≡◌, ◌≢◌, ◌⊎◌, ℕ, Bool, true, false, cond, ◌||◌, ◌&&◌, List, [], ◌∷◌, ◌++◌, Option, Some, None, is_some, refl}
use Rattle.std.proofs.Common.{inl, inr, ⊎_elim, sym, ◌∙◌, ap, arith, append_assoc}
use Rattle.std.proofs.lemmas.Bool.Decides.{nat_tests}
use Rattle.std.specs.List.{list_any, filter}
use Rattle.std.specs.FinMap.{get, keys, contains_key-keys}
use Rattle.cny_base.specs.Path.{is_path, root, join}
use Rattle.cny_base.specs.Below.{is_below}
use Rattle.cny_base.proofs.Below.{below_rest, rest_below}
use Rattle.cny_base.specs.declared.node.Node.{Node}
use Rattle.tree_disk.specs.Tree.{Name, Tree, same_name}
use Rattle.tree_disk.specs.Rows.{without}
use Rattle.tree_disk.specs.Laws.{same_means, get_put}
use Rattle.tree_disk.proofs.Laws.{same_itself}
use Rattle.tree_disk.specs.Clear.{is_within, IsBare, without_names, without_tree}
use Rattle.cny_base.proofs.Bools.{or_left, or_right}

-- ---- tests

pub or_cases : (x y : Bool) → (x || y) ≡ true → (x ≡ true) ⊎ (y ≡ true)
or_cases true y is = inl refl
or_cases false y is = inr is

-- ---- what lies below what

-- what lies below a name, by one between them
pub below_trans : (a b c : Name) → is_below a b ≡ true → is_below b c ≡ true → is_below a c ≡ true
below_trans a b c first then =
    let lower = below_rest a b first in
    let lowest = below_rest b c then in
    let is : c ≡ a ++ 47 ∷ (lower.0 ++ 47 ∷ lowest.0) = lowest.1 ∙ ap (λ l. l ++ 47 ∷ lowest.0) lower.1 ∙ append_assoc a (47 ∷ lower.0) (47 ∷ lowest.0) in
    ap (is_below a) is ∙ rest_below a (lower.0 ++ 47 ∷ lowest.0)

pub within_itself : (p : Name) → is_within p p ≡ true
within_itself p = or_left (same_name p p) (is_below p p) (same_itself p)

-- the names below a name, and the name itself, are within it
pub below_within : (p q : Name) → is_below p q ≡ true → is_within p q ≡ true
below_within p q low = or_right (same_name q p) (is_below p q) low

pub itself_within : (p q : Name) → same_name q p ≡ true → is_within p q ≡ true
itself_within p q same = or_left (same_name q p) (is_below p q) same

-- a path that isn't `/`, joined with a last name
pub join_is : (p last : Name) → is_path p ≡ true → p ≢ root → join p last ≡ p ++ 47 ∷ last
join_is [] last path other = absurd (cc path)
join_is (a ∷ []) last path other = absurd (other (ap (λ (n : ℕ). n ∷ []) (slash_first a path)))
  where
    slash_first : (b : ℕ) → is_path (b ∷ []) ≡ true → b ≡ 47
    slash_first b path = grind (arith, nat_tests)
join_is (a ∷ b ∷ p) last path other = refl

pub join_below : (p last : Name) → is_path p ≡ true → p ≢ root → is_below p (join p last) ≡ true
join_below p last path other = ap (is_below p) (join_is p last path other) ∙ rest_below p last

-- what is within a name directly below a path lies below the path
pub within_join_below : (p last q : Name) → is_path p ≡ true → p ≢ root → is_within (join p last) q ≡ true → is_below p q ≡ true
within_join_below p last q path other within = ⊎_elim
    (λ same. ap (is_below p) (same_means q (join p last) same) ∙ join_below p last path other)
    (λ low. below_trans p (join p last) q (join_below p last path other) low)
    (or_cases (same_name q (join p last)) (is_below (join p last) q) within)

-- ---- trees without names

pub by_name : (b : Bool) (any : Bool) (o : Option Node) → cond any None (cond b None o) ≡ cond (b || any) None o
by_name true true o = refl
by_name true false o = refl
by_name false any o = refl

get-without_names : (t : Tree) (names : List Name) (q : Name)
    → get (without_names t names) q ≡ cond (list_any (same_name q) names) None (get t q)
get-without_names t [] q = refl
get-without_names t (n ∷ names) q =
    get-without_names (without t n) names q
    ∙ ap (λ o. cond (list_any (same_name q) names) None o) (get_put t n None q)
    ∙ by_name (same_name q n) (list_any (same_name q) names) (get t q)

-- a test of names, which is the same at the same name
any_filtered : (test : Name → Bool) (q : Name) (names : List Name)
    → list_any (same_name q) (filter test names) ≡ (test q && list_any (same_name q) names)
any_filtered test q [] = sym (never (test q))
  where
    never : (b : Bool) → (b && false) ≡ false
    never true = refl
    never false = refl
any_filtered test q (n ∷ names) = at (same_name q n) (test n) (test q) (list_any (same_name q) names) refl refl refl (any_filtered test q names)
  where
    at : (same here own rest : Bool) → same_name q n ≡ same → test n ≡ here → test q ≡ own
        → list_any (same_name q) (filter test names) ≡ (own && rest)
        → list_any (same_name q) (cond (test n) (n ∷ filter test names) (filter test names)) ≡ (own && (same_name q n || rest))
    at true true true rest same here own more = ap (λ b. list_any (same_name q) (cond b (n ∷ filter test names) (filter test names))) here ∙ ap (λ b. b || list_any (same_name q) (filter test names)) same ∙ sym (ap (λ b. b || rest) same)
    at true true false rest same here own more = absurd (cc (here, own, ap test (same_means q n same)))
    at true false true rest same here own more = absurd (cc (here, own, ap test (same_means q n same)))
    at true false false rest same here own more = ap (λ b. list_any (same_name q) (cond b (n ∷ filter test names) (filter test names))) here ∙ more
    at false true own rest same here is more = ap (λ b. list_any (same_name q) (cond b (n ∷ filter test names) (filter test names))) here ∙ ap (λ b. b || list_any (same_name q) (filter test names)) same ∙ more ∙ sym (ap (λ b. own && (b || rest)) same)
    at false false own rest same here is more = ap (λ b. list_any (same_name q) (cond b (n ∷ filter test names) (filter test names))) here ∙ more ∙ sym (ap (λ b. own && (b || rest)) same)

gone : (b : Bool) (o : Option Node) → cond (b && is_some o) None o ≡ cond b None o
gone true None = refl
gone true (Some node) = refl
gone false o = refl

-- the tree without a name and all names below it, name by name
pub get-without_tree : (t : Tree) (p q : Name) → get (without_tree t p) q ≡ cond (is_within p q) None (get t q)
get-without_tree t p q =
    get-without_names t (filter (is_within p) (keys t)) q
    ∙ ap (λ b. cond b None (get t q)) (any_filtered (is_within p) q (keys t) ∙ ap (λ b. is_within p q && b) (sym (contains_key-keys t q)))
    ∙ gone (is_within p q) (get t q)

-- and nothing is left
pub bare_without : (t : Tree) (p : Name) → IsBare (without_tree t p) p
bare_without t p q within = get-without_tree t p q ∙ ap (λ b. cond b None (get t q)) within
