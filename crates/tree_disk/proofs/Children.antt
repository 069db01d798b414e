-- What stands below a directory, by its children.
use Rattle.std.proofs.Common.{◌≡◌, ◌≢◌, ◌⊎◌, inl, inr, ⊎_elim, ℕ, zero, suc, ◌<◌, ◌≤◌, Bool, true, false, cond, not, ◌||◌, ◌&&◌, List, [], ◌∷◌, ◌++◌, map, length, Option, Some, None, is_some, ◌==◌, nat_le, refl, sym, ◌∙◌, ap, subst, arith, length-append}
use Rattle.std.proofs.lemmas.Bool.{cases_Bool}
use Rattle.std.proofs.lemmas.Bool.Decides.{nat_tests}
use Rattle.std.proofs.lemmas.List.Elements.{All-from_recursion}
use Rattle.std.specs.List.{list_any, filter, All, AllByRecursion}
use Rattle.std.specs.FinMap.{get, keys, contains_key-keys}
use Rattle.cny_base.specs.Path.{is_path, root, parent, last_name, join}
use Rattle.cny_base.proofs.Joins.{join_parent}
use Rattle.cny_base.specs.Below.{is_below}
use Rattle.cny_base.proofs.Below.{below_rest, below_parent, child_below, none_below_root, parent_shorter}
use Rattle.cny_base.specs.declared.node.Node.{Node}
use Rattle.tree_disk.specs.Tree.{Name, Tree, same_name, is_dir, is_child, children, WellFormed}
use Rattle.tree_disk.specs.Rows.{is_childless}
use Rattle.tree_disk.specs.Laws.{same_means}
use Rattle.tree_disk.proofs.Laws.{same_itself}
use Rattle.tree_disk.specs.Clear.{is_within}
use Rattle.tree_disk.proofs.ClearLaws.{or_cases, below_trans, below_within, within_itself, join_is}
use Rattle.cny_base.proofs.Bools.{or_left, or_right, tests_of as short_by}

-- ---- tests

pub clash : {A : Type 0} (b : Bool) → b ≡ true → b ≡ false → A
clash b is not_so = absurd (cc (is, not_so))

pub or_none : (x y : Bool) → x ≡ false → y ≡ false → (x || y) ≡ false
or_none true y left right = left
or_none false y left right = right

pub any_weaker : (P Q : List ℕ → Bool) (xs : List (List ℕ)) → ((x : List ℕ) → P x ≡ true → Q x ≡ true) → list_any P xs ≡ true
    → list_any Q xs ≡ true
any_weaker P Q [] weaker any = any
any_weaker P Q (x ∷ xs) weaker any = ⊎_elim
    (λ here. or_left (Q x) (list_any Q xs) (weaker x here))
    (λ later. or_right (Q x) (list_any Q xs) (any_weaker P Q xs weaker later))
    (or_cases (P x) (list_any P xs) any)

pub none_any : (P : List ℕ → Bool) (xs : List (List ℕ)) → ((x : List ℕ) → P x ≡ false) → list_any P xs ≡ false
none_any P [] none = refl
none_any P (x ∷ xs) none = or_none (P x) (list_any P xs) (none x) (none_any P xs none)

-- ---- what lies below what

not_shorter : (p rest : Name) → p ≡ p ++ 47 ∷ rest → ⊥
not_shorter p rest is = absurd (omega (arith, ap length is, length-append p (47 ∷ rest)))

pub not_below_itself : (p : Name) → is_below p p ≡ false
not_below_itself p = ⊎_elim (λ low. let rest = below_rest p p low in absurd (not_shorter p rest.0 rest.1)) (λ not_low. not_low) (cases_Bool (is_below p p))

-- what is within a name has below it what is within it too
pub within_child : (c q : Name) → is_path q ≡ true → (parent q ≢ root) → is_within c (parent q) ≡ true → is_within c q ≡ true
within_child c q path up within = ⊎_elim
    (λ is. absurd (up is))
    (λ low. ⊎_elim
    (λ same. below_within c q (subst (λ n. is_below n q ≡ true) (same_means (parent q) c same) low))
    (λ high. below_within c q (below_trans c (parent q) q high low))
    (or_cases (same_name (parent q) c) (is_below c (parent q)) within))
    (child_below q path)

-- ---- what stands below a directory

pub stands_or_not : (o : Option Node) → (o ≡ None) ⊎ (is_some o ≡ true)
stands_or_not None = inl refl
stands_or_not (Some node) = inr refl

pub some_dir : (o : Option Node) → is_dir o ≡ true → is_some o ≡ true
some_dir None h = absurd (cc h)
some_dir (Some node) h = refl

-- what stands below a path has a parent that is shorter, and stands at the path or below it
pub above : (t : Tree) (p q : Name) → WellFormed t → is_path p ≡ true → is_below p q ≡ true → is_some (get t q) ≡ true
    → (length (parent q) < length q) × ((p ≡ parent q) ⊎ (is_below p (parent q) ≡ true))
above t p q well path low stands = ⊎_elim
    (λ is. absurd (none_below_root p path (subst (λ x. is_below p x ≡ true) is low)))
    (λ less. (less, below_parent p q (λ is. absurd (cc (is, path))) low))
    (parent_shorter q (well.paths q stands))

-- Where no directory stands, nothing stands below. (The names grow shorter on the way up.)
none_below_up : (t : Tree) (p : Name) → WellFormed t → is_path p ≡ true → is_dir (get t p) ≡ false → (n : ℕ) (q : Name)
    → length q < n → is_below p q ≡ true → is_some (get t q) ≡ true → ⊥
none_below_up t p well path no_dir zero q short low stands = absurd (omega arith)
none_below_up t p well path no_dir (suc n) q short low stands =
    let up = above t p q well path low stands in
    ⊎_elim
    (λ is. clash (is_dir (get t p)) (subst (λ x. is_dir (get t x) ≡ true) (sym is) (well.parents q stands)) no_dir)
    (λ high. none_below_up t p well path no_dir n (parent q) (omega (arith, up.0)) high (some_dir (get t (parent q)) (well.parents q stands)))
    up.1

pub none_below : (t : Tree) (p q : Name) → WellFormed t → is_path p ≡ true → is_dir (get t p) ≡ false → is_below p q ≡ true
    → get t q ≡ None
none_below t p q well path no_dir low = ⊎_elim (λ none. none) (λ stands. absurd (none_below_up t p well path no_dir (suc (length q)) q (omega arith) low stands)) (stands_or_not (get t q))

-- an element of a list, which passes a test and whose value passes another
any_mapped : (test : Name → Bool) (f : Name → List ℕ) (P : List ℕ → Bool) (q : Name) (names : List Name) → test q ≡ true
    → P (f q) ≡ true → list_any (same_name q) names ≡ true → list_any P (map f (filter test names)) ≡ true
any_mapped test f P q [] passes value any = absurd (cc any)
any_mapped test f P q (n ∷ names) passes value any = at (test n) refl (any_mapped test f P q names passes value) (or_cases (same_name q n) (list_any (same_name q) names) any)
  where
    at : (b : Bool) → test n ≡ b → (list_any (same_name q) names ≡ true → list_any P (map f (filter test names)) ≡ true)
        → (same_name q n ≡ true) ⊎ (list_any (same_name q) names ≡ true)
        → list_any P (map f (cond (test n) (n ∷ filter test names) (filter test names))) ≡ true
    at true is rest (inl same) =
        ap (λ b. list_any P (map f (cond b (n ∷ filter test names) (filter test names)))) is ∙ or_left (P (f n)) _ (ap (λ x. P (f x)) (sym (same_means q n same)) ∙ value)
    at true is rest (inr later) =
        ap (λ b. list_any P (map f (cond b (n ∷ filter test names) (filter test names)))) is ∙ or_right (P (f n)) _ (rest later)
    at false is rest (inl same) = absurd (cc (is, passes, ap test (same_means q n same)))
    at false is rest (inr later) =
        ap (λ b. list_any P (map f (cond b (n ∷ filter test names) (filter test names)))) is ∙ rest later

-- a child of a directory is one of its children
child_listed : (t : Tree) (q : Name) → WellFormed t → q ≢ root → is_some (get t q) ≡ true
    → list_any (λ last. is_within (join (parent q) last) q) (children t (parent q)) ≡ true
child_listed t q well other stands = any_mapped (is_child (parent q)) last_name (λ last. is_within (join (parent q) last) q) q (keys t) child itself (sym (contains_key-keys t q) ∙ stands)
  where
    not_root : same_name q root ≡ false
    not_root = ⊎_elim (λ same. absurd (other (same_means q root same))) (λ no_same. no_same) (cases_Bool (same_name q root))

    child : is_child (parent q) q ≡ true
    child = ap (λ b. not b && same_name (parent q) (parent q)) not_root ∙ same_itself (parent q)

    itself : is_within (join (parent q) (last_name q)) q ≡ true
    itself = ap (λ n. is_within n q) (join_parent q (well.paths q stands)) ∙ within_itself q

pub not_root_below : (p q : Name) → is_path p ≡ true → is_below p q ≡ true → q ≢ root
not_root_below p q path low is = absurd (none_below_root p path (subst (λ x. is_below p x ≡ true) is low))

-- What stands below a directory is one of its children, or lies below one.
pub covered_up : (t : Tree) (p : Name) → WellFormed t → is_path p ≡ true → (n : ℕ) (q : Name) → length q < n → is_below p q ≡ true
    → is_some (get t q) ≡ true → list_any (λ last. is_within (join p last) q) (children t p) ≡ true
covered_up t p well path zero q short low stands = absurd (omega arith)
covered_up t p well path (suc n) q short low stands =
    let up = above t p q well path low stands in
    ⊎_elim
    (λ is. subst (λ x. list_any (λ last. is_within (join x last) q) (children t x) ≡ true) (sym is) (child_listed t q well (not_root_below p q path low) stands))
    (λ high. any_weaker (λ last. is_within (join p last) (parent q)) (λ last. is_within (join p last) q) (children t p)
    (λ last within. within_child (join p last) q (well.paths q stands) (not_root_below p (parent q) path high) within)
    (covered_up t p well path n (parent q) (omega (arith, up.0)) high (some_dir (get t (parent q)) (well.parents q stands))))
    up.1

pub filter_none : (test : Name → Bool) (names : List Name) → ((q : Name) → list_any (same_name q) names ≡ true → test q ≡ false)
    → filter test names ≡ []
filter_none test [] fails = refl
filter_none test (n ∷ names) fails =
    ap (λ b. cond b (n ∷ filter test names) (filter test names)) (fails n (or_left (same_name n n) (list_any (same_name n) names) (same_itself n)))
    ∙ filter_none test names (λ q listed. fails q (or_right (same_name q n) (list_any (same_name q) names) listed))

-- A path at which no child stands is childless.
pub childless_from : (t : Tree) (p : Name) → ((q : Name) → is_some (get t q) ≡ true → is_child p q ≡ false) → is_childless t p ≡ true
childless_from t p none = ap (λ (l : List Name). length (map last_name l) == 0) (filter_none (is_child p) (keys t) (λ q listed. none q (contains_key-keys t q ∙ listed)))

-- each name of a list that passes a test stands, joined from the path and its last name
children_of : (t : Tree) (p : Name) (names : List Name) → ((q : Name) → list_any (same_name q) names ≡ true → is_some (get t q) ≡ true)
    → WellFormed t → AllByRecursion (λ last. is_some (get t (join p last)) ≡ true) (map last_name (filter (is_child p) names))
children_of t p [] stand well = tt
children_of t p (n ∷ names) stand well = at (is_child p n) refl
    (children_of t p names (λ q listed. stand q (or_right (same_name q n) (list_any (same_name q) names) listed)) well)
  where
    at : (b : Bool) → is_child p n ≡ b → AllByRecursion (λ last. is_some (get t (join p last)) ≡ true) (map last_name (filter (is_child p) names))
        → AllByRecursion (λ last. is_some (get t (join p last)) ≡ true) (map last_name (cond b (n ∷ filter (is_child p) names) (filter (is_child p) names)))
    at true is rest = (stands, rest)
      where
        here : is_some (get t n) ≡ true
        here = stand n (or_left (same_name n n) (list_any (same_name n) names) (same_itself n))

        up : (x y : Bool) → (not x && y) ≡ true → y ≡ true
        up true y h = absurd (cc h)
        up false y h = h

        whole : join p (last_name n) ≡ n
        whole = ap (λ (a : Name). join a (last_name n)) (sym (same_means (parent n) p (up (same_name n root) _ is))) ∙ join_parent n (well.paths n here)

        stands : is_some (get t (join p (last_name n))) ≡ true
        stands = ap (λ (q : Name). is_some (get t q)) whole ∙ here
    at false is rest = rest

-- each child of a path stands
pub children_stand : (t : Tree) (p : Name) → WellFormed t → All (λ last. is_some (get t (join p last)) ≡ true) (children t p)
children_stand t p well = All-from_recursion (λ last. is_some (get t (join p last)) ≡ true) (children t p)
    (children_of t p (keys t) (λ q listed. contains_key-keys t q ∙ listed) well)

-- ---- paths that grow longer

pub child_longer : (p last : Name) → is_path p ≡ true → p ≢ root → length p < length (join p last)
child_longer p last path other = omega (arith, ap length (join_is p last path other), length-append p (47 ∷ last))

pub path_short : (p : Name) → is_path p ≡ true → length p ≤ 1024
path_short [] path = omega arith
path_short (b ∷ bs) path = ⊎_elim
    (λ none. let no_rest : length bs ≡ 0 = grind (arith, nat_tests) in omega (arith, no_rest))
    (λ few. let short : length bs ≤ 1023 = grind (arith, nat_tests) in omega (arith, short))
    (short_by (b == 47) (length bs == 0) (nat_le (length bs) 1023) _ path)

pub child_not_root : (p last : Name) → is_path p ≡ true → p ≢ root → join p last ≢ root
child_not_root p last path other is =
    let longer = child_longer p last path other in
    let long : 0 < length p = some_byte p path in
    absurd (omega (arith, longer, long, ap length is))
  where
    some_byte : (p : Name) → is_path p ≡ true → 0 < length p
    some_byte [] path = absurd (cc path)
    some_byte (b ∷ p) path = omega arith
