-- The children of a directory, in the map.
use Rattle.std.proofs.Common.{◌≡◌, ⊎_elim, ℕ, ◌<◌, suc, zero, Bool, true, false, cond, not, ◌&&◌, ◌||◌, ◌==◌, List, [], ◌∷◌, ◌++◌, map, filter, length, is_some, Option, None, Some, refl, sym, ◌∙◌, ap, subst, arith, string_bytes, String}
use Rattle.std.proofs.lemmas.Bool.{cases_Bool}
use Rattle.std.proofs.lemmas.Bool.Decides.{nat_tests}
use Rattle.std.specs.declared.alloc.Global.{Global}
use Rattle.std.specs.declared.cmp.Ordering.TheVariants.{Less}
use Rattle.std.specs.List.{list_any, AllByRecursion}
use Rattle.std.specs.List.Sorted.{IsStrictlySortedBy}
use Rattle.std.specs.Ordering.{eq_by_cmp}
use Rattle.std.specs.Cmp.Lexicographic.{nat_list_cmp_total}
use Rattle.std.specs.String.{string_cmp}
use Rattle.std.specs.FinMap.{get, from_entries, entries, entries-insert, contains_key-keys}
use Rattle.std.specs.FinMap as fin
use Rattle.std.specs.FinMap.Entries as Entries
use Rattle.tree_disk.specs.cny-base.declared.node.Node.{Node}
use Rattle.tree_disk.specs.cny-base.Path.{is_path, root, parent, last_name}
use Rattle.tree_disk.specs.cny-base.Below.{begins_with, is_below}
use Rattle.tree_disk.proofs.cny-base.Below.{below_parent, child_below, none_below_root, parent_shorter}
use Rattle.tree_disk.specs.Tree.{Name, Tree, same_name, is_child, children, WellFormed}
use Rattle.tree_disk.specs.Rows.{is_childless}
use Rattle.tree_disk.specs.Laws.{same_means}
use Rattle.tree_disk.proofs.Laws.{same_itself, second}
use Rattle.tree_disk.proofs.Allowed.{no_children}
use Rattle.std.specs.Map.Iter.{TakesFirst}
use Rattle.tree_nodes.specs.Stored.{by_bytes, tree_of}
use Rattle.tree_nodes.specs.Below.{has_prefix, entries_with_prefix}
use Rattle.tree_nodes.proofs.Between.{R}
use Rattle.tree_disk.proofs.Children.{some_dir as dir_stands}
use Rattle.tree_disk.proofs.cny-base.Bools.{or_right as either}
use Rattle.tree_disk.proofs.Names.{no_path, not_same}

pub clash : {A : Type 0} (b : Bool) → b ≡ true → b ≡ false → A
clash b good bad = absurd (cc (good, bad))

-- ---- the names of the tree are the keys of the map

abbrev names : List (Name × Node) → List Name
names es = map (λ e. e.0) es

abbrev pub texts : List (String Global × Node) → List Name
texts es = map (λ e. string_bytes e.0) es

put_front : (e : Name × Node) (es : List (Name × Node)) → AllByRecursion (λ y. R e.0 y ≡ Less) (names es) → Entries.put R e.0 e.1 es ≡ e ∷ es
put_front e [] first = refl
put_front e (f ∷ es) first = ap (λ o. Entries.by_order o ((e.0, e.1) ∷ f ∷ es) ((f.0, e.1) ∷ es) (f ∷ Entries.put R e.0 e.1 es)) first.0

empty_list : (es : List (Name × Node)) → length es ≡ 0 → es ≡ []
empty_list [] h = refl
empty_list (e ∷ es) h = absurd (omega arith)

sorted_entries : (es : List (Name × Node)) → IsStrictlySortedBy R (names es) → entries (from_entries {R = R} es) ≡ es
unfolding IsStrictlySortedBy
sorted_entries [] sorted = empty_list (entries (fin.empty {R = R})) (sym (fin.len-entries (fin.empty {R = R})) ∙ fin.len-empty R Node)
sorted_entries (e ∷ es) sorted =
    entries-insert nat_list_cmp_total (from_entries es) e.0 e.1
    ∙ ap (Entries.put R e.0 e.1) (sorted_entries es sorted.1)
    ∙ put_front e es sorted.0

all_bytes : (k : String Global) (es : List (String Global × Node)) → AllByRecursion (λ y. string_cmp k y ≡ Less) (map (λ e. e.0) es) → AllByRecursion (λ y. R (string_bytes k) y ≡ Less) (names (by_bytes es))
all_bytes k [] all = tt
all_bytes k (e ∷ es) all = (all.0, all_bytes k es all.1)

sorted_bytes : (es : List (String Global × Node)) → IsStrictlySortedBy string_cmp (map (λ e. e.0) es) → IsStrictlySortedBy R (names (by_bytes es))
unfolding IsStrictlySortedBy
sorted_bytes [] sorted = tt
sorted_bytes (e ∷ es) sorted = (all_bytes e.0 es sorted.0, sorted_bytes es sorted.1)

names_bytes : (es : List (String Global × Node)) → names (by_bytes es) ≡ texts es
names_bytes [] = refl
names_bytes (e ∷ es) = ap (λ l. string_bytes e.0 ∷ l) (names_bytes es)

pub entries_stored : (es : List (String Global × Node)) → IsStrictlySortedBy string_cmp (map (λ e. e.0) es) → entries (tree_of es) ≡ by_bytes es
entries_stored es sorted = sorted_entries (by_bytes es) (sorted_bytes es sorted)

pub names_stored : (es : List (String Global × Node)) → IsStrictlySortedBy string_cmp (map (λ e. e.0) es) → fin.keys (tree_of es) ≡ texts es
names_stored es sorted = ap names (entries_stored es sorted) ∙ names_bytes es

-- ---- each name of a tree is a path

each_listed : (P : Name → Type 0) (ns : List Name) → ((q : Name) → list_any (eq_by_cmp R q) ns ≡ true → P q) → AllByRecursion P ns
each_listed P [] each = tt
each_listed P (q ∷ ns) each =
    (each q (ap (λ b. b || list_any (eq_by_cmp R q) ns) (same_itself q)), each_listed P ns (λ r h. each r (either (same_name r q) _ h)))

-- what holds of all names that stand in the tree
pub each_stored : (P : Name → Type 0) (es : List (String Global × Node)) → IsStrictlySortedBy string_cmp (map (λ e. e.0) es)
    → ((q : Name) → is_some (get (tree_of es) q) ≡ true → P q) → AllByRecursion P (texts es)
each_stored P es sorted each =
    subst (AllByRecursion P) (names_stored es sorted) (each_listed P (fin.keys (tree_of es)) (λ q h. each q (contains_key-keys (tree_of es) q ∙ h)))

pub stored_paths : (es : List (String Global × Node)) → IsStrictlySortedBy string_cmp (map (λ e. e.0) es) → WellFormed (tree_of es) → AllByRecursion (λ q. is_path q ≡ true) (texts es)
stored_paths es sorted well = each_stored (λ q. is_path q ≡ true) es sorted well.paths

-- ---- children are among the names that begin with the path and a slash

starts : (q : Name) → is_path q ≡ true → begins_with (47 ∷ []) q ≡ true
starts [] path = absurd (cc path)
starts (b ∷ q) path = slash (47 == b) (b == 47) _ (grind (arith, nat_tests)) path
  where
    slash : (x y z : Bool) → x ≡ y → (y && z) ≡ true → (x && true) ≡ true
    slash true y z same h = refl
    slash false true z same h = absurd (cc same)
    slash false false z same h = absurd (cc h)

prefix_by : (p q : Name) (b : Bool) → same_name p root ≡ b → is_path q ≡ true → parent q ≡ p → begins_with (cond b [] p ++ 47 ∷ []) q ≡ true
prefix_by p q true top path above = starts q path
prefix_by p q false other path above = ⊎_elim
    (λ is. clash (same_name p root) (ap (λ (n : Name). same_name n root) (sym above ∙ is) ∙ same_itself root) other)
    (λ below. ap (λ (n : Name). is_below n q) (sym above) ∙ below)
    (child_below q path)

child_has_prefix : (p q : Name) → is_path q ≡ true → is_child p q ≡ true → has_prefix p q ≡ true
child_has_prefix p q path child = prefix_by p q (same_name p root) refl path (same_means (parent q) p (second (not (same_name q root)) _ child))

-- ---- the list of the children

-- the last names of the children among some entries
abbrev pub listed : Name → List (String Global × Node) → List Name
listed p es = map last_name (filter (is_child p) (texts es))

listed_here : (p q : Name) (ns ms : List Name) (b c : Bool) → is_child p q ≡ b → (b ≡ true → c ≡ true) → filter (is_child p) ns ≡ filter (is_child p) ms
    → filter (is_child p) (cond c (q ∷ ns) ns) ≡ cond b (q ∷ filter (is_child p) ms) (filter (is_child p) ms)
listed_here p q ns ms true true is so rest = (λ i. cond (is i) (q ∷ rest i) (rest i))
listed_here p q ns ms true false is so rest = absurd (cc (so refl))
listed_here p q ns ms false true is so rest = (λ i. cond (is i) (q ∷ rest i) (rest i))
listed_here p q ns ms false false is so rest = rest

texts_cond : (e : String Global × Node) (es : List (String Global × Node)) (c : Bool) → texts (cond c (e ∷ es) es) ≡ cond c (string_bytes e.0 ∷ texts es) (texts es)
texts_cond e es true = refl
texts_cond e es false = refl

prefix_filter : (p : Name) (es : List (String Global × Node)) → AllByRecursion (λ q. is_path q ≡ true) (texts es) → filter (is_child p) (texts (entries_with_prefix p es)) ≡ filter (is_child p) (texts es)
prefix_filter p [] paths = refl
prefix_filter p (e ∷ es) paths =
    ap (filter (is_child p)) (texts_cond e (entries_with_prefix p es) (has_prefix p (string_bytes e.0)))
    ∙ listed_here p (string_bytes e.0) (texts (entries_with_prefix p es)) (texts es) (is_child p (string_bytes e.0)) (has_prefix p (string_bytes e.0)) refl (child_has_prefix p (string_bytes e.0) paths.0) (prefix_filter p es paths.1)

pub listed_with_prefix : (p : Name) (es : List (String Global × Node)) → IsStrictlySortedBy string_cmp (map (λ e. e.0) es) → WellFormed (tree_of es) → listed p (entries_with_prefix p es) ≡ children (tree_of es) p
listed_with_prefix p es sorted well =
    ap (map last_name) (prefix_filter p es (stored_paths es sorted well)) ∙ ap (λ l. map last_name (filter (is_child p) l)) (sym (names_stored es sorted))

-- ---- a directory without children

-- where a name stands below another, a child of that one stands; n bounds the length
child_above : (n : ℕ) (t : Tree) (p q : Name) → WellFormed t → is_path p ≡ true → length q < n → is_some (get t q) ≡ true → is_below p q ≡ true → (c : Name) × (is_some (get t c) ≡ true) × (is_child p c ≡ true)
child_above zero t p q well path short stands below = absurd (omega arith)
child_above (suc n) t p q well path short stands below =
    let apart : q ≡ root → ⊥ = λ top. none_below_root p path (ap (is_below p) (sym top) ∙ below) in
    ⊎_elim
    (λ is. (q, stands, ap (λ b. not b && same_name (parent q) p) (not_same q apart) ∙ ap (λ (m : Name). same_name (parent q) m) is ∙ same_itself (parent q)))
    (λ deeper. ⊎_elim
    (λ top. absurd (apart top))
    (λ less. child_above n t p (parent q) well path (omega (arith, short, less)) (dir_stands (get t (parent q)) (well.parents q stands)) deeper)
    (parent_shorter q (well.paths q stands)))
    (below_parent p q (no_path p path) below)

first_with_prefix : (p : Name) (P : Name → Type 0) (e : String Global × Node) (rest es : List (String Global × Node)) → AllByRecursion P (texts es) → entries_with_prefix p es ≡ e ∷ rest → P (string_bytes e.0) × (has_prefix p (string_bytes e.0) ≡ true)
first_with_prefix p P e rest [] all is = absurd (cc is)
first_with_prefix p P e rest (f ∷ es) all is = here (has_prefix p (string_bytes f.0)) refl is (λ same. first_with_prefix p P e rest es all.1 same)
  where
    here : (b : Bool) → has_prefix p (string_bytes f.0) ≡ b → cond b (f ∷ entries_with_prefix p es) (entries_with_prefix p es) ≡ e ∷ rest
        → (entries_with_prefix p es ≡ e ∷ rest → P (string_bytes e.0) × (has_prefix p (string_bytes e.0) ≡ true))
        → P (string_bytes e.0) × (has_prefix p (string_bytes e.0) ≡ true)
    here true hit same later =
        let first : f ≡ e = cc same in
        (subst (λ (x : String Global × Node). P (string_bytes x.0)) first all.0, ap (λ (x : String Global × Node). has_prefix p (string_bytes x.0)) (sym first) ∙ hit)
    here false miss same later = later same

childless_none : (p : Name) (es : List (String Global × Node)) → IsStrictlySortedBy string_cmp (map (λ e. e.0) es) → WellFormed (tree_of es) → entries_with_prefix p es ≡ [] → is_childless (tree_of es) p ≡ true
childless_none p es sorted well none =
    ap (λ l. length l == 0) (sym (listed_with_prefix p es sorted well) ∙ ap (listed p) none)

childless_some : (p : Name) (es : List (String Global × Node)) (e : String Global × Node) (rest : List (String Global × Node)) → IsStrictlySortedBy string_cmp (map (λ e. e.0) es) → WellFormed (tree_of es) → is_path p ≡ true → same_name p root ≡ false
    → entries_with_prefix p es ≡ e ∷ rest → is_childless (tree_of es) p ≡ false
childless_some p es e rest sorted well path other some =
    let found = first_with_prefix p (λ q. is_some (get (tree_of es) q) ≡ true) e rest es (each_stored (λ q. is_some (get (tree_of es) q) ≡ true) es sorted (λ q h. h)) some in
    let below : is_below p (string_bytes e.0) ≡ true = ap (λ b. begins_with (cond b [] p ++ 47 ∷ []) (string_bytes e.0)) (sym other) ∙ found.1 in
    let child = child_above (suc (length (string_bytes e.0))) (tree_of es) p (string_bytes e.0) well path (omega arith) found.0 below in
    ⊎_elim
    (λ h. clash (is_child p child.0) child.2 (no_children (tree_of es) p child.0 h child.1))
    (λ h. h)
    (cases_Bool (is_childless (tree_of es) p))

pub childless_stored : (p : Name) (es range : List (String Global × Node)) (b : Bool) → IsStrictlySortedBy string_cmp (map (λ e. e.0) es) → WellFormed (tree_of es) → is_path p ≡ true → same_name p root ≡ false
    → range ≡ entries_with_prefix p es → (range ≡ [] → b ≡ true) → ((e : String Global × Node) (rest : List (String Global × Node)) → range ≡ e ∷ rest → b ≡ false) → b ≡ is_childless (tree_of es) p
childless_stored p es [] b sorted well path other is empty full = empty refl ∙ sym (childless_none p es sorted well (sym is))
childless_stored p es (e ∷ rest) b sorted well path other is empty full = full e rest refl ∙ sym (childless_some p es e rest sorted well path other (sym is))

-- what the first step of an iterator tells of its list
pub none_first : {A X : Type 0} (shows : A → X) (s t : List X) (r : Option A) (b : Bool) → TakesFirst shows s r t → is_some r ≡ not b → s ≡ [] → b ≡ true
none_first shows s t None true step is none = refl
none_first shows s t None false step is none = absurd (cc is)
none_first shows s t (Some x) b step is none = absurd (cc (sym step ∙ none))

pub some_first : {A X : Type 0} (shows : A → X) (s t : List X) (r : Option A) (b : Bool) → TakesFirst shows s r t → is_some r ≡ not b → (e : X) (rest : List X) → s ≡ e ∷ rest → b ≡ false
some_first shows s t None b step is e rest some = absurd (cc (sym step.0 ∙ some))
some_first shows s t (Some x) true step is e rest some = absurd (cc is)
some_first shows s t (Some x) false step is e rest some = refl
