-- A call that is allowed leaves a well-formed tree.
use Rattle.std.specs.Prelude.{◌≡◌, ◌⊎◌, ℕ, ◌≤◌, Bool, true, false, cond, ◌||◌, ◌&&◌, not, List, [], ◌∷◌, map, length, Option, Some, None, is_some, refl}
use Rattle.std.proofs.Common.{sym, ◌∙◌, ap, subst, inl, inr, ⊎_elim, arith}
use Rattle.std.proofs.lemmas.Bool.{cases_Bool}
use Rattle.std.specs.List.{list_any, list_all, filter}
use Rattle.std.specs.Ordering.{nat_cmp, eq_by_cmp}
use Rattle.std.specs.Cmp.Lexicographic.{slice_cmp}
use Rattle.std.specs.FinMap.{get, keys, contains_key-keys}
use Rattle.cny_base.specs.Path.{is_path, root, parent}
use Rattle.cny_base.specs.declared.node.Node.{Node}
use Rattle.cny_base.specs.declared.node.Node.TheVariants.{Dir, File, Link}
use Rattle.tree_disk.specs.Tree.{Name, Tree, same_name, put, is_dir, is_file, is_link, is_child, is_byte, is_node, may_stand, WellFormed}
use Rattle.tree_disk.specs.Rows.{is_childless, can_append, can_make, can_set_mode, can_remove, can_rename, grown, of_mode, with_append, with_node, with_mode, without, with_rename}
use Rattle.tree_disk.specs.Nodes.{is_node-Dir}
use Rattle.tree_disk.proofs.Nodes.{is_node-File, bytes-File, grown_node, grown_bytes, stands_node, left_true}
use Rattle.tree_disk.specs.Laws.{same_means, get_put}
use Rattle.tree_disk.proofs.Laws.{same_itself, get_put_here, get_put_other, second as right_true}
use Rattle.cny_base.proofs.Again.{not_true}
use Rattle.cny_base.proofs.Allowed.{is_zero as zero_test}

true_false : {A : Type 0} (b : Bool) → b ≡ true → b ≡ false → A
true_false b yes' no' = absurd (cc (yes', no'))

-- each name of a tree with one node put
may_stand_put : (t : Tree) (p : Name) (o : Option Node) → WellFormed t → may_stand o ≡ true → (q : Name) → may_stand (get (put t p o) q) ≡ true
may_stand_put t p o well is q = ap may_stand (get_put t p o q) ∙ by (same_name q p)
  where
    by : (b : Bool) → may_stand (cond b o (get t q)) ≡ true
    by true = is
    by false = well.nodes q

-- ---- one node put, one taken away

-- a directory stays one, where one is put or none stood
dirs_stay : (t : Tree) (p : Name) (node : Node) → (is_dir (Some node) ≡ true) ⊎ (is_dir (get t p) ≡ false) → (r : Name) → is_dir (get t r) ≡ true → is_dir (get (put t p (Some node)) r) ≡ true
dirs_stay t p node how r dir = ⊎_elim
    (λ h. let same = same_means r p h in
    ⊎_elim
    (λ d. ap (λ n. is_dir (get (put t p (Some node)) n)) same ∙ ap is_dir (get_put_here t p (Some node)) ∙ d)
    (λ d. true_false (is_dir (get t r)) dir (ap (λ n. is_dir (get t n)) same ∙ d)) how)
    (λ h. ap is_dir (get_put_other t p (Some node) r h) ∙ dir)
    (cases_Bool (same_name r p))

-- a name of the new tree is the new one or an old one
stood : (t : Tree) (p : Name) (o : Option Node) (q : Name) → is_some (get (put t p o) q) ≡ true → (q ≡ p) ⊎ (is_some (get t q) ≡ true)
stood t p o q stands = ⊎_elim
    (λ h. inl (same_means q p h))
    (λ h. inr (ap is_some (sym (get_put_other t p o q h)) ∙ stands))
    (cases_Bool (same_name q p))

pub put_well_formed : (t : Tree) (p : Name) (node : Node) → WellFormed t → is_path p ≡ true → is_node node ≡ true → is_dir (get t (parent p)) ≡ true → (is_dir (Some node) ≡ true) ⊎ (is_dir (get t p) ≡ false) → WellFormed (put t p (Some node))
put_well_formed t p node well path is dir how = record {
  paths = λ q stands. ⊎_elim (λ is. ap is_path is ∙ path) (well.paths q) (stood t p (Some node) q stands);
  root_stands = dirs_stay t p node how root well.root_stands;
  parents = λ q stands. dirs_stay t p node how (parent q) (⊎_elim (λ is. ap (λ n. is_dir (get t (parent n))) is ∙ dir) (well.parents q) (stood t p (Some node) q stands));
  nodes = may_stand_put t p (Some node) well is;
}

pub take_well_formed : (t : Tree) (p : Name) → WellFormed t → same_name p root ≡ false → ((q : Name) → is_some (get t q) ≡ true → same_name q root ≡ false → same_name (parent q) p ≡ false) → WellFormed (put t p None)
take_well_formed t p well other childless = record {
  paths = λ q stands. well.paths q (stays q stands);
  root_stands = ap is_dir (get_put_other t p None root (apart root p other)) ∙ well.root_stands;
  parents = λ q stands. ap is_dir (get_put_other t p None (parent q) (no_child q (stays q stands))) ∙ well.parents q (stays q stands);
  nodes = may_stand_put t p None well refl;
}
  where
    apart : (a b : Name) → same_name b a ≡ false → same_name a b ≡ false
    apart a b h = ⊎_elim (λ e. true_false (same_name b a) (ap (λ n. same_name n a) (sym (same_means a b e)) ∙ same_itself a) h) (λ e. e) (cases_Bool (same_name a b))

    stays : (q : Name) → is_some (get (put t p None) q) ≡ true → is_some (get t q) ≡ true
    stays q stands = ⊎_elim
        (λ is. absurd (cc (sym stands ∙ ap (λ n. is_some (get (put t p None) n)) is ∙ ap is_some (get_put_here t p None))))
        (λ s. s) (stood t p None q stands)

    no_child : (q : Name) → is_some (get t q) ≡ true → same_name (parent q) p ≡ false
    no_child q stands = ⊎_elim
        (λ e. ap (λ n. same_name (parent n) p) (same_means q root e) ∙ apart root p other)
        (childless q stands)
        (cases_Bool (same_name q root))

-- ---- the rows

not_dir : (o : Option Node) → (not (is_some o) || is_file o) ≡ true → is_dir o ≡ false
not_dir None h = refl
not_dir (Some (Dir mode)) h = absurd (cc h)
not_dir (Some (File mode bytes)) h = refl
not_dir (Some (Link target)) h = refl

empty_not_dir : (o : Option Node) → not (is_some o) ≡ true → is_dir o ≡ false
empty_not_dir None h = refl
empty_not_dir (Some node) h = absurd (cc h)

pub append_well_formed : (t : Tree) (p : Name) (bytes : List ℕ) → WellFormed t → is_path p ≡ true → list_all is_byte bytes ≡ true → can_append t p ≡ true → WellFormed (with_append t p bytes)
append_well_formed t p bytes well path all can =
    put_well_formed t p (grown (get t p) bytes) well path (grown_node (get t p) bytes (well.nodes p) all) (left_true _ _ can) (inr (not_dir (get t p) (right_true _ _ can)))

pub make_well_formed : (t : Tree) (p : Name) (node : Node) → WellFormed t → is_path p ≡ true → is_node node ≡ true → can_make t p ≡ true → WellFormed (with_node t p node)
make_well_formed t p node well path is can =
    put_well_formed t p node well path is (left_true _ _ can) (inr (empty_not_dir (get t p) (right_true _ _ can)))

mode_of : (t : Tree) (p : Name) (mode : ℕ) (o : Option Node) → get t p ≡ o → WellFormed t → mode ≤ 4095 → (is_dir o || is_file o) ≡ true → WellFormed (put t p (of_mode o mode))
mode_of t p mode None is well small can = absurd (cc can)
mode_of t p mode (Some (Dir old)) is well small can =
    put_well_formed t p (Dir mode) well (well.paths p (ap is_some is)) (is_node-Dir mode small) (well.parents p (ap is_some is)) (inl refl)
mode_of t p mode (Some (File old bytes)) is well small can =
    put_well_formed t p (File mode bytes) well (well.paths p (ap is_some is))
    (is_node-File mode bytes small (bytes-File old bytes (stands_node t p (File old bytes) well is))) (well.parents p (ap is_some is)) (inr (ap is_dir is))
mode_of t p mode (Some (Link target)) is well small can = absurd (cc can)

pub mode_well_formed : (t : Tree) (p : Name) (mode : ℕ) → WellFormed t → mode ≤ 4095 → can_set_mode t p ≡ true → WellFormed (with_mode t p mode)
mode_well_formed t p mode well small can = mode_of t p mode (get t p) refl well small can

listed_here : (f : Name → Bool) (g : Name → List ℕ) (q n : Name) (names : List Name) (b : Bool) → f n ≡ b
    → (length (map g (filter f names)) ≡ 0 → list_any (eq_by_cmp (slice_cmp nat_cmp) q) names ≡ true → f q ≡ false)
    → length (map g (cond b (n ∷ filter f names) (filter f names))) ≡ 0
    → (same_name q n || list_any (eq_by_cmp (slice_cmp nat_cmp) q) names) ≡ true → f q ≡ false
listed_here f g q n names true hit rest len any = absurd (omega arith)
listed_here f g q n names false miss rest len any = ⊎_elim
    (λ h. ap f (same_means q n h) ∙ miss)
    (λ h. rest len (ap (λ b. b || list_any (eq_by_cmp (slice_cmp nat_cmp) q) names) (sym h) ∙ any))
    (cases_Bool (same_name q n))

none_listed : (f : Name → Bool) (g : Name → List ℕ) (q : Name) (names : List Name) → length (map g (filter f names)) ≡ 0 → list_any (eq_by_cmp (slice_cmp nat_cmp) q) names ≡ true → f q ≡ false
none_listed f g q [] none any = absurd (cc any)
none_listed f g q (n ∷ names) none any = listed_here f g q n names (f n) refl (none_listed f g q names) none any

pub no_children : (t : Tree) (p q : Name) → is_childless t p ≡ true → is_some (get t q) ≡ true → is_child p q ≡ false
no_children t p q none stands = none_listed (is_child p) _ q (keys t) (zero_test _ none) (sym (contains_key-keys t q) ∙ stands)

-- what may be removed has no child
dir_or_not : (t : Tree) (p : Name) (o : Option Node) → get t p ≡ o → (is_file o || (is_link o || (is_dir o && is_childless t p))) ≡ true → (is_dir (get t p) ≡ false) ⊎ (is_childless t p ≡ true)
dir_or_not t p None is can = inl (ap is_dir is)
dir_or_not t p (Some (Dir mode)) is can = inr can
dir_or_not t p (Some (File mode bytes)) is can = inl (ap is_dir is)
dir_or_not t p (Some (Link target)) is can = inl (ap is_dir is)

childless : (t : Tree) (p : Name) → WellFormed t → (is_dir (get t p) ≡ false) ⊎ (is_childless t p ≡ true) → (q : Name) → is_some (get t q) ≡ true → same_name q root ≡ false → same_name (parent q) p ≡ false
childless t p well how q stands other = ⊎_elim
    (λ h. ⊎_elim
    (λ d. true_false (is_dir (get t p)) (ap (λ n. is_dir (get t n)) (sym (same_means (parent q) p h)) ∙ well.parents q stands) d)
    (λ n. true_false (is_child p q) (ap (λ b. not b && same_name (parent q) p) other ∙ h) (no_children t p q n stands))
    how)
    (λ h. h)
    (cases_Bool (same_name (parent q) p))

pub remove_well_formed : (t : Tree) (p : Name) → WellFormed t → can_remove t p ≡ true → WellFormed (without t p)
remove_well_formed t p well can =
    take_well_formed t p well (not_true _ (left_true _ _ can)) (childless t p well (dir_or_not t p (get t p) refl (right_true _ _ can)))

-- a file or a link
movable : (o : Option Node) → (is_file o || is_link o) ≡ true → (node : Node) × (o ≡ Some node) × (is_dir o ≡ false)
movable None h = absurd (cc h)
movable (Some (Dir mode)) h = absurd (cc h)
movable (Some (File mode bytes)) h = (File mode bytes, refl, refl)
movable (Some (Link target)) h = (Link target, refl, refl)

over : (o : Option Node) → (not (is_some o) || (is_file o || is_link o)) ≡ true → is_dir o ≡ false
over None h = refl
over (Some (Dir mode)) h = absurd (cc h)
over (Some (File mode bytes)) h = refl
over (Some (Link target)) h = refl

pub rename_well_formed : (t : Tree) (from to : Name) → WellFormed t → is_path to ≡ true → can_rename t from to ≡ true → WellFormed (with_rename t from to)
rename_well_formed t from to well path can =
    let rest = right_true _ _ can in
    let apart : same_name from to ≡ false = not_true _ (left_true _ _ can) in
    let found = movable (get t from) (left_true _ _ rest) in
    let there = right_true _ _ rest in
    let moved : WellFormed (put t to (get t from)) = subst (λ o. WellFormed (put t to o)) (sym found.1)
    (put_well_formed t to found.0 well path (stands_node t from found.0 well found.1) (left_true _ _ there) (inr (over (get t to) (right_true _ _ there)))) in
    let file : is_dir (get (put t to (get t from)) from) ≡ false = ap is_dir (get_put_other t to (get t from) from apart) ∙ found.2 in
    take_well_formed (put t to (get t from)) from moved
    (⊎_elim (λ h. true_false (is_dir (get t from)) (ap (λ n. is_dir (get t n)) (same_means from root h) ∙ well.root_stands) found.2) (λ h. h) (cases_Bool (same_name from root)))
    (childless (put t to (get t from)) from moved (inl file))

-- ---- another node of the same kind

some_by : (b : Bool) (m n : Node) (x : Option Node) → is_some (cond b (Some m) x) ≡ is_some (cond b (Some n) x)
some_by true m n x = refl
some_by false m n x = refl

dir_by : (b : Bool) (m n : Node) (x : Option Node) → is_dir (Some m) ≡ is_dir (Some n) → is_dir (cond b (Some m) x) ≡ is_dir (cond b (Some n) x)
dir_by true m n x kind = kind
dir_by false m n x kind = refl

pub same_kind_well_formed : (t : Tree) (p : Name) (m n : Node) → is_dir (Some m) ≡ is_dir (Some n) → is_node n ≡ true → WellFormed (put t p (Some m)) → WellFormed (put t p (Some n))
same_kind_well_formed t p m n kind is well = record {
  paths = λ q stands. well.paths q (somes q ∙ stands);
  root_stands = sym (dirs root) ∙ well.root_stands;
  parents = λ q stands. sym (dirs (parent q)) ∙ well.parents q (somes q ∙ stands);
  nodes = λ q. ap may_stand (get_put t p (Some n) q) ∙ by (same_name q p) (get t q) (sym (ap may_stand (get_put t p (Some m) q)) ∙ well.nodes q);
}
  where
    by : (b : Bool) (o : Option Node) → may_stand (cond b (Some m) o) ≡ true → may_stand (cond b (Some n) o) ≡ true
    by true o old = is
    by false o old = old

    somes : (q : Name) → is_some (get (put t p (Some m)) q) ≡ is_some (get (put t p (Some n)) q)
    somes q = ap is_some (get_put t p (Some m) q) ∙ some_by (same_name q p) m n (get t q) ∙ ap is_some (sym (get_put t p (Some n) q))

    dirs : (q : Name) → is_dir (get (put t p (Some m)) q) ≡ is_dir (get (put t p (Some n)) q)
    dirs q = ap is_dir (get_put t p (Some m) q) ∙ dir_by (same_name q p) m n (get t q) kind ∙ ap is_dir (sym (get_put t p (Some n) q))

grown_file : (o : Option Node) (more : List ℕ) → is_dir (Some (grown o more)) ≡ false
grown_file None more = refl
grown_file (Some (Dir mode)) more = refl
grown_file (Some (File mode bytes)) more = refl
grown_file (Some (Link target)) more = refl

-- what stands at a path of a tree with a node put there
put_node : (t : Tree) (p : Name) (node : Node) → WellFormed (put t p (Some node)) → is_node node ≡ true
put_node t p node well = stands_node (put t p (Some node)) p node well (get_put_here t p (Some node))

-- a part of an append leaves a tree where the whole does
pub part_well_formed : (t : Tree) (p : Name) (bytes part : List ℕ) → WellFormed t → (list_all is_byte bytes ≡ true → list_all is_byte part ≡ true) → WellFormed (with_append t p bytes) → WellFormed (with_append t p part)
part_well_formed t p bytes part old fewer well =
    same_kind_well_formed t p (grown (get t p) bytes) (grown (get t p) part) (grown_file (get t p) bytes ∙ sym (grown_file (get t p) part))
    (grown_node (get t p) part (old.nodes p) (fewer (grown_bytes (get t p) bytes (put_node t p (grown (get t p) bytes) well)))) well
