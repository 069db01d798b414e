-- Where an edit leaves a tree.
use Rattle.std.proofs.Common.{◌≡◌, ◌⊎◌, inl, inr, ⊎_elim, ℕ, Bool, true, false, cond, ◌&&◌, not, List, [], ◌∷◌, map, length, Option, Some, None, refl, sym, ◌∙◌, ap, subst, ◌==◌}
use Rattle.std.proofs.lemmas.Bool.{cases_Bool}
use Rattle.std.specs.Option.{is_some}
use Rattle.std.specs.List.{filter, list_any}
use Rattle.std.specs.Ordering.{nat_cmp, eq_by_cmp, is_eq}
use Rattle.std.specs.Cmp.Lexicographic.{slice_cmp}
use Rattle.std.specs.FinMap.{get, keys, contains_key-keys}
use Rattle.tree_disk.specs.cny-base.Path.{is_path, root, parent, last_name}
use Rattle.tree_disk.proofs.cny-base.Below.{parent_first}
use Rattle.tree_disk.specs.cny-base.declared.node.Node.{Node}
use Rattle.tree_disk.specs.cny-base.declared.node.Node.TheVariants.{Dir, File, Link}
use Rattle.tree_disk.specs.Tree.{Name, Tree, same_name, put, is_dir, is_child, is_node, may_stand, WellFormed}
use Rattle.tree_disk.specs.Rows.{is_dir_at, is_childless}
use Rattle.tree_disk.specs.Laws.{same_means, get_put}
use Rattle.tree_disk.proofs.Laws.{same_itself, same_tree, get_put_here, get_put_other, second as and_right}
use Rattle.tree_disk.proofs.Allowed.{put_well_formed, take_well_formed, no_children}
use Rattle.tree_nodes.specs.Edit.{can_edit}
use Rattle.tree_nodes.proofs.Children.{clash}
use Rattle.tree_disk.proofs.Nodes.{left_true as and_left}
use Rattle.tree_disk.proofs.cny-base.Bools.{not_false, or_left, or_right}
use Rattle.tree_disk.proofs.cny-base.Again.{not_true}

and_false : (x y : Bool) → (x && y) ≡ false → (x ≡ false) ⊎ (y ≡ false)
and_false true y h = inr h
and_false false y h = inl refl

own_parent : (p : Name) → is_path p ≡ true → same_name (parent p) p ≡ true → p ≡ root
own_parent p path h = ⊎_elim (λ top. top) (λ less. clash (same_name (parent p) p) h (ap is_eq less)) (parent_first p path)

child_gone : (t : Tree) (p : Name) → is_childless t p ≡ true → (q : Name) → is_some (get t q) ≡ true → same_name q root ≡ false → same_name (parent q) p ≡ false
child_gone t p none q stands other = ap (λ b. not b && same_name (parent q) p) (sym other) ∙ no_children t p q none stands

-- ---- it does

put_over : (t : Tree) (p : Name) (node : Node) → put (put t p None) p (Some node) ≡ put t p (Some node)
put_over t p node = same_tree _ _ (λ q.
    get_put (put t p None) p (Some node) q ∙ over (same_name q p) (Some node) (get (put t p None) q) (get t q) (λ h. get_put_other t p None q h) ∙ sym (get_put t p (Some node) q))
  where
    over : (b : Bool) (o x y : Option Node) → (b ≡ false → x ≡ y) → cond b o x ≡ cond b o y
    over true o x y e = refl
    over false o x y e = e refl

plain_well : (t : Tree) (p : Name) (node : Node) → WellFormed t → is_path p ≡ true → is_node node ≡ true → (not (same_name p root) && (is_dir_at t (parent p) && is_childless t p)) ≡ true → WellFormed (put t p (Some node))
plain_well t p node well path is can =
    let other = not_true (same_name p root) (and_left _ _ can) in
    let dir = and_left (is_dir_at t (parent p)) _ (and_right _ _ can) in
    let none = and_right (is_dir_at t (parent p)) _ (and_right _ _ can) in
    let apart : same_name (parent p) p ≡ false = ⊎_elim (λ h. clash (same_name p root) (ap (λ (n : Name). same_name n root) (own_parent p path h)) other) (λ h. h) (cases_Bool (same_name (parent p) p)) in
    let bare = take_well_formed t p well other (child_gone t p none) in
    subst WellFormed (put_over t p node)
    (put_well_formed (put t p None) p node bare path is (ap is_dir (get_put_other t p None (parent p) apart) ∙ dir) (inr (ap is_dir (get_put_here t p None))))

pub edit_well : (t : Tree) (p : Name) (o : Option Node) → WellFormed t → is_path p ≡ true → may_stand o ≡ true → can_edit t p o ≡ true → WellFormed (put t p o)
edit_well t p None well path is can = take_well_formed t p well (not_true _ (and_left _ _ can)) (child_gone t p (and_right _ _ can))
edit_well t p (Some (Dir mode)) well path is can = put_well_formed t p (Dir mode) well path is can (inl refl)
edit_well t p (Some (File mode bytes)) well path is can = plain_well t p (File mode bytes) well path is can
edit_well t p (Some (Link target)) well path is can = plain_well t p (Link target) well path is can

-- ---- and it doesn't

-- a name that passes a test, where some are left by it
some_passes : (f : Name → Bool) (g : Name → List ℕ) (names : List Name) → (length (map g (filter f names)) == 0) ≡ false → (q : Name) × (list_any (eq_by_cmp (slice_cmp nat_cmp) q) names ≡ true) × (f q ≡ true)
some_passes f g [] h = absurd (cc h)
some_passes f g (n ∷ names) h = at (f n) refl h (some_passes f g names)
  where
    at : (b : Bool) → f n ≡ b → (length (map g (cond b (n ∷ filter f names) (filter f names))) == 0) ≡ false
        → ((length (map g (filter f names)) == 0) ≡ false → (q : Name) × (list_any (eq_by_cmp (slice_cmp nat_cmp) q) names ≡ true) × (f q ≡ true))
        → (q : Name) × (list_any (eq_by_cmp (slice_cmp nat_cmp) q) (n ∷ names) ≡ true) × (f q ≡ true)
    at true is len rest = (n, or_left _ _ (same_itself n), is)
    at false is len rest = let more = rest len in (more.0, or_right (same_name more.0 n) _ more.1, more.2)

-- a child is left without a directory above it
orphan : (t : Tree) (p : Name) (o : Option Node) → is_path p ≡ true → is_dir o ≡ false → is_childless t p ≡ false → WellFormed (put t p o) → ⊥
orphan t p o path kind some well =
    let child = some_passes (is_child p) last_name (keys t) some in
    let q = child.0 in
    let other : same_name q root ≡ false = not_true _ (and_left _ _ child.2) in
    let below : same_name (parent q) p ≡ true = and_right (not (same_name q root)) _ child.2 in
    let apart : same_name q p ≡ false = ⊎_elim
    (λ h. let is = same_means q p h in
    clash (same_name q root) (ap (λ (n : Name). same_name n root) (is ∙ own_parent p path (ap (λ (n : Name). same_name (parent n) p) (sym is) ∙ below))) other)
    (λ h. h) (cases_Bool (same_name q p)) in
    let stands : is_some (get (put t p o) q) ≡ true = ap is_some (get_put_other t p o q apart) ∙ (contains_key-keys t q ∙ child.1) in
    clash (is_dir (get (put t p o) p)) (ap (λ (n : Name). is_dir (get (put t p o) n)) (sym (same_means (parent q) p below)) ∙ well.parents q stands) (ap is_dir (get_put_here t p o) ∙ kind)

no_top : (t : Tree) (p : Name) (o : Option Node) → is_dir o ≡ false → same_name p root ≡ true → WellFormed (put t p o) → ⊥
no_top t p o kind top well =
    clash (is_dir (get (put t p o) p)) (ap (λ (n : Name). is_dir (get (put t p o) n)) (same_means p root top) ∙ well.root_stands) (ap is_dir (get_put_here t p o) ∙ kind)

no_dir : (t : Tree) (p : Name) (node : Node) → WellFormed t → is_path p ≡ true → is_dir_at t (parent p) ≡ false → WellFormed (put t p (Some node)) → ⊥
no_dir t p node was path none well = ⊎_elim
    (λ h. let top = own_parent p path h in clash (is_dir_at t (parent p)) (ap (λ (n : Name). is_dir_at t (parent n)) top ∙ was.root_stands) none)
    (λ h. clash (is_dir_at t (parent p)) (sym (ap is_dir (get_put_other t p (Some node) (parent p) h)) ∙ well.parents p (ap is_some (get_put_here t p (Some node)))) none)
    (cases_Bool (same_name (parent p) p))

plain_not : (t : Tree) (p : Name) (node : Node) → is_dir (Some node) ≡ false → WellFormed t → is_path p ≡ true → (not (same_name p root) && (is_dir_at t (parent p) && is_childless t p)) ≡ false → WellFormed (put t p (Some node)) → ⊥
plain_not t p node kind was path can well = ⊎_elim
    (λ top. no_top t p (Some node) kind (not_false _ top) well)
    (λ rest. ⊎_elim (λ dir. no_dir t p node was path dir well) (λ some. orphan t p (Some node) path kind some well) (and_false _ _ rest))
    (and_false _ _ can)

pub edit_not : (t : Tree) (p : Name) (o : Option Node) → WellFormed t → is_path p ≡ true → can_edit t p o ≡ false → WellFormed (put t p o) → ⊥
edit_not t p None was path can well = ⊎_elim (λ top. no_top t p None refl (not_false _ top) well) (λ some. orphan t p None path refl some well) (and_false _ _ can)
edit_not t p (Some (Dir mode)) was path can well = no_dir t p (Dir mode) was path can well
edit_not t p (Some (File mode bytes)) was path can well = plain_not t p (File mode bytes) refl was path can well
edit_not t p (Some (Link target)) was path can well = plain_not t p (Link target) refl was path can well
