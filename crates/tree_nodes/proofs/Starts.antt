-- When a list of nodes is a tree.
use Rattle.std.proofs.Common.{◌≡◌, Bool, true, false, cond, ◌&&◌, ◌||◌, List, [], ◌∷◌, map, Some, refl, sym, ◌∙◌, ap, subst, ⊎_elim}
use Rattle.std.proofs.lemmas.Bool.{cases_Bool}
use Rattle.std.specs.Option.{is_some}
use Rattle.std.specs.List.{list_all, list_any}
use Rattle.std.specs.Ordering.{nat_cmp, eq_by_cmp}
use Rattle.std.specs.Cmp.Lexicographic.{slice_cmp, nat_list_cmp_total}
use Rattle.std.specs.FinMap.{get, from_entries, get-from_entries}
use Rattle.std.specs.FinMap.Entries as Entries
use Rattle.tree_disk.specs.cny-base.Path.{is_path, root, parent}
use Rattle.tree_disk.specs.cny-base.declared.node.Node.{Node}
use Rattle.tree_disk.specs.Tree.{Name, Tree, same_name, is_dir, is_node, may_stand, WellFormed}
use Rattle.tree_disk.specs.Laws.{same_means}
use Rattle.tree_disk.proofs.Laws.{same_itself, second as right_true}
use Rattle.tree_nodes.specs.Start.{stands_right, holds}
use Rattle.tree_disk.proofs.Nodes.{left_true}
use Rattle.tree_disk.proofs.cny-base.Bools.{both}

abbrev listed : Name → List (Name × Node) → Bool
listed q es = list_any (eq_by_cmp (slice_cmp nat_cmp) q) (map (λ e. e.0) es)

stands : (es : List (Name × Node)) (q : Name) → is_some (get (from_entries {R = slice_cmp nat_cmp} es) q) ≡ listed q es
stands es q = ap is_some (get-from_entries nat_list_cmp_total es q) ∙ Entries.is_some-find (slice_cmp nat_cmp) q es

-- what holds of each entry holds at a listed name
at_listed : (Q : Name → Bool) (es : List (Name × Node)) (q : Name) → list_all (λ e. Q e.0) es ≡ true → listed q es ≡ true → Q q ≡ true
at_listed Q [] q all any = absurd (cc any)
at_listed Q (e ∷ es) q all any = ⊎_elim
    (λ h. ap Q (same_means q e.0 h) ∙ left_true (Q e.0) _ all)
    (λ h. at_listed Q es q (right_true (Q e.0) _ all) (ap (λ b. b || listed q es) (sym h) ∙ any))
    (cases_Bool (same_name q e.0))

all_listed : (Q : Name → Bool) (es : List (Name × Node)) → ((q : Name) → listed q es ≡ true → Q q ≡ true) → list_all (λ e. Q e.0) es ≡ true
all_listed Q [] each = refl
all_listed Q (e ∷ es) each =
    both (Q e.0) _ (each e.0 (ap (λ b. b || listed e.0 es) (same_itself e.0))) (all_listed Q es (λ q h. each q (or_right (same_name q e.0) _ h)))
  where
    or_right : (x y : Bool) → y ≡ true → (x || y) ≡ true
    or_right true y h = refl
    or_right false y h = h

-- what is found among nodes that a disk can hold is one
found_node : (es : List (Name × Node)) (q : Name) → list_all holds es ≡ true → may_stand (Entries.find (slice_cmp nat_cmp) q es) ≡ true
found_node [] q all = refl
found_node (e ∷ es) q all = by (same_name q e.0) (found_node es q (right_true (is_node e.1) _ all))
  where
    by : (b : Bool) → may_stand (Entries.find (slice_cmp nat_cmp) q es) ≡ true → may_stand (cond b (Some e.1) (Entries.find (slice_cmp nat_cmp) q es)) ≡ true
    by true rest = left_true (is_node e.1) _ all
    by false rest = rest

module _ (es : List (Name × Node)) (t : Tree) (same : t ≡ from_entries es) where
  abbrev Q : Name → Bool
  Q q = is_path q && is_dir (get t (parent q))

  pub tree_from : (top parents : Bool) → list_all holds es ≡ true → top ≡ is_dir (get t root) → top ≡ true → parents ≡ list_all (stands_right t) es → parents ≡ true → WellFormed (from_entries es)
  tree_from top parents hold is there all good =
      subst WellFormed same (record {
        paths = λ q h. left_true (is_path q) _ (at q h);
        root_stands = sym is ∙ there;
        parents = λ q h. right_true (is_path q) _ (at q h);
        nodes = λ q. ap (λ (u : Tree). may_stand (get u q)) same ∙ ap may_stand (get-from_entries nat_list_cmp_total es q) ∙ found_node es q hold;
      })
    where
      at : (q : Name) → is_some (get t q) ≡ true → Q q ≡ true
      at q h = at_listed Q es q (sym all ∙ good) (sym (stands es q) ∙ ap (λ (u : Tree). is_some (get u q)) (sym same) ∙ h)

  pub no_tree_from : (parents : Bool) → parents ≡ list_all (stands_right t) es → parents ≡ false → WellFormed (from_entries es) → ⊥
  no_tree_from parents all bad well =
      let tree : WellFormed t = subst WellFormed (sym same) well in
      let good : list_all (stands_right t) es ≡ true = all_listed Q es (λ q h.
      let here : is_some (get t q) ≡ true = ap (λ (u : Tree). is_some (get u q)) same ∙ stands es q ∙ h in
      both _ _ (tree.paths q here) (tree.parents q here)) in
      absurd (cc (bad, all, good))
