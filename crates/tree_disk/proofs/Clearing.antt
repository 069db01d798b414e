-- A name and all names below it, taken away.
use Rattle.std.proofs.Common.{◌≡◌, ◌≢◌, ⊎_elim, ℕ, suc, ◌+◌, ◌<◌, Bool, true, false, cond, not, ◌||◌, ◌&&◌, List, [], ◌∷◌, ◌++◌, map, length, Option, Some, None, is_some, ◌==◌, refl, sym, ◌∙◌, ap, subst, arith, get_or, take}
use Rattle.std.proofs.lemmas.Bool.{cases_Bool}
use Rattle.std.proofs.lemmas.List.{take_more}
use Rattle.std.specs.List.{list_any}
use Rattle.std.specs.FinMap.{get, keys, contains_key-keys}
use Rattle.cny_base.specs.Path.{is_path, root, parent, last_name, join}
use Rattle.cny_base.specs.Below.{is_below}
use Rattle.cny_base.proofs.Below.{child_below}
use Rattle.cny_base.specs.declared.node.Node.{Node}
use Rattle.tree_disk.specs.Tree.{Name, Tree, same_name, is_dir, is_file, is_link, is_child, children, WellFormed}
use Rattle.tree_disk.specs.Rows.{is_childless, can_remove, without}
use Rattle.tree_disk.specs.Laws.{same_means, get_put}
use Rattle.tree_disk.proofs.Laws.{same_tree}
use Rattle.tree_disk.specs.Clear.{is_within, without_tree, without_each}
use Rattle.tree_disk.proofs.ClearLaws.{by_name, within_join_below, get-without_tree}
use Rattle.tree_disk.proofs.Children.{none_any, not_below_itself, none_below, covered_up, filter_none}
use Rattle.cny_base.proofs.Bools.{or_right}

pub get-without_each : (t : Tree) (p : Name) (names : List (List ℕ)) (q : Name)
    → get (without_each t p names) q ≡ cond (list_any (λ last. is_within (join p last) q) names) None (get t q)
get-without_each t p [] q = refl
get-without_each t p (last ∷ names) q =
    get-without_each (without_tree t (join p last)) p names q
    ∙ ap (λ o. cond (list_any (λ n. is_within (join p n) q) names) None o) (get-without_tree t (join p last) q)
    ∙ by_name (is_within (join p last) q) (list_any (λ n. is_within (join p n) q) names) (get t q)

-- one name more
pub without_each-append : (t : Tree) (p : Name) (names : List (List ℕ)) (last : List ℕ)
    → without_each t p (names ++ last ∷ []) ≡ without_tree (without_each t p names) (join p last)
without_each-append t p [] last = refl
without_each-append t p (n ∷ names) last = without_each-append (without_tree t (join p n)) p names last

none_or : (b : Bool) (o : Option Node) → (is_some o ≡ true → b ≡ true) → cond b None o ≡ None
none_or true o covers = refl
none_or false None covers = refl
none_or false (Some node) covers = absurd (cc (covers refl))

-- ---- a directory without its children

module _ (t : Tree) (p : Name) (well : WellFormed t) (path : is_path p ≡ true) (other : p ≢ root) where
  get-emptied_below : (q : Name) → is_below p q ≡ true → get (without_each t p (children t p)) q ≡ None
  get-emptied_below q low = get-without_each t p (children t p) q ∙ none_or _ (get t q) (λ stands. covered_up t p well path (suc (length q)) q (omega arith) low stands)

  get-emptied_other : (q : Name) → is_below p q ≡ false → get (without_each t p (children t p)) q ≡ get t q
  get-emptied_other q not_low = get-without_each t p (children t p) q ∙ ap (λ b. cond b None (get t q)) (none_any (λ last. is_within (join p last) q) (children t p)
      (λ last. ⊎_elim (λ within. absurd (cc (within_join_below p last q path other within, not_low))) (λ without'. without') (cases_Bool (is_within (join p last) q))))

  pub without-emptied : without (without_each t p (children t p)) p ≡ without_tree t p
  without-emptied = same_tree (without (without_each t p (children t p)) p) (without_tree t p)
      (λ q. get_put (without_each t p (children t p)) p None q ∙ at q (same_name q p) (is_below p q) refl refl ∙ sym (get-without_tree t p q))
    where
      at : (q : Name) (same low : Bool) → same_name q p ≡ same → is_below p q ≡ low
          → cond (same_name q p) None (get (without_each t p (children t p)) q) ≡ cond (same_name q p || is_below p q) None (get t q)
      at q true low same is = ap (λ b. cond b None (get (without_each t p (children t p)) q)) same ∙ sym (ap (λ b. cond (b || is_below p q) None (get t q)) same)
      at q false true same is =
          ap (λ b. cond b None (get (without_each t p (children t p)) q)) same ∙ get-emptied_below q is
          ∙ sym (ap (λ b. cond (b || is_below p q) None (get t q)) same ∙ ap (λ b. cond b None (get t q)) is)
      at q false false same is =
          ap (λ b. cond b None (get (without_each t p (children t p)) q)) same ∙ get-emptied_other q is
          ∙ sym (ap (λ b. cond (b || is_below p q) None (get t q)) same ∙ ap (λ b. cond b None (get t q)) is)

  child_is_below : (q : Name) → is_child p q ≡ true → is_some (get (without_each t p (children t p)) q) ≡ true → is_below p q ≡ true
  child_is_below q child stands = ⊎_elim (λ low. low) (λ not_low. outside not_low) (cases_Bool (is_below p q))
    where
      first_of : (x y : Bool) → (not x && y) ≡ true → (x ≡ false) × (y ≡ true)
      first_of true y h = absurd (cc h)
      first_of false y h = (refl, h)

      -- a path lies below its parent, which isn't `/` here
      outside : is_below p q ≡ false → is_below p q ≡ true
      outside not_low =
          let is = same_means (parent q) p (first_of (same_name q root) (same_name (parent q) p) child).1 in
          let was : is_some (get t q) ≡ true = sym (ap is_some (get-emptied_other q not_low)) ∙ stands in
          ⊎_elim (λ top. absurd (other (sym is ∙ top))) (λ low. subst (λ x. is_below x q ≡ true) is low) (child_below q (well.paths q was))

  childless : is_childless (without_each t p (children t p)) p ≡ true
  childless = ap (λ (l : List Name). length (map last_name l) == 0) (filter_none (is_child p) (keys (without_each t p (children t p))) no_child)
    where
      no_child : (q : Name) → list_any (same_name q) (keys (without_each t p (children t p))) ≡ true → is_child p q ≡ false
      no_child q listed = ⊎_elim (λ child. absurd (here child)) (λ no_one. no_one) (cases_Bool (is_child p q))
        where
          stands : is_some (get (without_each t p (children t p)) q) ≡ true
          stands = contains_key-keys (without_each t p (children t p)) q ∙ listed

          here : is_child p q ≡ true → ⊥
          here child = absurd (cc (ap is_some (get-emptied_below q (child_is_below q child stands)), stands))

  not_root : same_name p root ≡ false
  not_root = ⊎_elim (λ same. absurd (other (same_means p root same))) (λ no_same. no_same) (cases_Bool (same_name p root))

  removable : (u : Tree) → (is_file (get u p) || (is_link (get u p) || (is_dir (get u p) && is_childless u p))) ≡ true
      → can_remove u p ≡ true
  removable u is = ap (λ b. not b && (is_file (get u p) || (is_link (get u p) || (is_dir (get u p) && is_childless u p)))) not_root ∙ is

  pub may_remove_emptied : is_dir (get t p) ≡ true → can_remove (without_each t p (children t p)) p ≡ true
  may_remove_emptied dir = removable (without_each t p (children t p)) (or_right (is_file (get u p)) _ (or_right (is_link (get u p)) _ (and_both _ _ still childless)))
    where
      u : Tree
      u = without_each t p (children t p)

      still : is_dir (get (without_each t p (children t p)) p) ≡ true
      still = ap is_dir (get-emptied_other p (not_below_itself p)) ∙ dir

      and_both : (x y : Bool) → x ≡ true → y ≡ true → (x && y) ≡ true
      and_both true y left right = right
      and_both false y left right = left

-- ---- where no directory stands, nothing stands below

module _ (t : Tree) (p : Name) (well : WellFormed t) (path : is_path p ≡ true) (no_dir : is_dir (get t p) ≡ false) where
  pub without-leaf : without t p ≡ without_tree t p
  without-leaf = same_tree (without t p) (without_tree t p) (λ q. get_put t p None q ∙ at q (same_name q p) (is_below p q) refl refl ∙ sym (get-without_tree t p q))
    where
      at : (q : Name) (same low : Bool) → same_name q p ≡ same → is_below p q ≡ low
          → cond (same_name q p) None (get t q) ≡ cond (same_name q p || is_below p q) None (get t q)
      at q true low same is = ap (λ b. cond b None (get t q)) same ∙ sym (ap (λ b. cond (b || is_below p q) None (get t q)) same)
      at q false true same is =
          ap (λ b. cond b None (get t q)) same ∙ none_below t p q well path no_dir is ∙ sym (ap (λ b. cond (b || is_below p q) None (get t q)) same ∙ ap (λ b. cond b None (get t q)) is)
      at q false false same is =
          ap (λ b. cond b None (get t q)) same ∙ sym (ap (λ b. cond (b || is_below p q) None (get t q)) same ∙ ap (λ b. cond b None (get t q)) is)

pub without-nothing : (t : Tree) (p : Name) → WellFormed t → is_path p ≡ true → get t p ≡ None → without_tree t p ≡ t
without-nothing t p well path none = sym (without-leaf t p well path (ap is_dir none)) ∙ same_tree (without t p) t (λ q. get_put t p None q ∙ at q (same_name q p) refl)
  where
    at : (q : Name) (same : Bool) → same_name q p ≡ same → cond (same_name q p) None (get t q) ≡ get t q
    at q true same = ap (λ b. cond b None (get t q)) same ∙ sym (ap (get t) (same_means q p same) ∙ none)
    at q false same = ap (λ b. cond b None (get t q)) same

-- a loop over the last names has cleared one more
pub one_more_cleared : (t : Tree) (p : Name) (names : List (List ℕ)) (i : ℕ) (last : List ℕ) → i < length names
    → last ≡ get_or names i last
    → without_tree (without_each t p (take i names)) (join p last) ≡ without_each t p (take (i + 1) names)
one_more_cleared t p names i last within is =
    sym (ap (without_each t p) (take_more names i last within ∙ ap (λ x. take i names ++ x ∷ []) (sym is)) ∙ without_each-append t p (take i names) last)

-- ---- the same, by what a list answered

-- a directory whose children went may be removed
pub may_remove_after : (t mid after : Tree) (p : Name) (names : List (List ℕ)) → WellFormed t → is_path p ≡ true → p ≢ root
    → mid ≡ t → names ≡ children t p → after ≡ without_each mid p names → is_dir (get t p) ≡ true → can_remove after p ≡ true
may_remove_after t mid after p names well path other same listed emptied dir =
    ap (λ u. can_remove u p) (emptied ∙ ap (λ u. without_each u p names) same ∙ ap (without_each t p) listed) ∙ may_remove_emptied t p well path other dir

-- and then nothing stands at it and below it
pub without_after : (t : Tree) (p : Name) (names : List (List ℕ)) → WellFormed t → is_path p ≡ true → p ≢ root
    → names ≡ children t p → without (without_each t p names) p ≡ without_tree t p
without_after t p names well path other listed = ap (λ l. without (without_each t p l) p) listed ∙ without-emptied t p well path other
