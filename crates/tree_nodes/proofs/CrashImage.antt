-- What a crash leaves is an image.
use Rattle.std.proofs.Common.{◌≡◌, ◌⊎◌, inl, inr, ⊎_elim, ℕ, ◌+◌, ◌<◌, suc, zero, Bool, true, false, cond, ◌||◌, ◌&&◌, not, List, [], ◌∷◌, length, Option, None, refl, sym, ◌∙◌, ap, arith}
use Rattle.std.proofs.lemmas.Bool.{cases_Bool}
use Rattle.std.specs.Option.{is_some}
use Rattle.std.specs.declared.cmp.Ordering.{Ordering}
use Rattle.std.specs.declared.cmp.Ordering.TheVariants.{Less}
use Rattle.std.specs.List.{list_any, AllByRecursion}
use Rattle.std.specs.List.Sorted.{IsStrictlySortedBy}
use Rattle.std.specs.Ordering.{eq_by_cmp, is_eq}
use Rattle.std.specs.Cmp.Lexicographic.{nat_list_cmp_total}
use Rattle.std.specs.FinMap.{get, keys, contains_key-keys}
use Rattle.tree_disk.specs.cny-base.Path.{is_path, root, parent}
use Rattle.tree_disk.specs.cny-base.Below.{is_below}
use Rattle.tree_disk.proofs.cny-base.Below.{below_parent, above_parent, child_below, parent_first, none_below_root, parent_shorter}
use Rattle.tree_disk.specs.cny-base.declared.node.Node.{Node}
use Rattle.tree_disk.specs.Tree.{Name, Tree, same_name, put, is_dir, WellFormed}
use Rattle.tree_disk.specs.Laws.{same_means}
use Rattle.tree_disk.proofs.Laws.{same_itself, get_put_here, get_put_other}
use Rattle.tree_disk.specs.Disk.{IsCrashImage}
use Rattle.tree_nodes.specs.Crash.{digit, meant, is_held, picked, left_by, AreInOrder, HoldsNodes}
use Rattle.tree_nodes.proofs.Between.{R}
use Rattle.tree_nodes.proofs.Children.{clash}
use Rattle.tree_disk.proofs.cny-base.Bools.{or_left, or_right, first_false as false_left, second_false as false_right}
use Rattle.tree_disk.proofs.Children.{some_dir as dir_stands, or_none as or_false}
use Rattle.tree_disk.proofs.Names.{no_path}

abbrev listed : Name → List Name → Bool
listed p names = list_any (eq_by_cmp R p) names

not_same : (p q : Name) (o : Ordering) → R p q ≡ o → o ≡ Less → same_name p q ≡ false
not_same p q o is less = ap is_eq (is ∙ less)

-- ---- in order

before_all : (x p : Name) (names : List Name) → (x ≡ p) ⊎ (R x p ≡ Less) → AllByRecursion (λ y. R p y ≡ Less) names → listed x names ≡ false
before_all x p [] first all = refl
before_all x p (y ∷ names) first all =
    or_false (same_name x y) (listed x names)
    (⊎_elim (λ e. ap (λ (n : Name). same_name n y) e ∙ not_same p y (R p y) refl all.0) (λ less. not_same x y (R x y) refl (nat_list_cmp_total.trans x p y less all.0)) first)
    (before_all x p names first all.1)

-- ---- above a standing name

-- what lies above a standing name is a directory; n bounds the length
above_by : (n : ℕ) (t : Tree) (p q : Name) → WellFormed t → is_path p ≡ true → length q < n → is_some (get t q) ≡ true → is_below p q ≡ true → is_dir (get t p) ≡ true
above_by zero t p q well path short stands below = absurd (omega arith)
above_by (suc n) t p q well path short stands below = ⊎_elim
    (λ is. ap (λ (m : Name). is_dir (get t m)) is ∙ well.parents q stands)
    (λ deeper. ⊎_elim
    (λ top. absurd (none_below_root p path (ap (is_below p) (sym top) ∙ below)))
    (λ less. above_by n t p (parent q) well path (omega (arith, short, less)) (dir_stands (get t (parent q)) (well.parents q stands)) deeper)
    (parent_shorter q (well.paths q stands)))
    (below_parent p q (no_path p path) below)

pub above : (t : Tree) (p q : Name) → WellFormed t → is_path p ≡ true → is_some (get t q) ≡ true → is_below p q ≡ true → is_dir (get t p) ≡ true
above t p q well path stands below = above_by (suc (length q)) t p q well path (omega arith) stands below

-- ---- held names

-- the test of a held name, at one name below it
holds : (unsynced : Name → Bool) (p q : Name) (names : List Name) → listed q names ≡ true → unsynced q ≡ false → is_below p q ≡ true → list_any (λ r. not (unsynced r) && is_below p r) names ≡ true
holds unsynced p q [] any same below = absurd (cc any)
holds unsynced p q (n ∷ names) any same below = ⊎_elim
    (λ h. or_left _ _ (ap (λ (r : Name). not (unsynced r) && is_below p r) (sym (same_means q n h)) ∙ ap (λ b. not b && is_below p q) same ∙ below))
    (λ h. or_right _ _ (holds unsynced p q names (ap (λ b. b || listed q names) (sym h) ∙ any) same below))
    (cases_Bool (same_name q n))

-- and back
held_by : (unsynced : Name → Bool) (p : Name) (names : List Name) → list_any (λ r. not (unsynced r) && is_below p r) names ≡ true → (q : Name) × (listed q names ≡ true) × (unsynced q ≡ false) × (is_below p q ≡ true)
held_by unsynced p [] any = absurd (cc any)
held_by unsynced p (n ∷ names) any = ⊎_elim
    (λ h. (n, or_left _ _ (same_itself n), not_true (unsynced n) (and_left _ _ h), and_right (not (unsynced n)) _ h))
    (λ h. let more = held_by unsynced p names (ap (λ b. b || list_any (λ r. not (unsynced r) && is_below p r) names) (sym h) ∙ any) in (more.0, or_right (same_name more.0 n) _ more.1, more.2, more.3))
    (cases_Bool (not (unsynced n) && is_below p n))
  where
    not_true : (b : Bool) → not b ≡ true → b ≡ false
    not_true true h = absurd (cc h)
    not_true false h = refl

    and_left : (x y : Bool) → (x && y) ≡ true → x ≡ true
    and_left true y h = refl
    and_left false y h = absurd (cc h)

    and_right : (x y : Bool) → (x && y) ≡ true → y ≡ true
    and_right true y h = h
    and_right false y h = absurd (cc h)

module _ (reads synced : Tree) (unsynced : Name → Bool) (well : WellFormed reads) where
  held_above : (p q : Name) → is_some (get reads q) ≡ true → unsynced q ≡ false → (p ≡ root) ⊎ (is_below p q ≡ true) → is_held reads unsynced p ≡ true
  held_above p q stands same = ⊎_elim
      (λ top. ap (is_held reads unsynced) top)
      (λ below. or_right (same_name p root) _ (holds unsynced p q (keys reads) (sym (contains_key-keys reads q) ∙ stands) same below))

  -- what is held is a directory, and so is its parent held
  held_dir : (p : Name) → is_path p ≡ true → is_held reads unsynced p ≡ true → is_dir (get reads p) ≡ true
  held_dir p path held = ⊎_elim
      (λ h. ap (λ (n : Name). is_dir (get reads n)) (same_means p root h) ∙ well.root_stands)
      (λ h. let by = held_by unsynced p (keys reads) (ap (λ b. b || list_any (λ r. not (unsynced r) && is_below p r) (keys reads)) (sym h) ∙ held) in
      above reads p by.0 well path (contains_key-keys reads by.0 ∙ by.1) by.3)
      (cases_Bool (same_name p root))

  held_parent : (p : Name) → is_path p ≡ true → is_held reads unsynced p ≡ true → is_held reads unsynced (parent p) ≡ true
  held_parent p path held = ⊎_elim
      (λ h. ap (λ (n : Name). is_held reads unsynced (parent n)) (same_means p root h))
      (λ h. let by = held_by unsynced p (keys reads) (ap (λ b. b || list_any (λ r. not (unsynced r) && is_below p r) (keys reads)) (sym h) ∙ held) in
      held_above (parent p) by.0 (contains_key-keys reads by.0 ∙ by.1) by.2 (above_parent p by.0 path by.3))
      (cases_Bool (same_name p root))

  -- ---- one unsynced name after another

  -- what holds of the tree while these names are still to do
  record Going (t : Tree) (names : List Name) : Type 0 where
    others : (p : Name) → unsynced p ≡ false → get t p ≡ get reads p
    paths : (p : Name) → is_some (get t p) ≡ true → is_path p ≡ true
    held : (p : Name) → is_path p ≡ true → is_held reads unsynced p ≡ true → is_dir (get t p) ≡ true
    done : (p : Name) → is_some (get t p) ≡ true → unsynced p ≡ true → listed p names ≡ false → (is_dir (get t (parent p)) ≡ true) × (listed (parent p) names ≡ false)

  begin : (names : List Name) → ((p : Name) → unsynced p ≡ true → listed p names ≡ true) → Going reads names
  begin names all = record {
    others = λ p h. refl;
    paths = well.paths;
    held = held_dir;
    done = λ p stands changed none. clash (listed p names) (all p changed) none;
  }

  -- the node that is put
  abbrev node_of : (t : Tree) (d : ℕ) (p : Name) → Option Node
  node_of t d p = cond (is_dir (get t (parent p))) (picked reads synced unsynced d p) None

  some_dir : (b : Bool) (o : Option Node) → is_some (cond b o None) ≡ true → b ≡ true
  some_dir true o h = refl
  some_dir false o h = absurd (cc h)

  held_node : (h w : Bool) (o r : Option Node) → h ≡ true → is_dir r ≡ true → is_dir o ≡ w → is_dir (cond (h && not w) r o) ≡ true
  held_node true true o r held reads is = is
  held_node true false o r held reads is = reads
  held_node false w o r held reads is = absurd (cc held)

  module _ (t : Tree) (d : ℕ) (p : Name) (names : List Name) (going : Going t (p ∷ names)) (path : is_path p ≡ true) (changed : unsynced p ≡ true) (sorted : AllByRecursion (λ y. R p y ≡ Less) names) where
    put_here : get (put t p (node_of t d p)) p ≡ node_of t d p
    put_here = get_put_here t p (node_of t d p)

    put_other : (q : Name) → same_name q p ≡ false → get (put t p (node_of t d p)) q ≡ get t q
    put_other q h = get_put_other t p (node_of t d p) q h

    held_step : (q : Name) → is_path q ≡ true → is_held reads unsynced q ≡ true → is_dir (get (put t p (node_of t d p)) q) ≡ true
    held_step q path_q held = ⊎_elim
        (λ h. let is = same_means q p h in
        let held_p : is_held reads unsynced p ≡ true = ap (is_held reads unsynced) (sym is) ∙ held in
        let up : is_dir (get t (parent p)) ≡ true = going.held (parent p) (parent_path held_p) (held_parent p path held_p) in
        ap (λ (n : Name). is_dir (get (put t p (node_of t d p)) n)) is
        ∙ ap is_dir put_here
        ∙ ap (λ b. is_dir (cond b (picked reads synced unsynced d p) None)) up
        ∙ held_node (is_held reads unsynced p) (is_dir (meant reads synced d p)) (meant reads synced d p) (get reads p) held_p (held_dir p path held_p) refl)
        (λ h. ap is_dir (put_other q h) ∙ going.held q path_q held)
        (cases_Bool (same_name q p))
      where
        parent_path : is_held reads unsynced p ≡ true → is_path (parent p) ≡ true
        parent_path h = well.paths (parent p) (dir_stands (get reads (parent p)) (well.parents p (dir_stands (get reads p) (held_dir p path h))))

    step : Going (put t p (node_of t d p)) names
    step = record {
      others = λ q h. put_other q (apart q h) ∙ going.others q h;
      paths = λ q stands. ⊎_elim
          (λ h. ap is_path (same_means q p h) ∙ path)
          (λ h. going.paths q (ap is_some (sym (put_other q h)) ∙ stands))
          (cases_Bool (same_name q p));
      held = held_step;
      done = λ q stands changed_q none. ⊎_elim (here q stands) (there q stands changed_q none) (cases_Bool (same_name q p));
    }
      where
        apart : (q : Name) → unsynced q ≡ false → same_name q p ≡ false
        apart q h = ⊎_elim (λ e. clash (unsynced p) changed (ap unsynced (sym (same_means q p e)) ∙ h)) (λ e. e) (cases_Bool (same_name q p))

        up_first : (parent p ≡ p) ⊎ (R (parent p) p ≡ Less)
        up_first = ⊎_elim (λ top. inl (ap parent top ∙ sym top)) (λ less. inr less) (parent_first p path)

        stays_dir : is_dir (get t (parent p)) ≡ true → is_some (node_of t d p) ≡ true → is_dir (get (put t p (node_of t d p)) (parent p)) ≡ true
        stays_dir up some = ⊎_elim
            (λ top. ap (λ (n : Name). is_dir (get (put t p (node_of t d p)) (parent n))) top ∙ held_step root refl refl)
            (λ less. ap is_dir (put_other (parent p) (not_same (parent p) p (R (parent p) p) refl less)) ∙ up)
            (parent_first p path)

        here : (q : Name) → is_some (get (put t p (node_of t d p)) q) ≡ true → same_name q p ≡ true → (is_dir (get (put t p (node_of t d p)) (parent q)) ≡ true) × (listed (parent q) names ≡ false)
        here q stands h =
            let is = same_means q p h in
            let some : is_some (node_of t d p) ≡ true = ap is_some (sym put_here) ∙ ap (λ (n : Name). is_some (get (put t p (node_of t d p)) n)) (sym is) ∙ stands in
            let up = some_dir (is_dir (get t (parent p))) (picked reads synced unsynced d p) some in (
              ap (λ (n : Name). is_dir (get (put t p (node_of t d p)) (parent n))) is ∙ stays_dir up some,
              ap (λ (n : Name). listed (parent n) names) is ∙ before_all (parent p) p names up_first sorted,
            )

        there : (q : Name) → is_some (get (put t p (node_of t d p)) q) ≡ true → unsynced q ≡ true → listed q names ≡ false → same_name q p ≡ false → (is_dir (get (put t p (node_of t d p)) (parent q)) ≡ true) × (listed (parent q) names ≡ false)
        there q stands changed_q none h =
            let was = going.done q (ap is_some (sym (put_other q h)) ∙ stands) changed_q (or_false (same_name q p) (listed q names) h none) in
            (ap is_dir (put_other (parent q) (false_left (same_name (parent q) p) (listed (parent q) names) was.1)) ∙ was.0, false_right (same_name (parent q) p) (listed (parent q) names) was.1)

  -- ---- all of them

  goes : (pick k : ℕ) (names : List Name) (t : Tree) → Going t names → IsStrictlySortedBy R names → ((p : Name) → listed p names ≡ true → unsynced p ≡ true) → ((p : Name) → unsynced p ≡ true → is_path p ≡ true) → Going (left_by reads synced unsynced pick k names t) []
  unfolding IsStrictlySortedBy
  goes pick k [] t going sorted changed paths = going
  goes pick k (p ∷ names) t going sorted changed paths =
      let here : unsynced p ≡ true = changed p (or_left _ _ (same_itself p)) in
      goes pick (k + 1) names (put t p (node_of t (digit pick k) p))
      (step t (digit pick k) p names going (paths p here) here sorted.0) sorted.1
      (λ q h. changed q (or_right (same_name q p) _ h)) paths

  left : (t : Tree) → Going t [] → (p : Name) → is_some (get t p) ≡ true → is_dir (get t (parent p)) ≡ true
  left t going p stands = ⊎_elim
      (λ h. (going.done p stands h refl).0)
      (λ h.
      let stood : is_some (get reads p) ≡ true = ap is_some (sym (going.others p h)) ∙ stands in
      let path = dir_stands (get reads (parent p)) (well.parents p stood) in
      going.held (parent p) (well.paths (parent p) path) (held_above (parent p) p stood h (child_below p (going.paths p stands))))
      (cases_Bool (unsynced p))

  -- the tree that is left is a crash image
  pub left_image : (pick : ℕ) (names : List Name) → AreInOrder unsynced names → ((p : Name) → unsynced p ≡ true → is_path p ≡ true) → HoldsNodes (left_by reads synced unsynced pick 0 names reads) → IsCrashImage reads unsynced (left_by reads synced unsynced pick 0 names reads)
  left_image pick names all paths nodes =
      let going = goes pick 0 names reads (begin names (λ p h. all.all p ∙ h)) all.sorted (λ p h. sym (all.all p) ∙ h) paths in
      record {
        well_formed = record {
          paths = going.paths;
          root_stands = going.held root refl refl;
          parents = left (left_by reads synced unsynced pick 0 names reads) going;
          nodes = nodes;
        };
        synced = going.others;
      }
