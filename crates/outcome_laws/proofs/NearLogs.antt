-- The tree of the machine beside the one that a log and edits put: while the edits block the log, the machine passes over an edit that would
-- leave no tree. Once what they put is a tree, it is that of the machine.
use Rattle.std.proofs.Common.{◌≡◌, ◌⊎◌, inl, inr, ⊎_elim, ◌+◌, Bool, true, false, cond, ◌&&◌, not, List, [], ◌∷◌, length, Option, Some, None, refl, sym, ap, ◌∙◌, subst, length-append, arith}
use Rattle.std.specs.Prelude.{is_some}
use Rattle.std.specs.List.{list_any}
use Rattle.std.specs.FinMap.{get, keys, contains_key-keys}
use Rattle.std.proofs.lemmas.Bool.{cases_Bool}
use Rattle.conary_cli.specs.cli-call.cny-base.Below.{is_below}
use Rattle.conary_cli.specs.cli-call.cny-base.Path.{is_path, parent, root}
use Rattle.conary_cli.specs.cli-call.cny-base.Reserved.{is_reserved}
use Rattle.conary_cli.specs.cli-call.cny-base.declared.node.Node.{Node}
use Rattle.conary_cli.specs.cli-call.cny-base.declared.node.Node.TheVariants.{Dir, File, Link}
use Rattle.tree_nodes.proofs.cny-base.Below.{below_rest, child_below}
use Rattle.tree_nodes.proofs.cny-base.Bools.{not_false, or_left, or_right}
use Rattle.tree_nodes.proofs.cny-base.Parent.{parent_is_path}
use Rattle.conary_cli.specs.cli-call.tree-disk.Laws.{get_put, same_means}
use Rattle.conary_cli.specs.cli-call.tree-disk.Rows.{is_childless, is_dir_at}
use Rattle.conary_cli.specs.cli-call.tree-disk.Tree.{Name, Tree, is_child, is_dir, may_stand, put, same_name, WellFormed}
use Rattle.conary_cli.proofs.cli-call.tree-disk.Laws.{get_put_here, get_put_other, same_itself, same_tree, second}
use Rattle.tree_nodes.proofs.tree-disk.Children.{childless_from, none_below, stands_or_not}
use Rattle.tree_nodes.proofs.tree-disk.ClearLaws.{below_trans, or_cases}
use Rattle.tree_nodes.specs.Edit.{can_edit}
use Rattle.tree_nodes.proofs.Edits.{edit_not, edit_well}
use Rattle.conary_cli.specs.cli-call.journal-log.declared.put.Put.{Put}
use Rattle.conary_cli.specs.cli-call.journal-log.Targets.{is_target}
use Rattle.conary_cli.proofs.cli-call.local-db.Putting.{parent_outer}
use Rattle.conary_cli.proofs.cli-call.local-db.Writes.{not_both}
use Rattle.conary_cli.proofs.cli-call.cny-laws.EditedTrees.{differs_by, reserved_kept, same_or_other}

-- ---- where the two trees may differ

-- a target of the log above a name is no directory
pub record IsUnder (puts : List Put) (w : Tree) (q : Name) : Type 0 where
  pub above : Name
  pub target : is_target puts above ≡ true
  pub path : is_path above ≡ true
  pub below : is_below above q ≡ true
  pub no_dir : is_dir (get w above) ≡ false

-- a target of the log stands below a name that is no directory
pub record IsOver (puts : List Put) (w : Tree) (q : Name) : Type 0 where
  pub lower : Name
  pub target : is_target puts lower ≡ true
  pub path : is_path q ≡ true
  pub below : is_below q lower ≡ true
  pub stands : is_some (get w lower) ≡ true
  pub no_dir : is_dir (get w q) ≡ false

-- the same stands at a name, or it is one of these
abbrev pub IsNearAt : List Put → Tree → Tree → Name → Type 0
IsNearAt puts w m q = (get m q ≡ get w q) ⊎ (IsUnder puts w q ⊎ IsOver puts w q)

-- The machine's tree m and what is put, w: the two have the same at the log's paths.
pub record IsNear (puts : List Put) (w m : Tree) : Type 0 where
  pub formed : WellFormed m
  pub managed : (q : Name) → is_reserved q ≡ true → get m q ≡ None
  pub placed : (q : Name) → is_target puts q ≡ true → get m q ≡ get w q
  pub free : (q : Name) → is_target puts q ≡ false → IsNearAt puts w m q

pub near_itself : (puts : List Put) (t : Tree) → WellFormed t → ((q : Name) → is_reserved q ≡ true → get t q ≡ None) → IsNear puts t t
near_itself puts t formed managed = record { formed = formed; managed = managed; placed = λ q target. refl; free = λ q free. inl refl }

-- Where what is put is a tree, the two are the same.
pub near_same : (puts : List Put) (w m : Tree) → WellFormed w → IsNear puts w m → m ≡ w
near_same puts w m formed near = same_tree m w (λ q. ⊎_elim (λ target. near.placed q target) (λ free. same q (near.free q free)) (cases_Bool (is_target puts q)))
  where
    same : (q : Name) → IsNearAt puts w m q → get m q ≡ get w q
    same q (inl is) = is
    same q (inr (inl u)) = none_below m u.above q near.formed u.path (ap is_dir (near.placed u.above u.target) ∙ u.no_dir) u.below ∙ sym (none_below w u.above q formed u.path u.no_dir u.below)
    same q (inr (inr o)) = not_both (is_some (get w o.lower)) o.stands (ap is_some (none_below w q o.lower formed o.path o.no_dir o.below))

-- ---- names

-- no name is below itself
never_itself : (p q : Name) → is_below p q ≡ true → q ≡ p → ⊥
never_itself p q low is =
    let more = below_rest p q low in
    let long : length q ≡ length p + length (47 ∷ more.0) = ap (λ (l : Name). length l) more.1 ∙ length-append p (47 ∷ more.0) in
    let same : length q ≡ length p = ap (λ (l : Name). length l) is in
    absurd (omega (arith, long, same))

lower_apart : (p q : Name) → is_below p q ≡ true → same_name q p ≡ false
lower_apart p q low = ⊎_elim (λ is. absurd (never_itself p q low is)) (λ other. other) (same_or_other q p)

upper_apart : (p q : Name) → is_below p q ≡ true → same_name p q ≡ false
upper_apart p q low = ⊎_elim (λ is. absurd (never_itself p q low (sym is))) (λ other. other) (same_or_other p q)

-- the first of some names that passes a test, or none does
first_passing : (f : Name → Bool) (names : List Name) → ((q : Name) × (list_any (same_name q) names ≡ true) × (f q ≡ true)) ⊎ ((q : Name) → list_any (same_name q) names ≡ true → f q ≡ false)
first_passing f [] = inr (λ q any. absurd (cc any))
first_passing f (n ∷ names) = by (f n) refl (first_passing f names)
  where
    by : (b : Bool) → f n ≡ b → ((q : Name) × (list_any (same_name q) names ≡ true) × (f q ≡ true)) ⊎ ((q : Name) → list_any (same_name q) names ≡ true → f q ≡ false)
        → ((q : Name) × (list_any (same_name q) (n ∷ names) ≡ true) × (f q ≡ true)) ⊎ ((q : Name) → list_any (same_name q) (n ∷ names) ≡ true → f q ≡ false)
    by true is later = inl (n, or_left (same_name n n) (list_any (same_name n) names) (same_itself n), is)
    by false is (inl found) = inl (found.0, or_right (same_name found.0 n) (list_any (same_name found.0) names) found.1, found.2)
    by false is (inr none) = inr (λ q any. ⊎_elim (λ same. ap f (same_means q n same) ∙ is) (λ more. none q more) (or_cases (same_name q n) (list_any (same_name q) names) any))

-- a name with children has one
pub record HasChild (m : Tree) (p : Name) : Type 0 where
  pub child : Name
  pub stands : is_some (get m child) ≡ true
  pub is : is_child p child ≡ true

one_child : (m : Tree) (p : Name) → is_childless m p ≡ false → HasChild m p
one_child m p some = by (first_passing (is_child p) (keys m))
  where
    by : ((q : Name) × (list_any (same_name q) (keys m) ≡ true) × (is_child p q ≡ true)) ⊎ ((q : Name) → list_any (same_name q) (keys m) ≡ true → is_child p q ≡ false) → HasChild m p
    by (inl found) = record { child = found.0; stands = contains_key-keys m found.0 ∙ found.1; is = found.2 }
    by (inr none) = not_both (is_childless m p) (childless_from m p (λ q stands. none q (sym (contains_key-keys m q) ∙ stands))) some

-- ---- why an edit leaves no tree

-- its path is `/`, which wouldn't be a directory; its parent isn't one; or something stands below it
data WhyNot (m : Tree) (p : Name) (n : Option Node) : Type 0 where
  top : same_name p root ≡ true → is_dir n ≡ false → WhyNot m p n
  no_parent : is_dir_at m (parent p) ≡ false → is_some n ≡ true → WhyNot m p n
  has_child : is_childless m p ≡ false → is_dir n ≡ false → WhyNot m p n

either_false : (x y : Bool) → (x && y) ≡ false → (x ≡ false) ⊎ (y ≡ false)
either_false true y h = inr h
either_false false y h = inl refl

plain_why : (m : Tree) (p : Name) (node : Node) → is_dir (Some node) ≡ false → (not (same_name p root) && (is_dir_at m (parent p) && is_childless m p)) ≡ false → WhyNot m p (Some node)
plain_why m p node kind h = ⊎_elim
    (λ is. top (not_false (same_name p root) is) kind)
    (λ rest. ⊎_elim (λ up. no_parent up refl) (λ some. has_child some kind) (either_false (is_dir_at m (parent p)) (is_childless m p) rest))
    (either_false (not (same_name p root)) (is_dir_at m (parent p) && is_childless m p) h)

why_not : (m : Tree) (p : Name) (n : Option Node) → can_edit m p n ≡ false → WhyNot m p n
why_not m p None h = ⊎_elim (λ is. top (not_false (same_name p root) is) refl) (λ some. has_child some refl) (either_false (not (same_name p root)) (is_childless m p) h)
why_not m p (Some (Dir mode)) h = no_parent h refl
why_not m p (Some (File mode bytes)) h = plain_why m p (File mode bytes) refl h
why_not m p (Some (Link target)) h = plain_why m p (Link target) refl h

-- ---- an edit at a path at which the log puts nothing

module _ (puts : List Put) (w m : Tree) (p : Name) (n : Option Node) (near : IsNear puts w m) (out : is_reserved p ≡ false) (none : is_target puts p ≡ false) where
  other_target : (q : Name) → is_target puts q ≡ true → same_name q p ≡ false
  other_target q target = differs_by (is_target puts) q p target none

  under_put : (q : Name) → IsUnder puts w q → IsUnder puts (put w p n) q
  under_put q u = record { above = u.above; target = u.target; path = u.path; below = u.below; no_dir = ap is_dir (get_put_other w p n u.above (other_target u.above u.target)) ∙ u.no_dir }

  stands_put : (q : Name) → is_target puts q ≡ true → is_some (get w q) ≡ true → is_some (get (put w p n) q) ≡ true
  stands_put q target stands = ap is_some (get_put_other w p n q (other_target q target)) ∙ stands

  -- what holds at another name holds with the edit
  kept_at : (q : Name) → same_name q p ≡ false → (other : Tree) → get other q ≡ get m q → IsNearAt puts w m q → IsNearAt puts (put w p n) other q
  kept_at q apart other same (inl is) = inl (same ∙ is ∙ sym (get_put_other w p n q apart))
  kept_at q apart other same (inr (inl u)) = inr (inl (under_put q u))
  kept_at q apart other same (inr (inr o)) = inr (inr (record {
    lower = o.lower;
    target = o.target;
    path = o.path;
    below = o.below;
    stands = stands_put o.lower o.target o.stands;
    no_dir = ap is_dir (get_put_other w p n q apart) ∙ o.no_dir;
  }))

  -- both trees have it
  has_both : WellFormed (put m p n) → IsNear puts (put w p n) (put m p n)
  has_both formed = record {
    formed = formed;
    managed = λ q reserved. reserved_kept m p n out q reserved ∙ near.managed q reserved;
    placed = λ q target. get_put_other m p n q (other_target q target) ∙ near.placed q target ∙ sym (get_put_other w p n q (other_target q target));
    free = λ q free. ⊎_elim
        (λ same. inl (get_put m p n q ∙ ap (λ (b : Bool). cond b n (get m q)) same ∙ sym (get_put w p n q ∙ ap (λ (b : Bool). cond b n (get w q)) same)))
        (λ apart. kept_at q apart (put m p n) (get_put_other m p n q apart) (near.free q free))
        (cases_Bool (same_name q p));
  }

  -- Others could make it of a tree that has at the other paths what is put.
  module _ (d : Tree) (formed : WellFormed (put d p n)) (path : is_path p ≡ true) (agree : (q : Name) → is_target puts q ≡ false → is_reserved q ≡ false → get w q ≡ get d q) where
    over_here : (q : Name) → is_target puts q ≡ true → is_below p q ≡ true → is_some (get w q) ≡ true → is_dir n ≡ false → IsNearAt puts (put w p n) m p
    over_here q target below stands kind = inr (inr (record { lower = q; target = target; path = path; below = below; stands = stands_put q target stands; no_dir = ap is_dir (get_put_here w p n) ∙ kind }))

    under_here : (a : Name) → is_target puts a ≡ true → is_path a ≡ true → is_below a p ≡ true → is_dir (get w a) ≡ false → IsNearAt puts (put w p n) m p
    under_here a target a_path below no_dir = inr (inl (under_put p (record { above = a; target = target; path = a_path; below = below; no_dir = no_dir })))

    -- the parent isn't a directory
    module _ (no_dir : is_dir_at m (parent p) ≡ false) (some : is_some n ≡ true) (low : is_below (parent p) p ≡ true) where
      dir_of_d : is_dir (get d (parent p)) ≡ true
      dir_of_d = sym (ap is_dir (get_put_other d p n (parent p) (upper_apart (parent p) p low))) ∙ formed.parents p (ap is_some (get_put_here d p n) ∙ some)

      dir_of_w : is_target puts (parent p) ≡ false → is_dir (get w (parent p)) ≡ true
      dir_of_w free = ap is_dir (agree (parent p) free (parent_outer p path out)) ∙ dir_of_d

      of_free : is_target puts (parent p) ≡ false → IsNearAt puts w m (parent p) → IsNearAt puts (put w p n) m p
      of_free free (inl same) = not_both (is_dir (get m (parent p))) (ap is_dir same ∙ dir_of_w free) no_dir
      of_free free (inr (inl u)) = under_here u.above u.target u.path (below_trans u.above (parent p) p u.below low) u.no_dir
      of_free free (inr (inr o)) = not_both (is_dir (get w (parent p))) (dir_of_w free) o.no_dir

      by_parent : IsNearAt puts (put w p n) m p
      by_parent = ⊎_elim
          (λ target. under_here (parent p) target (parent_is_path p path) low (ap is_dir (sym (near.placed (parent p) target)) ∙ no_dir))
          (λ free. of_free free (near.free (parent p) free))
          (cases_Bool (is_target puts (parent p)))

    -- something stands below
    module _ (c : HasChild m p) (kind : is_dir n ≡ false) (low : is_below p c.child ≡ true) (of_p : parent c.child ≡ p) where
      none_in_d : get d c.child ≡ None
      none_in_d = sym (get_put_other d p n c.child (lower_apart p c.child low)) ∙ ⊎_elim
          (λ gone. gone)
          (λ stands. not_both (is_dir (get (put d p n) p)) (ap (λ (q : Name). is_dir (get (put d p n) q)) (sym of_p) ∙ formed.parents c.child stands) (ap is_dir (get_put_here d p n) ∙ kind))
          (stands_or_not (get (put d p n) c.child))

      never_none : get m c.child ≡ None → IsNearAt puts (put w p n) m p
      never_none gone = not_both (is_some (get m c.child)) c.stands (ap is_some gone)

      child_free : is_target puts c.child ≡ false → is_reserved c.child ≡ false → IsNearAt puts w m c.child → IsNearAt puts (put w p n) m p
      child_free free outer (inl same) = never_none (same ∙ agree c.child free outer ∙ none_in_d)
      child_free free outer (inr (inl u)) = never_none (none_below m u.above c.child near.formed u.path (ap is_dir (near.placed u.above u.target) ∙ u.no_dir) u.below)
      child_free free outer (inr (inr o)) = over_here o.lower o.target (below_trans p c.child o.lower low o.below) o.stands kind

      by_child : IsNearAt puts (put w p n) m p
      by_child = ⊎_elim
          (λ target. over_here c.child target low (ap is_some (sym (near.placed c.child target)) ∙ c.stands) kind)
          (λ free. ⊎_elim
          (λ reserved. never_none (near.managed c.child reserved))
          (λ outer. child_free free outer (near.free c.child free))
          (cases_Bool (is_reserved c.child)))
          (cases_Bool (is_target puts c.child))

    at_top : same_name p root ≡ true → is_dir n ≡ false → IsNearAt puts (put w p n) m p
    at_top is kind = not_both (is_dir (get (put d p n) p)) (ap (λ (q : Name). is_dir (get (put d p n) q)) (same_means p root is) ∙ formed.root_stands) (ap is_dir (get_put_here d p n) ∙ kind)

    with_child : (c : HasChild m p) → is_dir n ≡ false → same_name p root ≡ false → IsNearAt puts (put w p n) m p
    with_child c kind lower =
        let of_p : parent c.child ≡ p = same_means (parent c.child) p (second (not (same_name c.child root)) (same_name (parent c.child) p) c.is) in
        ⊎_elim
        (λ at_root. not_both (same_name p root) (ap (λ (q : Name). same_name q root) (sym of_p ∙ at_root) ∙ same_itself root) lower)
        (λ low. by_child c kind (subst (λ (q : Name). is_below q c.child ≡ true) of_p low) of_p)
        (child_below c.child (near.formed.paths c.child c.stands))

    here : WhyNot m p n → IsNearAt puts (put w p n) m p
    here (top is kind) = at_top is kind
    here (no_parent no_dir some) = ⊎_elim
        (λ at_root. not_both (is_dir_at m (parent p)) (ap (is_dir_at m) at_root ∙ near.formed.root_stands) no_dir)
        (λ low. by_parent no_dir some low)
        (child_below p path)
    here (has_child some kind) = ⊎_elim (λ is. at_top is kind) (λ lower. with_child (one_child m p some) kind lower) (cases_Bool (same_name p root))

    -- the machine passes it over
    passed_over : can_edit m p n ≡ false → IsNear puts (put w p n) m
    passed_over cannot = record {
      formed = near.formed;
      managed = near.managed;
      placed = λ q target. near.placed q target ∙ sym (get_put_other w p n q (other_target q target));
      free = λ q free. ⊎_elim
          (λ same. subst (IsNearAt puts (put w p n) m) (sym (same_means q p same)) (here (why_not m p n cannot)))
          (λ apart. kept_at q apart m refl (near.free q free))
          (cases_Bool (same_name q p));
    }

-- What the machine makes of it: it has it, where that leaves a tree.
abbrev pub NextNear : List Put → Tree → Tree → Name → Option Node → Type 0
NextNear puts w m p n = (WellFormed (put m p n) × IsNear puts (put w p n) (put m p n)) ⊎ ((WellFormed (put m p n) → ⊥) × IsNear puts (put w p n) m)

module _ (puts : List Put) (w m d : Tree) (p : Name) (n : Option Node) (near : IsNear puts w m) (out : is_reserved p ≡ false) (none : is_target puts p ≡ false) (formed : WellFormed (put d p n))
    (agree : (q : Name) → is_target puts q ≡ false → is_reserved q ≡ false → get w q ≡ get d q) where
  has_it : WellFormed (put m p n) → NextNear puts w m p n
  has_it is = inl (is, has_both puts w m p n near out none is)

  may : may_stand n ≡ true
  may = ap may_stand (sym (get_put_here d p n)) ∙ formed.nodes p

  at_path : is_path p ≡ true → NextNear puts w m p n
  at_path path = ⊎_elim
      (λ can. has_it (edit_well m p n near.formed path may can))
      (λ cannot. inr (edit_not m p n near.formed path cannot, passed_over puts w m p n near out none d formed path agree cannot))
      (cases_Bool (can_edit m p n))

  -- at what is no path nothing can stand, so nothing is taken away
  at_none : is_path p ≡ false → NextNear puts w m p n
  at_none no_path = has_it (subst WellFormed (sym (same_tree (put m p n) m same)) near.formed)
    where
      nothing : (t : Tree) → WellFormed t → get t p ≡ None
      nothing t well = ⊎_elim (λ gone. gone) (λ stands. not_both (is_path p) (well.paths p stands) no_path) (stands_or_not (get t p))

      taken : n ≡ None
      taken = sym (get_put_here d p n) ∙ nothing (put d p n) formed

      same : (q : Name) → get (put m p n) q ≡ get m q
      same q = ⊎_elim
          (λ is. ap (get (put m p n)) (same_means q p is) ∙ get_put_here m p n ∙ taken ∙ sym (nothing m near.formed) ∙ ap (get m) (sym (same_means q p is)))
          (λ apart. get_put_other m p n q apart)
          (cases_Bool (same_name q p))

  pub next_near : NextNear puts w m p n
  next_near = ⊎_elim (λ path. at_path path) (λ no_path. at_none no_path) (cases_Bool (is_path p))
