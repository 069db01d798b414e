-- Paths of the result whose parent isn't a directory.
use Rattle.std.proofs.Common.{◌≡◌, ◌⊎◌, inl, inr, ⊎_elim, ℕ, Bool, true, false, cond, not, ◌&&◌, ◌||◌, List, [], ◌∷◌, map, Option, Some, None, is_some, refl, sym, ◌∙◌, ap, subst}
use Rattle.std.specs.FinMap.{get, keys, contains_key-keys}
use Rattle.std.specs.List.{filter, list_any}
use Rattle.std.specs.declared.cmp.Ordering.{Ordering}
use Rattle.std.specs.declared.cmp.Ordering.TheVariants.{Less, Equal, Greater}
use Rattle.std.specs.Ordering.{nat_cmp, is_lt}
use Rattle.std.specs.Cmp.Lexicographic.{slice_cmp}
use Rattle.trove_stream.specs.cny-base.Path.{is_path, join, last_name, parent, root}
use Rattle.trove_stream.specs.cny-base.declared.node.Node.{Node}
use Rattle.trove_stream.specs.cny-base.declared.node.Node.TheVariants as node
use Rattle.trove_stream.specs.cny-stream.declared.record.FileRec.{FileRec}
use Rattle.trove_stream.specs.cny-stream.declared.record.FileRec.TheVariants as rec
use Rattle.tree_scan.specs.tree-disk.Laws.{same_means}
use Rattle.tree_scan.proofs.tree-disk.Laws.{same_itself, second as and_second}
use Rattle.tree_scan.specs.tree-disk.Rows.{is_dir_at}
use Rattle.tree_scan.specs.tree-disk.Tree as disk
use Rattle.tree_scan.specs.tree-disk.Tree.{Name, Tree, WellFormed, children, is_child, same_name}
use Rattle.tree_scan.specs.Marks.{fingerprint, fingerprint_at, is_dir, is_nothing}
use Rattle.conflict_plan.specs.declared.planned.Planned.{Planned}
use Rattle.conflict_plan.specs.Making.{fate_at, fate_of, is_gone}
use Rattle.conflict_plan.specs.Orphans.{first_remaining, has_way, is_dir_fate, least_orphan, left_below, lesser, orphan_by, wants_dir}
use Rattle.conflict_plan.specs.Plan.{IsFirst, IsOrphan, mark_after, mark_of_want, planned_at, planned_mark}
use Rattle.conflict_plan.proofs.Building.{AreSeenIn}
use Rattle.conflict_plan.proofs.Order.{IsUpTo, child_behind, child_other, child_parent, less_other, not_behind, parent_child, placed, up_to_then}
use Rattle.conflict_plan.proofs.Remaining.{RisePlanned, after_not_gone, fate_by, fate_planned, joined_child, not_true, planned_behind, planned_here, planned_other, planned_path, remains_after, some_stands, wanted_stands}
use Rattle.tree_scan.proofs.tree-disk.Order.{name_cmp}
use Rattle.trove_stream.proofs.cny-base.Bools.{both as and_both, first_false as or_false_first, second_false as or_false_second, or_left, or_right}
use Rattle.tree_scan.proofs.tree-disk.Nodes.{left_true as and_first}
use Rattle.trove_stream.proofs.cny-base.Again.{not_true as not_false}
use Rattle.tree_scan.proofs.tree-disk.ClearLaws.{or_cases as or_both}

-- ---- directories of the result

stands_dir : (o : Option Node) → disk.is_dir o ≡ is_dir (fingerprint o)
stands_dir None = refl
stands_dir (Some (node.Dir mode)) = refl
stands_dir (Some (node.File mode bytes)) = refl
stands_dir (Some (node.Link target)) = refl

fate_dir : (want : Option FileRec) (stands : Bool) → is_dir_fate (Some (fate_of want)) stands ≡ is_dir (mark_of_want want)
fate_dir None stands = refl
fate_dir (Some (rec.Dir mode owner)) stands = refl
fate_dir (Some (rec.File mode owner flags size name)) stands = refl
fate_dir (Some (rec.Link target)) stands = refl

dir_by : (o : Option Planned) (tree : Tree) (p : Name) → is_dir_fate (fate_by o) (is_dir_at tree p) ≡ is_dir (planned_mark o (fingerprint_at tree p))
dir_by None tree p = stands_dir (get tree p)
dir_by (Some x) tree p = fate_dir x.want (is_dir_at tree p)

-- whether a path is a directory in the result
dir_after : (plan : List Planned) (tree : Tree) (p : Name) → is_dir_fate (fate_at plan p) (is_dir_at tree p) ≡ is_dir (mark_after plan tree p)
dir_after plan tree p = ap (λ o. is_dir_fate o (is_dir_at tree p)) (fate_planned plan p) ∙ dir_by (planned_at plan p) tree p

want_dir : (want : Option FileRec) → wants_dir want ≡ is_dir (mark_of_want want)
want_dir None = refl
want_dir (Some (rec.Dir mode owner)) = refl
want_dir (Some (rec.File mode owner flags size name)) = refl
want_dir (Some (rec.Link target)) = refl

-- ---- the first name below that remains

-- the names come in their order
abbrev pub AreLater : Name → List Name → Type 0
AreLater p [] = Unit {0}
AreLater p (n ∷ names) = (name_cmp p n ≡ Less) × AreLater p names

abbrev pub AreSorted : List Name → Type 0
AreSorted [] = Unit {0}
AreSorted (n ∷ names) = AreLater n names × AreSorted names

later_listed : (p q : Name) (names : List Name) → AreLater p names → list_any (same_name q) names ≡ true → name_cmp p q ≡ Less
later_listed p q [] later listed = absurd (cc listed)
later_listed p q (n ∷ names) later listed = ⊎_elim
    (λ same. subst (λ x. name_cmp p x ≡ Less) (sym (same_means q n same)) later.0)
    (λ more. later_listed p q names later.1 more)
    (or_both (same_name q n) (list_any (same_name q) names) listed)

-- a listed name directly below the path that doesn't go
pub record IsKept (plan : List Planned) (p : Name) (names : List Name) (q : Name) : Type 0 where
  pub listed : list_any (same_name q) names ≡ true
  pub child : is_child p q ≡ true
  pub kept : is_gone (fate_at plan (join p (last_name q))) ≡ false

more_kept : (plan : List Planned) (p n : Name) (names : List Name) (q : Name) → IsKept plan p names q → IsKept plan p (n ∷ names) q
more_kept plan p n names q is = record {
  listed = or_right (same_name q n) (list_any (same_name q) names) is.listed;
  child = is.child;
  kept = is.kept;
}

abbrev below : Name → List Name → List (List ℕ)
below p names = map last_name (filter (is_child p) names)

first_kept : (plan : List Planned) (p : Name) (names : List Name) (found : Name) → first_remaining plan p (below p names) ≡ Some found → (q : Name) × (found ≡ join p (last_name q)) × IsKept plan p names q
first_kept plan p [] found is = absurd (cc is)
first_kept plan p (n ∷ names) found is = at (is_child p n) refl (λ later. let more = first_kept plan p names found later in (more.0, more.1, more_kept plan p n names more.0 more.2)) is
  where
    by_fate : is_child p n ≡ true → (b : Bool) → is_gone (fate_at plan (join p (last_name n))) ≡ b → (first_remaining plan p (below p names) ≡ Some found → (q : Name) × (found ≡ join p (last_name q)) × IsKept plan p (n ∷ names) q)
        → cond b (first_remaining plan p (below p names)) (Some (join p (last_name n))) ≡ Some found → (q : Name) × (found ≡ join p (last_name q)) × IsKept plan p (n ∷ names) q
    by_fate child true gone later is = later is
    by_fate child false kept later is =
        let is_found : found ≡ join p (last_name n) = cc is in
        (n, is_found, record { listed = or_left (same_name n n) (list_any (same_name n) names) (same_itself n); child = child; kept = kept })

    at : (b : Bool) → is_child p n ≡ b → (first_remaining plan p (below p names) ≡ Some found → (q : Name) × (found ≡ join p (last_name q)) × IsKept plan p (n ∷ names) q) → first_remaining plan p (map last_name (cond b (n ∷ filter (is_child p) names) (filter (is_child p) names))) ≡ Some found
        → (q : Name) × (found ≡ join p (last_name q)) × IsKept plan p (n ∷ names) q
    at true child later is = by_fate child (is_gone (fate_at plan (join p (last_name n)))) refl later is
    at false other later is = later is

-- one is found that comes no later than q
abbrev FoundUpTo : List Planned → Name → List Name → Name → List (List ℕ) → Type 0
FoundUpTo plan p names q names_below = (m : Name) × (first_remaining plan p names_below ≡ Some (join p (last_name m))) × IsUpTo m q × (list_any (same_name m) names ≡ true) × (is_child p m ≡ true)

-- where a name remains, one is found that comes no later
kept_first : (plan : List Planned) (p : Name) (names : List Name) (q : Name) → AreSorted names → IsKept plan p names q
    → (n : Name) × (first_remaining plan p (below p names) ≡ Some (join p (last_name n))) × IsUpTo n q × (list_any (same_name n) names ≡ true) × (is_child p n ≡ true)
kept_first plan p [] q sorted is = absurd (cc is.listed)
kept_first plan p (n ∷ names) q sorted is =
    at (is_child p n) refl (λ listed. with_later (kept_first plan p names q sorted.1 (record { listed = listed; child = is.child; kept = is.kept }))) (or_both (same_name q n) (list_any (same_name q) names) is.listed)
  where
    with_later : FoundUpTo plan p names q (below p names) → FoundUpTo plan p (n ∷ names) q (below p names)
    with_later more =
        (more.0, more.1, more.2, or_right (same_name more.0 n) (list_any (same_name more.0) names) more.3, more.4)

    up_to : (same_name q n ≡ true) ⊎ (list_any (same_name q) names ≡ true) → IsUpTo n q
    up_to (inl same) = inl (sym (same_means q n same))
    up_to (inr listed) = inr (later_listed n q names sorted.0 listed)

    gone_later : is_gone (fate_at plan (join p (last_name n))) ≡ true → (same_name q n ≡ true) ⊎ (list_any (same_name q) names ≡ true) → list_any (same_name q) names ≡ true
    gone_later gone (inl same) = absurd (cc (ap (λ (x : Name). is_gone (fate_at plan (join p (last_name x)))) (sym (same_means q n same)) ∙ is.kept, gone))
    gone_later gone (inr listed) = listed

    by_fate : is_child p n ≡ true → (b : Bool) → is_gone (fate_at plan (join p (last_name n))) ≡ b → (list_any (same_name q) names ≡ true → FoundUpTo plan p (n ∷ names) q (below p names)) → (same_name q n ≡ true) ⊎ (list_any (same_name q) names ≡ true)
        → (m : Name) × (cond b (first_remaining plan p (below p names)) (Some (join p (last_name n))) ≡ Some (join p (last_name m))) × IsUpTo m q × (list_any (same_name m) (n ∷ names) ≡ true) × (is_child p m ≡ true)
    by_fate child true gone later where_ = later (gone_later gone where_)
    by_fate child false kept later where_ = (n, refl, up_to where_, or_left (same_name n n) (list_any (same_name n) names) (same_itself n), child)

    other_later : is_child p n ≡ false → (same_name q n ≡ true) ⊎ (list_any (same_name q) names ≡ true) → list_any (same_name q) names ≡ true
    other_later other (inl same) = absurd (cc (ap (is_child p) (sym (same_means q n same)) ∙ is.child, other))
    other_later other (inr listed) = listed

    at : (b : Bool) → is_child p n ≡ b → (list_any (same_name q) names ≡ true → FoundUpTo plan p (n ∷ names) q (below p names)) → (same_name q n ≡ true) ⊎ (list_any (same_name q) names ≡ true)
        → FoundUpTo plan p (n ∷ names) q (map last_name (cond b (n ∷ filter (is_child p) names) (filter (is_child p) names)))
    at true child later where_ = by_fate child (is_gone (fate_at plan (join p (last_name n)))) refl later where_
    at false other later where_ = later (other_later other where_)

-- ---- orphans of one planned path

kept_orphan : (plan : List Planned) (tree : Tree) (x : Planned) (found : Name) → WellFormed tree → planned_at plan x.path ≡ Some x → wants_dir x.want ≡ false
    → first_remaining plan x.path (children tree x.path) ≡ Some found → IsOrphan (mark_after plan tree) found
kept_orphan plan tree x found well planned no_dir is =
    let more = first_kept plan x.path (keys tree) found is in
    let q = more.0 in
    let stands : is_some (get tree q) ≡ true = contains_key-keys tree q ∙ more.2.listed in
    let joined = joined_child x.path q more.2.child (well.paths q stands) in
    subst (IsOrphan (mark_after plan tree)) (sym (more.1 ∙ joined)) (record {
      not_root = child_other x.path q more.2.child;
      stands = remains_after plan tree q stands (ap (λ (n : Name). is_gone (fate_at plan n)) (sym joined) ∙ more.2.kept);
      no_way = ap (λ (n : Name). is_dir (mark_after plan tree n)) (child_parent x.path q more.2.child)
          ∙ ap (λ o. is_dir (planned_mark o (fingerprint_at tree x.path))) planned ∙ sym (want_dir x.want) ∙ no_dir;
    })

own_orphan : (plan : List Planned) (tree : Tree) (x : Planned) → planned_at plan x.path ≡ Some x → is_some x.want ≡ true → has_way plan tree x.path ≡ false → IsOrphan (mark_after plan tree) x.path
own_orphan plan tree x planned wanted no_way = record {
  not_root = or_false_first (same_name x.path root) (is_dir_fate (fate_at plan (parent x.path)) (is_dir_at tree (parent x.path))) no_way;
  stands = ap (λ o. is_nothing (planned_mark o (fingerprint_at tree x.path))) planned ∙ wanted_stands x.want wanted;
  no_way = sym (dir_after plan tree (parent x.path)) ∙ or_false_second (same_name x.path root) (is_dir_fate (fate_at plan (parent x.path)) (is_dir_at tree (parent x.path))) no_way;
}

pub orphan_is : (plan : List Planned) (tree : Tree) (x : Planned) (found : Name) → WellFormed tree → planned_at plan x.path ≡ Some x → orphan_by plan tree x ≡ Some found → IsOrphan (mark_after plan tree) found
orphan_is plan tree x found well planned is = at (is_some x.want && not (has_way plan tree x.path)) refl is
  where
    by_dir : (b : Bool) → (is_dir x.was && not (wants_dir x.want)) ≡ b → cond b (first_remaining plan x.path (children tree x.path)) None ≡ Some found → IsOrphan (mark_after plan tree) found
    by_dir true test is = kept_orphan plan tree x found well planned (not_false (wants_dir x.want) (and_second (is_dir x.was) (not (wants_dir x.want)) test)) is
    by_dir false test is = absurd (cc is)

    at : (b : Bool) → (is_some x.want && not (has_way plan tree x.path)) ≡ b → cond b (Some x.path) (left_below plan tree x) ≡ Some found → IsOrphan (mark_after plan tree) found
    at true test is =
        let is_found : x.path ≡ found = cc is in
        subst (IsOrphan (mark_after plan tree)) is_found
        (own_orphan plan tree x planned (and_first (is_some x.want) (not (has_way plan tree x.path)) test) (not_false (has_way plan tree x.path) (and_second (is_some x.want) (not (has_way plan tree x.path)) test)))
    at false test is = by_dir (is_dir x.was && not (wants_dir x.want)) refl is

-- ---- each orphan comes no earlier than one that is found

-- what is found of a planned path comes no later
pub record IsFoundBy (plan : List Planned) (tree : Tree) (q : Name) : Type 0 where
  pub planned : Planned
  pub at : Name
  pub is : planned_at plan at ≡ Some planned
  pub found : Name
  pub finds : orphan_by plan tree planned ≡ Some found
  pub up_to : IsUpTo found q

seen_at : (plan : List Planned) (tree : Tree) (q : Name) (x : Planned) → AreSeenIn tree plan → planned_at plan q ≡ Some x → x.was ≡ fingerprint_at tree x.path
seen_at [] tree q x seen is = absurd (cc is)
seen_at (y ∷ plan) tree q x seen is = at (same_name y.path q) (seen_at plan tree q x seen.1) is
  where
    at : (b : Bool) → (planned_at plan q ≡ Some x → x.was ≡ fingerprint_at tree x.path) → cond b (Some y) (planned_at plan q) ≡ Some x → x.was ≡ fingerprint_at tree x.path
    at true later is =
        let is_x : y ≡ x = cc is in
        subst (λ (z : Planned). z.was ≡ fingerprint_at tree z.path) is_x seen.0
    at false later is = later is

no_way_by : (plan : List Planned) (tree : Tree) (q : Name) → IsOrphan (mark_after plan tree) q → has_way plan tree q ≡ false
no_way_by plan tree q orphan =
    ap (λ b. b || is_dir_fate (fate_at plan (parent q)) (is_dir_at tree (parent q))) orphan.not_root
    ∙ dir_after plan tree (parent q) ∙ orphan.no_way

wanted_by : (want : Option FileRec) → is_nothing (mark_of_want want) ≡ false → is_some want ≡ true
wanted_by None is = absurd (cc is)
wanted_by (Some r) is = refl

own_found : (plan : List Planned) (tree : Tree) (q : Name) (x : Planned) → planned_at plan q ≡ Some x → IsOrphan (mark_after plan tree) q → IsFoundBy plan tree q
own_found plan tree q x is orphan =
    let path = planned_path plan q x is in
    let wanted = wanted_by x.want (ap (λ o. is_nothing (planned_mark o (fingerprint_at tree q))) (sym is) ∙ orphan.stands) in
    let test = and_both (is_some x.want) (not (has_way plan tree x.path)) wanted (not_true (has_way plan tree x.path) (ap (has_way plan tree) path ∙ no_way_by plan tree q orphan)) in
    record {
      planned = x;
      at = q;
      is = is;
      found = x.path;
      finds = ap (λ b. cond b (Some x.path) (left_below plan tree x)) test;
      up_to = inl path;
    }

below_found : (plan : List Planned) (tree : Tree) (q : Name) (x : Planned) → WellFormed tree → AreSorted (keys tree) → AreSeenIn tree plan → is_some (get tree q) ≡ true
    → planned_at plan (parent q) ≡ Some x → IsOrphan (mark_after plan tree) q → IsFoundBy plan tree q
below_found plan tree q x well sorted seen stands is orphan = at (is_some x.want && not (has_way plan tree x.path)) refl
  where
    path : x.path ≡ parent q
    path = planned_path plan (parent q) x is

    child : is_child x.path q ≡ true
    child = ap (λ n. is_child n q) path ∙ parent_child q orphan.not_root

    is_q : is_path q ≡ true
    is_q = well.paths q stands

    no_dir : wants_dir x.want ≡ false
    no_dir = want_dir x.want ∙ ap (λ o. is_dir (planned_mark o (fingerprint_at tree (parent q)))) (sym is) ∙ orphan.no_way

    was_dir : is_dir x.was ≡ true
    was_dir = ap is_dir (seen_at plan tree (parent q) x seen is ∙ ap (fingerprint_at tree) path) ∙ sym (stands_dir (get tree (parent q))) ∙ well.parents q stands

    left : left_below plan tree x ≡ first_remaining plan x.path (children tree x.path)
    left = ap (λ b. cond b (first_remaining plan x.path (children tree x.path)) None) (and_both (is_dir x.was) (not (wants_dir x.want)) was_dir (not_true (wants_dir x.want) no_dir))

    kept : IsKept plan x.path (keys tree) q
    kept = record {
      listed = sym (contains_key-keys tree q) ∙ stands;
      child = child;
      kept = ap (λ (n : Name). is_gone (fate_at plan n)) (joined_child x.path q child is_q) ∙ after_not_gone plan tree q orphan.stands;
    }

    at : (b : Bool) → (is_some x.want && not (has_way plan tree x.path)) ≡ b → IsFoundBy plan tree q
    at true test = record {
      planned = x;
      at = parent q;
      is = is;
      found = x.path;
      finds = ap (λ b. cond b (Some x.path) (left_below plan tree x)) test;
      up_to = inr (child_behind x.path q child is_q);
    }
    at false test =
        let first = kept_first plan x.path (keys tree) q sorted kept in
        let there : is_some (get tree first.0) ≡ true = contains_key-keys tree first.0 ∙ first.3 in
        record {
          planned = x;
          at = parent q;
          is = is;
          found = first.0;
          finds = ap (λ b. cond b (Some x.path) (left_below plan tree x)) test ∙ left ∙ first.1 ∙ ap Some (joined_child x.path first.0 first.4 (well.paths first.0 there));
          up_to = first.2;
        }

tree_dir_after : (plan : List Planned) (tree : Tree) (p : Name) → planned_at plan p ≡ None → disk.is_dir (get tree p) ≡ true → is_dir (mark_after plan tree p) ≡ true
tree_dir_after plan tree p none dir = ap (λ o. is_dir (planned_mark o (fingerprint_at tree p))) none ∙ sym (stands_dir (get tree p)) ∙ dir

pub found_by : (plan : List Planned) (tree : Tree) (q : Name) → WellFormed tree → AreSorted (keys tree) → AreSeenIn tree plan → IsOrphan (mark_after plan tree) q → IsFoundBy plan tree q
found_by plan tree q well sorted seen orphan = at (planned_at plan q) refl
  where
    above : is_some (get tree q) ≡ true → (o : Option Planned) → planned_at plan (parent q) ≡ o → IsFoundBy plan tree q
    above stands (Some x) is = below_found plan tree q x well sorted seen stands is orphan
    above stands None none = absurd (cc (tree_dir_after plan tree (parent q) none (well.parents q stands), orphan.no_way))

    at : (o : Option Planned) → planned_at plan q ≡ o → IsFoundBy plan tree q
    at (Some x) is = own_found plan tree q x is orphan
    at None none = above (some_stands (get tree q) (ap (λ o. is_nothing (planned_mark o (fingerprint_at tree q))) (sym none) ∙ orphan.stands)) (planned_at plan (parent q)) refl

-- ---- the least

lesser_up_to : (one other : Option Name) (a : Name) → lesser one other ≡ Some a → ((b : Name) → one ≡ Some b → IsUpTo a b) × ((b : Name) → other ≡ Some b → IsUpTo a b)
lesser_up_to None other a is = (λ b one. absurd (cc one), λ b of_other. inl (let e : a ≡ b = cc (is, of_other) in e))
lesser_up_to (Some one) None a is = (λ b of_one. inl (let e : a ≡ b = cc (is, of_one) in e), λ b of_other. absurd (cc of_other))
lesser_up_to (Some one) (Some other) a is = at (slice_cmp nat_cmp other one) refl is
  where
    not_less : (o : Ordering) → name_cmp other one ≡ o → is_lt o ≡ false → IsUpTo one other
    not_less o is_o more_or_same = ⊎_elim
        (λ less. absurd (cc (ap is_lt (sym is_o ∙ less), more_or_same)))
        (λ more. ⊎_elim (λ same. inl (sym same)) (λ behind. inr behind) more)
        (placed other one)

    at : (o : Ordering) → name_cmp other one ≡ o → cond (is_lt o) (Some other) (Some one) ≡ Some a → ((b : Name) → Some one ≡ Some b → IsUpTo a b) × ((b : Name) → Some other ≡ Some b → IsUpTo a b)
    at Less is_o is =
        let is_a : a ≡ other = cc is in (
          λ b of_one. let e : one ≡ b = cc of_one in subst (λ n. IsUpTo n b) (sym is_a) (subst (IsUpTo other) e (inr is_o)),
          λ b of_other. inl (let e : a ≡ b = cc (is_a, of_other) in e),
        )
    at Equal is_o is =
        let is_a : a ≡ one = cc is in (
          λ b of_one. inl (let e : a ≡ b = cc (is_a, of_one) in e),
          λ b of_other. let e : other ≡ b = cc of_other in subst (λ n. IsUpTo n b) (sym is_a) (subst (IsUpTo one) e (not_less Equal is_o refl)),
        )
    at Greater is_o is =
        let is_a : a ≡ one = cc is in (
          λ b of_one. inl (let e : a ≡ b = cc (is_a, of_one) in e),
          λ b of_other. let e : other ≡ b = cc of_other in subst (λ n. IsUpTo n b) (sym is_a) (subst (IsUpTo one) e (not_less Greater is_o refl)),
        )

lesser_one : (one other : Option Name) (a : Name) → lesser one other ≡ Some a → (one ≡ Some a) ⊎ (other ≡ Some a)
lesser_one None other a is = inr is
lesser_one (Some one) None a is = inl is
lesser_one (Some one) (Some other) a is = at (is_lt (slice_cmp nat_cmp other one)) is
  where
    at : (b : Bool) → cond b (Some other) (Some one) ≡ Some a → (Some one ≡ Some a) ⊎ (Some other ≡ Some a)
    at true is = inr is
    at false is = inl is

lesser_none : (one other : Option Name) → lesser one other ≡ None → (one ≡ None) × (other ≡ None)
lesser_none None other is = (refl, is)
lesser_none (Some one) None is = absurd (cc is)
lesser_none (Some one) (Some other) is = at (is_lt (slice_cmp nat_cmp other one)) is
  where
    at : (b : Bool) → cond b (Some other) (Some one) ≡ None → (Some one ≡ None) × (Some other ≡ None)
    at true is = absurd (cc is)
    at false is = absurd (cc is)

pub least_of_one : (plan : List Planned) (tree : Tree) (xs : List Planned) (a : Name) → RisePlanned xs → least_orphan plan tree xs ≡ Some a
    → (x : Planned) × (planned_at xs x.path ≡ Some x) × (orphan_by plan tree x ≡ Some a)
least_of_one plan tree [] a rise is = absurd (cc is)
least_of_one plan tree (x ∷ xs) a rise is = ⊎_elim
    (λ later.
    let found = least_of_one plan tree xs a rise.1 later in
    (found.0, planned_other x xs found.0.path (less_other x.path found.0.path (planned_behind x.path found.0.path xs found.0 rise.0 found.1)) ∙ found.1, found.2))
    (λ here. (x, planned_here x xs, here))
    (lesser_one (least_orphan plan tree xs) (orphan_by plan tree x) a is)

clash : (a : Name) (o : Option Name) → o ≡ None → o ≡ Some a → ⊥
clash a o none some = absurd (cc (none, some))

-- whatever is found of one of the paths, the least comes no later
pub least_up_to : (plan : List Planned) (tree : Tree) (xs : List Planned) (q : Name) (x : Planned) (b : Name) → planned_at xs q ≡ Some x → orphan_by plan tree x ≡ Some b
    → (o : Option Name) → least_orphan plan tree xs ≡ o → (a : Name) × (o ≡ Some a) × IsUpTo a b
least_up_to plan tree [] q x b is finds o least = absurd (cc is)
least_up_to plan tree (y ∷ xs) q x b is finds None least =
    at (same_name y.path q) (λ later. least_up_to plan tree xs q x b later finds (least_orphan plan tree xs) refl) is
  where
    at : (t : Bool) → (planned_at xs q ≡ Some x → (a : Name) × (least_orphan plan tree xs ≡ Some a) × IsUpTo a b) → cond t (Some y) (planned_at xs q) ≡ Some x → (a : Name) × (None ≡ Some a) × IsUpTo a b
    at true rest is =
        let is_x : y ≡ x = cc is in
        absurd (clash b (orphan_by plan tree y) (lesser_none (least_orphan plan tree xs) (orphan_by plan tree y) least).1 (ap (orphan_by plan tree) is_x ∙ finds))
    at false rest is =
        let more = rest is in
        absurd (clash more.0 (least_orphan plan tree xs) (lesser_none (least_orphan plan tree xs) (orphan_by plan tree y) least).0 more.1)
least_up_to plan tree (y ∷ xs) q x b is finds (Some a) least =
    at (same_name y.path q) (λ later. least_up_to plan tree xs q x b later finds (least_orphan plan tree xs) refl) is
  where
    at : (t : Bool) → (planned_at xs q ≡ Some x → (c : Name) × (least_orphan plan tree xs ≡ Some c) × IsUpTo c b) → cond t (Some y) (planned_at xs q) ≡ Some x → (c : Name) × (Some a ≡ Some c) × IsUpTo c b
    at true rest is =
        let is_x : y ≡ x = cc is in
        (a, refl, (lesser_up_to (least_orphan plan tree xs) (orphan_by plan tree y) a least).1 b (ap (orphan_by plan tree) is_x ∙ finds))
    at false rest is =
        let more = rest is in
        (a, refl, up_to_then a more.0 b ((lesser_up_to (least_orphan plan tree xs) (orphan_by plan tree y) a least).0 more.0 more.1) more.2)

-- The least that is found is the first orphan.
pub least_first : (plan : List Planned) (tree : Tree) (a : Name) → WellFormed tree → AreSorted (keys tree) → AreSeenIn tree plan → RisePlanned plan
    → least_orphan plan tree plan ≡ Some a → IsFirst (IsOrphan (mark_after plan tree)) a
least_first plan tree a well sorted seen rise least =
    let own = least_of_one plan tree plan a rise least in
    record {
      holds = orphan_is plan tree own.0 a well own.1 own.2;
      first = λ q less orphan.
          let found = found_by plan tree q well sorted seen orphan in
          let up_to = least_up_to plan tree plan found.at found.planned found.found found.is found.finds (Some a) least in
          let is_a : a ≡ up_to.0 = cc up_to.1 in
          not_behind a q (up_to_then a found.found q (subst (λ n. IsUpTo n found.found) (sym is_a) up_to.2) found.up_to) less;
    }

-- Where none is found there is no orphan.
pub least_none : (plan : List Planned) (tree : Tree) → WellFormed tree → AreSorted (keys tree) → AreSeenIn tree plan → least_orphan plan tree plan ≡ None → (q : Name) → IsOrphan (mark_after plan tree) q → ⊥
least_none plan tree well sorted seen least q orphan =
    let found = found_by plan tree q well sorted seen orphan in
    let up_to = least_up_to plan tree plan found.at found.planned found.found found.is found.finds None least in
    absurd (cc up_to.1)
