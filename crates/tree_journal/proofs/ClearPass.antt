-- The first pass removes what obstructs the targets, from the last write to the first.
use Rattle.std.proofs.Common.{◌≡◌, ◌≢◌, ⊎_elim, ℕ, zero, suc, ◌+◌, ◌<◌, Bool, true, false, cond, not, ◌&&◌, ◌||◌, IsTrue, List, [], ◌∷◌, length, get_or, drop, Option, Some, None, is_some, Contains, refl, sym, ◌∙◌, ap, subst, arith}
use Rattle.std.proofs.lemmas.Bool.{cases_Bool}
use Rattle.std.proofs.lemmas.List.Elements.{All-contains}
use Rattle.std.specs.List.{All}
use Rattle.std.specs.FinMap.{get}
use Rattle.std.specs.Cmp.Lexicographic.{nat_list_cmp_total}
use Rattle.journal_log.specs.cny-base.Path.{root, parent}
use Rattle.journal_log.specs.cny-base.Below.{is_below}
use Rattle.journal_log.proofs.cny-base.Below.{child_below}
use Rattle.journal_log.specs.cny-base.declared.node.Node.{Node}
use Rattle.journal_log.specs.cny-base.declared.node.Node.TheVariants as node
use Rattle.journal_log.specs.tree-disk.Tree.{Name, Tree, same_name, is_dir, is_file, is_link, is_child, WellFormed}
use Rattle.journal_log.specs.tree-disk.Rows.{can_remove, is_childless, without, look_of, seen_as}
use Rattle.journal_log.specs.tree-disk.Laws.{same_means}
use Rattle.journal_log.proofs.tree-disk.Laws.{get_put_here, get_put_other}
use Rattle.journal_log.proofs.tree-disk.Allowed.{remove_well_formed}
use Rattle.journal_log.proofs.tree-disk.Children.{childless_from, or_none}
use Rattle.journal_log.specs.declared.put.Want.{Want}
use Rattle.journal_log.specs.declared.put.Want.TheVariants as want
use Rattle.journal_log.specs.declared.put.Put.{Put}
use Rattle.journal_log.specs.WriteSet.{CanBeNamed, Rises}
use Rattle.journal_log.specs.Targets.{is_dir_want, is_target}
use Rattle.tree_journal.specs.CanBePut.{CanBePut}
use Rattle.tree_journal.specs.Passes.{obstructs, is_obstructed, cleared, all_cleared, CanClear, CanClearAll, CanClearPass, CanReplay}
use Rattle.tree_journal.proofs.WriteSets.{below_later, neither, target_at, first_before, later_differs, rest_at}
use Rattle.journal_log.proofs.cny-base.Lists.{contains_cases, contains_first, contains_rest}
use Rattle.journal_log.proofs.Walking.{listed as is_target-from}
use Rattle.journal_log.proofs.tree-disk.Order.{less_differs}

-- ---- one write

pub seen_obstructed : (w : Want) (o : Option Node) → is_obstructed w (seen_as o) ≡ obstructs w o
seen_obstructed w None = refl
seen_obstructed w (Some (node.Dir mode)) = refl
seen_obstructed w (Some (node.File mode bytes)) = refl
seen_obstructed w (Some (node.Link target)) = refl

pub obstructed_at : (tree : Tree) (p : Put) → is_obstructed p.want (look_of tree p.path) ≡ obstructs p.want (get tree p.path)
obstructed_at tree p = seen_obstructed p.want (get tree p.path)

pub cleared_away : (tree : Tree) (p : Put) → obstructs p.want (get tree p.path) ≡ true → cleared tree p ≡ without tree p.path
cleared_away tree p is = ap (λ (b : Bool). cond b (without tree p.path) tree) is

pub cleared_kept : (tree : Tree) (p : Put) → obstructs p.want (get tree p.path) ≡ false → cleared tree p ≡ tree
cleared_kept tree p is = ap (λ (b : Bool). cond b (without tree p.path) tree) is

pub get-cleared_other : (tree : Tree) (p : Put) (q : Name) → same_name q p.path ≡ false → get (cleared tree p) q ≡ get tree q
get-cleared_other tree p q other = ⊎_elim
    (λ is. ap (λ (t : Tree). get t q) (cleared_away tree p is) ∙ get_put_other tree p.path None q other)
    (λ is. ap (λ (t : Tree). get t q) (cleared_kept tree p is))
    (cases_Bool (obstructs p.want (get tree p.path)))

cleared_here : (tree : Tree) (p : Put) → obstructs p.want (get (cleared tree p) p.path) ≡ false
cleared_here tree p = ⊎_elim
    (λ is. ap (λ (t : Tree). obstructs p.want (get t p.path)) (cleared_away tree p is) ∙ ap (obstructs p.want) (get_put_here tree p.path None))
    (λ is. ap (λ (t : Tree). obstructs p.want (get t p.path)) (cleared_kept tree p is) ∙ is)
    (cases_Bool (obstructs p.want (get tree p.path)))

-- ---- all writes

pub all_cleared_outside : (puts : List Put) (tree : Tree) (q : Name) → is_target puts q ≡ false → get (all_cleared puts tree) q ≡ get tree q
all_cleared_outside [] tree q h = refl
all_cleared_outside (p ∷ puts) tree q h =
    let parts = neither (same_name q p.path) (is_target puts q) h in
    get-cleared_other (all_cleared puts tree) p q parts.0 ∙ all_cleared_outside puts tree q parts.1

-- nothing obstructs a target afterwards
pub not_obstructed : (puts : List Put) (tree : Tree) → Rises puts → (r : Put) → Contains puts r → obstructs r.want (get (all_cleared puts tree) r.path) ≡ false
not_obstructed [] tree rises r in' = absurd (omega (arith, in'.1))
not_obstructed (p ∷ puts) tree rises r in' = ⊎_elim
    (λ is. subst (λ (x : Put). obstructs x.want (get (cleared (all_cleared puts tree) p) x.path) ≡ false) is (cleared_here (all_cleared puts tree) p))
    (λ later. ap (obstructs r.want) (get-cleared_other (all_cleared puts tree) p r.path (later_differs p puts rises r later)) ∙ not_obstructed puts tree rises.1 r later)
    (contains_cases p r puts in')

-- what a part of a write set keeps of it
pub record CanClearPart (puts : List Put) (tree : Tree) : Type 0 where
  pub rises : Rises puts
  pub not_root : (p : Put) → Contains puts p → p.path ≢ root
  pub nothing_below : (p q : Put) → Contains puts p → Contains puts q → is_below p.path q.path ≡ true → is_dir_want p.want ≡ false → q.want ≡ want.Nothing
  pub below : (p : Put) → Contains puts p → is_dir_want p.want ≡ false → (q : Name) → is_below p.path q ≡ true → is_target puts q ≡ false → get tree q ≡ None

part_rest : (p : Put) (puts : List Put) (tree : Tree) → CanClearPart (p ∷ puts) tree → CanClearPart puts tree
part_rest p puts tree part = record {
  rises = part.rises.1;
  not_root = λ r in'. part.not_root r (contains_rest p r puts in');
  nothing_below = λ r s r_in s_in. part.nothing_below r s (contains_rest p r puts r_in) (contains_rest p s puts s_in);
  below = λ r in' want_is q low free. part.below r (contains_rest p r puts in') want_is q low (or_none (same_name q p.path) (is_target puts q) (later r in' q low) free);
}
  where
    later : (r : Put) → Contains puts r → (q : Name) → is_below r.path q ≡ true → same_name q p.path ≡ false
    later r in' q low = less_differs p.path q (nat_list_cmp_total.trans p.path r.path q (first_before p puts part.rises r.path (is_target-from puts r in')) (below_later r.path q low))

pub part_whole : (base : Name) (puts : List Put) (tree : Tree) → CanReplay base puts tree → CanClearPart puts tree
part_whole base puts tree can = record {
  rises = can.loggable.write_set.rises;
  not_root = λ p in'. (All-contains (λ (x : Put). CanBeNamed base x.path) puts p can.loggable.named in').not_root;
  nothing_below = λ p q p_in q_in low want_is. All-contains (λ (y : Put). IsTrue (is_below p.path y.path) → y.want ≡ want.Nothing) puts q
      (All-contains (λ (x : Put). is_dir_want x.want ≡ false → All (λ (y : Put). IsTrue (is_below x.path y.path) → y.want ≡ want.Nothing) puts) puts p can.loggable.write_set.nothing_below p_in want_is) q_in low;
  below = λ p in' want_is q low free. (All-contains (CanBePut puts tree) puts p can.can in').below want_is q low free;
}

pub nothing_obstructs : (w : Want) (o : Option Node) → w ≡ want.Nothing → obstructs w o ≡ false → o ≡ None
nothing_obstructs w o is clear = at o (ap (λ (x : Want). obstructs x o) (sym is) ∙ clear)
  where
    at : (o : Option Node) → obstructs want.Nothing o ≡ false → o ≡ None
    at None h = refl
    at (Some (node.Dir mode)) h = absurd (cc h)
    at (Some (node.File mode bytes)) h = absurd (cc h)
    at (Some (node.Link target)) h = absurd (cc h)

-- Once all later writes are cleared, the first may be.
can_clear_first : (p : Put) (puts : List Put) (tree : Tree) → CanClearPart (p ∷ puts) tree → WellFormed (all_cleared puts tree) → CanClear (all_cleared puts tree) p
can_clear_first p puts tree part well obstructed = removable (by (get u p.path) refl)
  where
    u : Tree
    u = all_cleared puts tree

    not_root : same_name p.path root ≡ false
    not_root = ⊎_elim (λ same. absurd (part.not_root p (contains_first p puts) (same_means p.path root same))) (λ other. other) (cases_Bool (same_name p.path root))

    removable : (is_file (get (all_cleared puts tree) p.path) || (is_link (get (all_cleared puts tree) p.path) || (is_dir (get (all_cleared puts tree) p.path) && is_childless (all_cleared puts tree) p.path))) ≡ true → can_remove (all_cleared puts tree) p.path ≡ true
    removable is = ap (λ (b : Bool). not b && (is_file (get (all_cleared puts tree) p.path) || (is_link (get (all_cleared puts tree) p.path) || (is_dir (get (all_cleared puts tree) p.path) && is_childless (all_cleared puts tree) p.path)))) not_root ∙ is

    both : (x y : Bool) → (not x && y) ≡ true → (x ≡ false) × (y ≡ true)
    both true y h = absurd (cc h)
    both false y h = (refl, h)

    -- a child would be a target of which nothing is wanted, or no target
    no_child : is_dir_want p.want ≡ false → (q : Name) → is_some (get (all_cleared puts tree) q) ≡ true → is_child p.path q ≡ true → ⊥
    no_child want_is q stands child = ⊎_elim target other (cases_Bool (is_target puts q))
      where
        two : (same_name q root ≡ false) × (same_name (parent q) p.path ≡ true)
        two = both (same_name q root) (same_name (parent q) p.path) child

        up : parent q ≡ p.path
        up = same_means (parent q) p.path two.1

        low : is_below p.path q ≡ true
        low = ⊎_elim (λ top. absurd (part.not_root p (contains_first p puts) (sym up ∙ top))) (λ low. subst (λ (x : Name). is_below x q ≡ true) up low) (child_below q (well.paths q stands))

        target : is_target puts q ≡ true → ⊥
        target h =
            let r = target_at puts q h in
            let lower : is_below p.path r.0.path ≡ true = subst (λ (x : Name). is_below p.path x ≡ true) r.2 low in
            let nothing = part.nothing_below p r.0 (contains_first p puts) (contains_rest p r.0 puts r.1) lower want_is in
            let gone = nothing_obstructs r.0.want (get (all_cleared puts tree) r.0.path) nothing (not_obstructed puts tree part.rises.1 r.0 r.1) in
            absurd (cc (ap is_some gone, ap (λ (x : Name). is_some (get (all_cleared puts tree) x)) r.2, stands))

        other : is_target puts q ≡ false → ⊥
        other h =
            let gone = part.below p (contains_first p puts) want_is q low (or_none (same_name q p.path) (is_target puts q) (less_differs p.path q (below_later p.path q low)) h) in
            absurd (cc (ap is_some (all_cleared_outside puts tree q h ∙ gone), stands))

    not_wanted : (w : Want) → not (is_dir_want w) ≡ true → is_dir_want w ≡ false
    not_wanted w h = ⊎_elim (λ is. absurd (cc (h, ap not is))) (λ is. is) (cases_Bool (is_dir_want w))

    by : (o : Option Node) → get (all_cleared puts tree) p.path ≡ o → (is_file (get (all_cleared puts tree) p.path) || (is_link (get (all_cleared puts tree) p.path) || (is_dir (get (all_cleared puts tree) p.path) && is_childless (all_cleared puts tree) p.path))) ≡ true
    by None is = absurd (cc (ap (obstructs p.want) is, obstructed))
    by (Some (node.Dir mode)) is =
        let want_is = not_wanted p.want (sym (ap (obstructs p.want) is) ∙ obstructed) in
        ap (λ (o : Option Node). is_file o || (is_link o || (is_dir o && is_childless (all_cleared puts tree) p.path))) is
        ∙ childless_from (all_cleared puts tree) p.path (λ q stands. ⊎_elim (λ child. absurd (no_child want_is q stands child)) (λ none. none) (cases_Bool (is_child p.path q)))
    by (Some (node.File mode bytes)) is = ap (λ (o : Option Node). is_file o || (is_link o || (is_dir o && is_childless (all_cleared puts tree) p.path))) is
    by (Some (node.Link target)) is = ap (λ (o : Option Node). is_file o || (is_link o || (is_dir o && is_childless (all_cleared puts tree) p.path))) is

pub can_clear_part : (puts : List Put) (tree : Tree) → CanClearPart puts tree → WellFormed tree → CanClearAll puts tree × WellFormed (all_cleared puts tree)
can_clear_part [] tree part well = (tt, well)
can_clear_part (p ∷ puts) tree part well = with_rest (can_clear_part puts tree (part_rest p puts tree part) well)
  where
    with_rest : CanClearAll puts tree × WellFormed (all_cleared puts tree) → CanClearAll (p ∷ puts) tree × WellFormed (all_cleared (p ∷ puts) tree)
    with_rest rest =
        let first : CanClear (all_cleared puts tree) p = can_clear_first p puts tree part rest.1 in (
          (first, rest.0),
          ⊎_elim
              (λ is. subst WellFormed (sym (cleared_away (all_cleared puts tree) p is)) (remove_well_formed (all_cleared puts tree) p.path rest.1 (first is)))
              (λ is. subst WellFormed (sym (cleared_kept (all_cleared puts tree) p is)) rest.1)
              (cases_Bool (obstructs p.want (get (all_cleared puts tree) p.path))),
        )

pub can_clear_all : (base : Name) (puts : List Put) (tree : Tree) → CanReplay base puts tree → WellFormed tree → CanClearPass puts tree
can_clear_all base puts tree can well = record {
  rises = can.loggable.write_set.rises;
  can = (can_clear_part puts tree (part_whole base puts tree can) well).0;
}

-- ---- one step of the pass

can_clear_rest : (puts : List Put) (tree : Tree) (i : ℕ) → CanClearAll puts tree → CanClearAll (drop i puts) tree
can_clear_rest puts tree zero can = can
can_clear_rest [] tree (suc i) can = can
can_clear_rest (p ∷ puts) tree (suc i) can = can_clear_rest puts tree i can.1

pub can_clear_at : (puts : List Put) (tree : Tree) (i j : ℕ) (p : Put) → j ≡ i + 1 → i < length puts → p ≡ get_or puts i p → CanClearAll puts tree → CanClear (all_cleared (drop j puts) tree) p
can_clear_at puts tree i j p next lt is can =
    let whole = (subst (λ (l : List Put). CanClearAll l tree) (rest_at puts i p lt is) (can_clear_rest puts tree i can)).0 in
    subst (λ (n : ℕ). CanClear (all_cleared (drop n puts) tree) p) (sym next) whole

pub one_more_cleared : (puts : List Put) (tree : Tree) (i j : ℕ) (p : Put) → j ≡ i + 1 → i < length puts → p ≡ get_or puts i p → cleared (all_cleared (drop j puts) tree) p ≡ all_cleared (drop i puts) tree
one_more_cleared puts tree i j p next lt is = ap (λ (n : ℕ). cleared (all_cleared (drop n puts) tree) p) next ∙ sym (ap (λ (l : List Put). all_cleared l tree) (rest_at puts i p lt is))
