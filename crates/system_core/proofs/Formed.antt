-- The tree with all targets of a plan is well formed, where the plan leaves no path without its directory.
use Rattle.std.proofs.Common.{◌≡◌, ⊎_elim, Bool, true, false, cond, IsTrue, List, [], ◌∷◌, Option, Some, None, refl, sym, ◌∙◌, ap, subst}
use Rattle.std.proofs.lemmas.Bool.{cases_Bool}
use Rattle.std.proofs.lemmas.List.Elements.{recursion_from_All}
use Rattle.std.specs.List.{All, AllByRecursion}
use Rattle.std.specs.List.Sorted.{IsStrictlySortedBy}
use Rattle.std.specs.Option.{is_some}
use Rattle.std.specs.FinMap.{get}
use Rattle.std.specs.Ordering.{nat_cmp, is_eq}
use Rattle.std.specs.Cmp.Lexicographic.{slice_cmp}
use Rattle.std.specs.declared.cmp.Ordering.TheVariants.{Less}
use Rattle.rollback_stack.specs.cny-base.Path.{is_path, parent, root}
use Rattle.rollback_stack.specs.cny-base.Reserved.{is_pinned}
use Rattle.rollback_stack.specs.cny-base.declared.node.Node.{Node}
use Rattle.rollback_stack.specs.cny-base.declared.node.Node.TheVariants as node
use Rattle.rollback_stack.specs.tree-disk.Laws.{get_put, same_means}
use Rattle.rollback_stack.proofs.tree-disk.Laws.{get_put_here, get_put_other, same_itself}
use Rattle.rollback_stack.specs.tree-disk.Tree.{Name, Tree, is_dir, may_stand, put, same_name, WellFormed}
use Rattle.rollback_stack.specs.tree-scan.Marks as marks
use Rattle.rollback_stack.specs.tree-scan.Marks.{fingerprint, fingerprint_at}
use Rattle.rollback_stack.specs.journal-log.declared.put.Put.{Put}
use Rattle.rollback_stack.specs.journal-log.Targets.{node_of, with_targets}
use Rattle.local_db.specs.SystemState.{IsFree}
use Rattle.conflict_plan.specs.declared.planned.Planned.{Planned}
use Rattle.conflict_plan.specs.Plan.{mark_after, planned_at, planned_cmp, planned_mark, IsOrphan}
use Rattle.job_targets.specs.Targets.{HavePuts}
use Rattle.tree_journal.proofs.tree-disk.Order.{other_way}

-- ---- what holds at each name

-- what holds of each node of a tree, and of what each write leaves, holds of each node of the tree with all targets
targets_keep : (P : Name → Option Node → Type 0) (ps : List Put) (t : Tree) → ((q : Name) → P q (get t q)) → AllByRecursion (λ (p : Put). P p.path (node_of p.want)) ps
    → (q : Name) → P q (get (with_targets ps t) q)
targets_keep P [] t before puts q = before q
targets_keep P (p ∷ ps) t before puts q = targets_keep P ps (put t p.path (node_of p.want)) mid puts.1 q
  where
    at : (q : Name) (b : Bool) → same_name q p.path ≡ b → P q (cond b (node_of p.want) (get t q))
    at q true same = subst (λ n. P n (node_of p.want)) (sym (same_means q p.path same)) puts.0
    at q false other = before q

    mid : (q : Name) → P q (get (put t p.path (node_of p.want)) q)
    mid q = subst (P q) (sym (get_put t p.path (node_of p.want) q)) (at q (same_name q p.path) refl)

-- ---- the fingerprints of the result

pub same_other : (p q : Name) → slice_cmp nat_cmp p q ≡ Less → same_name q p ≡ true → ⊥
same_other p q less same =
    let one : q ≡ p = same_means q p same in
    let other : same_name p q ≡ false = ap is_eq less in
    absurd (cc (other, subst (λ x. same_name p x ≡ true) (sym one) (same_itself p)))

-- what is planned of later paths isn't of this one
none_later : (path : Name) (xs : List Planned) → AllByRecursion (λ (y : Planned). slice_cmp nat_cmp path y.path ≡ Less) xs → planned_at xs path ≡ None
none_later path [] later = refl
none_later path (y ∷ xs) later = at (same_name y.path path) refl (none_later path xs later.1)
  where
    at : (b : Bool) → same_name y.path path ≡ b → planned_at xs path ≡ None → cond b (Some y) (planned_at xs path) ≡ None
    at true same rest = absurd (same_other path y.path later.0 same)
    at false other rest = rest

-- at each name the result has the fingerprint that the plan leaves there
pub planned_marks : (xs : List Planned) (ps : List Put) (t : Tree) → IsStrictlySortedBy planned_cmp xs → HavePuts xs ps
    → (q : Name) → fingerprint_at (with_targets ps t) q ≡ mark_after xs t q
unfolding IsStrictlySortedBy
planned_marks [] [] t rising have q = refl
planned_marks [] (p ∷ ps) t rising have q = absurd have
planned_marks (x ∷ xs) [] t rising have q = absurd have
planned_marks (x ∷ xs) (p ∷ ps) t rising have q =
    planned_marks xs ps (put t p.path (node_of p.want)) rising.1 have.1 q ∙ at (same_name x.path q) refl
  where
    at : (b : Bool) → same_name x.path q ≡ b
        → planned_mark (planned_at xs q) (fingerprint_at (put t p.path (node_of p.want)) q) ≡ planned_mark (cond b (Some x) (planned_at xs q)) (fingerprint_at t q)
    at true same =
        let here : p.path ≡ q = have.0.path ∙ same_means x.path q same in
        let none : planned_at xs q ≡ None = subst (λ n. planned_at xs n ≡ None) (same_means x.path q same) (none_later x.path xs rising.0) in
        ap (λ o. planned_mark o (fingerprint_at (put t p.path (node_of p.want)) q)) none
        ∙ ap fingerprint (subst (λ n. get (put t p.path (node_of p.want)) n ≡ node_of p.want) here (get_put_here t p.path (node_of p.want)))
        ∙ have.0.marked.marked
    at false other =
        let elsewhere : same_name q p.path ≡ false = subst (λ n. same_name q n ≡ false) (sym have.0.path) (other_way x.path q other) in
        ap (λ o. planned_mark (planned_at xs q) (fingerprint o)) (get_put_other t p.path (node_of p.want) q elsewhere)

-- ---- the result is a tree

dir_of_mark : (o : Option Node) → marks.is_dir (fingerprint o) ≡ is_dir o
dir_of_mark None = refl
dir_of_mark (Some (node.Dir mode)) = refl
dir_of_mark (Some (node.File mode bytes)) = refl
dir_of_mark (Some (node.Link target)) = refl

nothing_of_mark : (o : Option Node) → is_some o ≡ true → marks.is_nothing (fingerprint o) ≡ false
nothing_of_mark None is = absurd (cc is)
nothing_of_mark (Some (node.Dir mode)) is = refl
nothing_of_mark (Some (node.File mode bytes)) is = refl
nothing_of_mark (Some (node.Link target)) is = refl

root_pinned : is_pinned root ≡ true
root_pinned = refl

module _ (xs : List Planned) (ps : List Put) (x : Tree) (rising : IsStrictlySortedBy planned_cmp xs) (have : HavePuts xs ps) (free : All (λ (p : Put). IsFree p.path) ps)
    (held : All (λ (p : Put). IsTrue (may_stand (node_of p.want))) ps) (well : WellFormed x) (no_orphan : (q : Name) → IsOrphan (mark_after xs x) q → ⊥) where
  free_in : AllByRecursion (λ (p : Put). IsFree p.path) ps
  free_in = recursion_from_All (λ (p : Put). IsFree p.path) ps free

  path_each : (l : List Put) → AllByRecursion (λ (p : Put). IsFree p.path) l → AllByRecursion (λ (p : Put). IsTrue (is_some (node_of p.want)) → IsTrue (is_path p.path)) l
  path_each [] all = tt
  path_each (p ∷ l) all = (λ stands. all.0.path_is, path_each l all.1)

  root_each : (l : List Put) → AllByRecursion (λ (p : Put). IsFree p.path) l → AllByRecursion (λ (p : Put). p.path ≡ root → IsTrue (is_dir (node_of p.want))) l
  root_each [] all = tt
  root_each (p ∷ l) all = ((λ is. absurd (cc (all.0.not_pinned, subst (λ n. is_pinned n ≡ true) (sym is) root_pinned))), root_each l all.1)

  dir_at : (q : Name) → marks.is_dir (mark_after xs x q) ≡ true → IsTrue (is_dir (get (with_targets ps x) q))
  dir_at q is = sym (dir_of_mark (get (with_targets ps x) q)) ∙ ap marks.is_dir (planned_marks xs ps x rising have q) ∙ is

  above : (q : Name) → IsTrue (is_some (get (with_targets ps x) q)) → IsTrue (is_dir (get (with_targets ps x) (parent q)))
  above q stands = ⊎_elim
      (λ same. subst (λ n. IsTrue (is_dir (get (with_targets ps x) (parent n)))) (sym (same_means q root same)) root_dir)
      (λ other. ⊎_elim
      (dir_at (parent q))
      (λ no_way. absurd (no_orphan q (record {
        not_root = other;
        stands = sym (ap marks.is_nothing (planned_marks xs ps x rising have q)) ∙ nothing_of_mark (get (with_targets ps x) q) stands;
        no_way = no_way;
      })))
      (cases_Bool (marks.is_dir (mark_after xs x (parent q)))))
      (cases_Bool (same_name q root))
    where
      root_dir : IsTrue (is_dir (get (with_targets ps x) (parent root)))
      root_dir = targets_keep (λ n o. n ≡ root → IsTrue (is_dir o)) ps x (λ n is. subst (λ m. IsTrue (is_dir (get x m))) (sym is) well.root_stands) (root_each ps free_in) (parent root) refl

  pub targets_formed : WellFormed (with_targets ps x)
  targets_formed = record {
    paths = targets_keep (λ q o. IsTrue (is_some o) → IsTrue (is_path q)) ps x well.paths (path_each ps free_in);
    root_stands = targets_keep (λ n o. n ≡ root → IsTrue (is_dir o)) ps x (λ n is. subst (λ m. IsTrue (is_dir (get x m))) (sym is) well.root_stands) (root_each ps free_in) root refl;
    parents = above;
    nodes = targets_keep (λ q o. IsTrue (may_stand o)) ps x well.nodes (recursion_from_All (λ (p : Put). IsTrue (may_stand (node_of p.want))) ps held);
  }
