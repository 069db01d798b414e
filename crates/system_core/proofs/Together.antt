-- The writes of several rollbacks make of the tree what the rollbacks make one after the other.
use Rattle.std.proofs.Common.{◌≡◌, ⊎_elim, ℕ, true, false, List, ◌++◌, get_or, Option, Some, None, All, Contains, refl, sym, ◌∙◌, ap, subst}
use Rattle.std.proofs.lemmas.Bool.{cases_Bool}
use Rattle.std.proofs.lemmas.List.Elements.{All-contains, Contains-append_left, Contains-get_or}
use Rattle.std.specs.FinMap.{get}
use Rattle.rollback_stack.specs.cny-base.Reserved.{is_reserved}
use Rattle.rollback_stack.specs.journal-log.declared.put.Put.{Put}
use Rattle.rollback_stack.specs.journal-log.Targets.{is_target, node_of, with_targets}
use Rattle.rollback_stack.proofs.tree-disk.Laws.{same_tree}
use Rattle.rollback_stack.specs.tree-disk.Tree.{Name, Tree, WellFormed}
use Rattle.rollback_stack.specs.tree-scan.Marks.{fingerprint}
use Rattle.job_targets.specs.Old.{IsSaved}
use Rattle.local_db.specs.Stores.{StoresIn}
use Rattle.local_db.specs.SystemState.{IsFree, IsStackItem, StackItem, SystemState, is_listed}
use Rattle.local_db.specs.Steps.{after_rollbacks, want_of}
use Rattle.local_db.specs.declared.format.Format.TheVariants.{Two}
use Rattle.local_db.proofs.Sorted.{listed_in}
use Rattle.local_db.proofs.Systems.{node_of_want}
use Rattle.local_db.proofs.Writes.{not_both, with_targets_target}
use Rattle.rollback_stack.specs.past-jobs.Jobs.{CanUndoAll, oldest_with, undone_all}
use Rattle.rollback_stack.specs.past-jobs.Marks.{marks_of}
use Rattle.rollback_stack.specs.Inverse.{AreOldNodes, IsOldWant, StaysNothing}
use Rattle.system_core.specs.RestoringAll.{old_node}
use Rattle.system_core.proofs.Sequence.{AreTurns, IsOldest, after_tree, all_turns, entries_all, none_old, oldest_is, saved_in}
use Rattle.system_core.proofs.NewestStored.{one_content, same_want}
use Rattle.system_core.proofs.Turn.{first_turn}
use Rattle.system_core.proofs.Migration.{AreFrom}
use Rattle.tree_journal.proofs.WriteSets.{target_at, with_targets_outside}
use Rattle.local_db.proofs.cny-base.Lists.{left_all as all_front}
use Rattle.tree_journal.proofs.journal-log.Walking.{listed as is_target-from}
use Rattle.local_db.proofs.Other.{nothing_there as none_told}

module _ (x : Tree) (s : SystemState) (stores : StoresIn Two x s) (well : WellFormed x) (n : ℕ) (os rest : List StackItem) (stack : s.stack ≡ os ++ rest) (from : AreFrom n os)
    (can : CanUndoAll (entries_all os) (marks_of x)) where
  pub turns : AreTurns x (marks_of x) s os rest
  turns = all_turns x (marks_of x) s os rest (first_turn x s stores well) stack can

  pub items : All IsStackItem os
  items = all_front IsStackItem os rest (subst (All IsStackItem) stack stores.system.olds)

  in_stack : (o : StackItem) → Contains os o → Contains s.stack o
  in_stack o among = subst (λ (l : List StackItem). Contains l o) (sym stack) (Contains-append_left os rest o among)

  pub free_of : (q : Name) (o : StackItem) → Contains os o → is_listed o.paths q ≡ true → IsFree q
  free_of q o among own = All-contains IsFree o.paths q (All-contains IsStackItem os o items among).free (listed_in o.paths q own)

  -- at each path outside the private directory, the fingerprint after the rollbacks is that of the old node
  pub mark_after : (q : Name) → is_reserved q ≡ false → undone_all (entries_all os) (marks_of x) q ≡ fingerprint (old_node os q (get s.tree q))
  mark_after q out = turns.turn.outer q out ∙ ap fingerprint (after_tree os rest s items q)

  module _ (nodes : List Put) (are : AreOldNodes x n (entries_all os) nodes) where
    pub named : (p : Put) → Contains nodes p → (k : ℕ) × (oldest_with n (entries_all os) p.path ≡ Some k) × IsOldWant x k (undone_all (entries_all os) (marks_of x) p.path) p.want
    named p among = All-contains (λ (p : Put). (k : ℕ) × (oldest_with n (entries_all os) p.path ≡ Some k) × IsOldWant x k (undone_all (entries_all os) (marks_of x) p.path) p.want) nodes p are.old among

    pub oldest_of : (p : Put) → (among : Contains nodes p) → IsOldest os p.path (named p among).0
    oldest_of p among = oldest_is n os p.path (named p among).0 from (named p among).1

    pub node_free : (p : Put) → Contains nodes p → IsFree p.path
    node_free p among = let old = oldest_of p among in free_of p.path old.job old.among old.own

    pub nodes_free : All (λ (p : Put). IsFree p.path) nodes
    nodes_free k d lt = node_free (get_or nodes k d) (Contains-get_or nodes k d lt)

    node_is : (p : Put) → Contains nodes p → node_of p.want ≡ old_node os p.path (get s.tree p.path)
    node_is p among = ap node_of want_is ∙ node_of_want (get old.job.before p.path) ∙ sym (old.node (get s.tree p.path))
      where
        old : IsOldest os p.path (named p among).0
        old = oldest_of p among

        is : IsOldWant x (named p among).0 (undone_all (entries_all os) (marks_of x) p.path) p.want
        is = (named p among).2

        mark : fingerprint (node_of p.want) ≡ fingerprint (get old.job.before p.path)
        mark = is.marked.marked ∙ mark_after p.path (node_free p among).not_reserved ∙ ap fingerprint (old.node (get s.tree p.path))

        want_is : p.want ≡ want_of (get old.job.before p.path)
        want_is = same_want p.want (get old.job.before p.path) is.marked.given mark
            (λ a d b c file there hash. one_content x old.job p.path (saved_in x s.installed s.stack old.job stores.olds (in_stack old.job old.among)) (listed_in old.job.paths p.path old.own) p.want a d b c file there hash
            (subst (λ (k : ℕ). IsSaved x k p.want) (sym old.number_is) is.bytes))

    -- where no write is, what stands there is what is to stand there
    stays : (q : Name) → is_target nodes q ≡ false → get s.tree q ≡ old_node os q (get s.tree q)
    stays q miss = at (oldest_with n (entries_all os) q) refl
      where
        here : (k : ℕ) → oldest_with n (entries_all os) q ≡ Some k → StaysNothing x (entries_all os) q → get s.tree q ≡ old_node os q (get s.tree q)
        here k is still =
            let old = oldest_is n os q k from is in
            let out = (free_of q old.job old.among old.own).not_reserved in
            sym (stores.managed q out) ∙ still.there ∙ sym (none_told (old_node os q (get s.tree q)) (sym (mark_after q out) ∙ still.wanted))

        at : (r : Option ℕ) → oldest_with n (entries_all os) q ≡ r → get s.tree q ≡ old_node os q (get s.tree q)
        at None none = sym (none_old n os q none (get s.tree q))
        at (Some k) is = ⊎_elim
            (λ still. here k is still)
            (λ write. not_both (is_target nodes q) (is_target-from nodes (record { path = q; want = write.0 }) write.1) miss)
            (are.all q k is)

    pub together : with_targets nodes s.tree ≡ (after_rollbacks os rest s).tree
    together = same_tree (with_targets nodes s.tree) (after_rollbacks os rest s).tree (λ q. at q ∙ sym (after_tree os rest s items q))
      where
        at : (q : Name) → get (with_targets nodes s.tree) q ≡ old_node os q (get s.tree q)
        at q = ⊎_elim
            (λ hit. let t = target_at nodes q hit in
            ap (get (with_targets nodes s.tree)) t.2 ∙ with_targets_target nodes s.tree t.0 are.rises t.1 ∙ node_is t.0 t.1 ∙ ap (λ (n : Name). old_node os n (get s.tree n)) (sym t.2))
            (λ no. with_targets_outside nodes s.tree q no ∙ stays q no)
            (cases_Bool (is_target nodes q))
