-- A job that nothing was edited after can be taken back.
use Rattle.std.proofs.Common.{◌≡◌, ◌≢◌, IsTrue, true, get_or, Option, Some, None, is_some, refl, sym, ◌∙◌, ap, subst}
use Rattle.std.specs.FinMap.{get}
use Rattle.trove_stream.specs.cny-base.Path.{parent}
use Rattle.trove_stream.specs.cny-base.declared.node.Node.{Node}
use Rattle.tree_journal.specs.tree-disk.Tree.{Name, Tree, is_dir, WellFormed}
use Rattle.tree_journal.specs.journal-log.Targets.{with_targets}
use Rattle.tree_scan.specs.Marks.{fingerprint}
use Rattle.local_db.specs.SystemState.{StackItem, SystemState, IsStackItem}
use Rattle.local_db.specs.Steps.{backs, HasForeignEntry, CanRollBack}
use Rattle.local_db.proofs.Images.{all_restored}

there : (n : Option Node) → n ≢ None → IsTrue (is_some n)
there None not = absurd (not refl)
there (Some node) not = refl

-- what stands in a directory outside the paths of the job stood there before it, so the directory did
no_foreign : (o : StackItem) → IsStackItem o → (p : Name) → HasForeignEntry o o.after p → ⊥
no_foreign o is p h =
    let q = h.2.0 in
    let same : get o.after q ≡ get o.before q = sym (is.same q h.2.1) in
    let stood : IsTrue (is_some (get o.before q)) = there (get o.before q) (λ none. h.2.3 (same ∙ none)) in
    let dir : is_dir (get o.before (parent q)) ≡ true = is.before_formed.parents q stood in
    absurd (cc (dir, ap (λ (r : Name). is_dir (get o.before r)) h.2.2, h.0))

pub unedited : (o : StackItem) → IsStackItem o → (s : SystemState) → s.tree ≡ o.after → CanRollBack o s
unedited o is s same = record {
  marks = λ k d lt. ap (λ (t : Tree). fingerprint (get t (get_or o.paths k d))) same;
  no_foreign_entry = λ k d lt h. no_foreign o is (get_or o.paths k d) (subst (λ (t : Tree). HasForeignEntry o t (get_or o.paths k d)) same h);
  well_formed = subst WellFormed (sym (ap (with_targets (backs o)) same ∙ all_restored o is)) is.before_formed;
}
