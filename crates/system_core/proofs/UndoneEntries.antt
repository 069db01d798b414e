-- What the entries of a job undo, and the tree with the writes that take it back.
use Rattle.std.proofs.Common.{◌≡◌, ◌≢◌, ⊎_elim, Bool, true, false, ◌||◌, List, [], ◌∷◌, map, refl, sym, ◌∙◌, ap, subst}
use Rattle.std.specs.Prelude.{if◌then◌else◌}
use Rattle.std.proofs.lemmas.Bool.{cases_Bool}
use Rattle.std.specs.FinMap.{get}
use Rattle.rollback_stack.specs.journal-log.declared.put.Put.{Put}
use Rattle.rollback_stack.specs.journal-log.WriteSet.{Rises}
use Rattle.rollback_stack.specs.journal-log.Targets.{node_of, with_targets}
use Rattle.rollback_stack.specs.tree-disk.Laws.{same_means}
use Rattle.rollback_stack.proofs.tree-disk.Laws.{get_put_other}
use Rattle.rollback_stack.specs.tree-disk.Tree.{Name, Tree, put, same_name}
use Rattle.rollback_stack.specs.tree-scan.declared.mark.Mark.{Mark}
use Rattle.rollback_stack.specs.tree-scan.Marks.{fingerprint, same_mark}
use Rattle.rollback_stack.proofs.tree-scan.MarkLaws.{same_mark_itself, same_mark_means}
use Rattle.local_db.specs.Record as state
use Rattle.local_db.specs.SystemState.{StackItem, is_listed}
use Rattle.local_db.specs.Steps.{want_of}
use Rattle.local_db.proofs.Systems.{node_of_want}
use Rattle.local_db.proofs.Writes.{with_targets_target}
use Rattle.rollback_stack.specs.past-jobs.Marks.{Marks, is_path_of, undone}
use Rattle.local_db.proofs.cny-base.Lists.{contains_first}

-- ---- fingerprints of nodes

-- what isn't different is the same
pub not_different : (a b : Mark) → (a ≢ b → ⊥) → a ≡ b
not_different a b never = ⊎_elim
    (λ same. same_mark_means a b same)
    (λ other. absurd (never (λ e. absurd (cc (other, subst (λ (m : Mark). same_mark a m ≡ true) e (same_mark_itself a))))))
    (cases_Bool (same_mark a b))

-- ---- a job of a system

abbrev pub told_at : StackItem → Name → state.Entry
told_at o p = record { path = p; was = fingerprint (get o.before p); now = fingerprint (get o.after p) }

abbrev pub back_at : StackItem → Name → Put
back_at o p = record { path = p; want = want_of (get o.before p) }

pub path_listed : (o : StackItem) (paths : List Name) (q : Name) → is_path_of (map (told_at o) paths) q ≡ is_listed paths q
path_listed o [] q = refl
path_listed o (p ∷ paths) q = ap (λ (b : Bool). same_name q p || b) (path_listed o paths q)

pub undone_back : (o : StackItem) (paths : List Name) (m : Marks) (y : Tree) (q : Name) → Rises (map (back_at o) paths) → m q ≡ fingerprint (get y q)
    → undone (map (told_at o) paths) m q ≡ fingerprint (get (with_targets (map (back_at o) paths) y) q)
undone_back o [] m y q rises same = same
undone_back o (p ∷ paths) m y q rises same = at (same_name q p) refl
    (λ other. undone_back o paths m (put y p (node_of (want_of (get o.before p)))) q rises.1 (same ∙ ap fingerprint (sym (get_put_other y p (node_of (want_of (get o.before p))) q other))))
  where
    at : (b : Bool) → same_name q p ≡ b
        → (same_name q p ≡ false → undone (map (told_at o) paths) m q ≡ fingerprint (get (with_targets (map (back_at o) paths) (put y p (node_of (want_of (get o.before p))))) q))
        → (if b then fingerprint (get o.before p) else undone (map (told_at o) paths) m q) ≡ fingerprint (get (with_targets (map (back_at o) (p ∷ paths)) y) q)
    at true is later = ap fingerprint (sym (ap (get (with_targets (map (back_at o) (p ∷ paths)) y)) (same_means q p is)
        ∙ with_targets_target (map (back_at o) (p ∷ paths)) y (back_at o p) rises (contains_first (back_at o p) (map (back_at o) paths))
        ∙ node_of_want (get o.before p)))
    at false is later = later is
