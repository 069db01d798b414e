-- What a rollback restores.
use Rattle.std.proofs.Common.{◌≡◌, ◌≢◌, inr, ⊎_elim, true, false, List, ◌∷◌, Option, Some, None, is_some, Contains, refl, sym, ◌∙◌, ap, subst, arith}
use Rattle.std.proofs.lemmas.Bool.{cases_Bool}
use Rattle.std.proofs.lemmas.List.Elements.{All-contains, Contains-append_right}
use Rattle.std.specs.FinMap.{get}
use Rattle.rollback_stack.specs.cny-base.Path.{parent}
use Rattle.rollback_stack.specs.cny-base.declared.node.Node.{Node}
use Rattle.rollback_stack.specs.tree-disk.Tree.{Name, Tree, WellFormed, is_dir}
use Rattle.rollback_stack.specs.tree-scan.Marks as marks
use Rattle.rollback_stack.specs.tree-scan.Marks.{fingerprint}
use Rattle.local_db.specs.SystemState.{IsStackItem, StackItem, is_listed}
use Rattle.local_db.proofs.Images.{kept, restored}
use Rattle.local_db.proofs.Sorted.{in_listed, listed_in}
use Rattle.local_db.proofs.Writes.{not_both}
use Rattle.system_core.specs.Restoring.{IsLeftAlone, IsPutInto, IsUnedited}
use Rattle.system_core.specs.Tests.{IsEditedSince, IsFirstEditedSince, IsFirstWithoutDirectory}
use Rattle.system_core.proofs.Putting.{stands}
use Rattle.conflict_plan.proofs.Sighted.{stands_dir as dir_told}

none_of : (n : Option Node) → (is_some n ≡ true → ⊥) → n ≡ None
none_of None never = refl
none_of (Some n) never = absurd (never refl)

module _ (o : StackItem) (item : IsStackItem o) (tree : Tree) (unedited : IsUnedited o tree) where
  mark_at : (p : Name) → is_listed o.paths p ≡ true → fingerprint (get tree p) ≡ fingerprint (get o.after p)
  mark_at p own = All-contains (λ (p : Name). fingerprint (get tree p) ≡ fingerprint (get o.after p)) o.paths p unedited (listed_in o.paths p own)

  -- what the job didn't change stands as it stood before
  as_before : (q : Name) → is_listed o.paths q ≡ false → get o.before q ≡ get o.after q
  as_before q other = item.same q other

  pub put_into : (path : Name) → IsFirstEditedSince o tree path → IsPutInto o tree path
  put_into path h = ⊎_elim
      (λ other. absurd (other (mark_at path own)))
      (λ foreign. record {
        own = own;
        no_dir = foreign.0;
        made = foreign.1;
        name = foreign.2.0;
        other = foreign.2.1;
        below = foreign.2.2;
        left = sym (as_before foreign.2.0 foreign.2.1) ∙ none_of (get o.before foreign.2.0)
            (λ some. not_both (is_dir (get o.before path)) (ap (λ (n : Name). is_dir (get o.before n)) (sym foreign.2.2) ∙ item.before_formed.parents foreign.2.0 some) foreign.0);
        there = foreign.2.3;
      })
      h.edited
    where
      own : is_listed o.paths path ≡ true
      own = in_listed o.paths path (subst (λ (l : List Name). Contains l path) (sym h.split) (Contains-append_right h.front (path ∷ h.rest) path (0, omega arith, refl)))

  module _ (well : WellFormed tree) where
    pub left_alone : (path : Name) → IsFirstWithoutDirectory o tree path → IsLeftAlone o tree path
    left_alone path h = record {
      own = own;
      stood = stood;
      other = other;
      left = ap is_dir (sym (as_before (parent path) other)) ∙ dir_before;
      gone = ap is_dir (sym (kept o item tree (parent path) other)) ∙ h.orphan.1;
    }
      where
        there : is_listed o.paths path ≡ false → get tree path ≢ None
        there out none = h.orphan.0 (kept o item tree path out ∙ none)

        dir_there : is_listed o.paths path ≡ false → is_dir (get tree (parent path)) ≡ true
        dir_there out = well.parents path (stands (get tree path) (there out))

        -- the directory of a path that isn't the job's would be one that the job made
        never : is_listed o.paths path ≡ false → ⊥
        never out = ⊎_elim
            (λ mine. All-contains (λ (p : Name). IsEditedSince o tree p → ⊥) o.paths (parent path) h.unedited (listed_in o.paths (parent path) mine)
            (inr (
              ap is_dir (sym (restored o item tree (parent path) mine)) ∙ h.orphan.1,
              sym (dir_told (get o.after (parent path))) ∙ ap marks.is_dir (sym (mark_at (parent path) mine)) ∙ dir_told (get tree (parent path)) ∙ dir_there out,
              (path, out, refl, there out),
            )))
            (λ no. not_both (is_dir (get tree (parent path))) (dir_there out) (ap is_dir (sym (kept o item tree (parent path) no)) ∙ h.orphan.1))
            (cases_Bool (is_listed o.paths (parent path)))

        own : is_listed o.paths path ≡ true
        own = ⊎_elim (λ is. is) (λ out. absurd (never out)) (cases_Bool (is_listed o.paths path))

        stood : get o.before path ≢ None
        stood none = h.orphan.0 (restored o item tree path own ∙ none)

        dir_before : is_dir (get o.before (parent path)) ≡ true
        dir_before = item.before_formed.parents path (stands (get o.before path) stood)

        other : is_listed o.paths (parent path) ≡ false
        other = ⊎_elim
            (λ mine. absurd (not_both {A = ⊥} (is_dir (get o.before (parent path))) dir_before (ap is_dir (sym (restored o item tree (parent path) mine)) ∙ h.orphan.1)))
            (λ no. no)
            (cases_Bool (is_listed o.paths (parent path)))
