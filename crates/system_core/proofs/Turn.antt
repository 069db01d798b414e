-- A job when its turn comes to be taken back, by the fingerprints at all paths and the system that the newer ones left.
use Rattle.std.proofs.Common.{◌≡◌, ◌≢◌, ◌⊎◌, inl, inr, ⊎_elim, true, false, List, ◌∷◌, ◌++◌, map, get_or, None, is_some, All, refl, sym, ◌∙◌, ap, subst}
use Rattle.std.proofs.lemmas.Bool.{cases_Bool}
use Rattle.std.proofs.lemmas.List.Elements.{All-contains, All-head}
use Rattle.std.specs.FinMap.{get}
use Rattle.rollback_stack.specs.cny-base.Path.{is_path, parent, root}
use Rattle.rollback_stack.specs.cny-base.Reserved.{is_pinned, is_reserved}
use Rattle.rollback_stack.specs.journal-log.WriteSet.{Rises}
use Rattle.rollback_stack.specs.journal-log.Targets.{with_targets}
use Rattle.rollback_stack.specs.tree-disk.Tree.{Name, Tree, WellFormed, is_dir, may_stand}
use Rattle.rollback_stack.specs.tree-scan.Marks as marks
use Rattle.rollback_stack.specs.tree-scan.Marks.{fingerprint}
use Rattle.local_db.specs.Record as state
use Rattle.local_db.specs.Stores.{StoresIn}
use Rattle.local_db.specs.SystemState.{IsFree, IsStackItem, IsSystemState, StackItem, SystemState, is_listed}
use Rattle.local_db.specs.Steps.{CanRollBack, HasForeignEntry, after_rollback, backs}
use Rattle.local_db.specs.declared.format.Format.TheVariants.{Two}
use Rattle.local_db.proofs.Images.{kept, restored}
use Rattle.local_db.proofs.Sorted.{listed_in}
use Rattle.local_db.proofs.Systems.{listed_backs, rising_backs, rollback_is_system}
use Rattle.local_db.proofs.Writes.{not_both}
use Rattle.rollback_stack.proofs.past-jobs.JobLaws.{undone_other}
use Rattle.rollback_stack.specs.past-jobs.Marks as undo
use Rattle.rollback_stack.specs.past-jobs.Marks.{CanUndo, Marks, marks_of, undone}
use Rattle.system_core.specs.Tests as test
use Rattle.system_core.proofs.Outer.{parent_inner}
use Rattle.system_core.proofs.NewestStored.{split_map}
use Rattle.system_core.proofs.UndoneEntries.{not_different, path_listed, told_at, undone_back}
use Rattle.system_core.proofs.Putting.{stands}
use Rattle.rollback_stack.proofs.job-record.ByLists.{unmapped}
use Rattle.tree_journal.proofs.WriteSets.{with_targets_outside}
use Rattle.local_db.proofs.cny-base.Lists.{left_all as all_front, all_at as all_middle}
use Rattle.conflict_plan.proofs.Sighted.{stands_dir as dir_told}
use Rattle.local_db.proofs.Other.{nothing_there as none_told}
use Rattle.local_db.proofs.Putting.{parent_outer}

-- The fingerprints are those of the system's tree outside the private directory, and of a well-formed tree at the reserved and the
-- pinned names.
pub record IsTurn (x : Tree) (m : Marks) (s : SystemState) : Type 0 where
  pub well : WellFormed x
  pub system : IsSystemState s
  pub outer : (q : Name) → is_reserved q ≡ false → m q ≡ fingerprint (get s.tree q)
  pub inner : (q : Name) → (is_reserved q ≡ true) ⊎ (is_pinned q ≡ true) → m q ≡ fingerprint (get x q)

-- the turn of the newest job of the system that a root stores
pub first_turn : (x : Tree) (s : SystemState) → StoresIn Two x s → WellFormed x → IsTurn x (marks_of x) s
first_turn x s stores well = record { well = well; system = stores.system; outer = λ q out. ap fingerprint (stores.managed q out); inner = λ q why. refl }

module _ (x : Tree) (m : Marks) (s : SystemState) (turn : IsTurn x m s) (o : StackItem) (olds : List StackItem) (stack : s.stack ≡ o ∷ olds) where
  pub item : IsStackItem o
  item = All-head IsStackItem o olds (subst (All IsStackItem) stack turn.system.olds)

  pub rises : Rises (backs o)
  rises = rising_backs o item.rising

  pub free_at : (p : Name) → is_listed o.paths p ≡ true → IsFree p
  free_at p own = All-contains IsFree o.paths p item.free (listed_in o.paths p own)

  -- what isn't a path of the job, because it is reserved or pinned
  pub not_listed : (q : Name) → (is_reserved q ≡ true) ⊎ (is_pinned q ≡ true) → is_listed o.paths q ≡ false
  not_listed q why = ⊎_elim
      (λ own. absurd (⊎_elim (λ (in' : is_reserved q ≡ true). not_both {A = ⊥} (is_reserved q) in' (free_at q own).not_reserved) (λ (pin : is_pinned q ≡ true). not_both {A = ⊥} (is_pinned q) pin (free_at q own).not_pinned) why))
      (λ out. out)
      (cases_Bool (is_listed o.paths q))

  -- ---- names outside the private directory

  pub outer_name : (q : Name) → get s.tree q ≢ None → is_reserved q ≡ false
  outer_name q some = ⊎_elim (λ in'. absurd (some (turn.system.managed q in'))) (λ out. out) (cases_Bool (is_reserved q))

  -- ---- edits

  -- what stands directly in a path of the job is outside the private directory
  pub child_outer : (p q : Name) → IsFree p → parent q ≡ p → is_reserved q ≡ false
  child_outer p q free above = ⊎_elim
      (λ in'. absurd (⊎_elim
      (λ (low : is_reserved (parent q) ≡ true). not_both {A = ⊥} (is_reserved p) (ap is_reserved (sym above) ∙ low) free.not_reserved)
      (λ (pin : is_pinned (parent q) ≡ true). not_both {A = ⊥} (is_pinned p) (ap is_pinned (sym above) ∙ pin) free.not_pinned)
      (parent_inner q in')))
      (λ out. out)
      (cases_Bool (is_reserved q))

  pub foreign_to : (p : Name) → IsFree p → undo.HasForeignEntry (state.entries_of o) m (told_at o p) → HasForeignEntry o s.tree p
  foreign_to p free h =
      let q = h.2.0 in
      let out = child_outer p q free h.2.2 in (
        sym (dir_told (get o.before p)) ∙ h.0,
        sym (dir_told (get o.after p)) ∙ h.1,
        (
          q,
          sym (path_listed o o.paths q) ∙ h.2.1,
          h.2.2,
          λ none. h.2.3 (turn.outer q out ∙ ap fingerprint none),
        ),
      )

  pub foreign_from : (p : Name) → HasForeignEntry o s.tree p → undo.HasForeignEntry (state.entries_of o) m (told_at o p)
  foreign_from p h =
      let q = h.2.0 in (
        dir_told (get o.before p) ∙ h.0,
        dir_told (get o.after p) ∙ h.1,
        (
          q,
          path_listed o o.paths q ∙ h.2.1,
          h.2.2,
          λ nothing. h.2.3 (none_told (get s.tree q) (sym (turn.outer q (outer_name q h.2.3)) ∙ nothing)),
        ),
      )

  pub edited_to : (p : Name) → IsFree p → undo.IsEdited (state.entries_of o) m (told_at o p) → test.IsEditedSince o s.tree p
  edited_to p free (inl other) = inl (λ same. other (turn.outer p free.not_reserved ∙ same))
  edited_to p free (inr foreign) = inr (foreign_to p free foreign)

  pub edited_from : (p : Name) → IsFree p → test.IsEditedSince o s.tree p → undo.IsEdited (state.entries_of o) m (told_at o p)
  edited_from p free (inl other) = inl (λ same. other (sym (turn.outer p free.not_reserved) ∙ same))
  edited_from p free (inr foreign) = inr (foreign_from p foreign)

  -- no path of the job is edited
  pub unedited_to : (paths : List Name) → All IsFree paths → All (λ (e : state.Entry). undo.IsEdited (state.entries_of o) m e → ⊥) (map (told_at o) paths)
      → All (λ (p : Name). test.IsEditedSince o s.tree p → ⊥) paths
  unedited_to paths free none k d lt = λ edited. unmapped (λ (e : state.Entry). undo.IsEdited (state.entries_of o) m e → ⊥) (told_at o) paths none k d lt (edited_from (get_or paths k d) (free k d lt) edited)

  -- ---- the tree with the nodes before the job

  pub result_at : (q : Name) → is_reserved q ≡ false → undone (state.entries_of o) m q ≡ fingerprint (get (with_targets (backs o) s.tree) q)
  result_at q out = undone_back o o.paths m s.tree q rises (turn.outer q out)

  pub result_inner : (q : Name) → is_reserved q ≡ true → get (with_targets (backs o) s.tree) q ≡ None
  result_inner q in' = with_targets_outside (backs o) s.tree q (listed_backs o q ∙ not_listed q (inl in')) ∙ turn.system.managed q in'

  pub result_path : (q : Name) → get (with_targets (backs o) s.tree) q ≢ None → is_path q ≡ true
  result_path q some = ⊎_elim
      (λ own. (free_at q own).path_is)
      (λ other. turn.system.tree.paths q (stands (get s.tree q) (λ none. some (with_targets_outside (backs o) s.tree q (listed_backs o q ∙ other) ∙ none))))
      (cases_Bool (is_listed o.paths q))

  pub result_outer : (q : Name) → get (with_targets (backs o) s.tree) q ≢ None → is_reserved q ≡ false
  result_outer q some = ⊎_elim (λ in'. absurd (some (result_inner q in'))) (λ out. out) (cases_Bool (is_reserved q))

  -- an orphan of the result is one by the fingerprints
  pub orphan_from : (q : Name) → test.LacksDirectory (with_targets (backs o) s.tree) q → undo.IsOrphan (undone (state.entries_of o) m) q
  orphan_from q h =
      let out = result_outer q h.0 in (
        λ nothing. h.0 (none_told (get (with_targets (backs o) s.tree) q) (sym (result_at q out) ∙ nothing)),
        ap marks.is_dir (result_at (parent q) (parent_outer q (result_path q h.0) out)) ∙ dir_told (get (with_targets (backs o) s.tree) (parent q)) ∙ h.1,
      )

  pub undone_as_read : (q : Name) → is_listed o.paths q ≡ false → undone (state.entries_of o) m q ≡ m q
  undone_as_read q other = undone_other (state.entries_of o) m q (path_listed o o.paths q ∙ other)

  pub inner_as_read : (q : Name) → (is_reserved q ≡ true) ⊎ (is_pinned q ≡ true) → undone (state.entries_of o) m q ≡ fingerprint (get x q)
  inner_as_read q why = undone_as_read q (not_listed q why) ∙ turn.inner q why

  -- an orphan by the fingerprints is outside the private directory
  pub orphan_outer : (q : Name) → undo.IsOrphan (undone (state.entries_of o) m) q → is_reserved q ≡ false
  orphan_outer q h = ⊎_elim (λ in'. absurd (never in')) (λ out. out) (cases_Bool (is_reserved q))
    where
      some : is_reserved q ≡ true → get x q ≢ None
      some in' none = h.0 (inner_as_read q (inl in') ∙ ap fingerprint none)

      never : is_reserved q ≡ true → ⊥
      never in' = not_both (is_dir (get x (parent q))) (turn.well.parents q (stands (get x q) (some in')))
          (sym (dir_told (get x (parent q))) ∙ ap marks.is_dir (sym (inner_as_read (parent q) (parent_inner q in'))) ∙ h.1)

  pub orphan_path : (q : Name) → undo.IsOrphan (undone (state.entries_of o) m) q → is_path q ≡ true
  orphan_path q h = ⊎_elim
      (λ own. (free_at q own).path_is)
      (λ other. turn.system.tree.paths q (stands (get s.tree q) (λ none. h.0 (undone_as_read q other ∙ turn.outer q (orphan_outer q h) ∙ ap fingerprint none))))
      (cases_Bool (is_listed o.paths q))

  pub orphan_to : (q : Name) → undo.IsOrphan (undone (state.entries_of o) m) q → test.LacksDirectory (with_targets (backs o) s.tree) q
  orphan_to q h =
      let out = orphan_outer q h in (
        λ none. h.0 (result_at q out ∙ ap fingerprint none),
        sym (dir_told (get (with_targets (backs o) s.tree) (parent q))) ∙ ap marks.is_dir (sym (result_at (parent q) (parent_outer q (orphan_path q h) out))) ∙ h.1,
      )

  -- ---- refusals

  pub first_orphan_to : (path : Name) → undo.IsFirstOrphan (state.entries_of o) m path → test.IsFirstWithoutDirectory o s.tree path
  first_orphan_to path h = record {
    unedited = unedited_to o.paths item.free h.unedited;
    orphan = orphan_to path h.orphan;
    first = λ q less orphan. h.first q less (orphan_from q orphan);
  }

  pub first_edited_to : (path : Name) → undo.IsFirstEdited (state.entries_of o) m path → test.IsFirstEditedSince o s.tree path
  first_edited_to path h =
      let parts = split_map (told_at o) o.paths h.front h.first h.rest h.split in
      let named : path ≡ parts.one = h.path_is ∙ ap (λ (e : state.Entry). e.path) parts.one_is in
      let frees : All IsFree (parts.before ++ parts.one ∷ parts.behind) = subst (All IsFree) parts.split item.free in
      record {
        front = parts.before;
        rest = parts.behind;
        split = parts.split ∙ ap (λ (p : Name). parts.before ++ p ∷ parts.behind) (sym named);
        unedited = unedited_to parts.before (all_front IsFree parts.before (parts.one ∷ parts.behind) frees)
            (subst (All (λ (e : state.Entry). undo.IsEdited (state.entries_of o) m e → ⊥)) parts.front_is h.unedited);
        edited = subst (test.IsEditedSince o s.tree) (sym named)
            (edited_to parts.one (all_middle IsFree parts.before parts.one parts.behind frees)
            (subst (undo.IsEdited (state.entries_of o) m) parts.one_is h.edited));
      }

  -- ---- the rollback

  module _ (can : CanUndo (state.entries_of o) m) where
    formed_result : WellFormed (with_targets (backs o) s.tree)
    formed_result = record {
      paths = λ q some. result_path q (there q some);
      root_stands = ap is_dir (with_targets_outside (backs o) s.tree root (listed_backs o root ∙ not_listed root (inr refl))) ∙ turn.system.tree.root_stands;
      parents = λ q some. ⊎_elim
          (λ dir. dir)
          (λ no. absurd (can.no_orphan q (orphan_from q (there q some, no))))
          (cases_Bool (is_dir (get (with_targets (backs o) s.tree) (parent q))));
      nodes = λ q. ⊎_elim
          (λ own. ap may_stand (restored o item s.tree q own) ∙ item.before_formed.nodes q)
          (λ other. ap may_stand (kept o item s.tree q other) ∙ turn.system.tree.nodes q)
          (cases_Bool (is_listed o.paths q));
    }
      where
        there : (q : Name) → is_some (get (with_targets (backs o) s.tree) q) ≡ true → get (with_targets (backs o) s.tree) q ≢ None
        there q some none = absurd (cc (some, none))

    pub can_roll_back : CanRollBack o s
    can_roll_back = record {
      marks = λ k d lt. same_mark_at (get_or o.paths k d) (item.free k d lt) (clean k d lt);
      no_foreign_entry = λ k d lt foreign. clean k d lt (inr (foreign_from (get_or o.paths k d) foreign));
      well_formed = formed_result;
    }
      where
        clean : All (λ (p : Name). undo.IsEdited (state.entries_of o) m (told_at o p) → ⊥) o.paths
        clean = unmapped (λ (e : state.Entry). undo.IsEdited (state.entries_of o) m e → ⊥) (told_at o) o.paths can.unedited

        same_mark_at : (p : Name) → IsFree p → (undo.IsEdited (state.entries_of o) m (told_at o p) → ⊥) → fingerprint (get s.tree p) ≡ fingerprint (get o.after p)
        same_mark_at p free none = sym (turn.outer p free.not_reserved) ∙ not_different (m p) (fingerprint (get o.after p)) (λ other. none (inl other))

    -- then it is the next one's turn
    pub next_turn : IsTurn x (undone (state.entries_of o) m) (after_rollback o olds s)
    next_turn = record {
      well = turn.well;
      system = rollback_is_system o olds s turn.system stack formed_result;
      outer = result_at;
      inner = inner_as_read;
    }
