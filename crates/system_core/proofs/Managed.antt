-- A plan over the tree of a root, which has the private directory too, is one over the tree of the system that the root stores.
use Rattle.std.proofs.Common.{◌≡◌, ◌⊎◌, inl, inr, ⊎_elim, Bool, true, false, cond, IsTrue, List, [], ◌∷◌, Option, Some, None, is_some, All, refl, sym, ◌∙◌, ap}
use Rattle.std.specs.FinMap.{get}
use Rattle.std.proofs.lemmas.Bool.{cases_Bool}
use Rattle.std.proofs.lemmas.List.Elements.{recursion_from_All}
use Rattle.std.specs.List.{AllByRecursion}
use Rattle.rollback_stack.specs.cny-base.Path.{is_path, parent}
use Rattle.rollback_stack.specs.cny-base.Reserved.{is_pinned, is_reserved}
use Rattle.rollback_stack.specs.cny-base.declared.options.Options.{Options}
use Rattle.rollback_stack.specs.cny-base.declared.refusal.Refusal.{Refusal}
use Rattle.rollback_stack.specs.cny-base.declared.refusal.Refusal.TheVariants as refusal
use Rattle.rollback_stack.specs.cny-base.declared.node.Node.{Node}
use Rattle.rollback_stack.specs.cny-base.declared.node.Node.TheVariants as node
use Rattle.rollback_stack.specs.cny-stream.declared.record.FileRec.{FileRec}
use Rattle.rollback_stack.specs.trove-stream.Trove.{IsTrove}
use Rattle.rollback_stack.specs.trove-stream.declared.parts.TroveParts.{TroveParts}
use Rattle.rollback_stack.specs.tree-disk.Tree.{Name, Tree, AgreesOutside, WellFormed, is_child, is_dir}
use Rattle.rollback_stack.specs.tree-scan.declared.mark.Mark.{Mark}
use Rattle.rollback_stack.specs.tree-scan.declared.mark.Mark.TheVariants as mark
use Rattle.rollback_stack.specs.tree-scan.Marks as marks
use Rattle.rollback_stack.specs.tree-scan.Marks.{fingerprint, fingerprint_at, is_nothing}
use Rattle.conflict_plan.specs.declared.planned.Planned.{Planned}
use Rattle.conflict_plan.specs.declared.table.Outcome.{Outcome}
use Rattle.conflict_plan.specs.declared.table.Outcome.TheVariants.{Stays}
use Rattle.conflict_plan.specs.Claims.{record_at}
use Rattle.conflict_plan.specs.Plan.{ArePlanned, HasChild, IsFirstConflict, IsFirstOrphan, IsFirstRefusal, IsOrphan, IsPlan, change_of, conflict_at, mark_after, outcome_at, planned_at, planned_mark, refusal_of}
use Rattle.conflict_plan.specs.Table.{outcome_by, path_outcome}
use Rattle.conflict_plan.proofs.Order.{child_parent}
use Rattle.conflict_plan.proofs.Remaining.{some_stands}
use Rattle.job_targets.proofs.Changing.{own_plans}
use Rattle.local_db.proofs.Writes.{not_both}
use Rattle.system_core.specs.Lists.{AllPathsAllowed}
use Rattle.system_core.proofs.Outer.{parent_inner}
use Rattle.system_core.proofs.Recorded.{IsRecordable, list_recordable}
use Rattle.update_job.specs.cny-base.Answer.{IsAnswer}
use Rattle.local_db.proofs.Putting.{parent_outer}

-- a list of troves none of which records a path that no trove may record
pub record KeepsOut (list : List TroveParts) : Type 0 where
  pub troves : All IsTrove list
  pub allowed : AllPathsAllowed list

-- the tree of a root, and that of the system that it stores
pub record IsManaged (x t : Tree) : Type 0 where
  pub formed : WellFormed x
  pub managed_formed : WellFormed t
  pub agrees : AgreesOutside is_reserved x t
  pub empty : (q : Name) → is_reserved q ≡ true → get t q ≡ None

pub recordable : (list : List TroveParts) → KeepsOut list → (path : Name) (rec : FileRec) → record_at list path ≡ Some rec → IsRecordable path
recordable list out path rec is =
    list_recordable list path (recursion_from_All IsTrove list out.troves) (recursion_from_All _ list out.allowed) (ap is_some is)

-- a list records nothing in the private directory
pub not_recorded : (list : List TroveParts) → KeepsOut list → (path : Name) → is_reserved path ≡ true → record_at list path ≡ None
not_recorded list out path inner = at (record_at list path) refl
  where
    at : (o : Option FileRec) → record_at list path ≡ o → o ≡ None
    at None is = refl
    at (Some rec) is = not_both (is_reserved path) inner (let r = recordable list out path rec is in r.outside)

pub dir_mark : (o : Option Node) → IsTrue (is_dir o) → marks.is_dir (fingerprint o) ≡ true
dir_mark None is = absurd (cc is)
dir_mark (Some (node.Dir mode)) is = refl
dir_mark (Some (node.File mode bytes)) is = absurd (cc is)
dir_mark (Some (node.Link target)) is = absurd (cc is)

module _ (old fresh : List TroveParts) (options : Options) (x t : Tree) (man : IsManaged x t) (olds : KeepsOut old) (freshes : KeepsOut fresh) where
  pub mark_same : (q : Name) → is_reserved q ≡ false → fingerprint_at x q ≡ fingerprint_at t q
  mark_same q out = ap fingerprint (man.agrees q out)

  -- ---- where there is nothing to do

  pub none_stays : (tree : Tree) (q : Name) (remains : Bool) → record_at old q ≡ None → record_at fresh q ≡ None → outcome_at old fresh options tree q remains ≡ Stays
  none_stays tree q remains no_old no_fresh =
      ap (λ (o : Option FileRec). path_outcome q o (record_at fresh q) (fingerprint_at tree q) remains options) no_old
      ∙ ap (λ (o : Option FileRec). path_outcome q None o (fingerprint_at tree q) remains options) no_fresh
      ∙ by (is_pinned q)
    where
      by : (b : Bool) → cond b Stays (outcome_by None None (fingerprint_at tree q) remains options) ≡ Stays
      by true = refl
      by false = refl

  pub inner_stays : (tree : Tree) (q : Name) (remains : Bool) → is_reserved q ≡ true → outcome_at old fresh options tree q remains ≡ Stays
  inner_stays tree q remains inner = none_stays tree q remains (not_recorded old olds q inner) (not_recorded fresh freshes q inner)

  pub pinned_stays : (tree : Tree) (q : Name) (remains : Bool) → is_pinned q ≡ true → outcome_at old fresh options tree q remains ≡ Stays
  pinned_stays tree q remains pinned = ap (λ (b : Bool). cond b Stays (outcome_by (record_at old q) (record_at fresh q) (fingerprint_at tree q) remains options)) pinned

  pub recorded_or_not : (q : Name) → IsRecordable q ⊎ ((record_at old q ≡ None) × (record_at fresh q ≡ None))
  recorded_or_not q = at (record_at old q) (record_at fresh q) refl refl
    where
      at : (o n : Option FileRec) → record_at old q ≡ o → record_at fresh q ≡ n → IsRecordable q ⊎ ((record_at old q ≡ None) × (record_at fresh q ≡ None))
      at (Some rec) n was is = inl (recordable old olds q rec was)
      at None (Some rec) was is = inl (recordable fresh freshes q rec is)
      at None None was is = inr (was, is)

  pub conflict_same : (q : Name) → conflict_at old fresh options x q ≡ conflict_at old fresh options t q
  conflict_same q = ⊎_elim
      (λ inner. ap (λ (o : Outcome). refusal_of o q) (inner_stays x q false inner ∙ sym (inner_stays t q false inner)))
      (λ out. ap (λ (m : Mark). refusal_of (path_outcome q (record_at old q) (record_at fresh q) m false options) q) (mark_same q out))
      (cases_Bool (is_reserved q))

  -- a name directly below a path outside that isn't pinned is outside
  pub child_outer : (p q : Name) → is_reserved p ≡ false → is_pinned p ≡ false → is_child p q ≡ true → is_reserved q ≡ false
  child_outer p q out unpinned child = ⊎_elim
      (λ inner. ⊎_elim
      (λ (low : is_reserved (parent q) ≡ true). not_both (is_reserved p) (ap is_reserved (sym (child_parent p q child)) ∙ low) out)
      (λ (pin : is_pinned (parent q) ≡ true). not_both (is_pinned p) (ap is_pinned (sym (child_parent p q child)) ∙ pin) unpinned)
      (parent_inner q inner))
      (λ outer. outer)
      (cases_Bool (is_reserved q))

  module _ (plan : List Planned) (are : ArePlanned old fresh options x plan) where
    -- where there is nothing to do nothing is planned
    unplanned : (q : Name) → ((remains : Bool) → outcome_at old fresh options x q remains ≡ Stays) → planned_at plan q ≡ None
    unplanned q stays = at (planned_at plan q) refl
      where
        none : (remains : Bool) → IsAnswer (HasChild (mark_after plan x) q) remains → planned_at plan q ≡ None
        none remains answer = are.targets q remains answer ∙ ap (λ (o : Outcome). change_of o q (fingerprint_at x q) (record_at fresh q)) (stays remains)

        childless : (y : Planned) → planned_at plan q ≡ Some y → HasChild (mark_after plan x) q → ⊥
        childless y is child = absurd (cc (is, none true (record { holds = λ r. child; fails = λ r. absurd (cc r) })))

        at : (o : Option Planned) → planned_at plan q ≡ o → o ≡ None
        at None is = refl
        at (Some y) is = absurd (cc (is, none false (record { holds = λ r. absurd (cc r); fails = λ r. childless y is })))

    inner_unplanned : (q : Name) → is_reserved q ≡ true → planned_at plan q ≡ None
    inner_unplanned q inner = unplanned q (λ remains. inner_stays x q remains inner)

    pinned_unplanned : (q : Name) → is_pinned q ≡ true → planned_at plan q ≡ None
    pinned_unplanned q pinned = unplanned q (λ remains. pinned_stays x q remains pinned)

    planned_recordable : (q : Name) (y : Planned) → planned_at plan q ≡ Some y → IsRecordable q
    planned_recordable q y is = ⊎_elim
        (λ r. r)
        (λ (none : (record_at old q ≡ None) × (record_at fresh q ≡ None)). absurd (cc (is, unplanned q (λ remains. none_stays x q remains none.0 none.1))))
        (recorded_or_not q)

    -- ---- the result

    after_same : (q : Name) → is_reserved q ≡ false → mark_after plan x q ≡ mark_after plan t q
    after_same q out = ap (planned_mark (planned_at plan q)) (mark_same q out)

    after_inner : (q : Name) → is_reserved q ≡ true → mark_after plan t q ≡ mark.Nothing
    after_inner q inner = ap (λ (o : Option Planned). planned_mark o (fingerprint_at t q)) (inner_unplanned q inner) ∙ ap fingerprint (man.empty q inner)

    after_still : (q : Name) → planned_at plan q ≡ None → mark_after plan x q ≡ fingerprint_at x q
    after_still q none = ap (λ (o : Option Planned). planned_mark o (fingerprint_at x q)) none

    child_to : (p : Name) → is_reserved p ≡ false → is_pinned p ≡ false → HasChild (mark_after plan t) p → HasChild (mark_after plan x) p
    child_to p out unpinned h = (h.0, h.1, ap is_nothing (after_same h.0 (child_outer p h.0 out unpinned h.1)) ∙ h.2)

    child_from : (p : Name) → is_reserved p ≡ false → is_pinned p ≡ false → HasChild (mark_after plan x) p → HasChild (mark_after plan t) p
    child_from p out unpinned h = (h.0, h.1, ap is_nothing (sym (after_same h.0 (child_outer p h.0 out unpinned h.1))) ∙ h.2)

    planned_managed : ArePlanned old fresh options t plan
    planned_managed = record {
      rising = are.rising;
      targets = λ path remains answer. ⊎_elim
          (λ inner. inner_unplanned path inner ∙ sym (ap (λ (o : Outcome). change_of o path (fingerprint_at t path) (record_at fresh path)) (inner_stays t path remains inner)))
          (λ out. ⊎_elim
          (λ pinned. pinned_unplanned path pinned ∙ sym (ap (λ (o : Outcome). change_of o path (fingerprint_at t path) (record_at fresh path)) (pinned_stays t path remains pinned)))
          (λ unpinned.
          are.targets path remains (record { holds = λ is. child_to path out unpinned (answer.holds is); fails = λ is child. answer.fails is (child_from path out unpinned child) })
          ∙ ap (λ (m : Mark). change_of (path_outcome path (record_at old path) (record_at fresh path) m remains options) path m (record_at fresh path)) (mark_same path out))
          (cases_Bool (is_pinned path)))
          (cases_Bool (is_reserved path));
    }

    -- ---- paths without their directories

    stands_below : (q : Name) → IsTrue (is_some (get x q)) → planned_at plan (parent q) ≡ None → marks.is_dir (mark_after plan x (parent q)) ≡ true
    stands_below q stands none = ap marks.is_dir (after_still (parent q) none) ∙ dir_mark (get x (parent q)) (man.formed.parents q stands)

    above_unplanned : (q : Name) → is_reserved q ≡ true → planned_at plan (parent q) ≡ None
    above_unplanned q inner = ⊎_elim (inner_unplanned (parent q)) (pinned_unplanned (parent q)) (parent_inner q inner)

    orphan_outer : (q : Name) → IsOrphan (mark_after plan x) q → is_reserved q ≡ false
    orphan_outer q orphan = ⊎_elim
        (λ inner.
        not_both (marks.is_dir (mark_after plan x (parent q)))
        (stands_below q (some_stands (get x q) (sym (ap is_nothing (after_still q (inner_unplanned q inner))) ∙ orphan.stands)) (above_unplanned q inner)) orphan.no_way)
        (λ out. out)
        (cases_Bool (is_reserved q))

    orphan_to : (q : Name) → IsOrphan (mark_after plan x) q → IsOrphan (mark_after plan t) q
    orphan_to q orphan =
        let out = orphan_outer q orphan in
        record {
          not_root = orphan.not_root;
          stands = sym (ap is_nothing (after_same q out)) ∙ orphan.stands;
          no_way = ⊎_elim
              (λ inner. ap marks.is_dir (after_inner (parent q) inner))
              (λ outer. sym (ap marks.is_dir (after_same (parent q) outer)) ∙ orphan.no_way)
              (cases_Bool (is_reserved (parent q)));
        }

    standing_path : (q : Name) → is_nothing (mark_after plan t q) ≡ false → is_path q ≡ true
    standing_path q stands = at (planned_at plan q) refl
      where
        at : (o : Option Planned) → planned_at plan q ≡ o → is_path q ≡ true
        at None is = man.managed_formed.paths q (some_stands (get t q) (sym (ap (λ (o : Option Planned). is_nothing (planned_mark o (fingerprint_at t q))) is) ∙ stands))
        at (Some y) is = let r = planned_recordable q y is in r.path_is

    orphan_from : (q : Name) → IsOrphan (mark_after plan t) q → IsOrphan (mark_after plan x) q
    orphan_from q orphan =
        let out : is_reserved q ≡ false = ⊎_elim
        (λ inner. not_both (is_nothing (mark_after plan t q)) (ap is_nothing (after_inner q inner)) orphan.stands)
        (λ o. o) (cases_Bool (is_reserved q)) in
        record {
          not_root = orphan.not_root;
          stands = ap is_nothing (after_same q out) ∙ orphan.stands;
          no_way = ap marks.is_dir (after_same (parent q) (parent_outer q (standing_path q orphan.stands) out)) ∙ orphan.no_way;
        }

    -- ---- the paths of a plan

    pub outer_plan : AllByRecursion (λ (y : Planned). is_reserved y.path ≡ false) plan
    outer_plan = by plan (recursion_from_All (λ (y : Planned). planned_at plan y.path ≡ Some y) plan (own_plans plan are.rising))
      where
        by : (rest : List Planned) → AllByRecursion (λ (y : Planned). planned_at plan y.path ≡ Some y) rest → AllByRecursion (λ (y : Planned). is_reserved y.path ≡ false) rest
        by [] own = tt
        by (y ∷ rest) own = ((let r = planned_recordable y.path y own.0 in r.outside), by rest own.1)

  -- ---- plans and refusals

  pub plan_managed : (plan : List Planned) → IsPlan old fresh options x plan → IsPlan old fresh options t plan
  plan_managed plan is = record {
    unshared = is.unshared;
    no_conflict = λ q. sym (conflict_same q) ∙ is.no_conflict q;
    planned = planned_managed plan is.planned;
    no_orphan = λ q orphan. is.no_orphan q (orphan_from plan is.planned q orphan);
  }

  pub conflict_managed : (path : Name) (why : Refusal) → IsFirstConflict old fresh options x path why → IsFirstConflict old fresh options t path why
  conflict_managed path why is = record {
    unshared = is.unshared;
    refused = sym (conflict_same path) ∙ is.refused;
    first_path = λ q less. sym (conflict_same q) ∙ is.first_path q less;
  }

  pub orphan_managed : (path : Name) → IsFirstOrphan old fresh options x path → IsFirstOrphan old fresh options t path
  orphan_managed path is = record {
    unshared = is.unshared;
    no_conflict = λ q. sym (conflict_same q) ∙ is.no_conflict q;
    plan = is.plan;
    planned = planned_managed is.plan is.planned;
    orphan = record {
      holds = orphan_to is.plan is.planned path is.orphan.holds;
      first = λ q less orphan. is.orphan.first q less (orphan_from is.plan is.planned q orphan);
    };
  }

  pub refusal_managed : (why : Refusal) → IsFirstRefusal old fresh options x why → IsFirstRefusal old fresh options t why
  refusal_managed (refusal.Owned path first second) is = is
  refusal_managed (refusal.Unowned path) is = conflict_managed path (refusal.Unowned path) is
  refusal_managed (refusal.Edited path) is = conflict_managed path (refusal.Edited path) is
  refusal_managed (refusal.Parent path) is = orphan_managed path is
  refusal_managed _ is = absurd is
