-- A plan tells what stands at its paths, and each of them changes.
use Rattle.std.proofs.Common.{◌≡◌, ◌≢◌, Bool, true, false, cond, ◌&&◌, ◌||◌, List, [], ◌∷◌, Option, Some, None, All, ⊎_elim, refl, sym, ◌∙◌, ap, subst}
use Rattle.std.specs.List.{AllByRecursion}
use Rattle.std.specs.List.Sorted.{IsStrictlySortedBy}
use Rattle.std.specs.Cmp.Lexicographic.{slice_cmp}
use Rattle.std.specs.Ordering.{nat_cmp, is_eq}
use Rattle.std.specs.declared.cmp.Ordering.TheVariants.{Less}
use Rattle.std.proofs.lemmas.Bool.{cases_Bool}
use Rattle.std.proofs.lemmas.List.Elements.{All-cons, All-head, All-nil, All-tail}
use Rattle.local_db.specs.cny-base.Reserved.{is_pinned}
use Rattle.local_db.specs.cny-base.declared.options.Options.{Options}
use Rattle.local_db.specs.cny-stream.declared.record.FileRec.{FileRec}
use Rattle.local_db.specs.cny-stream.Record.{is_dir, flags_of}
use Rattle.local_db.specs.trove-stream.declared.parts.TroveParts.{TroveParts}
use Rattle.local_db.specs.tree-disk.Laws.{same_means}
use Rattle.local_db.proofs.tree-disk.Laws.{same_itself}
use Rattle.local_db.specs.tree-disk.Tree.{Name, Tree, same_name}
use Rattle.tree_scan.specs.declared.mark.Mark.{Mark}
use Rattle.tree_scan.proofs.MarkLaws.{same_mark_itself, same_mark_means}
use Rattle.tree_scan.specs.Marks as marks
use Rattle.tree_scan.specs.Marks.{fingerprint_at, fingerprint_of_record, is_nothing, same_mark}
use Rattle.conflict_plan.specs.declared.planned.Planned.{Planned}
use Rattle.conflict_plan.specs.declared.table.Outcome.{Outcome}
use Rattle.conflict_plan.specs.declared.table.Outcome.TheVariants.{Stays, Removed, Written, Unowned, Edited}
use Rattle.conflict_plan.specs.Claims.{record_at}
use Rattle.conflict_plan.specs.Orphans.{IsSeenPlan}
use Rattle.conflict_plan.specs.Plan.{ArePlanned, change_of, HasChild, mark_after, outcome_at, planned_at, planned_cmp}
use Rattle.conflict_plan.proofs.Sighted.{not_nothing}
use Rattle.conflict_plan.specs.Table.{changed_outcome, is_recorded_so, matches, new_outcome, otherwise_outcome, outcome_by, path_outcome, recorded_outcome, unrecorded_outcome}
use Rattle.job_targets.specs.Targets.{IsChange}
use Rattle.change_set.specs.cny-base.Answer.{IsAnswer}

-- ---- the table changes a path

-- a path that goes was there, and one that is written was otherwise
abbrev Changes : Outcome → Mark → Option FileRec → Type 0
Changes Removed was fresh = is_nothing was ≡ false
Changes Written was None = ⊥
Changes Written was (Some rec) = matches was rec ≡ false
Changes Stays was fresh = Unit {0}
Changes Unowned was fresh = Unit {0}
Changes Edited was fresh = Unit {0}

-- by a test
by_test : (was : Mark) (fresh : Option FileRec) (b : Bool) (x y : Outcome) → (b ≡ true → Changes x was fresh) → (b ≡ false → Changes y was fresh) → Changes (cond b x y) was fresh
by_test was fresh true x y on off = on refl
by_test was fresh false x y on off = off refl

unrecorded_changes : (old : FileRec) (was : Mark) (remains : Bool) (options : Options) → is_nothing was ≡ false → Changes (unrecorded_outcome old was remains options) was None
unrecorded_changes old was remains options stands =
    by_test was None (is_dir old && marks.is_dir was) _ _
    (λ is. by_test was None remains Stays Removed (λ r. tt) (λ r. stands))
    (λ is. by_test was None (matches was old || ((flags_of old).transient || options.replace)) Removed _ (λ r. stands)
    (λ r. by_test was None (flags_of old).initial Stays Edited (λ i. tt) (λ i. tt)))

new_changes : (rec : FileRec) (was : Mark) (options : Options) → matches was rec ≡ false → Changes (new_outcome was options) was (Some rec)
new_changes rec was options other = by_test was (Some rec) (is_nothing was || options.replace) Written Unowned (λ r. other) (λ r. tt)

changed_changes : (old rec : FileRec) (was : Mark) (options : Options) → matches was rec ≡ false → Changes (changed_outcome old rec was options) was (Some rec)
changed_changes old rec was options other =
    by_test was (Some rec) (matches was old || (flags_of rec).transient) Written _ (λ r. other)
    (λ r. by_test was (Some rec) ((flags_of rec).config && options.keep) Stays _ (λ k. tt)
    (λ k. by_test was (Some rec) options.replace Written Edited (λ o. other) (λ o. tt)))

otherwise_changes : (old : Option FileRec) (rec : FileRec) (was : Mark) (options : Options) → matches was rec ≡ false → Changes (otherwise_outcome old rec was options) was (Some rec)
otherwise_changes None rec was options other = new_changes rec was options other
otherwise_changes (Some old) rec was options other = changed_changes old rec was options other

last_false : (a b c d : Bool) → (a || (b || (c || d))) ≡ false → d ≡ false
last_false true b c d is = absurd (cc is)
last_false false true c d is = absurd (cc is)
last_false false false true d is = absurd (cc is)
last_false false false false d is = is

recorded_changes : (old : Option FileRec) (rec : FileRec) (was : Mark) (options : Options) → Changes (recorded_outcome old rec was options) was (Some rec)
recorded_changes old rec was options =
    by_test was (Some rec) ((is_dir rec && marks.is_dir was) || (is_recorded_so old rec || (((flags_of rec).initial && marks.is_file was) || matches was rec))) Stays _ (λ is. tt)
    (λ is. otherwise_changes old rec was options
    (last_false (is_dir rec && marks.is_dir was) (is_recorded_so old rec) ((flags_of rec).initial && marks.is_file was) (matches was rec) is))

outcome_changes : (old fresh : Option FileRec) (was : Mark) (remains : Bool) (options : Options) → Changes (outcome_by old fresh was remains options) was fresh
outcome_changes None None was remains options = tt
outcome_changes (Some old) None was remains options = by_test was None (is_nothing was) Stays _ (λ is. tt) (λ is. unrecorded_changes old was remains options is)
outcome_changes None (Some rec) was remains options = recorded_changes None rec was options
outcome_changes (Some old) (Some rec) was remains options = recorded_changes (Some old) rec was options

path_changes : (path : Name) (old fresh : Option FileRec) (was : Mark) (remains : Bool) (options : Options) → Changes (path_outcome path old fresh was remains options) was fresh
path_changes path old fresh was remains options = by_test was fresh (is_pinned path) Stays _ (λ is. tt) (λ is. outcome_changes old fresh was remains options)

-- ---- what is planned

-- the fingerprint is this one, and the path changes
record IsSeenChange (was : Mark) (x : Planned) : Type 0 where
  seen : x.was ≡ was
  change : IsChange x

not_matching : (was : Mark) (rec : FileRec) → matches was rec ≡ false → was ≢ fingerprint_of_record rec
not_matching was rec other is =
    absurd (cc (sym (ap (λ (m : Mark). same_mark m (fingerprint_of_record rec)) is ∙ same_mark_itself (fingerprint_of_record rec)) ∙ other))

changed : (o : Outcome) (path : Name) (was : Mark) (fresh : Option FileRec) (x : Planned) → Changes o was fresh → Some x ≡ change_of o path was fresh → IsSeenChange was x
changed Removed path was fresh x changes is =
    let same : x ≡ record { path = path; was = was; want = None } = cc is in
    record { seen = ap (λ (y : Planned). y.was) same; change = subst IsChange (sym same) (not_nothing was changes) }
changed Written path was None x changes is = absurd changes
changed Written path was (Some rec) x changes is =
    let same : x ≡ record { path = path; was = was; want = Some rec } = cc is in
    record { seen = ap (λ (y : Planned). y.was) same; change = subst IsChange (sym same) (not_matching was rec changes) }
changed Stays path was fresh x changes is = absurd (cc is)
changed Unowned path was fresh x changes is = absurd (cc is)
changed Edited path was fresh x changes is = absurd (cc is)

-- ---- the plan at its own paths

apart : (a b : Name) → slice_cmp nat_cmp a b ≡ Less → same_name a b ≡ false
apart a b less = ⊎_elim
    (λ same. absurd (cc (same_itself b, ap is_eq (ap (λ (n : Name). slice_cmp nat_cmp n b) (sym (same_means a b same)) ∙ less))))
    (λ other. other) (cases_Bool (same_name a b))

pub own_plans : (plan : List Planned) → IsStrictlySortedBy planned_cmp plan → All (λ (x : Planned). planned_at plan x.path ≡ Some x) plan
unfolding IsStrictlySortedBy
own_plans [] rises = All-nil _
own_plans (x ∷ plan) rises =
    All-cons (λ (y : Planned). planned_at (x ∷ plan) y.path ≡ Some y) x plan
    (ap (λ (b : Bool). cond b (Some x) (planned_at plan x.path)) (same_itself x.path))
    (behind plan rises.0 (own_plans plan rises.1))
  where
    behind : (rest : List Planned) → AllByRecursion (λ (y : Planned). planned_cmp x y ≡ Less) rest → All (λ (y : Planned). planned_at plan y.path ≡ Some y) rest → All (λ (y : Planned). planned_at (x ∷ plan) y.path ≡ Some y) rest
    behind [] less own = All-nil _
    behind (y ∷ rest) less own =
        All-cons (λ (z : Planned). planned_at (x ∷ plan) z.path ≡ Some z) y rest
        (ap (λ (b : Bool). cond b (Some x) (planned_at plan y.path)) (apart x.path y.path less.0) ∙ All-head (λ (z : Planned). planned_at plan z.path ≡ Some z) y rest own)
        (behind rest less.1 (All-tail (λ (z : Planned). planned_at plan z.path ≡ Some z) y rest own))

module _ (old fresh : List TroveParts) (options : Options) (tree : Tree) (plan : List Planned) (are : ArePlanned old fresh options tree plan) where
  one_of : (x : Planned) → planned_at plan x.path ≡ Some x → (remains : Bool) → IsAnswer (HasChild (mark_after plan tree) x.path) remains → IsSeenChange (fingerprint_at tree x.path) x
  one_of x own remains answer =
      changed (outcome_at old fresh options tree x.path remains) x.path (fingerprint_at tree x.path) (record_at fresh x.path) x
      (path_changes x.path (record_at old x.path) (record_at fresh x.path) (fingerprint_at tree x.path) remains options)
      (sym own ∙ are.targets x.path remains answer)

  -- what would follow of both answers isn't false
  not_false : (x : Planned) → planned_at plan x.path ≡ Some x → (IsSeenChange (fingerprint_at tree x.path) x → ⊥) → ⊥
  not_false x own wrong =
      let childless : HasChild (mark_after plan tree) x.path → ⊥ = λ child. wrong (one_of x own true (record { holds = λ is. child; fails = λ is. absurd (cc is) })) in
      wrong (one_of x own false (record { holds = λ is. absurd (cc is); fails = λ is. childless }))

  pub seen_one : (x : Planned) → planned_at plan x.path ≡ Some x → IsSeenPlan tree x
  seen_one x own = ⊎_elim
      (λ same. same_mark_means x.was (fingerprint_at tree x.path) same)
      (λ other. absurd (not_false x own (λ h. absurd (cc (sym (ap (λ (m : Mark). same_mark m (fingerprint_at tree x.path)) h.seen ∙ same_mark_itself (fingerprint_at tree x.path)) ∙ other)))))
      (cases_Bool (same_mark x.was (fingerprint_at tree x.path)))

  pub change_one : (x : Planned) → planned_at plan x.path ≡ Some x → IsChange x
  change_one x own same = not_false x own (λ h. h.change same)

  all_by : (P : Planned → Type 0) → ((x : Planned) → planned_at plan x.path ≡ Some x → P x) → (rest : List Planned) → All (λ (x : Planned). planned_at plan x.path ≡ Some x) rest → All P rest
  all_by P one [] own = All-nil P
  all_by P one (x ∷ rest) own =
      All-cons P x rest (one x (All-head (λ (y : Planned). planned_at plan y.path ≡ Some y) x rest own))
      (all_by P one rest (All-tail (λ (y : Planned). planned_at plan y.path ≡ Some y) x rest own))

  pub all_seen : All (IsSeenPlan tree) plan
  all_seen = all_by (IsSeenPlan tree) seen_one plan (own_plans plan are.rising)

  pub all_change : All IsChange plan
  all_change = all_by IsChange change_one plan (own_plans plan are.rising)
