-- What the table says with and without a name that remains below.
use Rattle.std.proofs.Common.{◌≡◌, Bool, true, false, cond, ◌&&◌, ◌||◌, List, ◌∷◌, Option, Some, None, Result, Ok, Err, refl, sym, ◌∙◌, ap}
use Rattle.trove_stream.specs.cny-base.Reserved.{is_pinned}
use Rattle.trove_stream.specs.cny-base.declared.options.Options.{Options}
use Rattle.trove_stream.specs.cny-base.declared.refusal.Refusal.{Refusal}
use Rattle.trove_stream.specs.cny-stream.declared.record.FileRec.{FileRec}
use Rattle.trove_stream.specs.cny-stream.Record.{is_dir, flags_of}
use Rattle.tree_scan.specs.tree-disk.Tree.{Name, Tree}
use Rattle.tree_scan.specs.declared.mark.Mark.{Mark}
use Rattle.tree_scan.specs.declared.mark.Mark.TheVariants as mark
use Rattle.tree_scan.specs.Marks as marks
use Rattle.tree_scan.specs.Marks.{fingerprint_at, is_nothing}
use Rattle.conflict_plan.specs.declared.drafting.Draft.{Draft}
use Rattle.conflict_plan.specs.declared.entries.Entry.{Entry}
use Rattle.conflict_plan.specs.declared.planned.Planned.{Planned}
use Rattle.conflict_plan.specs.declared.table.Outcome.{Outcome}
use Rattle.conflict_plan.specs.declared.table.Outcome.TheVariants.{Stays, Removed, Written, Unowned, Edited}
use Rattle.conflict_plan.specs.Drafts.{draft_by, draft_of, drafted, is_left_dir, is_same_in_both, is_settled, with_some}
use Rattle.conflict_plan.specs.Making.{child_remains}
use Rattle.conflict_plan.specs.Plan.{change_of, refusal_of}
use Rattle.conflict_plan.specs.Settled.{with_settled}
use Rattle.conflict_plan.specs.Table.{is_recorded_so, matches, outcome_by, path_outcome, recorded_outcome, unrecorded_outcome, otherwise_outcome}
use Rattle.tree_scan.proofs.tree-disk.Laws.{second as and_second}
use Rattle.trove_stream.proofs.cny-base.Bools.{or_left as or_first, or_right as or_second}

-- ---- where nothing is to do

same_stays : (old : Option FileRec) (fresh : FileRec) (was : Mark) (options : Options) → is_recorded_so old fresh ≡ true → recorded_outcome old fresh was options ≡ Stays
same_stays old fresh was options same =
    let test = or_second (is_dir fresh && marks.is_dir was) (is_recorded_so old fresh || (((flags_of fresh).initial && marks.is_file was) || matches was fresh))
    (or_first (is_recorded_so old fresh) (((flags_of fresh).initial && marks.is_file was) || matches was fresh) same) in
    ap (λ b. cond b Stays (otherwise_outcome old fresh was options)) test

both_stay : (old fresh : Option FileRec) (was : Mark) (remains : Bool) (options : Options) → is_same_in_both old fresh ≡ true → outcome_by old fresh was remains options ≡ Stays
both_stay old None was remains options same = absurd (cc same)
both_stay None (Some fresh) was remains options same = same_stays None fresh was options same
both_stay (Some old) (Some fresh) was remains options same = same_stays (Some old) fresh was options same

-- a path that isn't looked at
pub settled_stays : (e : Entry) (was : Mark) (remains : Bool) (options : Options) → is_settled e ≡ true → path_outcome e.path e.old e.fresh was remains options ≡ Stays
settled_stays e was remains options settled = at (is_pinned e.path) refl settled
  where
    at : (b : Bool) → is_pinned e.path ≡ b → (b || is_same_in_both e.old e.fresh) ≡ true → cond b Stays (outcome_by e.old e.fresh was remains options) ≡ Stays
    at true is settled = refl
    at false is settled = both_stay e.old e.fresh was remains options settled

-- a path that no list records
pub unrecorded_stays : (path : Name) (was : Mark) (remains : Bool) (options : Options) → path_outcome path None None was remains options ≡ Stays
unrecorded_stays path was remains options = at (is_pinned path)
  where
    at : (b : Bool) → cond b Stays Stays ≡ Stays
    at true = refl
    at false = refl

-- ---- whether a name remains below

pub dir_stands : (was : Mark) → marks.is_dir was ≡ true → is_nothing was ≡ false
dir_stands mark.Nothing is = absurd (cc is)
dir_stands (mark.Dir mode) is = refl
dir_stands (mark.File mode size name) is = refl
dir_stands (mark.Link target) is = refl

-- The row of directories alone depends on it.
pub remains_left : (old fresh : Option FileRec) (was : Mark) (options : Options) → is_left_dir old fresh was ≡ true → (remains : Bool)
    → outcome_by old fresh was remains options ≡ cond remains Stays Removed
remains_left None None was options left remains = absurd (cc left)
remains_left None (Some fresh) was options left remains = absurd (cc left)
remains_left (Some old) (Some fresh) was options left remains = absurd (cc left)
remains_left (Some old) None was options left remains =
    ap (λ b. cond b Stays (unrecorded_outcome old was remains options)) (dir_stands was (and_second (is_dir old) (marks.is_dir was) left))
    ∙ ap (λ b. cond b (cond remains Stays Removed) (cond (matches was old || ((flags_of old).transient || options.replace)) Removed (cond (flags_of old).initial Stays Edited))) left

abbrev changed_left : FileRec → Mark → Options → Outcome
changed_left old was options = cond (matches was old || ((flags_of old).transient || options.replace)) Removed (cond (flags_of old).initial Stays Edited)

pub remains_other : (old fresh : Option FileRec) (was : Mark) (options : Options) → is_left_dir old fresh was ≡ false → (remains : Bool)
    → outcome_by old fresh was remains options ≡ outcome_by old fresh was false options
remains_other None None was options other remains = refl
remains_other None (Some fresh) was options other remains = refl
remains_other (Some old) (Some fresh) was options other remains = refl
remains_other (Some old) None was options other remains = ap (λ o. cond (is_nothing was) Stays o) (at remains ∙ sym (at false))
  where
    at : (remains : Bool) → unrecorded_outcome old was remains options ≡ changed_left old was options
    at remains = ap (λ b. cond b (cond remains Stays Removed) (changed_left old was options)) other

-- ---- what is drafted

abbrev pub after_draft : Tree → Result (Option Draft) Refusal → List Planned → List Planned
after_draft tree (Ok (Some draft)) plan = with_settled tree draft plan
after_draft tree (Ok None) plan = plan
after_draft tree (Err why) plan = plan

-- what becomes of an entry, by what is planned behind it
abbrev pub change_at : Options → Tree → Entry → List Planned → Option Planned
change_at options tree e plan = change_of (path_outcome e.path e.old e.fresh (fingerprint_at tree e.path) (child_remains plan tree e.path) options) e.path (fingerprint_at tree e.path) e.fresh

pub left_was_dir : (old fresh : Option FileRec) (was : Mark) → is_left_dir old fresh was ≡ true → marks.is_dir was ≡ true
left_was_dir None None was left = absurd (cc left)
left_was_dir None (Some fresh) was left = absurd (cc left)
left_was_dir (Some old) (Some fresh) was left = absurd (cc left)
left_was_dir (Some old) None was left = and_second (is_dir old) (marks.is_dir was) left

drafted_other : (tree : Tree) (o : Outcome) (e : Entry) (was : Mark) (plan : List Planned) → is_left_dir e.old e.fresh was ≡ false
    → after_draft tree (drafted o e was) plan ≡ with_some (change_of o e.path was e.fresh) plan
drafted_other tree Stays e was plan other = refl
drafted_other tree Removed e was plan other =
    ap (λ b. cond ((b && marks.is_dir was) && child_remains plan tree e.path) plan (record { path = e.path; was = was; want = None } ∷ plan)) other
drafted_other tree Written e was plan other =
    ap (λ b. cond ((b && marks.is_dir was) && child_remains plan tree e.path) plan (record { path = e.path; was = was; want = e.fresh } ∷ plan)) other
drafted_other tree Unowned e was plan other = refl
drafted_other tree Edited e was plan other = refl

drafted_left : (tree : Tree) (e : Entry) (was : Mark) (plan : List Planned) → is_left_dir e.old e.fresh was ≡ true → (remains : Bool) → child_remains plan tree e.path ≡ remains
    → after_draft tree (drafted Removed e was) plan ≡ with_some (change_of (cond remains Stays Removed) e.path was e.fresh) plan
drafted_left tree e was plan left remains is =
    ap (λ b. cond ((b && marks.is_dir was) && child_remains plan tree e.path) plan (record { path = e.path; was = was; want = None } ∷ plan)) left
    ∙ ap (λ b. cond (b && child_remains plan tree e.path) plan (record { path = e.path; was = was; want = None } ∷ plan)) (left_was_dir e.old e.fresh was left)
    ∙ ap (λ b. cond b plan (record { path = e.path; was = was; want = None } ∷ plan)) is
    ∙ at remains
  where
    at : (remains : Bool) → cond remains plan (record { path = e.path; was = was; want = None } ∷ plan) ≡ with_some (change_of (cond remains Stays Removed) e.path was e.fresh) plan
    at true = refl
    at false = refl

drafted_by : (options : Options) (tree : Tree) (e : Entry) (was : Mark) (plan : List Planned) → is_pinned e.path ≡ false → (left : Bool) → is_left_dir e.old e.fresh was ≡ left
    → after_draft tree (drafted (outcome_by e.old e.fresh was false options) e was) plan ≡ with_some (change_of (outcome_by e.old e.fresh was (child_remains plan tree e.path) options) e.path was e.fresh) plan
drafted_by options tree e was plan free true left =
    ap (λ o. after_draft tree (drafted o e was) plan) (remains_left e.old e.fresh was options left false)
    ∙ drafted_left tree e was plan left (child_remains plan tree e.path) refl
    ∙ ap (λ o. with_some (change_of o e.path was e.fresh) plan) (sym (remains_left e.old e.fresh was options left (child_remains plan tree e.path)))
drafted_by options tree e was plan free false other =
    drafted_other tree (outcome_by e.old e.fresh was false options) e was plan other
    ∙ ap (λ o. with_some (change_of o e.path was e.fresh) plan) (sym (remains_other e.old e.fresh was options other (child_remains plan tree e.path)))

-- one entry in front of what is planned behind it
pub draft_step : (options : Options) (tree : Tree) (e : Entry) (plan : List Planned) → after_draft tree (draft_of options tree e) plan ≡ with_some (change_at options tree e plan) plan
draft_step options tree e plan = at (is_settled e) refl
  where
    by_pinned : (b : Bool) → is_pinned e.path ≡ b → is_settled e ≡ false → after_draft tree (draft_by options e (fingerprint_at tree e.path)) plan ≡ with_some (change_at options tree e plan) plan
    by_pinned true is settled = absurd (cc (or_first (is_pinned e.path) (is_same_in_both e.old e.fresh) is, settled))
    by_pinned false is settled =
        ap (λ b. after_draft tree (drafted (cond b Stays (outcome_by e.old e.fresh (fingerprint_at tree e.path) false options)) e (fingerprint_at tree e.path)) plan) is
        ∙ drafted_by options tree e (fingerprint_at tree e.path) plan is (is_left_dir e.old e.fresh (fingerprint_at tree e.path)) refl
        ∙ ap (λ b. with_some (change_of (cond b Stays (outcome_by e.old e.fresh (fingerprint_at tree e.path) (child_remains plan tree e.path) options)) e.path (fingerprint_at tree e.path) e.fresh) plan) (sym is)

    at : (b : Bool) → is_settled e ≡ b → after_draft tree (cond b (Ok None) (draft_by options e (fingerprint_at tree e.path))) plan ≡ with_some (change_at options tree e plan) plan
    at true settled = ap (λ o. with_some (change_of o e.path (fingerprint_at tree e.path) e.fresh) plan) (sym (settled_stays e (fingerprint_at tree e.path) (child_remains plan tree e.path) options settled))
    at false settled = by_pinned (is_pinned e.path) refl settled

-- ---- refusals

abbrev pub err_of : Result (Option Draft) Refusal → Option Refusal
err_of (Ok draft) = None
err_of (Err why) = Some why

drafted_refusal : (o : Outcome) (e : Entry) (was : Mark) → err_of (drafted o e was) ≡ refusal_of o e.path
drafted_refusal Stays e was = refl
drafted_refusal Removed e was = refl
drafted_refusal Written e was = refl
drafted_refusal Unowned e was = refl
drafted_refusal Edited e was = refl

pub draft_refusal : (options : Options) (tree : Tree) (e : Entry) → err_of (draft_of options tree e) ≡ refusal_of (path_outcome e.path e.old e.fresh (fingerprint_at tree e.path) false options) e.path
draft_refusal options tree e = at (is_settled e) refl
  where
    at : (b : Bool) → is_settled e ≡ b → err_of (cond b (Ok None) (draft_by options e (fingerprint_at tree e.path))) ≡ refusal_of (path_outcome e.path e.old e.fresh (fingerprint_at tree e.path) false options) e.path
    at true settled = ap (λ o. refusal_of o e.path) (sym (settled_stays e (fingerprint_at tree e.path) false options settled))
    at false settled = drafted_refusal (path_outcome e.path e.old e.fresh (fingerprint_at tree e.path) false options) e (fingerprint_at tree e.path)
