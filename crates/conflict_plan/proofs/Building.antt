-- The plan that is built from the entries, path by path.
use Rattle.std.proofs.Common.{◌≡◌, ◌≢◌, inl, inr, ⊎_elim, Bool, true, false, cond, List, [], ◌∷◌, map, Option, Some, None, Result, Ok, Err, refl, sym, ◌∙◌, ap, subst}
use Rattle.std.proofs.lemmas.Bool.{cases_Bool}
use Rattle.std.specs.Option.{option_or}
use Rattle.std.specs.declared.cmp.Ordering.TheVariants.{Less}
use Rattle.trove_stream.specs.cny-base.Path.{is_path, root}
use Rattle.trove_stream.specs.cny-base.Reserved.{is_pinned}
use Rattle.trove_stream.specs.cny-base.declared.options.Options.{Options}
use Rattle.trove_stream.specs.cny-base.declared.refusal.Refusal.{Refusal}
use Rattle.trove_stream.specs.cny-stream.declared.record.FileRec.{FileRec}
use Rattle.tree_scan.specs.tree-disk.Laws.{same_means}
use Rattle.tree_scan.proofs.tree-disk.Laws.{same_itself}
use Rattle.tree_scan.specs.tree-disk.Tree.{Name, Tree, same_name}
use Rattle.tree_scan.specs.declared.mark.Mark.{Mark}
use Rattle.tree_scan.specs.Marks.{fingerprint_at}
use Rattle.conflict_plan.specs.declared.drafting.Draft.{Draft}
use Rattle.conflict_plan.specs.declared.entries.Entry.{Entry}
use Rattle.conflict_plan.specs.declared.planned.Planned.{Planned}
use Rattle.conflict_plan.specs.declared.records.Recorded.{Recorded}
use Rattle.conflict_plan.specs.declared.table.Outcome.{Outcome}
use Rattle.conflict_plan.specs.declared.table.Outcome.TheVariants.{Stays, Removed, Written, Unowned, Edited}
use Rattle.conflict_plan.specs.Drafts.{draft_of, drafts_of, then_drafts, with_some}
use Rattle.conflict_plan.specs.Entries.{entry_of, first_refusal}
use Rattle.conflict_plan.specs.Making.{child_remains}
use Rattle.conflict_plan.specs.Plan.{change_of, planned_at}
use Rattle.conflict_plan.specs.Settled.{settled, with_settled}
use Rattle.conflict_plan.specs.Table.{outcome_by, path_outcome}
use Rattle.conflict_plan.proofs.Entered.{At, AreBehind, AreRising, found_at, found_behind}
use Rattle.conflict_plan.proofs.Order.{IsUpTo}
use Rattle.conflict_plan.proofs.Remaining.{AreAfter, ArePaths, RisePlanned, none_after, planned_here, planned_other, remains_on}
use Rattle.conflict_plan.proofs.Tables.{after_draft, change_at, draft_step, err_of}
use Rattle.tree_scan.proofs.tree-disk.Order.{name_cmp, other_way as other_sym}

-- ---- drafts

-- the plan of these entries
abbrev pub plan_of : Options → Tree → List At → List Planned
plan_of options tree [] = []
plan_of options tree (e ∷ es) = with_some (change_at options tree (entry_of e) (plan_of options tree es)) (plan_of options tree es)

drafts_plan_in : (options : Options) (tree : Tree) (e : At) (es : List At) (drafts : List Draft) (one : Result (Option Draft) Refusal) (rest : Result (List Draft) Refusal)
    → draft_of options tree (entry_of e) ≡ one → (rest_ok : (later : List Draft) → rest ≡ Ok later → settled tree later ≡ plan_of options tree es)
    → then_drafts one rest ≡ Ok drafts → settled tree drafts ≡ plan_of options tree (e ∷ es)
drafts_plan_in options tree e es drafts (Err why) rest is later both = absurd (cc both)
drafts_plan_in options tree e es drafts (Ok None) (Err why) is later both = absurd (cc both)
drafts_plan_in options tree e es drafts (Ok (Some draft)) (Err why) is later both = absurd (cc both)
drafts_plan_in options tree e es drafts (Ok None) (Ok ds) is later both =
    let is_ds : drafts ≡ ds = cc both in
    ap (settled tree) is_ds ∙ later ds refl
    ∙ ap (λ r. after_draft tree r (plan_of options tree es)) (sym is) ∙ draft_step options tree (entry_of e) (plan_of options tree es)
drafts_plan_in options tree e es drafts (Ok (Some draft)) (Ok ds) is later both =
    let is_ds : drafts ≡ draft ∷ ds = cc both in
    ap (settled tree) is_ds ∙ ap (with_settled tree draft) (later ds refl)
    ∙ ap (λ r. after_draft tree r (plan_of options tree es)) (sym is) ∙ draft_step options tree (entry_of e) (plan_of options tree es)

-- what the drafts of the entries settle to
pub drafts_plan : (options : Options) (tree : Tree) (es : List At) (drafts : List Draft) → drafts_of options tree (map entry_of es) ≡ Ok drafts → settled tree drafts ≡ plan_of options tree es
drafts_plan options tree [] drafts is =
    let none : drafts ≡ [] = cc is in
    ap (settled tree) none
drafts_plan options tree (e ∷ es) drafts is =
    drafts_plan_in options tree e es drafts (draft_of options tree (entry_of e)) (drafts_of options tree (map entry_of es)) refl (drafts_plan options tree es) is

-- the refusal of a path
abbrev pub refusal_by : Options → Tree → Name → Recorded → Option Refusal
refusal_by options tree path recorded = err_of (draft_of options tree (entry_of (path, recorded)))

refused_in : (one : Result (Option Draft) Refusal) (rest : Result (List Draft) Refusal) (later : Option Refusal) (why : Refusal)
    → ((w : Refusal) → rest ≡ Err w → later ≡ Some w) → then_drafts one rest ≡ Err why → option_or (err_of one) later ≡ Some why
refused_in (Err w) rest later why is_later both =
    let is_w : w ≡ why = cc both in
    ap Some is_w
refused_in (Ok draft) (Ok ds) later why is_later both = absurd (cc both)
refused_in (Ok draft) (Err w) later why is_later both =
    let is_w : w ≡ why = cc both in
    is_later w refl ∙ ap Some is_w

-- the refusal of the drafts is that of the first path that has one
pub drafts_refusal : (options : Options) (tree : Tree) (es : List At) (why : Refusal) → drafts_of options tree (map entry_of es) ≡ Err why → first_refusal (refusal_by options tree) es ≡ Some why
drafts_refusal options tree [] why is = absurd (cc is)
drafts_refusal options tree (e ∷ es) why is =
    refused_in (draft_of options tree (entry_of e)) (drafts_of options tree (map entry_of es)) (first_refusal (refusal_by options tree) es) why (drafts_refusal options tree es) is

passed_in : (one : Result (Option Draft) Refusal) (rest : Result (List Draft) Refusal) (later : Option Refusal) (drafts : List Draft)
    → ((ds : List Draft) → rest ≡ Ok ds → later ≡ None) → then_drafts one rest ≡ Ok drafts → option_or (err_of one) later ≡ None
passed_in (Err w) rest later drafts is_later both = absurd (cc both)
passed_in (Ok draft) (Err w) later drafts is_later both = absurd (cc both)
passed_in (Ok draft) (Ok ds) later drafts is_later both = is_later ds refl

pub drafts_passed : (options : Options) (tree : Tree) (es : List At) (drafts : List Draft) → drafts_of options tree (map entry_of es) ≡ Ok drafts → first_refusal (refusal_by options tree) es ≡ None
drafts_passed options tree [] drafts is = refl
drafts_passed options tree (e ∷ es) drafts is =
    passed_in (draft_of options tree (entry_of e)) (drafts_of options tree (map entry_of es)) (first_refusal (refusal_by options tree) es) drafts (drafts_passed options tree es) is

-- ---- one change in front

changed_path : (o : Outcome) (path : Name) (was : Mark) (rec : Option FileRec) (x : Planned) → change_of o path was rec ≡ Some x → x.path ≡ path
changed_path Stays path was rec x is = absurd (cc is)
changed_path Removed path was rec x is =
    let is_x : x ≡ record { path = path; was = was; want = None } = cc is in
    ap (λ (y : Planned). y.path) is_x
changed_path Written path was rec x is =
    let is_x : x ≡ record { path = path; was = was; want = rec } = cc is in
    ap (λ (y : Planned). y.path) is_x
changed_path Unowned path was rec x is = absurd (cc is)
changed_path Edited path was rec x is = absurd (cc is)

changed_was : (o : Outcome) (path : Name) (was : Mark) (rec : Option FileRec) (x : Planned) → change_of o path was rec ≡ Some x → x.was ≡ was
changed_was Stays path was rec x is = absurd (cc is)
changed_was Removed path was rec x is =
    let is_x : x ≡ record { path = path; was = was; want = None } = cc is in
    ap (λ (y : Planned). y.was) is_x
changed_was Written path was rec x is =
    let is_x : x ≡ record { path = path; was = was; want = rec } = cc is in
    ap (λ (y : Planned). y.was) is_x
changed_was Unowned path was rec x is = absurd (cc is)
changed_was Edited path was rec x is = absurd (cc is)

-- a change is that of this path, with what stands there
pub record IsChangeAt (tree : Tree) (path : Name) (change : Option Planned) : Type 0 where
  pub path_is : (x : Planned) → change ≡ Some x → x.path ≡ path
  pub was_is : (x : Planned) → change ≡ Some x → x.was ≡ fingerprint_at tree path

pub change_at_is : (options : Options) (tree : Tree) (e : Entry) (plan : List Planned) → IsChangeAt tree e.path (change_at options tree e plan)
change_at_is options tree e plan = record {
  path_is = λ x is. changed_path (path_outcome e.path e.old e.fresh (fingerprint_at tree e.path) (child_remains plan tree e.path) options) e.path (fingerprint_at tree e.path) e.fresh x is;
  was_is = λ x is. changed_was (path_outcome e.path e.old e.fresh (fingerprint_at tree e.path) (child_remains plan tree e.path) options) e.path (fingerprint_at tree e.path) e.fresh x is;
}

-- ---- the paths of a plan

abbrev pub HavePaths : List At → Type 0
HavePaths [] = Unit {0}
HavePaths (e ∷ es) = (is_path e.0 ≡ true) × HavePaths es

abbrev pub AreSeenIn : Tree → List Planned → Type 0
AreSeenIn tree [] = Unit {0}
AreSeenIn tree (x ∷ plan) = (x.was ≡ fingerprint_at tree x.path) × AreSeenIn tree plan

-- what is known of the plan of some entries
pub record IsBuilt (tree : Tree) (es : List At) (plan : List Planned) : Type 0 where
  pub after : (p : Name) → AreBehind p es → AreAfter p plan
  pub rise : RisePlanned plan
  pub paths : ArePaths plan
  pub seen : AreSeenIn tree plan

pub built : (options : Options) (tree : Tree) (es : List At) → AreRising es → HavePaths es → IsBuilt tree es (plan_of options tree es)
built options tree [] rising paths = record { after = λ p behind. tt; rise = tt; paths = tt; seen = tt }
built options tree (e ∷ es) rising paths =
    at (change_at options tree (entry_of e) (plan_of options tree es)) (change_at_is options tree (entry_of e) (plan_of options tree es)) (built options tree es rising.1 paths.1)
  where
    at : (change : Option Planned) → IsChangeAt tree e.0 change → IsBuilt tree es (plan_of options tree es) → IsBuilt tree (e ∷ es) (with_some change (plan_of options tree es))
    at None is later = record {
      after = λ p behind. later.after p behind.1;
      rise = later.rise;
      paths = later.paths;
      seen = later.seen;
    }
    at (Some x) is later =
        let path = is.path_is x refl in
        record {
          after = λ p behind. (subst (λ n. name_cmp p n ≡ Less) (sym path) behind.0, later.after p behind.1);
          rise = (subst (λ n. AreAfter n (plan_of options tree es)) (sym path) (later.after e.0 rising.0), later.rise);
          paths = (ap is_path path ∙ paths.0, later.paths);
          seen = (is.was_is x refl ∙ ap (fingerprint_at tree) (sym path), later.seen);
        }

-- ---- what is planned of a path

-- what the table makes of a path that the lists record so
abbrev pub change_by : Options → Tree → Name → Recorded → Bool → Option Planned
change_by options tree path r remains = change_of (path_outcome path (entry_of (path, r)).old (entry_of (path, r)).fresh (fingerprint_at tree path) remains options) path (fingerprint_at tree path) (entry_of (path, r)).fresh

pub not_found_not_planned : (options : Options) (tree : Tree) (es : List At) (q : Name) → found_at es q ≡ None → planned_at (plan_of options tree es) q ≡ None
not_found_not_planned options tree [] q none = refl
not_found_not_planned options tree (e ∷ es) q none = at (same_name q e.0) refl (not_found_not_planned options tree es q) none
  where
    with_other : same_name q e.0 ≡ false → (change : Option Planned) → IsChangeAt tree e.0 change → planned_at (with_some change (plan_of options tree es)) q ≡ planned_at (plan_of options tree es) q
    with_other other None is = refl
    with_other other (Some x) is = planned_other x (plan_of options tree es) q (ap (λ n. same_name n q) (is.path_is x refl) ∙ other_sym q e.0 other)

    at : (b : Bool) → same_name q e.0 ≡ b → (found_at es q ≡ None → planned_at (plan_of options tree es) q ≡ None) → cond b (Some e.1) (found_at es q) ≡ None → planned_at (plan_of options tree (e ∷ es)) q ≡ None
    at true same later none = absurd (cc none)
    at false other later none =
        with_other other (change_at options tree (entry_of e) (plan_of options tree es)) (change_at_is options tree (entry_of e) (plan_of options tree es))
        ∙ later none

-- the change of a fixed directory
fixed_stays : (options : Options) (tree : Tree) (path : Name) (r : Recorded) (remains : Bool) → is_pinned path ≡ true → change_by options tree path r remains ≡ None
fixed_stays options tree path r remains pinned =
    ap (λ b. change_of (cond b Stays (outcome_by (entry_of (path, r)).old (entry_of (path, r)).fresh (fingerprint_at tree path) remains options)) path (fingerprint_at tree path) (entry_of (path, r)).fresh) pinned

-- the same, where the path isn't fixed, or else nothing is planned anyway
pub remains_alike : (options : Options) (tree : Tree) (path : Name) (r : Recorded) (a b : Bool) → (path ≢ root → a ≡ b) → change_by options tree path r a ≡ change_by options tree path r b
remains_alike options tree path r a b same = ⊎_elim
    (λ is. fixed_stays options tree path r a (pinned is) ∙ sym (fixed_stays options tree path r b (pinned is)))
    (λ other. ap (change_by options tree path r) (same (λ is. absurd (cc (other, subst (λ n. same_name n root ≡ true) (sym is) (same_itself root))))))
    (cases_Bool (same_name path root))
  where
    pinned : same_name path root ≡ true → is_pinned path ≡ true
    pinned is = ap is_pinned (same_means path root is)

found_path : (es : List At) (q : Name) (r : Recorded) → HavePaths es → found_at es q ≡ Some r → is_path q ≡ true
found_path [] q r have found = absurd (cc found)
found_path (e ∷ es) q r have found = at (same_name q e.0) refl (found_path es q r have.1) found
  where
    at : (b : Bool) → same_name q e.0 ≡ b → (found_at es q ≡ Some r → is_path q ≡ true) → cond b (Some e.1) (found_at es q) ≡ Some r → is_path q ≡ true
    at true same later found = ap is_path (same_means q e.0 same) ∙ have.0
    at false other later found = later found

pub found_planned : (options : Options) (tree : Tree) (es : List At) (q : Name) (r : Recorded) → AreRising es → HavePaths es → found_at es q ≡ Some r
    → planned_at (plan_of options tree es) q ≡ change_by options tree q r (child_remains (plan_of options tree es) tree q)
found_planned options tree [] q r rising paths found = absurd (cc found)
found_planned options tree (e ∷ es) q r rising paths found = at (same_name q e.0) refl (found_planned options tree es q r rising.1 paths.1) found
  where
    -- the entry itself
    own : (change : Option Planned) → IsChangeAt tree e.0 change → planned_at (with_some change (plan_of options tree es)) e.0 ≡ change
    own None is = none_after e.0 (plan_of options tree es) ((built options tree es rising.1 paths.1).after e.0 rising.0)
    own (Some x) is = ap (planned_at (x ∷ plan_of options tree es)) (sym (is.path_is x refl)) ∙ planned_here x (plan_of options tree es)

    still : (p : Name) → IsUpTo e.0 p → is_path p ≡ true → p ≢ root → (change : Option Planned) → IsChangeAt tree e.0 change
        → child_remains (plan_of options tree es) tree p ≡ child_remains (with_some change (plan_of options tree es)) tree p
    still p up_to path other None is = refl
    still p up_to path other (Some x) is =
        sym (remains_on x (plan_of options tree es) tree p (ap is_path (is.path_is x refl) ∙ paths.0) path other (subst (λ n. IsUpTo n p) (sym (is.path_is x refl)) up_to))

    others : same_name q e.0 ≡ false → (change : Option Planned) → IsChangeAt tree e.0 change → planned_at (with_some change (plan_of options tree es)) q ≡ planned_at (plan_of options tree es) q
    others other None is = refl
    others other (Some x) is = planned_other x (plan_of options tree es) q (ap (λ n. same_name n q) (is.path_is x refl) ∙ other_sym q e.0 other)

    here : planned_at (plan_of options tree (e ∷ es)) e.0 ≡ change_by options tree e.0 e.1 (child_remains (plan_of options tree (e ∷ es)) tree e.0)
    here =
        own (change_at options tree (entry_of e) (plan_of options tree es)) (change_at_is options tree (entry_of e) (plan_of options tree es))
        ∙ remains_alike options tree e.0 e.1 (child_remains (plan_of options tree es) tree e.0) (child_remains (plan_of options tree (e ∷ es)) tree e.0)
        (λ other. still e.0 (inl refl) paths.0 other (change_at options tree (entry_of e) (plan_of options tree es)) (change_at_is options tree (entry_of e) (plan_of options tree es)))

    at : (b : Bool) → same_name q e.0 ≡ b → (found_at es q ≡ Some r → planned_at (plan_of options tree es) q ≡ change_by options tree q r (child_remains (plan_of options tree es) tree q)) → cond b (Some e.1) (found_at es q) ≡ Some r
        → planned_at (plan_of options tree (e ∷ es)) q ≡ change_by options tree q r (child_remains (plan_of options tree (e ∷ es)) tree q)
    at true same later found =
        let is_q = same_means q e.0 same in
        let is_r : e.1 ≡ r = cc found in
        subst (λ n. planned_at (plan_of options tree (e ∷ es)) n ≡ change_by options tree n r (child_remains (plan_of options tree (e ∷ es)) tree n)) (sym is_q)
        (subst (λ x. planned_at (plan_of options tree (e ∷ es)) e.0 ≡ change_by options tree e.0 x (child_remains (plan_of options tree (e ∷ es)) tree e.0)) is_r here)
    at false other later found =
        others other (change_at options tree (entry_of e) (plan_of options tree es)) (change_at_is options tree (entry_of e) (plan_of options tree es))
        ∙ later found
        ∙ remains_alike options tree q r (child_remains (plan_of options tree es) tree q) (child_remains (plan_of options tree (e ∷ es)) tree q)
        (λ not_root. still q (inr (found_behind e.0 q es r rising.0 found)) (found_path es q r paths.1 found) not_root (change_at options tree (entry_of e) (plan_of options tree es)) (change_at_is options tree (entry_of e) (plan_of options tree es)))
