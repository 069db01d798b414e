-- What is planned has the fingerprint of what stands.
use Rattle.std.proofs.Common.{◌≡◌, ℕ, ◌+◌, ◌-◌, ◌<◌, Bool, true, false, cond, List, [], ◌∷◌, ◌++◌, get_or, length, reverse, take, arith, Option, Some, None, Result, Ok, Err, refl, sym, ◌∙◌, ap, subst, ◌≢◌}
use Rattle.std.proofs.lemmas.List.Elements.{All-from_recursion, All-get_or}
use Rattle.std.proofs.lemmas.List.{get_or-reverse, length-reverse, reverse-append, take_more}
use Rattle.std.specs.List.{All, AllByRecursion}
use Rattle.std.specs.FinMap.{get}
use Rattle.trove_stream.specs.cny-base.declared.node.Node.{Node}
use Rattle.trove_stream.specs.cny-base.declared.node.Node.TheVariants as node
use Rattle.trove_stream.specs.cny-base.declared.options.Options.{Options}
use Rattle.trove_stream.specs.cny-base.declared.refusal.Refusal.{Refusal}
use Rattle.tree_scan.specs.tree-disk.Rows.{is_dir_at}
use Rattle.tree_scan.specs.tree-disk.Tree as disk
use Rattle.tree_scan.specs.tree-disk.Tree.{Name, Tree}
use Rattle.tree_scan.specs.declared.mark.Mark.{Mark}
use Rattle.tree_scan.specs.declared.mark.Mark.TheVariants as mark
use Rattle.tree_scan.specs.Marks.{fingerprint, fingerprint_at, is_dir, is_nothing}
use Rattle.conflict_plan.specs.declared.drafting.Draft.{Draft}
use Rattle.conflict_plan.specs.declared.entries.Entry.{Entry}
use Rattle.conflict_plan.specs.declared.planned.Planned.{Planned}
use Rattle.conflict_plan.specs.declared.table.Outcome.{Outcome}
use Rattle.conflict_plan.specs.declared.table.Outcome.TheVariants.{Stays, Removed, Written, Unowned, Edited}
use Rattle.conflict_plan.specs.Drafts.{draft_by, draft_of, drafted, drafts_of, is_left_dir, is_settled, then_drafts}
use Rattle.conflict_plan.specs.Orphans.{least_orphan, lesser, orphan_by, IsSeenPlan}
use Rattle.conflict_plan.specs.Settled.{settled_on, with_settled, IsSeen}
use Rattle.conflict_plan.specs.Table.{path_outcome}
use Rattle.conflict_plan.proofs.Building.{AreSeenIn}

pub not_nothing : (was : Mark) → is_nothing was ≡ false → was ≢ mark.Nothing
not_nothing was stands is = absurd (cc (sym (ap is_nothing is) ∙ stands))

pub stands_dir : (o : Option Node) → is_dir (fingerprint o) ≡ disk.is_dir o
stands_dir None = refl
stands_dir (Some (node.Dir mode)) = refl
stands_dir (Some (node.File mode bytes)) = refl
stands_dir (Some (node.Link target)) = refl

-- a directory stands where its fingerprint was seen
pub dir_at : (tree : Tree) (path : Name) (was : Mark) → was ≡ fingerprint_at tree path → is_dir was ≡ true → is_dir_at tree path ≡ true
dir_at tree path was seen is = sym (stands_dir (get tree path)) ∙ sym (ap is_dir seen) ∙ is

drafted_seen : (tree : Tree) (o : Outcome) (e : Entry) (draft : Draft) → drafted o e (fingerprint_at tree e.path) ≡ Ok (Some draft) → IsSeen tree draft
drafted_seen tree Stays e draft is = absurd (cc is)
drafted_seen tree Removed e draft is =
    let is_draft : draft ≡ record { planned = record { path = e.path; was = fingerprint_at tree e.path; want = None }; if_empty = is_left_dir e.old e.fresh (fingerprint_at tree e.path) } = cc is in
    subst (IsSeen tree) (sym is_draft) refl
drafted_seen tree Written e draft is =
    let is_draft : draft ≡ record { planned = record { path = e.path; was = fingerprint_at tree e.path; want = e.fresh }; if_empty = is_left_dir e.old e.fresh (fingerprint_at tree e.path) } = cc is in
    subst (IsSeen tree) (sym is_draft) refl
drafted_seen tree Unowned e draft is = absurd (cc is)
drafted_seen tree Edited e draft is = absurd (cc is)

draft_seen : (options : Options) (tree : Tree) (e : Entry) (draft : Draft) → draft_of options tree e ≡ Ok (Some draft) → IsSeen tree draft
draft_seen options tree e draft is = at (is_settled e) is
  where
    at : (b : Bool) → cond b (Ok None) (draft_by options e (fingerprint_at tree e.path)) ≡ Ok (Some draft) → IsSeen tree draft
    at true is = absurd (cc is)
    at false is = drafted_seen tree (path_outcome e.path e.old e.fresh (fingerprint_at tree e.path) false options) e draft is

seen_in : (options : Options) (tree : Tree) (e : Entry) (drafts : List Draft) (one : Result (Option Draft) Refusal) (rest : Result (List Draft) Refusal) → draft_of options tree e ≡ one
    → ((ds : List Draft) → rest ≡ Ok ds → AllByRecursion (IsSeen tree) ds) → then_drafts one rest ≡ Ok drafts → AllByRecursion (IsSeen tree) drafts
seen_in options tree e drafts (Err why) rest is later both = absurd (cc both)
seen_in options tree e drafts (Ok None) (Err why) is later both = absurd (cc both)
seen_in options tree e drafts (Ok (Some draft)) (Err why) is later both = absurd (cc both)
seen_in options tree e drafts (Ok None) (Ok ds) is later both =
    let is_ds : ds ≡ drafts = cc both in
    subst (AllByRecursion (IsSeen tree)) is_ds (later ds refl)
seen_in options tree e drafts (Ok (Some draft)) (Ok ds) is later both =
    let is_ds : draft ∷ ds ≡ drafts = cc both in
    subst (AllByRecursion (IsSeen tree)) is_ds (draft_seen options tree e draft is, later ds refl)

seen_by : (options : Options) (tree : Tree) (es : List Entry) (drafts : List Draft) → drafts_of options tree es ≡ Ok drafts → AllByRecursion (IsSeen tree) drafts
seen_by options tree [] drafts is =
    let none : [] ≡ drafts = cc is in
    subst (AllByRecursion (IsSeen tree)) none tt
seen_by options tree (e ∷ es) drafts is =
    seen_in options tree e drafts (draft_of options tree e) (drafts_of options tree es) refl (seen_by options tree es) is

-- each draft has the fingerprint of what stands
pub drafts_seen : (options : Options) (tree : Tree) (es : List Entry) (drafts : List Draft) → drafts_of options tree es ≡ Ok drafts → All (IsSeen tree) drafts
drafts_seen options tree es drafts is = All-from_recursion (IsSeen tree) drafts (seen_by options tree es drafts is)

plan_seen_by : (tree : Tree) (plan : List Planned) → AreSeenIn tree plan → AllByRecursion (IsSeenPlan tree) plan
plan_seen_by tree [] seen = tt
plan_seen_by tree (x ∷ plan) seen = (seen.0, plan_seen_by tree plan seen.1)

-- and so has each path of the plan
pub plan_seen : (tree : Tree) (plan : List Planned) → AreSeenIn tree plan → All (IsSeenPlan tree) plan
plan_seen tree plan seen = All-from_recursion (IsSeenPlan tree) plan (plan_seen_by tree plan seen)

-- ---- the paths of a plan, from the last to the first

pub seen_item : (tree : Tree) (all plan : List Planned) (i : ℕ) (x : Planned) → reverse all ≡ plan → i < length all → x ≡ get_or all i x → All (IsSeenPlan tree) plan → IsSeenPlan tree x
seen_item tree all plan i x is within is_x seen =
    subst (IsSeenPlan tree) (place ∙ sym is_x) (All-get_or (IsSeenPlan tree) (reverse all) (length all - 1 - i) x (omega (arith, length-reverse all)) (subst (All (IsSeenPlan tree)) (sym is) seen))
  where
    back : length all - 1 - (length all - 1 - i) ≡ i
    back = omega arith

    place : get_or (reverse all) (length all - 1 - i) x ≡ get_or all i x
    place = get_or-reverse all (length all - 1 - i) x (omega arith) ∙ ap (λ (n : ℕ). get_or all n x) back

pub least_more : (plan : List Planned) (tree : Tree) (all : List Planned) (i : ℕ) (x : Planned) → i < length all → x ≡ get_or all i x
    → least_orphan plan tree (reverse (take (i + 1) all)) ≡ lesser (least_orphan plan tree (reverse (take i all))) (orphan_by plan tree x)
least_more plan tree all i x within is_x =
    ap (λ l. least_orphan plan tree (reverse l)) (take_more all i x within ∙ ap (λ y. take i all ++ y ∷ []) (sym is_x))
    ∙ ap (least_orphan plan tree) (reverse-append (take i all) (x ∷ []))

-- ---- drafts, from the last to the first

pub settled_push : (tree : Tree) (drafts : List Draft) (draft : Draft) (plan : List Planned) → settled_on tree (drafts ++ draft ∷ []) plan ≡ settled_on tree drafts (with_settled tree draft plan)
settled_push tree [] draft plan = refl
settled_push tree (d ∷ drafts) draft plan = ap (with_settled tree d) (settled_push tree drafts draft plan)
