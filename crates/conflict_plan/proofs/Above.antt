-- Parents of planned paths, and decisions after a look at the disk.
use Rattle.std.proofs.Common.{◌≡◌, ℕ, Bool, true, false, cond, not, ◌&&◌, ◌||◌, List, Option, Some, None, is_some, Result, Ok, Err, IsTrue, IfErr, refl, sym, ◌∙◌, ap, subst}
use Rattle.std.specs.FinMap.{get}
use Rattle.trove_stream.specs.cny-base.Path.{parent, root}
use Rattle.trove_stream.specs.cny-base.declared.refusal.Refusal.{Refusal}
use Rattle.trove_stream.specs.cny-base.declared.stop.Stop.{Stop}
use Rattle.trove_stream.specs.cny-base.declared.stop.Stop.TheVariants.{Refused, Memory, Failed, Damaged, FarFailed, FarDamaged}
use Rattle.tree_scan.specs.tree-disk.Disk.{DiskModel}
use Rattle.tree_scan.specs.tree-disk.Rows.{is_dir_at}
use Rattle.tree_scan.specs.tree-disk.Steps.{Found, Tests}
use Rattle.tree_scan.specs.tree-disk.Tree.{Name, Tree, WellFormed, is_child, same_name}
use Rattle.tree_scan.specs.declared.mark.Mark.{Mark}
use Rattle.tree_scan.specs.Marks.{is_nothing}
use Rattle.conflict_plan.specs.declared.drafting.Draft.{Draft}
use Rattle.conflict_plan.specs.declared.entries.Entry.{Entry}
use Rattle.conflict_plan.specs.declared.making.Fate.{Fate}
use Rattle.conflict_plan.specs.declared.making.Fate.TheVariants as fates
use Rattle.conflict_plan.specs.declared.planned.Planned.{Planned}
use Rattle.conflict_plan.specs.declared.table.Outcome.{Outcome}
use Rattle.conflict_plan.specs.declared.table.Outcome.TheVariants.{Stays, Removed, Written, Unowned, Edited}
use Rattle.conflict_plan.specs.Drafts.{drafted, Decided, RefusesAtMost}
use Rattle.conflict_plan.specs.Making.{fate_at, makes_in}
use Rattle.conflict_plan.specs.Orphans.{has_way, is_dir_fate, IsSeenPlan}
use Rattle.conflict_plan.proofs.Remaining.{some_stands}
use Rattle.tree_scan.proofs.tree-disk.Names.{not_same as not_root}

cond_or : (b old : Bool) → cond b true old ≡ (b || old)
cond_or true old = refl
cond_or false old = refl

-- the path above one that is to stand
pub parent_noted : (x : Planned) (above q : Name) (old new : Bool) → is_some x.want ≡ true → (x.path ≡ root → ⊥) → above ≡ parent x.path
    → new ≡ cond (same_name above q) true old → new ≡ (makes_in x q || old)
parent_noted x above q old new wanted other is_above is =
    is ∙ cond_or (same_name above q) old ∙ ap (λ b. b || old) (sym makes)
  where
    makes : makes_in x q ≡ same_name above q
    makes =
        ap (λ b. b && is_child q x.path) wanted
        ∙ ap (λ b. not b && same_name (parent x.path) q) (not_root x.path other)
        ∙ ap (λ n. same_name n q) (sym is_above)

-- the parent as it stands, where it isn't planned
pub way_above : (plan : List Planned) (tree : Tree) (path above : Name) → (path ≡ root → ⊥) → above ≡ parent path → fate_at plan above ≡ None → has_way plan tree path ≡ is_dir_at tree above
way_above plan tree path above other is_above none =
    ap (λ b. b || is_dir_fate (fate_at plan (parent path)) (is_dir_at tree (parent path))) (not_root path other)
    ∙ ap (λ n. is_dir_fate (fate_at plan n) (is_dir_at tree n)) (sym is_above)
    ∙ ap (λ o. is_dir_fate o (is_dir_at tree above)) none

-- the parent as it is planned
pub way_planned : (plan : List Planned) (tree : Tree) (path above : Name) (fate : Fate) → (path ≡ root → ⊥) → above ≡ parent path → fate_at plan above ≡ Some fate → has_way plan tree path ≡ is_dir_fate (Some fate) false
way_planned plan tree path above fate other is_above is =
    ap (λ b. b || is_dir_fate (fate_at plan (parent path)) (is_dir_at tree (parent path))) (not_root path other)
    ∙ ap (λ n. is_dir_fate (fate_at plan n) (is_dir_at tree n)) (sym is_above)
    ∙ ap (λ o. is_dir_fate o (is_dir_at tree above)) is
    ∙ by fate
  where
    by : (fate : Fate) → is_dir_fate (Some fate) (is_dir_at tree above) ≡ is_dir_fate (Some fate) false
    by fates.Gone = refl
    by fates.Dir = refl
    by fates.Other = refl

-- what stands stands in a directory
pub stands_above : (tree : Tree) (x : Planned) (above : Name) → WellFormed tree → IsSeenPlan tree x → above ≡ parent x.path → is_nothing x.was ≡ false → is_dir_at tree above ≡ true
stands_above tree x above well seen is_above stands =
    ap (is_dir_at tree) is_above ∙ well.parents x.path (some_stands (get tree x.path) (sym (ap is_nothing seen) ∙ stands))

-- ---- decisions

found_decided : (told : Bool) (expected goal : Result (Option Draft) Refusal) (r : Result (Option Draft) Stop) (before now : ℕ) → (IsTrue told → goal ≡ expected) → Decided expected r
    → Found (λ draft. draft) told goal r before now
found_decided told expected goal (Ok draft) before now is decided = λ tells. is tells ∙ decided
found_decided told expected goal (Err (Refused why)) before now is decided = λ tells. is tells ∙ decided
found_decided told expected goal (Err Memory) before now is decided = tt
found_decided told expected goal (Err Failed) before now is decided = absurd decided
found_decided told expected goal (Err (Damaged path)) before now is decided = absurd decided
found_decided told expected goal (Err FarFailed) before now is decided = absurd decided
found_decided told expected goal (Err (FarDamaged path)) before now is decided = absurd decided

-- a decision after a test that passed
pub tests_decided : {D X Y : Type 0} {disk : DiskModel D} {view : X → Y} {test : Tree → Result Y Refusal} {goal : Tree → Result (Option Draft) Refusal} {expected : Result (Option Draft) Refusal} {old new : D} {x : X} {r : Result (Option Draft) Stop}
    → Tests disk view test old new (Ok x) → (IsTrue disk.tells → goal (disk.reads old) ≡ expected) → Decided expected r → Tests disk (λ draft. draft) goal old new r
tests_decided {disk = disk} {goal = goal} {expected = expected} {old = old} {r = r} tested is decided = record {
  later = tested.later;
  same = tested.same;
  found = found_decided disk.tells expected (goal (disk.reads old)) r _ _ is decided;
}

refused_may : (o : Outcome) (e : Entry) (was : Mark) (why : Refusal) → drafted o e was ≡ Err why → RefusesAtMost (Refused why)
refused_may Stays e was why is = absurd (cc is)
refused_may Removed e was why is = absurd (cc is)
refused_may Written e was why is = absurd (cc is)
refused_may Unowned e was why is =
    let is_why : Rattle.trove_stream.specs.cny-base.declared.refusal.Refusal.TheVariants.Unowned e.path ≡ why = cc is in
    subst (λ w. RefusesAtMost (Refused w)) is_why tt
refused_may Edited e was why is =
    let is_why : Rattle.trove_stream.specs.cny-base.declared.refusal.Refusal.TheVariants.Edited e.path ≡ why = cc is in
    subst (λ w. RefusesAtMost (Refused w)) is_why tt

pub decided_may : (o : Outcome) (e : Entry) (was : Mark) (r : Result (Option Draft) Stop) → Decided (drafted o e was) r → IfErr r RefusesAtMost
decided_may o e was (Ok draft) decided = tt
decided_may o e was (Err (Refused why)) decided = refused_may o e was why decided
decided_may o e was (Err Memory) decided = tt
decided_may o e was (Err Failed) decided = absurd decided
decided_may o e was (Err (Damaged path)) decided = absurd decided
decided_may o e was (Err FarFailed) decided = absurd decided
decided_may o e was (Err (FarDamaged path)) decided = absurd decided
