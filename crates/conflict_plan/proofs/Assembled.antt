-- From what is recorded and what stands to the plan, or to the first refusal.
use Rattle.std.proofs.Common.{◌≡◌, ℕ, Bool, true, false, ◌&&◌, List, [], ◌∷◌, map, Option, Some, None, T, refl, sym, ◌∙◌, ap}
use Rattle.std.specs.List.{All, AllByRecursion}
use Rattle.std.specs.FinMap.{entries_sorted, entries, is_sorted, keys}
use Rattle.std.specs.FinMap.Entries.{below_all}
use Rattle.std.specs.List.Sorted.{IsStrictlySortedBy}
use Rattle.std.specs.declared.cmp.Ordering.{Ordering}
use Rattle.std.specs.declared.cmp.Ordering.TheVariants.{Less, Equal, Greater}
use Rattle.std.specs.Ordering.{nat_cmp, is_lt}
use Rattle.std.specs.Cmp.Lexicographic.{slice_cmp}
use Rattle.trove_stream.specs.cny-base.Path.{is_path}
use Rattle.trove_stream.specs.cny-base.declared.node.Node.{Node}
use Rattle.trove_stream.specs.cny-base.declared.options.Options.{Options}
use Rattle.trove_stream.specs.cny-base.declared.refusal.Refusal.{Refusal}
use Rattle.trove_stream.specs.cny-base.declared.refusal.Refusal.TheVariants as refusal
use Rattle.trove_stream.specs.declared.parts.TroveParts.{TroveParts}
use Rattle.tree_scan.specs.tree-disk.Tree.{Name, Tree, WellFormed}
use Rattle.tree_scan.specs.Marks.{fingerprint_at}
use Rattle.conflict_plan.specs.declared.entries.Entry.{Entry}
use Rattle.conflict_plan.specs.declared.planned.Planned.{Planned}
use Rattle.conflict_plan.specs.declared.records.Recorded.{Recorded}
use Rattle.conflict_plan.specs.declared.table.Outcome.TheVariants.{Stays}
use Rattle.conflict_plan.specs.Claims.{Claim, claims, first_record, owners, owners_at, record_at, rival, with_rival}
use Rattle.conflict_plan.specs.Entries.{entry_of, first_refusal, first_shared, owned_at, owned_by}
use Rattle.conflict_plan.specs.Making.{child_remains}
use Rattle.conflict_plan.specs.Orphans.{least_orphan}
use Rattle.conflict_plan.specs.Plan.{change_of, conflict_at, mark_after, outcome_at, planned_at, planned_cmp, refusal_of, ArePlanned, HasChild, IsFirstConflict, IsFirstOrphan, IsFirstShared, IsPlan}
use Rattle.conflict_plan.specs.Records.{record_of}
use Rattle.conflict_plan.specs.Table.{path_outcome}
use Rattle.conflict_plan.proofs.Building.{HavePaths, IsBuilt, built, change_by, found_planned, not_found_not_planned, plan_of, refusal_by}
use Rattle.conflict_plan.proofs.Entered.{At, AreRising, IsFirstAt, first_found, found_at, none_found}
use Rattle.conflict_plan.proofs.Noting.{recorded_by, shared_of}
use Rattle.conflict_plan.proofs.Orphaned.{AreLater, AreSorted, least_first, least_none}
use Rattle.conflict_plan.proofs.Remaining.{AreAfter, RisePlanned, remains_means, same_answer}
use Rattle.conflict_plan.proofs.Tables.{draft_refusal, unrecorded_stays}
use Rattle.trove_stream.specs.cny-base.Answer.{IsAnswer}
use Rattle.tree_scan.proofs.tree-disk.Order.{name_cmp}

first_T : (a b : Bool) → T (a && b) → T a
first_T true b is = tt
first_T false b is = is

second_T : (a b : Bool) → T (a && b) → T b
second_T true b is = is
second_T false b is = absurd is

-- ---- what is known of the entries of a map

-- the entries are those of two lists, in path order
pub record AreEntries (old fresh : List TroveParts) (es : List At) : Type 0 where
  pub rising : AreRising es
  pub paths : HavePaths es
  pub found : (path : Name) → found_at es path ≡ recorded_by (claims old path) (claims fresh path)

-- the same of their paths and records alone
pub record AreFound (old fresh : List TroveParts) (es : List At) : Type 0 where
  pub rising : AreRising es
  pub found : (path : Name) → found_at es path ≡ recorded_by (claims old path) (claims fresh path)

pub to_found : (old fresh : List TroveParts) (es : List At) → AreEntries old fresh es → AreFound old fresh es
to_found old fresh es entries = record { rising = entries.rising; found = entries.found }

have_paths_in : (es : List At) → AllByRecursion (λ (e : Entry). is_path e.path ≡ true) (map entry_of es) → HavePaths es
have_paths_in [] all = tt
have_paths_in (e ∷ es) all = (all.0, have_paths_in es all.1)

pub have_paths : (es : List At) → All (λ (e : Entry). is_path e.path ≡ true) (map entry_of es) → HavePaths es
have_paths es all = have_paths_in es (Rattle.std.proofs.lemmas.List.Elements.recursion_from_All (λ (e : Entry). is_path e.path ≡ true) (map entry_of es) all)

-- ---- the records of a path

fresh_record : (cs : List Claim) → record_of (shared_of cs) ≡ first_record cs
fresh_record [] = refl
fresh_record (c ∷ cs) = refl

abbrev entry_by : Name → Option Recorded → Entry
entry_by path None = record { path = path; old = None; fresh = None }
entry_by path (Some r) = entry_of (path, r)

recorded_entry : (path : Name) (o f : List Claim) → entry_by path (recorded_by o f) ≡ record { path = path; old = first_record o; fresh = first_record f }
recorded_entry path [] [] = refl
recorded_entry path [] (c ∷ cs) = refl
recorded_entry path (o ∷ os) f = ap (λ r. record { path = path; old = Some o.1; fresh = r }) (fresh_record f)

module _ {old fresh : List TroveParts} {es : List At} (entries : AreEntries old fresh es) where
  pub found_entry : (path : Name) (r : Recorded) → found_at es path ≡ Some r → entry_of (path, r) ≡ record { path = path; old = record_at old path; fresh = record_at fresh path }
  found_entry path r found = ap (entry_by path) (sym found ∙ entries.found path) ∙ recorded_entry path (claims old path) (claims fresh path)

  none_entry : (path : Name) → found_at es path ≡ None → entry_by path None ≡ record { path = path; old = record_at old path; fresh = record_at fresh path }
  none_entry path none = ap (entry_by path) (sym none ∙ entries.found path) ∙ recorded_entry path (claims old path) (claims fresh path)

-- ---- shared paths

abbrev pub owned_in : Name → Option Recorded → Option Refusal
owned_in path None = None
owned_in path (Some r) = owned_at path r.fresh

abbrev pub owned_as : Name → Option (List ℕ × List ℕ) → Option Refusal
owned_as path None = None
owned_as path (Some two) = Some (refusal.Owned path two.0 two.1)

shared_refusal : (path : Name) (cs : List Claim) → owned_at path (shared_of cs) ≡ owned_as path (owners cs)
shared_refusal path [] = refl
shared_refusal path (c ∷ cs) = at (rival c.1 cs)
  where
    at : (o : Option (List ℕ)) → owned_by path o (Some (record { rec = c.1; first = c.0; second = o })) ≡ owned_as path (with_rival c.0 o)
    at None = refl
    at (Some second) = refl

recorded_refusal : (path : Name) (o f : List Claim) → owned_in path (recorded_by o f) ≡ owned_as path (owners f)
recorded_refusal path [] [] = refl
recorded_refusal path [] (c ∷ cs) = shared_refusal path (c ∷ cs)
recorded_refusal path (o ∷ os) f = shared_refusal path f

no_owners : (path : Name) (o : Option (List ℕ × List ℕ)) → owned_as path o ≡ None → o ≡ None
no_owners path None is = refl
no_owners path (Some two) is = absurd (cc is)

-- the first shared path, as a refusal
pub record IsOwnedFirst (fresh : List TroveParts) (why : Refusal) : Type 0 where
  pub path : Name
  pub first : List ℕ
  pub second : List ℕ
  pub is : refusal.Owned path first second ≡ why
  pub shared : IsFirstShared fresh path first second

-- the first path at which the table refuses
pub record IsConflictFirst (old fresh : List TroveParts) (options : Options) (tree : Tree) (why : Refusal) : Type 0 where
  pub path : Name
  pub conflict : IsFirstConflict old fresh options tree path why

-- ---- the keys of a tree

behind_by : (p : Name) (es : List (Name × Node)) → T (below_all (slice_cmp nat_cmp) p es) → AreLater p (map (λ e. e.0) es)
behind_by p [] all = tt
behind_by p (e ∷ es) all = (less_by (slice_cmp nat_cmp p e.0) (first_T (is_lt (slice_cmp nat_cmp p e.0)) (below_all (slice_cmp nat_cmp) p es) all), behind_by p es (second_T (is_lt (slice_cmp nat_cmp p e.0)) (below_all (slice_cmp nat_cmp) p es) all))
  where
    less_by : (o : Ordering) → T (is_lt o) → o ≡ Less
    less_by Less is = refl
    less_by Equal is = absurd is
    less_by Greater is = absurd is

sorted_by : (es : List (Name × Node)) → T (is_sorted (slice_cmp nat_cmp) es) → AreSorted (map (λ e. e.0) es)
sorted_by [] all = tt
sorted_by (e ∷ es) all = (behind_by e.0 es (first_T (below_all (slice_cmp nat_cmp) e.0 es) (is_sorted (slice_cmp nat_cmp) es) all), sorted_by es (second_T (below_all (slice_cmp nat_cmp) e.0 es) (is_sorted (slice_cmp nat_cmp) es) all))

tree_sorted : (tree : Tree) → AreSorted (keys tree)
tree_sorted tree = sorted_by (entries tree) (entries_sorted tree)

module _ {old fresh : List TroveParts} {es : List At} (entries : AreFound old fresh es) where
  pub owned_here : (path : Name) → owned_in path (found_at es path) ≡ owned_as path (owners_at fresh path)
  owned_here path = ap (owned_in path) (entries.found path) ∙ recorded_refusal path (claims old path) (claims fresh path)

  pub unshared_where : (path : Name) (o : Option Recorded) → found_at es path ≡ o → ((r : Recorded) → o ≡ Some r → owned_at path r.fresh ≡ None) → owners_at fresh path ≡ None
  unshared_where path None none free = no_owners path (owners_at fresh path) (sym (owned_here path) ∙ ap (owned_in path) none)
  unshared_where path (Some r) found free = no_owners path (owners_at fresh path) (sym (owned_here path) ∙ ap (owned_in path) found ∙ free r refl)

  -- where no entry is shared, no path is
  pub unshared : first_shared es ≡ None → (path : Name) → owners_at fresh path ≡ None
  unshared none path = unshared_where path (found_at es path) refl (λ r found. none_found (λ p x. owned_at p x.fresh) es none path r found)

  -- the refusal of the first entry that is shared
  pub first_owned : (why : Refusal) → first_shared es ≡ Some why → IsOwnedFirst fresh why
  first_owned why is = at (owners_at fresh first.path) refl (sym (owned_here first.path) ∙ ap (owned_in first.path) first.found ∙ first.refused)
    where
      first : IsFirstAt (λ p x. owned_at p x.fresh) es why
      first = first_found (λ p x. owned_at p x.fresh) es why entries.rising is

      before : (q : Name) → name_cmp q first.path ≡ Less → owners_at fresh q ≡ None
      before q less = unshared_where q (found_at es q) refl (λ r found. first.first_path q r less found)

      at : (o : Option (List ℕ × List ℕ)) → owners_at fresh first.path ≡ o → owned_as first.path o ≡ Some why → IsOwnedFirst fresh why
      at None none same = absurd (cc same)
      at (Some two) some same =
          let is_why : refusal.Owned first.path two.0 two.1 ≡ why = cc same in
          record { path = first.path; first = two.0; second = two.1; is = is_why; shared = record { owners = some; first_path = before } }

-- ---- conflicts

module _ {old fresh : List TroveParts} {es : List At} (options : Options) (tree : Tree) (entries : AreEntries old fresh es) where
  conflict_found : (path : Name) (r : Recorded) → found_at es path ≡ Some r → refusal_by options tree path r ≡ conflict_at old fresh options tree path
  conflict_found path r found =
      draft_refusal options tree (entry_of (path, r))
      ∙ ap (λ (e : Entry). refusal_of (path_outcome path e.old e.fresh (fingerprint_at tree path) false options) path) (found_entry entries path r found)

  stays_none : (path : Name) (remains : Bool) → found_at es path ≡ None → outcome_at old fresh options tree path remains ≡ Stays
  stays_none path remains none =
      ap (λ (e : Entry). path_outcome path e.old e.fresh (fingerprint_at tree path) remains options) (sym (none_entry entries path none))
      ∙ unrecorded_stays path (fingerprint_at tree path) remains options

  conflict_where : (path : Name) (o : Option Recorded) → found_at es path ≡ o → ((r : Recorded) → o ≡ Some r → refusal_by options tree path r ≡ None) → conflict_at old fresh options tree path ≡ None
  conflict_where path None none free = ap (λ o. refusal_of o path) (stays_none path false none)
  conflict_where path (Some r) found free = sym (conflict_found path r found) ∙ free r refl

  pub no_conflict : first_refusal (refusal_by options tree) es ≡ None → (path : Name) → conflict_at old fresh options tree path ≡ None
  no_conflict none path = conflict_where path (found_at es path) refl (λ r found. none_found (refusal_by options tree) es none path r found)

  -- the refusal of the first entry at which the table refuses
  pub first_conflict : (why : Refusal) → ((q : Name) → owners_at fresh q ≡ None) → first_refusal (refusal_by options tree) es ≡ Some why → IsConflictFirst old fresh options tree why
  first_conflict why free is = record {
    path = first.path;
    conflict = record {
      unshared = free;
      refused = sym (conflict_found first.path first.recorded first.found) ∙ first.refused;
      first_path = λ q less. conflict_where q (found_at es q) refl (λ r found. first.first_path q r less found);
    };
  }
    where
      first : IsFirstAt (refusal_by options tree) es why
      first = first_found (refusal_by options tree) es why entries.rising is

  -- ---- the plan

  change_found : (path : Name) (r : Recorded) (remains : Bool) → found_at es path ≡ Some r
      → change_by options tree path r remains ≡ change_of (outcome_at old fresh options tree path remains) path (fingerprint_at tree path) (record_at fresh path)
  change_found path r remains found =
      ap (λ (e : Entry). change_of (path_outcome path e.old e.fresh (fingerprint_at tree path) remains options) path (fingerprint_at tree path) e.fresh) (found_entry entries path r found)

  all_built : IsBuilt tree es (plan_of options tree es)
  all_built = built options tree es entries.rising entries.paths

  targets_where : WellFormed tree → (path : Name) (remains : Bool) → IsAnswer (HasChild (mark_after (plan_of options tree es) tree) path) remains → (o : Option Recorded) → found_at es path ≡ o
      → planned_at (plan_of options tree es) path ≡ change_of (outcome_at old fresh options tree path remains) path (fingerprint_at tree path) (record_at fresh path)
  targets_where well path remains answer None none =
      not_found_not_planned options tree es path none
      ∙ ap (λ o. change_of o path (fingerprint_at tree path) (record_at fresh path)) (sym (stays_none path remains none))
  targets_where well path remains answer (Some r) found =
      found_planned options tree es path r entries.rising entries.paths found
      ∙ ap (change_by options tree path r)
      (same_answer (HasChild (mark_after (plan_of options tree es) tree) path) (child_remains (plan_of options tree es) tree path) remains
      (remains_means (plan_of options tree es) tree path well all_built.rise) answer)
      ∙ change_found path r remains found

  after_all : (p : Name) (plan : List Planned) (x : Planned) → x.path ≡ p → AreAfter p plan → AllByRecursion (λ (y : Planned). planned_cmp x y ≡ Less) plan
  after_all p [] x is after = tt
  after_all p (y ∷ plan) x is after = (ap (λ n. name_cmp n y.path) is ∙ after.0, after_all p plan x is after.1)

  risen : (plan : List Planned) → RisePlanned plan → IsStrictlySortedBy planned_cmp plan
  unfolding IsStrictlySortedBy
  risen [] rise = tt
  risen (x ∷ plan) rise = (after_all x.path plan x refl rise.0, risen plan rise.1)

  pub are_planned : WellFormed tree → ArePlanned old fresh options tree (plan_of options tree es)
  are_planned well = record {
    rising = risen (plan_of options tree es) all_built.rise;
    targets = λ path remains answer. targets_where well path remains answer (found_at es path) refl;
  }

  -- the plan of a job that isn't refused
  pub is_plan : WellFormed tree → ((q : Name) → owners_at fresh q ≡ None) → ((q : Name) → conflict_at old fresh options tree q ≡ None)
      → least_orphan (plan_of options tree es) tree (plan_of options tree es) ≡ None → IsPlan old fresh options tree (plan_of options tree es)
  is_plan well free calm least = record {
    unshared = free;
    no_conflict = calm;
    planned = are_planned well;
    no_orphan = least_none (plan_of options tree es) tree well (tree_sorted tree) all_built.seen least;
  }

  -- the first path without a directory above it
  pub first_orphan : WellFormed tree → (path : Name) → ((q : Name) → owners_at fresh q ≡ None) → ((q : Name) → conflict_at old fresh options tree q ≡ None)
      → least_orphan (plan_of options tree es) tree (plan_of options tree es) ≡ Some path → IsFirstOrphan old fresh options tree path
  first_orphan well path free calm least = record {
    unshared = free;
    no_conflict = calm;
    plan = plan_of options tree es;
    planned = are_planned well;
    orphan = least_first (plan_of options tree es) tree path well (tree_sorted tree) all_built.seen all_built.rise least;
  }
