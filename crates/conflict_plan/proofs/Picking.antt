-- What is planned on every disk is picked of the entries, in their order.
use Rattle.std.proofs.Common.{◌≡◌, ◌⊎◌, inl, inr, ℕ, ◌+◌, ◌<◌, true, false, ◌||◌, List, [], ◌∷◌, ◌++◌, append_assoc, length, map, drop, get_or, Option, Some, None, Result, Ok, Err, refl, sym, ◌∙◌, ap, subst}
use Rattle.std.proofs.lemmas.List.{drop_more}
use Rattle.std.proofs.lemmas.List.Elements.{All-from_recursion}
use Rattle.std.specs.List.{AllByRecursion}
use Rattle.std.specs.List.Sorted.{IsStrictlySortedBy}
use Rattle.std.specs.Option.{is_some}
use Rattle.std.specs.declared.cmp.Ordering.TheVariants.{Less}
use Rattle.trove_stream.specs.cny-base.Reserved.{is_pinned}
use Rattle.trove_stream.specs.cny-base.declared.options.Options.{Options}
use Rattle.trove_stream.specs.declared.parts.TroveParts.{TroveParts}
use Rattle.tree_scan.specs.tree-disk.Tree.{Name}
use Rattle.tree_scan.specs.declared.mark.Mark.{Mark}
use Rattle.conflict_plan.specs.declared.drafting.Draft.{Draft}
use Rattle.conflict_plan.specs.declared.entries.Entry.{Entry}
use Rattle.conflict_plan.specs.declared.planned.Planned.{Planned}
use Rattle.conflict_plan.specs.declared.records.Recorded.{Recorded}
use Rattle.conflict_plan.specs.declared.table.Outcome.{Outcome}
use Rattle.conflict_plan.specs.declared.table.Outcome.TheVariants.{Stays, Removed, Written, Unowned, Edited}
use Rattle.conflict_plan.specs.Claims.{Claim, claims, first_record, record_at}
use Rattle.conflict_plan.specs.Drafts.{draft_by, drafted, is_left_dir, is_settled, Decided}
use Rattle.conflict_plan.specs.Table.{path_outcome}
use Rattle.trove_stream.specs.cny-base.declared.stop.Stop.{Stop}
use Rattle.std.specs.Prelude.{IfOk}
use Rattle.conflict_plan.specs.Entries.{entry_of}
use Rattle.conflict_plan.specs.Picked.{planned_of, AreKept, ArePicked, IsPickedDraft, IsPickedOf}
use Rattle.conflict_plan.specs.Plan.{planned_cmp, ArePlannable, IsPlannable}
use Rattle.conflict_plan.proofs.Assembled.{AreEntries, found_entry}
use Rattle.conflict_plan.proofs.Entered.{At, AreBehind, AreRising, found_at, found_here, found_other, later_other}
use Rattle.conflict_plan.proofs.Noting.{recorded_by}
use Rattle.tree_scan.proofs.tree-disk.Order.{name_cmp}
use Rattle.trove_stream.proofs.cny-base.Bools.{first_false}

-- ---- one draft

-- a decision by the table is picked of its entry
pub drafted_picked : (o : Outcome) (e : Entry) (was : Mark) (draft : Draft) → is_settled e ≡ false → drafted o e was ≡ Ok (Some draft) → IsPickedOf e draft.planned
drafted_picked Stays e was draft loose is = absurd (cc is)
drafted_picked Removed e was draft loose is =
    let is_draft : draft ≡ record { planned = record { path = e.path; was = was; want = None }; if_empty = is_left_dir e.old e.fresh was } = cc is in
    subst (λ d. IsPickedOf e d.planned) (sym is_draft) (record { path = refl; loose = loose; target = inl refl })
drafted_picked Written e was draft loose is =
    let is_draft : draft ≡ record { planned = record { path = e.path; was = was; want = e.fresh }; if_empty = is_left_dir e.old e.fresh was } = cc is in
    subst (λ d. IsPickedOf e d.planned) (sym is_draft) (record { path = refl; loose = loose; target = inr refl })
drafted_picked Unowned e was draft loose is = absurd (cc is)
drafted_picked Edited e was draft loose is = absurd (cc is)

-- and so is what a decision answers
pub decided_picked : (options : Options) (e : Entry) (was : Mark) (result : Result (Option Draft) Stop) → is_settled e ≡ false → Decided (draft_by options e was) result → IfOk result (IsPickedDraft e)
decided_picked options e was (Ok None) loose is = tt
decided_picked options e was (Ok (Some draft)) loose is = drafted_picked (path_outcome e.path e.old e.fresh was false options) e was draft loose is
decided_picked options e was (Err stop) loose is = tt

-- ---- drafts, from the first entry to the last

-- what is still to be picked of the later entries comes behind what was made
abbrev pub PicksOn : List Entry → ℕ → List Draft → Type 0
PicksOn all n made = (rest : List Planned) → ArePicked (drop n all) rest → ArePicked all (map planned_of made ++ rest)

map_one : (made : List Draft) (draft : Draft) → map planned_of (made ++ draft ∷ []) ≡ map planned_of made ++ draft.planned ∷ []
map_one [] draft = refl
map_one (d ∷ made) draft = ap (λ l. d.planned ∷ l) (map_one made draft)

module _ (all : List Entry) (n : ℕ) (e : Entry) (within : n < length all) (is_e : e ≡ get_or all n e) (made : List Draft) where
  pub split : drop n all ≡ e ∷ drop (n + 1) all
  split = drop_more all n e within ∙ ap (λ x. x ∷ drop (n + 1) all) (sym is_e)

  pub picks_none : PicksOn all n made → PicksOn all (n + 1) made
  picks_none on rest picked = on rest (subst (λ l. ArePicked l rest) (sym split) (inl picked))

  pub picks_one : (draft : Draft) → IsPickedOf e draft.planned → PicksOn all n made → PicksOn all (n + 1) (made ++ draft ∷ [])
  picks_one draft is on rest picked =
      subst (ArePicked all) (sym (append_assoc (map planned_of made) (draft.planned ∷ []) rest) ∙ ap (λ l. l ++ rest) (sym (map_one made draft)))
      (on (draft.planned ∷ rest) (subst (λ l. ArePicked l (draft.planned ∷ rest)) (sym split) (inr (record { first = draft.planned; rest = rest; split = refl; one = is; others = picked }))))

-- ---- the plan, from the last draft to the first

-- the drafts behind these give the plan
pub record KeepsBehind (all front : List Draft) (plan : List Planned) : Type 0 where
  pub behind : List Draft
  pub split : all ≡ front ++ behind
  pub kept : AreKept behind plan

pub keeps_one : (all front left : List Draft) (draft : Draft) (plan next : List Planned) → front ≡ left ++ draft ∷ [] → (next ≡ plan) ⊎ (next ≡ draft.planned ∷ plan)
    → KeepsBehind all front plan → KeepsBehind all left next
keeps_one all front left draft plan next is step keeps = record {
  behind = draft ∷ keeps.behind;
  split = keeps.split ∙ ap (λ l. l ++ keeps.behind) is ∙ append_assoc left (draft ∷ []) keeps.behind;
  kept = at step;
}
  where
    at : (next ≡ plan) ⊎ (next ≡ draft.planned ∷ plan) → AreKept (draft ∷ keeps.behind) next
    at (inl same) = inl (subst (AreKept keeps.behind) (sym same) keeps.kept)
    at (inr more) = inr (record { first = draft.planned; rest = plan; split = more; one = refl; others = keeps.kept })

-- ---- both together

pub kept_picked : (es : List Entry) (ds : List Draft) (plan : List Planned) → ArePicked es (map planned_of ds) → AreKept ds plan → ArePicked es plan
kept_picked [] [] plan picked kept = kept
kept_picked [] (d ∷ ds) plan picked kept = absurd (cc picked)
kept_picked (e ∷ es) ds plan (inl picked) kept = inl (kept_picked es ds plan picked kept)
kept_picked (e ∷ es) [] plan (inr begins) kept = absurd (cc begins.split)
kept_picked (e ∷ es) (d ∷ ds) plan (inr begins) (inl kept) =
    inl (kept_picked es ds plan (subst (ArePicked es) (sym (rest_is begins.split)) begins.others) kept)
  where
    rest_is : {x : Planned} {rest : List Planned} → d.planned ∷ map planned_of ds ≡ x ∷ rest → map planned_of ds ≡ rest
    rest_is is = cc is
kept_picked (e ∷ es) (d ∷ ds) plan (inr begins) (inr keeps) = inr (record {
  first = keeps.first;
  rest = keeps.rest;
  split = keeps.split;
  one = subst (IsPickedOf e) (sym (keeps.one ∙ first_is begins.split)) begins.one;
  others = kept_picked es ds keeps.rest (subst (ArePicked es) (sym (rest_is begins.split)) begins.others) keeps.others;
})
  where
    first_is : {x : Planned} {rest : List Planned} → d.planned ∷ map planned_of ds ≡ x ∷ rest → d.planned ≡ x
    first_is is = cc is

    rest_is : {x : Planned} {rest : List Planned} → d.planned ∷ map planned_of ds ≡ x ∷ rest → map planned_of ds ≡ rest
    rest_is is = cc is

-- ---- the entries of two lists

-- each entry is what the map has at its path
pub found_each : (es : List At) → AreRising es → AllByRecursion (λ (e : At). found_at es e.0 ≡ Some e.1) es
found_each [] rising = tt
found_each (e ∷ es) rising = (found_here e es, later es rising.0 (found_each es rising.1))
  where
    later : (rest : List At) → AreBehind e.0 es → AllByRecursion (λ (x : At). found_at es x.0 ≡ Some x.1) rest → AllByRecursion (λ (x : At). found_at (e ∷ es) x.0 ≡ Some x.1) rest
    later [] behind all = tt
    later (x ∷ rest) behind all = (found_other e es x.0 (later_other e es x.0 x.1 behind all.0) ∙ all.0, later rest behind all.1)

-- what is planned of entries behind a path is behind it
picked_behind : (path : Name) (es : List At) (plan : List Planned) → AreBehind path es → ArePicked (map entry_of es) plan → AllByRecursion (λ (x : Planned). name_cmp path x.path ≡ Less) plan
picked_behind path [] plan behind picked = subst (AllByRecursion (λ (x : Planned). name_cmp path x.path ≡ Less)) (sym picked) tt
picked_behind path (e ∷ es) plan behind (inl picked) = picked_behind path es plan behind.1 picked
picked_behind path (e ∷ es) plan behind (inr begins) =
    subst (AllByRecursion (λ (x : Planned). name_cmp path x.path ≡ Less)) (sym begins.split)
    (subst (λ p. name_cmp path p ≡ Less) (sym begins.one.path) behind.0, picked_behind path es begins.rest behind.1 begins.others)

pub picked_rises : (es : List At) (plan : List Planned) → AreRising es → ArePicked (map entry_of es) plan → IsStrictlySortedBy planned_cmp plan
unfolding IsStrictlySortedBy
picked_rises [] plan rising picked = subst (IsStrictlySortedBy planned_cmp) (sym picked) tt
picked_rises (e ∷ es) plan rising (inl picked) = picked_rises es plan rising.1 picked
picked_rises (e ∷ es) plan rising (inr begins) =
    subst (IsStrictlySortedBy planned_cmp) (sym begins.split) (
      subst (λ p. AllByRecursion (λ (x : Planned). name_cmp p x.path ≡ Less) begins.rest) (sym begins.one.path) (picked_behind e.0 es begins.rest rising.0 begins.others),
      picked_rises es begins.rest rising.1 begins.others,
    )

recorded_one : (o f : List Claim) (r : Recorded) → recorded_by o f ≡ Some r → (is_some (first_record o) || is_some (first_record f)) ≡ true
recorded_one [] [] r is = absurd (cc is)
recorded_one [] (c ∷ cs) r is = refl
recorded_one (c ∷ cs) f r is = refl

module _ (old fresh : List TroveParts) (all : List At) (entries : AreEntries old fresh all) where
  plannable : (path : Name) (r : Recorded) (x : Planned) → found_at all path ≡ Some r → IsPickedOf (entry_of (path, r)) x → IsPlannable old fresh x
  plannable path r x found is =
      let entry = found_entry entries path r found in
      record {
        not_pinned = subst (λ p. is_pinned p ≡ false) (sym is.path) (first_false (is_pinned path) _ is.loose);
        recorded = subst (λ p. (is_some (record_at old p) || is_some (record_at fresh p)) ≡ true) (sym is.path)
            (recorded_one (claims old path) (claims fresh path) r (sym (entries.found path) ∙ found));
        target = at is.target (ap (λ (e : Entry). e.fresh) entry ∙ ap (record_at fresh) (sym is.path));
      }
    where
      at : {w : Option Rattle.trove_stream.specs.cny-stream.declared.record.FileRec.FileRec} → (x.want ≡ None) ⊎ (x.want ≡ w) → w ≡ record_at fresh x.path → (x.want ≡ None) ⊎ (x.want ≡ record_at fresh x.path)
      at (inl none) same = inl none
      at (inr is) same = inr (is ∙ same)

  pub each_plannable : (es : List At) (plan : List Planned) → AllByRecursion (λ (e : At). found_at all e.0 ≡ Some e.1) es → ArePicked (map entry_of es) plan → AllByRecursion (IsPlannable old fresh) plan
  each_plannable [] plan found picked = subst (AllByRecursion (IsPlannable old fresh)) (sym picked) tt
  each_plannable (e ∷ es) plan found (inl picked) = each_plannable es plan found.1 picked
  each_plannable (e ∷ es) plan found (inr begins) =
      subst (AllByRecursion (IsPlannable old fresh)) (sym begins.split) (plannable e.0 e.1 begins.first found.0 begins.one, each_plannable es begins.rest found.1 begins.others)

  -- what is planned of the entries of two lists
  pub are_plannable : (made : List Entry) (ds : List Draft) (plan : List Planned) → made ≡ map entry_of all → ArePicked made (map planned_of ds) → AreKept ds plan → ArePlannable old fresh plan
  are_plannable made ds plan is picked kept =
      let of_all = subst (λ es. ArePicked es plan) is (kept_picked made ds plan picked kept) in
      record {
        rising = picked_rises all plan entries.rising of_all;
        each = All-from_recursion (IsPlannable old fresh) plan (each_plannable all plan (found_each all entries.rising) of_all);
      }
