-- What jobs found at their paths, made a map of writes.
use Rattle.std.proofs.Common.{◌≡◌, ⊎_elim, inl, inr, ℕ, Bool, true, false, cond, List, [], ◌∷◌, ◌++◌, Option, Some, None, All, Contains, refl, sym, ◌∙◌, ap, subst}
use Rattle.std.specs.Prelude.{◌⊎◌}
use Rattle.std.specs.BTreeMap.{get}
use Rattle.std.specs.Cmp.Lexicographic.{slice_cmp}
use Rattle.std.specs.List.{AllByRecursion}
use Rattle.std.specs.List.Sorted.{IsStrictlySortedBy}
use Rattle.std.specs.Map.{keys_of}
use Rattle.std.specs.Ordering.{nat_cmp}
use Rattle.std.specs.declared.cmp.Ordering.TheVariants.{Less}
use Rattle.std.proofs.lemmas.List.Elements.{All-nil, All-push, All-contains}
use Rattle.std.proofs.lemmas.Map.Views.{Contains-from_lookup}
use Rattle.job_targets.specs.journal-log.declared.put.Want.{Want}
use Rattle.job_targets.specs.journal-log.declared.put.Want.TheVariants as want
use Rattle.job_targets.specs.Old.{IsDamagedOld, IsSaved, is_staged}
use Rattle.job_targets.specs.journal-log.Targets.{node_of}
use Rattle.std.specs.Map.{lookup}
use Rattle.job_targets.specs.tree-disk.Laws.{same_means}
use Rattle.job_targets.proofs.tree-disk.Laws.{same_itself}
use Rattle.job_targets.specs.tree-disk.Tree.{Name, Tree, same_name}
use Rattle.tree_scan.specs.Marks.{fingerprint}
use Rattle.tree_scan.specs.declared.mark.Mark.{Mark}
use Rattle.past_jobs.specs.declared.found.FoundMark.{FoundMark}
use Rattle.past_jobs.specs.Seen.{FoundMarks}
use Rattle.rollback_stack.specs.Inverse.{HoldsOld}
use Rattle.rollback_stack.specs.Wanting.{AreWanted, HasWanted, IsWantedOf, Stays, Wants, want_at}
use Rattle.job_record.proofs.ByLists.{implied}
use Rattle.change_rel.proofs.cny-base.Lists.{contains_cases, contains_first, contains_rest, nothing_in}
use Rattle.tree_scan.proofs.tree-disk.Order.{not_back as not_both_less, not_itself as not_less_itself}

-- ---- what is saved

saved_holds : (x : Tree) (number : ℕ) (w : Want) → IsSaved x number w → is_staged w ≡ false → HoldsOld x number (fingerprint (node_of w))
saved_holds x number want.Nothing saved given = λ path damaged. damaged
saved_holds x number (want.Dir mode) saved given = λ path damaged. damaged
saved_holds x number (want.File mode bytes) saved given = λ path damaged. damaged.1 bytes (record { there = saved; content = record { long = refl; named = refl } })
saved_holds x number (want.Link target) saved given = λ path damaged. damaged
saved_holds x number (want.Staged mode id size name) saved given = absurd saved

-- what was wanted is saved, and so is what stays
pub one_held : (x : Tree) (p : Name) (f : FoundMark) (old new : Wants) → HasWanted x p f old new → HoldsOld x f.number f.mark
one_held x p f old new (inl still) = λ path damaged. subst (λ (m : Mark). IsDamagedOld x f.number m path) still.0.0 damaged
one_held x p f old new (inr put) =
    let is = put.1.is in
    subst (HoldsOld x f.number) is.marked.marked (saved_holds x f.number put.0 is.bytes is.marked.given)

-- ---- the order of the paths

key_in : (P : Name → Type 0) (es : List (Name × FoundMark)) (e : Name × FoundMark) → AllByRecursion P (keys_of es) → Contains es e → P e.0
key_in P [] e all in' = absurd (nothing_in e in')
key_in P (d ∷ es) e all in' = ⊎_elim
    (λ (same : d ≡ e). subst (λ (o : Name × FoundMark). P o.0) same all.0)
    (λ (later : Contains es e). key_in P es e all.1 later)
    (contains_cases d e es in')

-- what has a path before that of one entry is in front of it
pub in_front : (front rest : List (Name × FoundMark)) (e d : Name × FoundMark) → IsStrictlySortedBy (slice_cmp nat_cmp) (keys_of (front ++ e ∷ rest)) → Contains (front ++ e ∷ rest) d
    → slice_cmp nat_cmp d.0 e.0 ≡ Less → Contains front d
unfolding IsStrictlySortedBy
in_front [] rest e d sorted in' less = ⊎_elim
    (λ (same : e ≡ d). absurd (not_less_itself e.0 (subst (λ (o : Name × FoundMark). slice_cmp nat_cmp o.0 e.0 ≡ Less) (sym same) less)))
    (λ (later : Contains rest d). absurd (not_both_less d.0 e.0 less (key_in (λ (q : Name). slice_cmp nat_cmp e.0 q ≡ Less) rest d sorted.0 later)))
    (contains_cases e d rest in')
in_front (a ∷ front) rest e d sorted in' less = ⊎_elim
    (λ (same : a ≡ d). subst (Contains (a ∷ front)) same (contains_first a front))
    (λ (later : Contains (front ++ e ∷ rest) d). contains_rest a d front (in_front front rest e d sorted.1 later less))
    (contains_cases a d (front ++ e ∷ rest) in')

-- ---- all paths

-- So far: each write is one of what is found, and at each path that was looked at there is a write or what stands there stays.
pub record AreWantedTo (x : Tree) (found : FoundMarks) (front : List (Name × FoundMark)) (wants : Wants) : Type 0 where
  pub each : (p : Name) (want_ : Want) → want_at wants p ≡ Some want_ → IsWantedOf x found p want_
  pub all : All (λ (e : Name × FoundMark). want_at wants e.0 ≡ None → Stays x e.0 e.1) front

pub nothing_wanted : (wants : Wants) → wants.entries ≡ [] → (p : Name) → want_at wants p ≡ None
nothing_wanted wants none p = ap (λ (es : List (Name × Want)). lookup (same_name p) es) none

pub none_wanted : (x : Tree) (found : FoundMarks) (wants : Wants) → wants.entries ≡ [] → AreWantedTo x found [] wants
none_wanted x found wants none = record {
  each = λ p w is. absurd (cc (nothing_wanted wants none p, is));
  all = All-nil (λ (e : Name × FoundMark). want_at wants e.0 ≡ None → Stays x e.0 e.1);
}

if_none : (b : Bool) (w : Want) (o : Option Want) → cond b (Some w) o ≡ None → o ≡ None
if_none true w o is = absurd (cc is)
if_none false w o is = is

if_same : (p q : Name) (w v : Want) (o : Option Want) → cond (same_name p q) (Some w) o ≡ Some v → ((p ≡ q) × (w ≡ v)) ⊎ (o ≡ Some v)
if_same p q w v o is = at (same_name p q) refl is
  where
    at : (b : Bool) → same_name p q ≡ b → cond b (Some w) o ≡ Some v → ((p ≡ q) × (w ≡ v)) ⊎ (o ≡ Some v)
    at true same is = inl (same_means p q same, cc is)
    at false other is = inr is

pub one_wanted : (x : Tree) (found : FoundMarks) (front more : List (Name × FoundMark)) (old new : Wants) (p : Name) (f : FoundMark) → AreWantedTo x found front old → get (slice_cmp nat_cmp) found p ≡ Some f
    → HasWanted x p f old new → more ≡ front ++ (p, f) ∷ [] → AreWantedTo x found more new
one_wanted x found front more old new p f so_far has step is = ⊎_elim
    (λ still. subst (AreWantedTo x found more) (sym still.1) (record {
      each = so_far.each;
      all = subst (All (λ (e : Name × FoundMark). want_at old e.0 ≡ None → Stays x e.0 e.1)) (sym is)
          (All-push (λ (e : Name × FoundMark). want_at old e.0 ≡ None → Stays x e.0 e.1) front (p, f) so_far.all (λ none. still.0));
    }))
    (λ put. record {
      each = λ q w here. ⊎_elim
          (λ own. subst (λ (r : Name). IsWantedOf x found r w) own.0 (subst (IsWantedOf x found p) own.1 (record { at = f; found_is = has; wanted = put.1 })))
          (λ other. so_far.each q w other)
          (if_same p q put.0 w (want_at old q) (sym (put.2 q) ∙ here));
      all = subst (All (λ (e : Name × FoundMark). want_at new e.0 ≡ None → Stays x e.0 e.1)) (sym is)
          (All-push (λ (e : Name × FoundMark). want_at new e.0 ≡ None → Stays x e.0 e.1) front (p, f)
          (implied (λ (e : Name × FoundMark). want_at old e.0 ≡ None → Stays x e.0 e.1) (λ (e : Name × FoundMark). want_at new e.0 ≡ None → Stays x e.0 e.1) front
          (λ e stays_ none. stays_ (if_none (same_name p e.0) put.0 (want_at old e.0) (sym (put.2 e.0) ∙ none))) so_far.all)
          (λ none. absurd (own_there (same_name p p) put.0 (want_at old p) (same_itself p) (sym (put.2 p) ∙ none))));
    })
    step
  where
    own_there : (b : Bool) (w : Want) (o : Option Want) → b ≡ true → cond b (Some w) o ≡ None → ⊥
    own_there true w o same none = cc none
    own_there false w o same none = cc same

pub all_wanted : (x : Tree) (found : FoundMarks) (front : List (Name × FoundMark)) (wants : Wants) → AreWantedTo x found front wants → front ≡ found.entries → AreWanted x found wants
all_wanted x found front wants so_far whole = record {
  each = so_far.each;
  all = λ p f has none. All-contains (λ (e : Name × FoundMark). want_at wants e.0 ≡ None → Stays x e.0 e.1) front (p, f) so_far.all
      (subst (λ (es : List (Name × FoundMark)). Contains es (p, f)) (sym whole) (Contains-from_lookup {eq = same_name} same_means p f found.entries has)) none;
}
