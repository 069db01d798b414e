-- A job has one plan at most, or one first refusal.
use Rattle.std.proofs.Common.{◌≡◌, ◌⊎◌, inl, inr, ⊎_elim, ℕ, zero, suc, ◌+◌, ◌<◌, Bool, true, false, cond, List, [], ◌∷◌, length, Option, Some, None, refl, sym, ◌∙◌, ap, subst, arith}
use Rattle.std.proofs.lemmas.Bool.{cases_Bool}
use Rattle.std.specs.FinMap.{get}
use Rattle.std.specs.List.{AllByRecursion}
use Rattle.std.specs.List.Sorted.{IsStrictlySortedBy}
use Rattle.std.specs.declared.cmp.Ordering.TheVariants.{Less}
use Rattle.trove_stream.specs.cny-base.Path.{before_slash, has_slash, is_path, or_root, root}
use Rattle.trove_stream.specs.cny-base.Reserved.{is_pinned}
use Rattle.trove_stream.specs.cny-base.declared.options.Options.{Options}
use Rattle.trove_stream.specs.cny-base.declared.refusal.Refusal.{Refusal}
use Rattle.trove_stream.specs.cny-base.declared.refusal.Refusal.TheVariants as refusal
use Rattle.trove_stream.specs.declared.parts.TroveParts.{TroveParts}
use Rattle.tree_scan.proofs.tree-disk.Children.{path_short}
use Rattle.tree_scan.specs.tree-disk.Laws.{same_means}
use Rattle.tree_scan.proofs.tree-disk.Laws.{same_itself}
use Rattle.tree_scan.specs.tree-disk.Tree.{Name, Tree, WellFormed, is_child, same_name}
use Rattle.tree_scan.specs.Marks.{fingerprint_at, is_nothing}
use Rattle.conflict_plan.specs.declared.planned.Planned.{Planned}
use Rattle.conflict_plan.specs.declared.table.Outcome.TheVariants.{Stays}
use Rattle.conflict_plan.specs.Claims.{owners_at, record_at}
use Rattle.conflict_plan.specs.Drafts.{is_left_dir}
use Rattle.conflict_plan.specs.Making.{child_remains}
use Rattle.conflict_plan.specs.Plan.{change_of, conflict_at, mark_after, outcome_at, planned_at, planned_cmp, planned_mark, ArePlanned, HasChild, IsFirst, IsFirstOrphan, IsFirstRefusal, IsOrphan, IsPlan}
use Rattle.conflict_plan.specs.Table.{outcome_by}
use Rattle.conflict_plan.proofs.Assembled.{IsConflictFirst, IsOwnedFirst}
use Rattle.conflict_plan.proofs.Order.{child_parent, less_then, placed}
use Rattle.conflict_plan.proofs.Remaining.{AreAfter, RisePlanned, none_after, planned_here, planned_other, remains_means, some_stands}
use Rattle.conflict_plan.proofs.Tables.{dir_stands, left_was_dir, remains_other}
use Rattle.trove_stream.specs.cny-base.Answer.{IsAnswer}
use Rattle.tree_scan.proofs.tree-disk.Order.{name_cmp}

-- ---- plans that say the same of each path

after_then : (p q : Name) (plan : List Planned) → name_cmp p q ≡ Less → AreAfter q plan → AreAfter p plan
after_then p q [] less after = tt
after_then p q (x ∷ plan) less after = (less_then p q x.path less after.0, after_then p q plan less after.1)

before_all : (x : Planned) (plan : List Planned) → AllByRecursion (λ (y : Planned). planned_cmp x y ≡ Less) plan → AreAfter x.path plan
before_all x [] all = tt
before_all x (y ∷ plan) all = (all.0, before_all x plan all.1)

rise_of : (plan : List Planned) → IsStrictlySortedBy planned_cmp plan → RisePlanned plan
unfolding IsStrictlySortedBy
rise_of [] sorted = tt
rise_of (x ∷ plan) sorted = (before_all x plan sorted.0, rise_of plan sorted.1)

some_none : {A : Type 0} (x : Planned) (o : Option Planned) → o ≡ Some x → o ≡ None → A
some_none x o some none = absurd (cc (some, none))

-- a path that comes before all of a plan is none of its
no_head : {A : Type 0} (x y : Planned) (a b : List Planned) → RisePlanned (y ∷ b) → name_cmp x.path y.path ≡ Less
    → planned_at (x ∷ a) x.path ≡ planned_at (y ∷ b) x.path → A
no_head x y a b rise less same =
    some_none x (planned_at (y ∷ b) x.path) (sym same ∙ planned_here x a) (none_after x.path (y ∷ b) (less, after_then x.path y.path b less rise.0))

tails_alike : (x y : Planned) (a b : List Planned) → RisePlanned (x ∷ a) → RisePlanned (y ∷ b) → x.path ≡ y.path
    → ((p : Name) → planned_at (x ∷ a) p ≡ planned_at (y ∷ b) p) → (p : Name) → planned_at a p ≡ planned_at b p
tails_alike x y a b rise_a rise_b is same p = ⊎_elim
    (λ here.
    let is_p : x.path ≡ p = same_means x.path p here in
    none_after p a (subst (λ n. AreAfter n a) is_p rise_a.0) ∙ sym (none_after p b (subst (λ n. AreAfter n b) (sym is ∙ is_p) rise_b.0)))
    (λ other. sym (planned_other x a p other) ∙ same p ∙ planned_other y b p (ap (λ n. same_name n p) (sym is) ∙ other))
    (cases_Bool (same_name x.path p))

same_plan : (a b : List Planned) → RisePlanned a → RisePlanned b → ((p : Name) → planned_at a p ≡ planned_at b p) → a ≡ b
same_plan [] [] rise_a rise_b same = refl
same_plan [] (y ∷ b) rise_a rise_b same = some_none y (planned_at (y ∷ b) y.path) (planned_here y b) (sym (same y.path))
same_plan (x ∷ a) [] rise_a rise_b same = some_none x (planned_at (x ∷ a) x.path) (planned_here x a) (same x.path)
same_plan (x ∷ a) (y ∷ b) rise_a rise_b same = at (placed x.path y.path) (same_plan a b rise_a.1 rise_b.1)
  where
    at : (name_cmp x.path y.path ≡ Less) ⊎ ((x.path ≡ y.path) ⊎ (name_cmp y.path x.path ≡ Less))
        → (((p : Name) → planned_at a p ≡ planned_at b p) → a ≡ b) → x ∷ a ≡ y ∷ b
    at (inl less) rest = no_head x y a b rise_b less (same x.path)
    at (inr (inr more)) rest = no_head y x b a rise_a more (sym (same y.path))
    at (inr (inl is)) rest =
        let heads : (let o : Option Planned = Some x in o ≡ Some y) =
        sym (planned_here x a) ∙ same x.path ∙ ap (planned_at (y ∷ b)) is ∙ planned_here y b in
        let is_x : x ≡ y = cc heads in
        let is_a : a ≡ b = rest (tails_alike x y a b rise_a rise_b is same) in
        cc (is_x, is_a)

-- ---- names below others are longer

before_shorter : (b : ℕ) (bs : Name) → length (before_slash (b ∷ bs)) < length (b ∷ bs)
before_shorter b [] = omega arith
before_shorter b (c ∷ cs) = by (has_slash (c ∷ cs)) (before_shorter c cs)
  where
    by : (t : Bool) → length (before_slash (c ∷ cs)) < length (c ∷ cs) → length (cond t (b ∷ before_slash (c ∷ cs)) []) < length (b ∷ c ∷ cs)
    by true less = omega (arith, less)
    by false less = omega arith

below_longer : (p q : Name) → is_child p q ≡ true → same_name p root ≡ false → length p < length q
below_longer p [] child other = absurd (cc (other, ap (λ n. same_name n root) (sym (child_parent p [] child)) ∙ same_itself root))
below_longer p (b ∷ bs) child other = at (before_slash (b ∷ bs)) (child_parent p (b ∷ bs) child) (before_shorter b bs)
  where
    at : (before : Name) → or_root before ≡ p → length before < length (b ∷ bs) → length p < length (b ∷ bs)
    at [] is less = absurd (cc (other, ap (λ n. same_name n root) (sym is) ∙ same_itself root))
    at (c ∷ cs) is less = omega (arith, less, ap length is)

free_below : (p : Name) → is_pinned p ≡ false → same_name p root ≡ false
free_below p free = ⊎_elim (λ same. absurd (cc (ap is_pinned (same_means p root same), free))) (λ other. other) (cases_Bool (same_name p root))

-- ---- two plans of a job

module _ (old fresh : List TroveParts) (options : Options) (tree : Tree) (well : WellFormed tree) where
  -- whether a directory that is recorded no more stands at a path
  abbrev left_at : Name → Bool
  left_at p = is_left_dir (record_at old p) (record_at fresh p) (fingerprint_at tree p)

  -- elsewhere it doesn't matter whether a name remains below
  outcome_other : (p : Name) (remains : Bool) → left_at p ≡ false → outcome_at old fresh options tree p remains ≡ outcome_at old fresh options tree p false
  outcome_other p remains other =
      ap (cond (is_pinned p) Stays) (remains_other (record_at old p) (record_at fresh p) (fingerprint_at tree p) options other remains)

  outcome_pinned : (p : Name) (remains : Bool) → is_pinned p ≡ true → outcome_at old fresh options tree p remains ≡ Stays
  outcome_pinned p remains pinned =
      ap (λ b. cond b Stays (outcome_by (record_at old p) (record_at fresh p) (fingerprint_at tree p) remains options)) pinned

  -- such a directory's name is a path
  left_path : (p : Name) → left_at p ≡ true → is_path p ≡ true
  left_path p left =
      well.paths p (some_stands (get tree p) (dir_stands (fingerprint_at tree p) (left_was_dir (record_at old p) (record_at fresh p) (fingerprint_at tree p) left)))

  module _ {a b : List Planned} (one : ArePlanned old fresh options tree a) (other : ArePlanned old fresh options tree b) where
    answer_one : (p : Name) → IsAnswer (HasChild (mark_after a tree) p) (child_remains a tree p)
    answer_one p = remains_means a tree p well (rise_of a one.rising)

    answer_other : (p : Name) → IsAnswer (HasChild (mark_after b tree) p) (child_remains b tree p)
    answer_other p = remains_means b tree p well (rise_of b other.rising)

    -- where both say the same below a path, both say the same of it
    alike_by : (p : Name) → (outcome_at old fresh options tree p (child_remains a tree p) ≡ outcome_at old fresh options tree p (child_remains b tree p)) → planned_at a p ≡ planned_at b p
    alike_by p is =
        one.targets p (child_remains a tree p) (answer_one p)
        ∙ ap (λ o. change_of o p (fingerprint_at tree p) (record_at fresh p)) is
        ∙ sym (other.targets p (child_remains b tree p) (answer_other p))

    stands_alike : (q : Name) → planned_at a q ≡ planned_at b q → is_nothing (mark_after a tree q) ≡ is_nothing (mark_after b tree q)
    stands_alike q is = ap (λ o. is_nothing (planned_mark o (fingerprint_at tree q))) is

    same_below : (p : Name) → ((q : Name) → is_child p q ≡ true → planned_at a q ≡ planned_at b q) → planned_at a p ≡ planned_at b p
    same_below p below =
        one.targets p (child_remains a tree p) (answer_one p)
        ∙ sym (other.targets p (child_remains a tree p) (record {
          holds = λ is.
              let child = (answer_one p).holds is in
              (child.0, child.1, sym (stands_alike child.0 (below child.0 child.1)) ∙ child.2);
          fails = λ is child. (answer_one p).fails is (child.0, child.1, stands_alike child.0 (below child.0 child.1) ∙ child.2);
        }))

    alike_in : (p : Name) → (left_at p ≡ true → is_pinned p ≡ false → (q : Name) → is_child p q ≡ true → planned_at a q ≡ planned_at b q) → planned_at a p ≡ planned_at b p
    alike_in p below = at (left_at p) refl (is_pinned p) refl
      where
        at : (left : Bool) → left_at p ≡ left → (pinned : Bool) → is_pinned p ≡ pinned → planned_at a p ≡ planned_at b p
        at false left pinned is = alike_by p (outcome_other p (child_remains a tree p) left ∙ sym (outcome_other p (child_remains b tree p) left))
        at true left true is = alike_by p (outcome_pinned p (child_remains a tree p) is ∙ sym (outcome_pinned p (child_remains b tree p) is))
        at true left false is = same_below p (below left is)

    -- from the deepest name up: no directory has a longer name than a path
    alike_from : (n : ℕ) (p : Name) → 1024 < length p + n → planned_at a p ≡ planned_at b p
    alike_from zero p deep = alike_in p (λ left free q child. absurd (omega (arith, deep, path_short p (left_path p left))))
    alike_from (suc n) p deep = alike_in p (λ left free q child.
        let longer = below_longer p q child (free_below p free) in
        alike_from n q (omega (arith, deep, longer)))

    pub one_planned : a ≡ b
    one_planned = same_plan a b (rise_of a one.rising) (rise_of b other.rising) (λ p. alike_from 1025 p (omega arith))

-- ---- two first refusals of a job

one_first : (P : Name → Type 0) (p q : Name) → IsFirst P p → IsFirst P q → p ≡ q
one_first P p q one other = at (placed p q)
  where
    at : (name_cmp p q ≡ Less) ⊎ ((p ≡ q) ⊎ (name_cmp q p ≡ Less)) → p ≡ q
    at (inl less) = absurd (other.first p less one.holds)
    at (inr (inl is)) = is
    at (inr (inr more)) = absurd (one.first q more other.holds)

-- the first path without a directory above it, as a refusal
record IsOrphanFirst (old fresh : List TroveParts) (options : Options) (tree : Tree) (why : Refusal) : Type 0 where
  pub path : Name
  pub is : refusal.Parent path ≡ why
  pub orphan : IsFirstOrphan old fresh options tree path

-- the kinds of first refusals
abbrev IsOneOf : List TroveParts → List TroveParts → Options → Tree → Refusal → Type 0
IsOneOf old fresh options tree why = IsOwnedFirst fresh why ⊎ (IsConflictFirst old fresh options tree why ⊎ IsOrphanFirst old fresh options tree why)

kind_of : (old fresh : List TroveParts) (options : Options) (tree : Tree) (why : Refusal) → IsFirstRefusal old fresh options tree why → IsOneOf old fresh options tree why
kind_of old fresh options tree (refusal.Owned path first second) is = inl (record { path = path; first = first; second = second; is = refl; shared = is })
kind_of old fresh options tree (refusal.Unowned path) is = inr (inl (record { path = path; conflict = is }))
kind_of old fresh options tree (refusal.Edited path) is = inr (inl (record { path = path; conflict = is }))
kind_of old fresh options tree (refusal.Parent path) is = inr (inr (record { path = path; is = refl; orphan = is }))
kind_of old fresh options tree _ is = absurd is

module _ (old fresh : List TroveParts) (options : Options) (tree : Tree) where
  owned_or_free : {A : Type 0} {why : Refusal} → IsOwnedFirst fresh why → ((q : Name) → owners_at fresh q ≡ None) → A
  owned_or_free owned free = absurd (cc (owned.shared.owners, free owned.path))

  conflict_or_none : {A : Type 0} {why : Refusal} → IsConflictFirst old fresh options tree why → ((q : Name) → conflict_at old fresh options tree q ≡ None) → A
  conflict_or_none conflict none = absurd (cc (conflict.conflict.refused, none conflict.path))

  one_owned : {why other : Refusal} → IsOwnedFirst fresh why → IsOwnedFirst fresh other → why ≡ other
  one_owned {why} {other} a b = at (placed a.path b.path)
    where
      at : (name_cmp a.path b.path ≡ Less) ⊎ ((a.path ≡ b.path) ⊎ (name_cmp b.path a.path ≡ Less)) → why ≡ other
      at (inl less) = absurd (cc (a.shared.owners, b.shared.first_path a.path less))
      at (inr (inr more)) = absurd (cc (b.shared.owners, a.shared.first_path b.path more))
      at (inr (inl is)) =
          let both : (let o : Option (List ℕ × List ℕ) = Some (a.first, a.second) in o ≡ Some (b.first, b.second)) =
          sym a.shared.owners ∙ ap (owners_at fresh) is ∙ b.shared.owners in
          let pairs : (a.first, a.second) ≡ (b.first, b.second) = cc both in
          sym a.is ∙ ap (λ (p : Name). refusal.Owned p a.first a.second) is ∙ ap (λ (two : List ℕ × List ℕ). refusal.Owned b.path two.0 two.1) pairs ∙ b.is

  one_conflict : {why other : Refusal} → IsConflictFirst old fresh options tree why → IsConflictFirst old fresh options tree other → why ≡ other
  one_conflict {why} {other} a b = at (placed a.path b.path)
    where
      at : (name_cmp a.path b.path ≡ Less) ⊎ ((a.path ≡ b.path) ⊎ (name_cmp b.path a.path ≡ Less)) → why ≡ other
      at (inl less) = absurd (cc (a.conflict.refused, b.conflict.first_path a.path less))
      at (inr (inr more)) = absurd (cc (b.conflict.refused, a.conflict.first_path b.path more))
      at (inr (inl is)) =
          let both : (let o : Option Refusal = Some why in o ≡ Some other) =
          sym a.conflict.refused ∙ ap (conflict_at old fresh options tree) is ∙ b.conflict.refused in
          cc both

  one_orphan : {why other : Refusal} → WellFormed tree → IsOrphanFirst old fresh options tree why → IsOrphanFirst old fresh options tree other → why ≡ other
  one_orphan {why} {other} well a b =
      let plans : a.orphan.plan ≡ b.orphan.plan = one_planned old fresh options tree well a.orphan.planned b.orphan.planned in
      let paths : a.path ≡ b.path =
      one_first (IsOrphan (mark_after b.orphan.plan tree)) a.path b.path (subst (λ plan. IsFirst (IsOrphan (mark_after plan tree)) a.path) plans a.orphan.orphan) b.orphan.orphan in
      sym a.is ∙ ap refusal.Parent paths ∙ b.is

  one_of : {why other : Refusal} → WellFormed tree → IsOneOf old fresh options tree why → IsOneOf old fresh options tree other → why ≡ other
  one_of well (inl a) (inl b) = one_owned a b
  one_of well (inl a) (inr (inl b)) = owned_or_free a b.conflict.unshared
  one_of well (inl a) (inr (inr b)) = owned_or_free a b.orphan.unshared
  one_of well (inr (inl a)) (inl b) = owned_or_free b a.conflict.unshared
  one_of well (inr (inr a)) (inl b) = owned_or_free b a.orphan.unshared
  one_of well (inr (inl a)) (inr (inl b)) = one_conflict a b
  one_of well (inr (inl a)) (inr (inr b)) = conflict_or_none a b.orphan.no_conflict
  one_of well (inr (inr a)) (inr (inl b)) = conflict_or_none b a.orphan.no_conflict
  one_of well (inr (inr a)) (inr (inr b)) = one_orphan well a b

  plan_or : {plan : List Planned} {why : Refusal} → WellFormed tree → IsPlan old fresh options tree plan → IsOneOf old fresh options tree why → ⊥
  plan_or well is (inl owned) = owned_or_free owned is.unshared
  plan_or well is (inr (inl conflict)) = conflict_or_none conflict is.no_conflict
  plan_or {plan} well is (inr (inr orphan)) =
      let plans : orphan.orphan.plan ≡ plan = one_planned old fresh options tree well orphan.orphan.planned is.planned in
      is.no_orphan orphan.path (subst (λ (p : List Planned). IsOrphan (mark_after p tree) orphan.path) plans orphan.orphan.orphan.holds)

pub one_plan_of : (old fresh : List TroveParts) (options : Options) (tree : Tree) (a b : List Planned) → WellFormed tree
    → IsPlan old fresh options tree a → IsPlan old fresh options tree b → a ≡ b
one_plan_of old fresh options tree a b well one other = one_planned old fresh options tree well one.planned other.planned

pub one_refusal_of : (old fresh : List TroveParts) (options : Options) (tree : Tree) (why other : Refusal) → WellFormed tree
    → IsFirstRefusal old fresh options tree why → IsFirstRefusal old fresh options tree other → why ≡ other
one_refusal_of old fresh options tree why other well one two = one_of old fresh options tree well (kind_of old fresh options tree why one) (kind_of old fresh options tree other two)

pub no_refusal_of : (old fresh : List TroveParts) (options : Options) (tree : Tree) (plan : List Planned) (why : Refusal) → WellFormed tree
    → IsPlan old fresh options tree plan → IsFirstRefusal old fresh options tree why → ⊥
no_refusal_of old fresh options tree plan why well is refused = plan_or old fresh options tree well is (kind_of old fresh options tree why refused)
