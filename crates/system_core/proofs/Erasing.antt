-- An erasure writes no file and no link, and its plan has no path that two troves can't share, or that nothing recorded.
use Rattle.std.proofs.Common.{◌≡◌, ◌⊎◌, inl, inr, ⊎_elim, ℕ, zero, suc, ◌<◌, Bool, true, false, not, ◌||◌, ◌&&◌, cond, IsTrue, List, [], ◌∷◌, ◌++◌, length, get_or, Option, Some, None, is_some, All, Contains, refl, sym, ◌∙◌, ap, subst, arith}
use Rattle.std.proofs.lemmas.Bool.{cases_Bool}
use Rattle.std.proofs.lemmas.List.Elements.{All-contains, All-from_recursion}
use Rattle.std.proofs.lemmas.Slice.Eq.{bytes_eq-Decides}
use Rattle.std.specs.List.{AllByRecursion, AllPairs}
use Rattle.std.specs.List.Sorted.{IsStrictlySortedBy}
use Rattle.std.specs.Cmp.Lexicographic.{slice_cmp}
use Rattle.std.specs.Ordering.{nat_cmp}
use Rattle.std.specs.Str.{bytes_eq}
use Rattle.std.specs.declared.cmp.Ordering.TheVariants.{Less}
use Rattle.rollback_stack.specs.cny-base.Reserved.{is_pinned}
use Rattle.rollback_stack.specs.cny-base.declared.options.Options.{Options}
use Rattle.rollback_stack.specs.cny-base.declared.refusal.Refusal.TheVariants as refusal
use Rattle.rollback_stack.specs.cny-stream.declared.record.FileRec.{FileRec}
use Rattle.rollback_stack.specs.cny-stream.Record.{is_dir, flags_of}
use Rattle.rollback_stack.specs.trove-parts.declared.files.FileAt.{FileAt}
use Rattle.rollback_stack.specs.trove-parts.Files.{file_cmp}
use Rattle.rollback_stack.specs.trove-stream.declared.parts.TroveParts.{TroveParts}
use Rattle.rollback_stack.specs.trove-stream.Trove.{IsTrove}
use Rattle.rollback_stack.specs.trove-stream.Installed.{by_name, IsRising}
use Rattle.rollback_stack.specs.tree-disk.Laws.{same_means}
use Rattle.rollback_stack.specs.tree-disk.Tree.{Name, Tree, same_name}
use Rattle.rollback_stack.specs.tree-scan.declared.mark.Mark.{Mark}
use Rattle.rollback_stack.proofs.tree-scan.MarkLaws.{same_mark_itself}
use Rattle.rollback_stack.specs.tree-scan.Marks as marks
use Rattle.rollback_stack.specs.tree-scan.Marks.{fingerprint_at, fingerprint_of_record, is_nothing}
use Rattle.conflict_plan.specs.declared.planned.Planned.{Planned}
use Rattle.conflict_plan.specs.declared.table.Outcome.{Outcome}
use Rattle.conflict_plan.specs.declared.table.Outcome.TheVariants.{Stays, Removed, Written, Unowned, Edited}
use Rattle.conflict_plan.specs.Claims.{Claim, claims, claims_in, first_record, owners, owners_at, record_at}
use Rattle.conflict_plan.specs.Plan.{ArePlanned, HasChild, change_of, conflict_at, mark_after, outcome_at, planned_at, refusal_of}
use Rattle.conflict_plan.specs.Table.{changed_outcome, is_recorded_so, matches, otherwise_outcome, outcome_by, path_outcome, recorded_outcome, unrecorded_outcome}
use Rattle.local_db.specs.Installed.{are_apart, SharesDirsAlone}
use Rattle.system_core.proofs.Formed.{same_other}
use Rattle.system_core.proofs.Shared.{AreDirs, HasClaim, claim_dir, claims_behind, claims_front, dirs_unowned}
use Rattle.update_job.specs.cny-base.Answer.{IsAnswer}
use Rattle.local_db.proofs.cny-base.Doubling.{both as both_true}
use Rattle.local_db.proofs.cny-base.Lists.{contains_cases, contains_first, contains_rest, nothing_in}
use Rattle.update_job.proofs.Bases.{other_name as name_differs}

-- ---- claims

either_claim : (rec : FileRec) (a b : List Claim) → HasClaim rec (a ++ b) → HasClaim rec a ⊎ HasClaim rec b
either_claim rec [] b has = inr has
either_claim rec (c ∷ a) b (inl is) = inl (inl is)
either_claim rec (c ∷ a) b (inr later) = ⊎_elim (λ h. inl (inr h)) (λ h. inr h) (either_claim rec a b later)

-- the trove of a list that has a claim
claimer : (list : List TroveParts) (path : Name) (rec : FileRec) → HasClaim rec (claims list path) → (u : TroveParts) × Contains list u × HasClaim rec (claims_in u.id.name u.files path)
claimer [] path rec has = absurd has
claimer (t ∷ list) path rec has = ⊎_elim
    (λ here. (t, contains_first t list, here))
    (λ later. let h = claimer list path rec later in (h.0, contains_rest t h.0 list h.1, h.2))
    (either_claim rec (claims_in t.id.name t.files path) (claims list path) has)

claims_of : (list : List TroveParts) (u : TroveParts) (path : Name) (rec : FileRec) → Contains list u → HasClaim rec (claims_in u.id.name u.files path) → HasClaim rec (claims list path)
claims_of [] u path rec among has = absurd (nothing_in u among)
claims_of (t ∷ list) u path rec among has = ⊎_elim
    (λ is. claims_front rec (claims_in t.id.name t.files path) (claims list path) (subst (λ (v : TroveParts). HasClaim rec (claims_in v.id.name v.files path)) (sym is) has))
    (λ later. claims_behind rec (claims_in t.id.name t.files path) (claims list path) (claims_of list u path rec later has))
    (contains_cases t u list among)

-- the file of a claim
file_of : (name : List ℕ) (files : List FileAt) (path : Name) (rec : FileRec) → HasClaim rec (claims_in name files path) → (f : FileAt) × Contains files f × (f.path ≡ path) × (f.rec ≡ rec)
file_of name [] path rec has = absurd has
file_of name (file ∷ files) path rec has = at (same_name file.path path) refl has (λ later. let h = file_of name files path rec later in (h.0, contains_rest file h.0 files h.1, h.2, h.3))
  where
    at : (b : Bool) → same_name file.path path ≡ b → HasClaim rec (cond b ((name, file.rec) ∷ claims_in name files path) (claims_in name files path))
        → (HasClaim rec (claims_in name files path) → (f : FileAt) × Contains (file ∷ files) f × (f.path ≡ path) × (f.rec ≡ rec))
        → (f : FileAt) × Contains (file ∷ files) f × (f.path ≡ path) × (f.rec ≡ rec)
    at true same (inl is) rest = (file, contains_first file files, same_means file.path path same, is)
    at true same (inr later) rest = rest later
    at false other has rest = rest has

-- ---- two troves that share a path

apart_dirs : (f g : FileAt) → f.path ≡ g.path → IsTrue (are_apart f g) → (is_dir f.rec ≡ true) × (is_dir g.rec ≡ true)
apart_dirs f g same apart = at (bytes_eq f.path g.path) ((bytes_eq-Decides f.path g.path).1 same) apart
  where
    at : (b : Bool) → b ≡ true → (not b || (is_dir f.rec && is_dir g.rec)) ≡ true → (is_dir f.rec ≡ true) × (is_dir g.rec ≡ true)
    at true is both = both_true (is_dir f.rec) (is_dir g.rec) both
    at false is both = absurd (cc is)

shared_dirs : (t u : TroveParts) → SharesDirsAlone t u → (path : Name) (rec other : FileRec) → HasClaim rec (claims_in t.id.name t.files path) → HasClaim other (claims_in u.id.name u.files path)
    → (is_dir rec ≡ true) × (is_dir other ≡ true)
shared_dirs t u shares path rec other has_t has_u =
    let f = file_of t.id.name t.files path rec has_t in
    let g = file_of u.id.name u.files path other has_u in
    let row = All-contains (λ (file : FileAt). All (λ (o : FileAt). IsTrue (are_apart file o)) u.files) t.files f.0 shares f.1 in
    let both = apart_dirs f.0 g.0 (f.2 ∙ sym g.2) (All-contains (λ (o : FileAt). IsTrue (are_apart f.0 o)) u.files g.0 row g.1) in
    (ap is_dir (sym f.3) ∙ both.0, ap is_dir (sym g.3) ∙ both.1)

three : (i j : ℕ) → (i < j) ⊎ ((i ≡ j) ⊎ (j < i))
three zero zero = inr (inl refl)
three zero (suc j) = inl (omega arith)
three (suc i) zero = inr (inr (omega arith))
three (suc i) (suc j) = ⊎_elim (λ less. inl (omega (arith, less))) (λ more. inr (⊎_elim (λ same. inl (ap suc same)) (λ less. inr (omega (arith, less))) more)) (three i j)

get_same : {A : Type 0} (xs : List A) (i : ℕ) (a b : A) → i < length xs → get_or xs i a ≡ get_or xs i b
get_same [] i a b within = absurd (omega (arith, within))
get_same (x ∷ xs) zero a b within = refl
get_same (x ∷ xs) (suc i) a b within = get_same xs i a b (omega (arith, within))

module _ (installed : List TroveParts) (pairs : AllPairs SharesDirsAlone installed) where
  -- two troves of different names, wherever they stand
  between : (t u : TroveParts) → Contains installed t → Contains installed u → (t.id.name ≡ u.id.name → ⊥) → (path : Name) (rec other : FileRec)
      → HasClaim rec (claims_in t.id.name t.files path) → HasClaim other (claims_in u.id.name u.files path) → (is_dir rec ≡ true) × (is_dir other ≡ true)
  between t u in_t in_u differ path rec other has_t has_u = at (three in_t.0 in_u.0)
    where
      at_t : get_or installed in_t.0 t ≡ t
      at_t = in_t.2

      at_u : get_or installed in_u.0 t ≡ u
      at_u = get_same installed in_u.0 t u in_u.1 ∙ in_u.2

      at : (in_t.0 < in_u.0) ⊎ ((in_t.0 ≡ in_u.0) ⊎ (in_u.0 < in_t.0)) → (is_dir rec ≡ true) × (is_dir other ≡ true)
      at (inl less) =
          shared_dirs t u (subst (λ (v : TroveParts). SharesDirsAlone t v) at_u (subst (λ (v : TroveParts). SharesDirsAlone v (get_or installed in_u.0 t)) at_t (pairs in_t.0 in_u.0 t less in_u.1))) path rec other has_t has_u
      at (inr (inl same)) = absurd (differ (ap (λ (v : TroveParts). v.id.name) (sym at_t ∙ ap (λ (i : ℕ). get_or installed i t) same ∙ at_u)))
      at (inr (inr more)) =
          let both = shared_dirs u t (subst (λ (v : TroveParts). SharesDirsAlone u v) at_t (subst (λ (v : TroveParts). SharesDirsAlone v (get_or installed in_t.0 t)) at_u (pairs in_u.0 in_t.0 t more in_t.1))) path other rec has_u has_t in
          (both.1, both.0)

-- ---- one claim at most, or directories alone

abbrev AtMostOne : List Claim → Type 0
AtMostOne [] = Unit {0}
AtMostOne (c ∷ []) = Unit {0}
AtMostOne (c ∷ d ∷ cs) = ⊥

abbrev AreLone : List Claim → Type 0
AreLone [] = Unit {0}
AreLone (c ∷ []) = Unit {0}
AreLone (c ∷ d ∷ cs) = AreDirs (c ∷ d ∷ cs)

all_dirs : (cs : List Claim) → ((rec : FileRec) → HasClaim rec cs → is_dir rec ≡ true) → AreDirs cs
all_dirs [] each = tt
all_dirs (c ∷ cs) each = (each c.1 (inl refl), all_dirs cs (λ rec has. each rec (inr has)))

join_lone : (a b : List Claim) → AtMostOne a → AreLone b → ((rec other : FileRec) → HasClaim rec a → HasClaim other b → (is_dir rec ≡ true) × (is_dir other ≡ true)) → AreLone (a ++ b)
join_lone [] b one lone cross = lone
join_lone (c ∷ []) [] one lone cross = tt
join_lone (c ∷ []) (d ∷ b) one lone cross =
    ((let both = cross c.1 d.1 (inl refl) (inl refl) in both.0), all_dirs (d ∷ b) (λ rec has. let both = cross c.1 rec (inl refl) has in both.1))
join_lone (c ∷ e ∷ a) b one lone cross = absurd one

no_claim : (name : List ℕ) (path : Name) (fs : List FileAt) → AllByRecursion (λ (g : FileAt). slice_cmp nat_cmp path g.path ≡ Less) fs → claims_in name fs path ≡ []
no_claim name path [] later = refl
no_claim name path (g ∷ fs) later = at (same_name g.path path) refl (no_claim name path fs later.1)
  where
    at : (b : Bool) → same_name g.path path ≡ b → claims_in name fs path ≡ [] → cond b ((name, g.rec) ∷ claims_in name fs path) (claims_in name fs path) ≡ []
    at true same rest = absurd (same_other path g.path later.0 same)
    at false other rest = rest

-- a trove has one claim of a path at most
one_claim : (name : List ℕ) (path : Name) (fs : List FileAt) → IsStrictlySortedBy file_cmp fs → AtMostOne (claims_in name fs path)
unfolding IsStrictlySortedBy
one_claim name path [] rising = tt
one_claim name path (f ∷ fs) rising = at (same_name f.path path) refl (one_claim name path fs rising.1)
  where
    at : (b : Bool) → same_name f.path path ≡ b → AtMostOne (claims_in name fs path) → AtMostOne (cond b ((name, f.rec) ∷ claims_in name fs path) (claims_in name fs path))
    at true same rest =
        subst (λ (l : List Claim). AtMostOne ((name, f.rec) ∷ l))
        (sym (no_claim name path fs (subst (λ (p : Name). AllByRecursion (λ (g : FileAt). slice_cmp nat_cmp p g.path ≡ Less) fs) (same_means f.path path same) rising.0))) tt
    at false other rest = rest

-- among troves of a list of a system a path has one claim at most, or claims of directories alone
lone : (installed : List TroveParts) → AllPairs SharesDirsAlone installed → All IsTrove installed → (list : List TroveParts) → IsRising list → ((t : TroveParts) → Contains list t → Contains installed t)
    → (path : Name) → AreLone (claims list path)
unfolding IsStrictlySortedBy
lone installed pairs troves [] rising among path = tt
lone installed pairs troves (t ∷ list) rising among path =
    join_lone (claims_in t.id.name t.files path) (claims list path)
    (let is = All-contains IsTrove installed t troves (among t (contains_first t list)) in one_claim t.id.name path t.files is.lists.files.rising)
    (lone installed pairs troves list rising.1 (λ u h. among u (contains_rest t u list h)) path)
    (λ rec other has_t has_later.
    let u = claimer list path other has_later in
    between installed pairs t u.0 (among t (contains_first t list)) (among u.0 (contains_rest t u.0 list u.1))
    (name_differs t u.0 (All-contains (λ (v : TroveParts). by_name t v ≡ Less) list u.0 (All-from_recursion (λ (v : TroveParts). by_name t v ≡ Less) list rising.0) u.1))
    path rec other has_t u.2)

lone_unowned : (cs : List Claim) → AreLone cs → owners cs ≡ None
lone_unowned [] is = refl
lone_unowned (c ∷ []) is = refl
lone_unowned (c ∷ d ∷ cs) is = dirs_unowned (c ∷ d ∷ cs) is

-- ---- records

first_claim : (cs : List Claim) (rec : FileRec) → first_record cs ≡ Some rec → HasClaim rec cs
first_claim [] rec is = absurd (cc is)
first_claim (c ∷ cs) rec is = inl (cc is)

claim_first : (cs : List Claim) (rec : FileRec) → AreLone cs → HasClaim rec cs → is_dir rec ≡ false → first_record cs ≡ Some rec
claim_first [] rec is has other = absurd has
claim_first (c ∷ []) rec is (inl same) other = ap Some same
claim_first (c ∷ []) rec is (inr never) other = absurd never
claim_first (c ∷ d ∷ cs) rec is has other = absurd (cc (claim_dir rec (c ∷ d ∷ cs) has is, other))

claim_some : (cs : List Claim) (rec : FileRec) → HasClaim rec cs → is_some (first_record cs) ≡ true
claim_some [] rec has = absurd has
claim_some (c ∷ cs) rec has = refl

-- ---- outcomes that aren't `Unowned`

abbrev IsOwned : Outcome → Type 0
IsOwned Unowned = ⊥
IsOwned Stays = Unit {0}
IsOwned Removed = Unit {0}
IsOwned Written = Unit {0}
IsOwned Edited = Unit {0}

by_test : (b : Bool) (x y : Outcome) → IsOwned x → IsOwned y → IsOwned (cond b x y)
by_test true x y on off = on
by_test false x y on off = off

owned_outcome : (old fresh : Option FileRec) (was : Mark) (remains : Bool) (options : Options) → ((rec : FileRec) → fresh ≡ Some rec → is_some old ≡ true) → IsOwned (outcome_by old fresh was remains options)
owned_outcome None None was remains options some = tt
owned_outcome (Some old) None was remains options some =
    by_test (is_nothing was) Stays (unrecorded_outcome old was remains options) tt
    (by_test (is_dir old && marks.is_dir was) (cond remains Stays Removed) _ (by_test remains Stays Removed tt tt)
    (by_test (matches was old || ((flags_of old).transient || options.replace)) Removed _ tt (by_test (flags_of old).initial Stays Edited tt tt)))
owned_outcome None (Some rec) was remains options some = absurd (cc (some rec refl))
owned_outcome (Some old) (Some rec) was remains options some =
    by_test ((is_dir rec && marks.is_dir was) || (is_recorded_so (Some old) rec || (((flags_of rec).initial && marks.is_file was) || matches was rec))) Stays (changed_outcome old rec was options) tt
    (by_test (matches was old || (flags_of rec).transient) Written _ tt
    (by_test ((flags_of rec).config && options.keep) Stays _ tt (by_test options.replace Written Edited tt tt)))

unowned_refusal : (o : Outcome) (q path : Name) → IsOwned o → refusal_of o q ≡ Some (refusal.Unowned path) → ⊥
unowned_refusal Unowned q path owned is = owned
unowned_refusal Edited q path owned is = absurd (cc is)
unowned_refusal Stays q path owned is = absurd (cc is)
unowned_refusal Removed q path owned is = absurd (cc is)
unowned_refusal Written q path owned is = absurd (cc is)

second_passes : (a b : Bool) → (a || (true || b)) ≡ true
second_passes true b = refl
second_passes false b = refl

-- what both lists record so stays
same_stays : (path : Name) (rec : FileRec) (was : Mark) (remains : Bool) (options : Options) → path_outcome path (Some rec) (Some rec) was remains options ≡ Stays
same_stays path rec was remains options = by (is_pinned path)
  where
    recorded_so : recorded_outcome (Some rec) rec was options ≡ Stays
    recorded_so = ap (λ (b : Bool). cond b Stays (otherwise_outcome (Some rec) rec was options))
        (ap (λ (b : Bool). (is_dir rec && marks.is_dir was) || (b || (((flags_of rec).initial && marks.is_file was) || matches was rec))) (same_mark_itself (fingerprint_of_record rec))
        ∙ second_passes (is_dir rec && marks.is_dir was) (((flags_of rec).initial && marks.is_file was) || matches was rec))

    by : (b : Bool) → cond b Stays (recorded_outcome (Some rec) rec was options) ≡ Stays
    by true = refl
    by false = recorded_so

-- ---- an erasure

module _ (installed fresh : List TroveParts) (pairs : AllPairs SharesDirsAlone installed) (troves : All IsTrove installed) (rising : IsRising installed) (fresh_rising : IsRising fresh)
    (among : (t : TroveParts) → Contains fresh t → Contains installed t) where
  still_claimed : (path : Name) (rec : FileRec) → HasClaim rec (claims fresh path) → HasClaim rec (claims installed path)
  still_claimed path rec has = let u = claimer fresh path rec has in claims_of installed u.0 path rec (among u.0 u.1) u.2

  -- no path is shared
  pub erased_unshared : (path : Name) → owners_at fresh path ≡ None
  erased_unshared path = lone_unowned (claims fresh path) (lone installed pairs troves fresh fresh_rising among path)

  -- no path is one that nothing recorded
  pub erased_owned : (options : Options) (tree : Tree) (q path : Name) → conflict_at installed fresh options tree q ≡ Some (refusal.Unowned path) → ⊥
  erased_owned options tree q path is =
      unowned_refusal (outcome_at installed fresh options tree q false) q path
      (by_test (is_pinned q) Stays _ tt
      (owned_outcome (record_at installed q) (record_at fresh q) (fingerprint_at tree q) false options
      (λ rec some. claim_some (claims installed q) rec (still_claimed q rec (first_claim (claims fresh q) rec some))))) is

  same_record : (path : Name) (rec : FileRec) → record_at fresh path ≡ Some rec → is_dir rec ≡ false → record_at installed path ≡ Some rec
  same_record path rec is other =
      claim_first (claims installed path) rec (lone installed pairs troves installed rising (λ t h. h) path) (still_claimed path rec (first_claim (claims fresh path) rec is)) other

  module _ (options : Options) (tree : Tree) (plan : List Planned) (are : ArePlanned installed fresh options tree plan) where
    -- only directories are to stand
    pub erased_dir : (x : Planned) → planned_at plan x.path ≡ Some x → (rec : FileRec) → x.want ≡ Some rec → is_dir rec ≡ true
    erased_dir x own rec wants = ⊎_elim (λ is. is) (λ other. absurd (never other)) (cases_Bool (is_dir rec))
      where
        by : is_dir rec ≡ false → (remains : Bool) (o : Outcome) → outcome_at installed fresh options tree x.path remains ≡ o
            → Some x ≡ change_of o x.path (fingerprint_at tree x.path) (record_at fresh x.path) → ⊥
        by other remains Removed is same =
            let one : x ≡ record { path = x.path; was = fingerprint_at tree x.path; want = None } = cc same in
            absurd (cc (wants, ap (λ (y : Planned). y.want) one))
        by other remains Written is same =
            let one : x ≡ record { path = x.path; was = fingerprint_at tree x.path; want = record_at fresh x.path } = cc same in
            let now : record_at fresh x.path ≡ Some rec = sym (ap (λ (y : Planned). y.want) one) ∙ wants in
            absurd (cc (
              is,
              ap (λ (o : Option FileRec). path_outcome x.path o (record_at fresh x.path) (fingerprint_at tree x.path) remains options) (same_record x.path rec now other)
                  ∙ ap (λ (o : Option FileRec). path_outcome x.path (Some rec) o (fingerprint_at tree x.path) remains options) now
                  ∙ same_stays x.path rec (fingerprint_at tree x.path) remains options,
            ))
        by other remains Stays is same = absurd (cc same)
        by other remains Unowned is same = absurd (cc same)
        by other remains Edited is same = absurd (cc same)

        answered : is_dir rec ≡ false → (remains : Bool) → IsAnswer (HasChild (mark_after plan tree) x.path) remains → ⊥
        answered other remains answer = by other remains (outcome_at installed fresh options tree x.path remains) refl (sym own ∙ are.targets x.path remains answer)

        never : is_dir rec ≡ false → ⊥
        never other = answered other false (record { holds = λ is. absurd (cc is); fails = λ is child. answered other true (record { holds = λ i. child; fails = λ i. absurd (cc i) }) })
