-- Why a manifest isn't written.
use Rattle.std.proofs.Common.{◌≡◌, ◌≢◌, ⊎_elim, ℕ, Bool, true, false, cond, not, ◌&&◌, IsTrue, List, [], ◌∷◌, ◌++◌, map, Option, Some, None, is_some, refl, sym, ap, subst, ◌∙◌}
use Rattle.std.specs.Prelude.{All, nat_lt, if◌then◌else◌}
use Rattle.std.specs.BTreeMap.{IsOrdered, is_at}
use Rattle.std.specs.Cmp.Lexicographic.{nat_list_cmp_total}
use Rattle.std.specs.List.{AllByRecursion}
use Rattle.std.specs.List.Sorted.{IsStrictlySortedBy}
use Rattle.std.specs.Map.{lookup}
use Rattle.std.specs.Ordering.{is_eq}
use Rattle.std.specs.declared.cmp.Ordering.TheVariants.{Less}
use Rattle.std.proofs.lemmas.Bool.{cases_Bool}
use Rattle.std.proofs.lemmas.List.Elements.{All-head, All-tail, All-weaker, All-contains}
use Rattle.std.proofs.lemmas.Map.Views.{All-found}
use Rattle.std.specs.FinMap as tree
use Rattle.tree_disk.specs.cny-base.Path.{root}
use Rattle.tree_disk.specs.cny-base.Reserved.{is_forbidden}
use Rattle.tree_disk.specs.cny-base.declared.limits.TheConstants.{CONTENT_LIMIT}
use Rattle.tree_disk.specs.cny-base.declared.node.Node.{Node}
use Rattle.tree_disk.specs.cny-base.declared.node.Node.TheVariants as node
use Rattle.tree_disk.specs.Laws.{same_means}
use Rattle.tree_disk.specs.Looks.{sees_nothing, sees_dir, size_seen}
use Rattle.tree_disk.specs.Rows.{look_of, seen_as}
use Rattle.tree_disk.specs.Tree.{Name, Tree}
use Rattle.tree_disk.specs.declared.disk.Look.{Look}
use Rattle.manifest_troves.specs.cny-stream.Owner.{OwnerNames}
use Rattle.manifest_troves.specs.trove-parts.declared.id.TroveId.{TroveId}
use Rattle.manifest_troves.specs.declared.lines.DepLine.{DepLine}
use Rattle.cny_pack.specs.Causes.{AreGood, is_there, IsSightIn, AreSightsOf, IsFirstUnfit, HasEntry, IsFirstWithout, IsMeant, IsRefused, IsCause, IfJudged}
use Rattle.cny_pack.specs.Halts.{IsHeadStop, RefusesFirst, IsLookStop, IsJudgeStop, IsGivingStop}
use Rattle.cny_pack.specs.Judged.{IsJudged}
use Rattle.cny_pack.specs.Plan.{unfit_by_size, unfit_of, fits, sights_of, IsFit, IsAsSeen}
use Rattle.cny_pack.specs.Walk.{Found, seen_at, stands, FindsAll}
use Rattle.cny_pack.specs.declared.head.Words.{Words}
use Rattle.cny_pack.specs.declared.pattern.Pattern.{Pattern}
use Rattle.cny_pack.specs.declared.plan.Rules.{Rules}
use Rattle.cny_pack.specs.declared.plan.Sight.{Sight}
use Rattle.cny_pack.specs.declared.stop.PackStop.{PackStop}
use Rattle.cny_pack.specs.declared.stop.PackStop.TheVariants as pack
use Rattle.cny_pack.specs.declared.stop.Unfit.{Unfit}
use Rattle.cny_pack.specs.declared.stop.Unfit.TheVariants as unfit
use Rattle.tree_disk.proofs.cny-base.OptionValues.{same_some}
use Rattle.cny_pack.proofs.Entering.{for_from}
use Rattle.cny_pack.proofs.Planning.{some_there, by_bytes, pair_path, sights_rise, fit_of, WasSeen, each_seen, there}
use Rattle.cny_pack.proofs.Refusing.{begins_rest}

-- ---- what stands in the tree

not_nothing : (n : Node) → sees_nothing (seen_as (Some n)) ≡ false
not_nothing (node.Dir mode) = refl
not_nothing (node.File mode bytes) = refl
not_nothing (node.Link target) = refl

fits_by : (path : Name) (look : Look) → unfit_of path look ≡ None → sees_nothing look ≡ false → fits (path, look) ≡ true
fits_by path look fit some = ap (λ (o : Option Unfit). not (is_some o) && not (sees_nothing look)) fit ∙ ap not some

fit_at : (p : Name) (look : Look) (es : List (Name × Look)) → All IsFit es → lookup (is_at (by_bytes p)) es ≡ Some look → unfit_of p look ≡ None
fit_at p look [] all found = absurd (cc found)
fit_at p look (e ∷ es) all found = at (is_at (by_bytes p) e.0) refl found (λ later. fit_at p look es (All-tail IsFit e es all) later)
  where
    at : (b : Bool) → is_at (by_bytes p) e.0 ≡ b → cond b (Some e.1) (lookup (is_at (by_bytes p)) es) ≡ Some look → (lookup (is_at (by_bytes p)) es ≡ Some look → unfit_of p look ≡ None) → unfit_of p look ≡ None
    at true same found rest =
        let is : e.1 ≡ look = cc found in
        ap (λ (q : Name). unfit_of q look) (same_means p e.0 same) ∙ ap (unfit_of e.0) (sym is) ∙ All-head IsFit e es all
    at false other found rest = rest found

module _ (t : Tree) (seen : Found) (finds : FindsAll t seen) (ordered : IsOrdered by_bytes seen) where
  sight_in : (sight : Sight) → WasSeen seen sight → IsSightIn t sight
  sight_in sight was =
      let at = finds.sights sight.path sight.look was.at in
      record { seen = at.0; here = at.1; not_root = at.2; fits = ap (unfit_of sight.path) (sym at.0) ∙ fit_of sight.path sight.look was.can }

  pub are_sights : (skip : Bool) → (skip ≡ false → All IsFit seen.entries) → AreSightsOf skip t (sights_of seen.entries)
  are_sights skip fit = record {
    each = All-weaker (WasSeen seen) (IsSightIn t) sight_in (sights_of seen.entries) (each_seen seen ordered);
    rising = sights_rise seen ordered;
    all = λ p here other may. all_in p here other may;
  }
    where
      all_in : (p : Name) → stands t p ≡ true → p ≢ root → (IsTrue skip → unfit_of p (look_of t p) ≡ None) → is_there p (sights_of seen.entries) ≡ true
      all_in p here other may =
          let was = some_there (seen_at seen p) (finds.all p here other) in
          let sights = finds.sights p was.0 was.1 in
          let fitting : unfit_of p was.0 ≡ None = ⊎_elim
          (λ skips. ap (unfit_of p) sights.0 ∙ may skips)
          (λ keeps. fit_at p was.0 seen.entries (fit keeps) was.1)
          (cases_Bool skip) in
          let node = some_there (tree.get t p) here in
          let some : sees_nothing was.0 ≡ false = ap sees_nothing (sights.0 ∙ ap seen_as node.1) ∙ not_nothing node.0 in
          there p was.0 seen.entries was.1 (fits_by p was.0 fitting some)

  -- ---- the first that can't be in a manifest

  none_after : (q path : Name) (es : List (Name × Look)) → by_bytes q path ≡ Less → AllByRecursion (λ (n : Name). by_bytes path n ≡ Less) (map pair_path es) → lookup (is_at (by_bytes q)) es ≡ None
  none_after q path [] less after = refl
  none_after q path (e ∷ es) less after =
      let next : by_bytes q e.0 ≡ Less = nat_list_cmp_total.trans q path e.0 less after.0 in
      ap (λ (b : Bool). cond b (Some e.1) (lookup (is_at (by_bytes q)) es)) (ap is_eq next) ∙ none_after q path es less after.1

  fit_before : (q path : Name) (look seen_as_look : Look) (done rest : List (Name × Look)) → by_bytes q path ≡ Less → IsStrictlySortedBy by_bytes (map pair_path (done ++ (path, seen_as_look) ∷ rest)) → All IsFit done
      → lookup (is_at (by_bytes q)) (done ++ (path, seen_as_look) ∷ rest) ≡ Some look → unfit_of q look ≡ None
  unfolding IsStrictlySortedBy
  fit_before q path look l [] rest less rising fit found =
      let none : lookup (is_at (by_bytes q)) ((path, l) ∷ rest) ≡ None =
      ap (λ (b : Bool). cond b (Some l) (lookup (is_at (by_bytes q)) rest)) (ap is_eq less) ∙ none_after q path rest less rising.0 in
      absurd (let no : ◌≡◌ {A = Option Look} None (Some look) = sym none ∙ found in cc no)
  fit_before q path look l (e ∷ es) rest less rising fit found =
      at (is_at (by_bytes q) e.0) refl found (λ later. fit_before q path look l es rest less rising.1 (All-tail IsFit e es fit) later)
    where
      at : (b : Bool) → is_at (by_bytes q) e.0 ≡ b → cond b (Some e.1) (lookup (is_at (by_bytes q)) (es ++ (path, l) ∷ rest)) ≡ Some look
          → (lookup (is_at (by_bytes q)) (es ++ (path, l) ∷ rest) ≡ Some look → unfit_of q look ≡ None) → unfit_of q look ≡ None
      at true same found later =
          let is : e.1 ≡ look = cc found in
          ap (λ (n : Name). unfit_of n look) (same_means q e.0 same) ∙ ap (unfit_of e.0) (sym is) ∙ All-head IsFit e es fit
      at false other found later = later found

  pub first_unfit : (done rest : List (Name × Look)) (pair : Name × Look) (why : Unfit) → done ++ pair ∷ rest ≡ seen.entries → All IsFit done → unfit_of pair.0 pair.1 ≡ Some why → IsFirstUnfit t pair.0 why
  first_unfit done rest pair why whole fit is =
      let here : seen_at seen pair.0 ≡ Some pair.1 =
      All-contains (λ (e : Name × Look). seen_at seen e.0 ≡ Some e.1) seen.entries pair (All-found nat_list_cmp_total seen ordered) (begins_rest done (pair ∷ rest) rest seen.entries pair whole refl) in
      let at = finds.sights pair.0 pair.1 here in
      record {
        here = at.1;
        not_root = at.2;
        why_is = ap (unfit_of pair.0) (sym at.0) ∙ is;
        first = λ q stands_there other less.
            let was = some_there (seen_at seen q) (finds.all q stands_there other) in
            let sight = finds.sights q was.0 was.1 in
            ap (unfit_of q) (sym sight.0)
            ∙ fit_before q pair.0 was.0 pair.1 done rest less
            (subst (λ (es : List (Name × Look)). IsStrictlySortedBy by_bytes (map pair_path es)) (sym whole) ordered)
            fit
            (subst (λ (es : List (Name × Look)). lookup (is_at (by_bytes q)) es ≡ Some was.0) (sym whole) was.1);
      }

pub as_seen : (t : Tree) (skip : Bool) (sights : List Sight) → AreSightsOf skip t sights → All (IsAsSeen t) sights
as_seen t skip sights of = All-weaker (IsSightIn t) (IsAsSeen t) (λ s here. here.seen) sights of.each

-- ---- causes

module _ (owns : Name → OwnerNames → Type 0) (lacks : Name → Type 0) (rules : Rules) (tells : Bool) (t : Tree) (words : Words) (disk sink : Type 0) where
  pub head_cause : (stop : PackStop) → IsHeadStop words stop → IsCause owns lacks rules tells t words disk sink stop
  head_cause (pack.Word word) is = is
  head_cause pack.Memory is = tt
  head_cause (pack.Unfit path why) is = absurd is
  head_cause pack.NoTroves is = absurd is
  head_cause pack.DiskFailed is = absurd is
  head_cause pack.SinkFailed is = absurd is

  pub look_cause : (stop : PackStop) → IsLookStop disk stop → IsCause owns lacks rules tells t words disk sink stop
  look_cause (pack.Word word) is = absurd is
  look_cause pack.Memory is = tt
  look_cause (pack.Unfit path why) is = absurd is
  look_cause pack.NoTroves is = absurd is
  look_cause pack.DiskFailed is = is
  look_cause pack.SinkFailed is = absurd is

  pub judge_cause : (id : TroveId) (requires_ provides : List DepLine) (sights : List Sight) (stop : PackStop) → IsMeant owns lacks rules tells t words id requires_ provides sights → IsJudgeStop (IsJudged id requires_ provides sights → ⊥) stop
      → IsCause owns lacks rules tells t words disk sink stop
  judge_cause id requires_ provides sights pack.NoTroves meant is = record { id = id; requires_ = requires_; provides = provides; sights = sights; meant = meant; broken = is }
  judge_cause id requires_ provides sights pack.Memory meant is = tt
  judge_cause id requires_ provides sights (pack.Word word) meant is = absurd is
  judge_cause id requires_ provides sights (pack.Unfit path why) meant is = absurd is
  judge_cause id requires_ provides sights pack.DiskFailed meant is = absurd is
  judge_cause id requires_ provides sights pack.SinkFailed meant is = absurd is

  -- a look tells of a size that is too large, or of a path that is reserved, and of nothing else
  no_other : (why : Unfit) → ((size : ℕ) → unfit.TooLarge size ≡ why → ⊥) → (unfit.Reserved ≡ why → ⊥) → (path : Name) (look : Look) → unfit_of path look ≡ Some why → ⊥
  no_other why small free path look is = at (is_forbidden path (sees_dir look)) (size_seen look) is
    where
      by : (over : Bool) (size : ℕ) → (if over then Some (unfit.TooLarge size) else None) ≡ Some why → ⊥
      by true size is = small size (same_some (unfit.TooLarge size) why is)
      by false size is = cc is

      at : (forbidden : Bool) (size : Option ℕ) → (if forbidden then Some unfit.Reserved else unfit_by_size size) ≡ Some why → ⊥
      at true size is = free (same_some unfit.Reserved why is)
      at false None is = cc is
      at false (Some size) is = by (nat_lt CONTENT_LIMIT size) size is

  module _ (seen : Found) (good : AreGood words) (finds : IsTrue tells → FindsAll t seen) (ordered : IsOrdered by_bytes seen) where
    refused : (done rest : List (Name × Look)) (pair : Name × Look) (path : Name) (why : Unfit) → done ++ pair ∷ rest ≡ seen.entries → All IsFit done → path ≡ pair.0 → unfit_of pair.0 pair.1 ≡ Some why → rules.skip ≡ false
        → IsRefused owns lacks rules tells t words path why
    refused done rest pair path why whole fit is off kept = record {
      good = good;
      kept = kept;
      look = pair.1;
      why_is = ap (λ (n : Name). unfit_of n pair.1) is ∙ off;
      first = λ told. subst (λ (n : Name). IsFirstUnfit t n why) (sym is) (first_unfit t seen (finds told) ordered done rest pair why whole fit off);
    }

    pub refused_cause : (stop : PackStop) → RefusesFirst seen.entries rules.skip stop → IsCause owns lacks rules tells t words disk sink stop
    refused_cause (pack.Unfit path (unfit.TooLarge size)) is = refused is.0 is.2 is.1 path (unfit.TooLarge size) is.3 (is.4 is.5.2) is.5.0 is.5.1 is.5.2
    refused_cause (pack.Unfit path unfit.Reserved) is = refused is.0 is.2 is.1 path unfit.Reserved is.3 (is.4 is.5.2) is.5.0 is.5.1 is.5.2
    refused_cause (pack.Unfit path unfit.Changed) is = absurd (no_other unfit.Changed (λ size e. cc e) (λ e. cc e) is.1.0 is.1.1 is.5.1)
    refused_cause (pack.Unfit path unfit.NoOwner) is = absurd (no_other unfit.NoOwner (λ size e. cc e) (λ e. cc e) is.1.0 is.1.1 is.5.1)
    refused_cause pack.Memory is = tt
    refused_cause (pack.Word word) is = absurd is.5
    refused_cause pack.NoTroves is = absurd is.5
    refused_cause pack.DiskFailed is = absurd is.5
    refused_cause pack.SinkFailed is = absurd is.5

  first_from : (u : Tree) (sights : List Sight) (path : Name) (why : Unfit) → (IsTrue tells → u ≡ t) → IsFirstWithout owns lacks rules.config.now tells u sights path why → IsFirstWithout owns lacks rules.config.now tells t sights path why
  first_from u sights path why same is = record {
    done = is.done;
    sight = is.sight;
    rest = is.rest;
    whole = is.whole;
    path_is = is.path_is;
    cannot = is.cannot;
    before = All-weaker (HasEntry owns rules.config.now tells u) (HasEntry owns rules.config.now tells t) (λ s has. (has.0, for_from owns rules.config.now tells u t s.path s.look has.0 same has.1, has.2)) is.done is.before;
  }

  pub give_cause : (u : Tree) (id : TroveId) (requires_ provides : List DepLine) (sights : List Sight) (stop : PackStop) → IsMeant owns lacks rules tells t words id requires_ provides sights → IsJudged id requires_ provides sights → (IsTrue tells → u ≡ t)
      → IsGivingStop (IsFirstWithout owns lacks rules.config.now tells u sights) disk sink stop → IsCause owns lacks rules tells t words disk sink stop
  give_cause u id requires_ provides sights (pack.Unfit path unfit.Changed) meant judged same is =
      record { id = id; requires_ = requires_; provides = provides; sights = sights; meant = meant; judged = judged; first = first_from u sights path unfit.Changed same is }
  give_cause u id requires_ provides sights (pack.Unfit path unfit.NoOwner) meant judged same is =
      record { id = id; requires_ = requires_; provides = provides; sights = sights; meant = meant; judged = judged; first = first_from u sights path unfit.NoOwner same is }
  give_cause u id requires_ provides sights (pack.Unfit path (unfit.TooLarge size)) meant judged same is = absurd is.cannot
  give_cause u id requires_ provides sights (pack.Unfit path unfit.Reserved) meant judged same is = absurd is.cannot
  give_cause u id requires_ provides sights pack.DiskFailed meant judged same is = is
  give_cause u id requires_ provides sights pack.SinkFailed meant judged same is = is
  give_cause u id requires_ provides sights pack.Memory meant judged same is = tt
  give_cause u id requires_ provides sights (pack.Word word) meant judged same is = absurd is
  give_cause u id requires_ provides sights pack.NoTroves meant judged same is = absurd is

-- what stops while entries are written is none of what is judged before
pub not_judged : (owns : Name → OwnerNames → Type 0) (lacks : Name → Type 0) (config : List Pattern) (tells : Bool) (u : Tree) (sights : List Sight) (disk sink P : Type 0) (stop : PackStop)
    → IsGivingStop (IsFirstWithout owns lacks config tells u sights) disk sink stop → IfJudged P stop
not_judged owns lacks config tells u sights disk sink P (pack.Unfit path unfit.Changed) is = tt
not_judged owns lacks config tells u sights disk sink P (pack.Unfit path unfit.NoOwner) is = tt
not_judged owns lacks config tells u sights disk sink P (pack.Unfit path (unfit.TooLarge size)) is = absurd is.cannot
not_judged owns lacks config tells u sights disk sink P (pack.Unfit path unfit.Reserved) is = absurd is.cannot
not_judged owns lacks config tells u sights disk sink P pack.DiskFailed is = tt
not_judged owns lacks config tells u sights disk sink P pack.SinkFailed is = tt
not_judged owns lacks config tells u sights disk sink P pack.Memory is = tt
not_judged owns lacks config tells u sights disk sink P (pack.Word word) is = absurd is
not_judged owns lacks config tells u sights disk sink P pack.NoTroves is = absurd is
