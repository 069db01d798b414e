-- Bounds: names of troves that have a requirement which isn't met.
use Rattle.std.proofs.Common.{◌≡◌, ℕ, ◌+◌, ◌<◌, inl, inr, ⊎_elim, List, ◌∷◌, length, get_or, take, Option, Some, None, String, All, subst}
use Rattle.std.specs.BTreeMap.{BTreeMap}
use Rattle.std.specs.BTreeSet.{BTreeSet}
use Rattle.std.specs.Cmp.Lexicographic.{slice_cmp, nat_list_cmp_total}
use Rattle.std.specs.Ordering.{nat_cmp}
use Rattle.std.specs.declared.cmp.Ordering.TheVariants.{Less}
use Rattle.std.proofs.lemmas.List.Elements.{All-more, All-weaker}
use Rattle.cny_dep.specs.Dep.{Dependency}
use Rattle.trove_stream.specs.declared.parts.TroveParts.{TroveParts}
use Rattle.dep_closure.specs.Closed.{provides_of}
use Rattle.dep_closure.specs.Slots.{IsServed, IsBefore, IsServedBefore, IsLowered, IsNoLoss, IsHarmless}
use Rattle.dep_closure.proofs.Meeting.{PassedSoFar, one_passed, passed_weaker}
use Rattle.trove_stream.proofs.cny-base.ByteLists.{not_less_itself}

before_more : (bound : Option (List ℕ)) (other name : List ℕ) → slice_cmp nat_cmp other name ≡ Less → IsBefore bound name → IsBefore bound other
before_more None other name below before = tt
before_more (Some first) other name below before = nat_list_cmp_total.trans other name first below before

-- ---- a bound that is as low as another

pub lowered_more : (troves : List ℕ → Option TroveParts) (a b c : Option (List ℕ)) → IsLowered troves a b → IsLowered troves b c → IsLowered troves a c
lowered_more troves a b c one two = record {
  lower = λ name before. one.lower name (two.lower name before);
  unserved = λ unserved. two.unserved (one.unserved unserved);
}

-- a name before the bound, of a trove with a requirement that isn't met
pub lowered_to : (troves : List ℕ → Option TroveParts) (bound : Option (List ℕ)) (name : List ℕ) → IsBefore bound name → (IsServed troves name → ⊥) → IsLowered troves bound (Some name)
lowered_to troves bound name before unserved = record {
  lower = λ other below. before_more bound other name below before;
  unserved = λ _. unserved;
}

pub none_before_itself : (troves : List ℕ → Option TroveParts) (name : List ℕ) → IsServedBefore troves (Some name) name
none_before_itself troves name = λ below. absurd (not_less_itself name below)

-- ---- what holds before a bound holds before a lower one

pub served_lower : (troves : List ℕ → Option TroveParts) (a b : Option (List ℕ)) → IsLowered troves a b → (name : List ℕ) → IsServedBefore troves a name → IsServedBefore troves b name
served_lower troves a b lowered name served = λ before. served (lowered.lower name before)

pub no_loss_lower : {Y : Type 0} (troves : List ℕ → Option TroveParts) (requirers : BTreeMap (String Y) (BTreeSet (List ℕ))) (a b : Option (List ℕ)) → IsLowered troves a b
    → (provide : Dependency) → IsNoLoss troves requirers a provide → IsNoLoss troves requirers b provide
no_loss_lower troves requirers a b lowered provide = ⊎_elim inl (λ served. inr (λ name noted. served_lower troves a b lowered name (served name noted)))

pub harmless_lower : {Y : Type 0} (was troves : List ℕ → Option TroveParts) (requirers : BTreeMap (String Y) (BTreeSet (List ℕ))) (a b : Option (List ℕ)) → IsLowered troves a b
    → (name : List ℕ) → IsHarmless was troves requirers a name → IsHarmless was troves requirers b name
harmless_lower was troves requirers a b lowered name harmless = record {
  comes = served_lower troves a b lowered name harmless.comes;
  goes = λ t there. All-weaker (IsNoLoss troves requirers a) (IsNoLoss troves requirers b) (no_loss_lower troves requirers a b lowered) (provides_of t) (harmless.goes t there);
}

-- ---- names, one after another

-- before the bound this holds of each of the names that are passed
pub record BoundSoFar (troves : List ℕ → Option TroveParts) (P : Option (List ℕ) → List ℕ → Type 0) (old new : Option (List ℕ)) (all left : List (List ℕ)) : Type 0 where
  pub lowered : IsLowered troves old new
  pub passed : PassedSoFar (P new) all left

pub bound_more : (troves : List ℕ → Option TroveParts) (P : Option (List ℕ) → List ℕ → Type 0) → ((a b : Option (List ℕ)) → IsLowered troves a b → (name : List ℕ) → P a name → P b name)
    → (old before now : Option (List ℕ)) (all left rest : List (List ℕ)) (key : List ℕ) → BoundSoFar troves P old before all left → left ≡ key ∷ rest → IsLowered troves before now → P now key
    → BoundSoFar troves P old now all rest
bound_more troves P weaker old before now all left rest key so_far is lowered own = record {
  lowered = lowered_more troves old before now so_far.lowered lowered;
  passed = one_passed (P now) all left rest key (passed_weaker (P before) (P now) (weaker before now lowered) all left so_far.passed) is own;
}

-- ---- provides, one after another

-- before the bound the loss of each of these provides leaves no requirement unmet
pub record LostSoFar {Y : Type 0} (troves : List ℕ → Option TroveParts) (requirers : BTreeMap (String Y) (BTreeSet (List ℕ))) (old new : Option (List ℕ)) (provides : List Dependency) : Type 0 where
  pub lowered : IsLowered troves old new
  pub no_loss : All (IsNoLoss troves requirers new) provides

pub lost_more : {Y : Type 0} (troves : List ℕ → Option TroveParts) (requirers : BTreeMap (String Y) (BTreeSet (List ℕ))) (old before now : Option (List ℕ)) (provides : List Dependency) (i : ℕ) (provide : Dependency)
    → i < length provides → provide ≡ get_or provides i provide → LostSoFar troves requirers old before (take i provides) → IsLowered troves before now → IsNoLoss troves requirers now provide
    → LostSoFar troves requirers old now (take (i + 1) provides)
lost_more troves requirers old before now provides i provide within is so_far lowered own = record {
  lowered = lowered_more troves old before now so_far.lowered lowered;
  no_loss = All-more (IsNoLoss troves requirers now) provides i provide within
      (All-weaker (IsNoLoss troves requirers before) (IsNoLoss troves requirers now) (no_loss_lower troves requirers before now lowered) (take i provides) so_far.no_loss)
      (subst (IsNoLoss troves requirers now) is own);
}
