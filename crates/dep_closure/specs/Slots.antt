-- Troves by their names, with indices of those that provide and of those that require something of a name.
use Rattle.std.specs.Prelude.{◌≡◌, ◌⊎◌, ℕ, Bool, false, IsTrue, IsSome, List, All, Option, Some, None, String}
use Rattle.std.specs.BTreeMap.{BTreeMap, get, get_by_text, keys, IsOrdered}
use Rattle.std.specs.BTreeSet as set
use Rattle.std.specs.BTreeSet.{BTreeSet}
use Rattle.std.specs.Cmp.Lexicographic.{slice_cmp}
use Rattle.std.specs.List.{flat_map}
use Rattle.std.specs.Option.{option_to_list, option_map_or}
use Rattle.std.specs.Ordering.{nat_cmp}
use Rattle.std.specs.declared.cmp.Ordering.TheVariants.{Less}
use Rattle.trove_stream.specs.cny-base.declared.refusal.Fault.{Fault}
use Rattle.trove_stream.specs.cny-base.declared.refusal.Fault.TheVariants.{Refused, Memory}
use Rattle.trove_stream.specs.cny-base.declared.refusal.Refusal.TheVariants.{Unmet}
use Rattle.cny_dep.specs.Dep.{Dependency, dep_text}
use Rattle.trove_stream.specs.declared.parts.TroveParts.{TroveParts}
use Rattle.dep_closure.specs.Closed.{provides_of, IsSatisfiedBy, IsClosed, IsFirstNotMet, IsUnmetOrMemory}

-- by name: a trove, or a place for one
abbrev pub Slots : Type 0
Slots = BTreeMap (List ℕ) (Option TroveParts)

-- what stands under a name
abbrev pub slot : Slots → List ℕ → Option (Option TroveParts)
slot slots name = get (slice_cmp nat_cmp) slots name

-- what the slot holds, or else the other trove
abbrev pub slot_or : Option (Option TroveParts) → Option TroveParts → Option TroveParts
slot_or None other = other
slot_or (Some held) other = held

-- the trove of a name
abbrev pub held : Slots → List ℕ → Option TroveParts
held slots name = slot_or (slot slots name) None

-- the trove of a name once the edits are made: a name of the edits has what stands there
abbrev pub held_after : Slots → Slots → List ℕ → Option TroveParts
held_after slots edits name = slot_or (slot edits name) (held slots name)

-- the slot once the trove, if there is one, was put there
abbrev pub put_slot : Option TroveParts → Option (Option TroveParts) → Option (Option TroveParts)
put_slot None before = before
put_slot (Some t) before = Some (Some t)

-- the troves of these names, in their order
abbrev pub listed : (List ℕ → Option TroveParts) → List (List ℕ) → List TroveParts
listed troves names = flat_map (λ name. option_to_list (troves name)) names

-- all troves, in name order
abbrev pub all_held : Slots → List TroveParts
all_held slots = listed (held slots) (keys slots)

-- ---- closed, by names

-- a trove of some name provides something that satisfies the requirement
pub record IsMetBy (troves : List ℕ → Option TroveParts) (require : Dependency) : Type 0 where
  pub name : List ℕ
  pub trove : TroveParts
  pub there : troves name ≡ Some trove
  pub by : IsSatisfiedBy (provides_of trove) require

-- the trove of this name, if there is one, has its requirements met
abbrev pub IsServed : (List ℕ → Option TroveParts) → List ℕ → Type 0
IsServed troves name = (t : TroveParts) → troves name ≡ Some t → All (IsMetBy troves) t.requires_

abbrev pub IsClosedBy : (List ℕ → Option TroveParts) → Type 0
IsClosedBy troves = (name : List ℕ) → IsServed troves name

-- the trove of this name, if there is one, provides nothing that satisfies the requirement
abbrev pub IsNoProvider : (List ℕ → Option TroveParts) → Dependency → List ℕ → Type 0
IsNoProvider troves require name = (t : TroveParts) → troves name ≡ Some t → IsSatisfiedBy (provides_of t) require → ⊥

-- the trove of this name, and its first requirement that isn't met
pub record IsFirstAt (troves : List ℕ → Option TroveParts) (name : List ℕ) (trove : TroveParts) (require : Dependency) : Type 0 where
  pub there : troves name ≡ Some trove
  pub first : IsFirstNotMet (IsMetBy troves) trove.requires_ require

-- the refusal of the first requirement of the trove of this name that isn't met, or want of memory
abbrev pub IsUnmetAt : (List ℕ → Option TroveParts) → List ℕ → Fault → Type 0
IsUnmetAt troves name (Refused refusal) = (trove : TroveParts) × (require : Dependency) × IsFirstAt troves name trove require × (refusal ≡ Unmet trove.id.name (dep_text require))
IsUnmetAt troves name Memory = Unit {0}

-- ---- the indices

-- whether the trove of the second name stands beside the first name, which is that of a dependency
abbrev pub notes : {Y : Type 0} → BTreeMap (String Y) (BTreeSet (List ℕ)) → List ℕ → List ℕ → Bool
notes index dep name = option_map_or (λ (names : BTreeSet (List ℕ)). set.contains (slice_cmp nat_cmp) names name) (get_by_text index dep) false

-- the trove of this name stands beside the name of each of these dependencies
abbrev pub IsNoted : {Y : Type 0} → BTreeMap (String Y) (BTreeSet (List ℕ)) → List ℕ → List Dependency → Type 0
IsNoted index name deps = All (λ dep. IsTrue (notes index dep.name name)) deps

-- each trove has the name under which it stands, and is noted for what it provides
pub record AreNoted {Y : Type 0} (troves : List ℕ → Option TroveParts) (providers : BTreeMap (String Y) (BTreeSet (List ℕ))) : Type 0 where
  pub named : (name : List ℕ) (t : TroveParts) → troves name ≡ Some t → t.id.name ≡ name
  pub noted : (name : List ℕ) (t : TroveParts) → troves name ≡ Some t → IsNoted providers name (provides_of t)

-- The same, and each is noted for what it requires. Only closed troves are known to be closed.
pub record IsKept {Y : Type 0} (slots : Slots) (requirers providers : BTreeMap (String Y) (BTreeSet (List ℕ))) (known : Bool) : Type 0 where
  pub ordered : IsOrdered (slice_cmp nat_cmp) slots
  pub provided : AreNoted (held slots) providers
  pub noted : (name : List ℕ) (t : TroveParts) → held slots name ≡ Some t → IsNoted requirers name t.requires_
  pub closed : IsTrue known → IsClosedBy (held slots)

-- ---- edits of a closed list

-- the name comes before the bound, if there is one
abbrev pub IsBefore : Option (List ℕ) → List ℕ → Type 0
IsBefore None name = Unit {0}
IsBefore (Some bound) name = slice_cmp nat_cmp name bound ≡ Less

-- the trove of this name, if there is one and it comes before the bound, has its requirements met
abbrev pub IsServedBefore : (List ℕ → Option TroveParts) → Option (List ℕ) → List ℕ → Type 0
IsServedBefore troves bound name = IsBefore bound name → IsServed troves name

-- a bound is the name of a trove with a requirement that isn't met
abbrev pub IsUnserved : (List ℕ → Option TroveParts) → Option (List ℕ) → Type 0
IsUnserved troves None = Unit {0}
IsUnserved troves (Some name) = IsServed troves name → ⊥

-- a bound is as low as another one, and the name of such a trove if the other one is
pub record IsLowered (troves : List ℕ → Option TroveParts) (old new : Option (List ℕ)) : Type 0 where
  pub lower : (name : List ℕ) → IsBefore new name → IsBefore old name
  pub unserved : IsUnserved troves old → IsUnserved troves new

-- The provide is as good as there still: what satisfies it satisfies all that it does. Or each trove before the bound that may
-- require something of its name has its requirements met.
abbrev pub IsNoLoss : {Y : Type 0} → (List ℕ → Option TroveParts) → BTreeMap (String Y) (BTreeSet (List ℕ)) → Option (List ℕ) → Dependency → Type 0
IsNoLoss troves requirers bound provide = IsMetBy troves provide ⊎ ((name : List ℕ) → IsTrue (notes requirers provide.name name) → IsServedBefore troves bound name)

-- before the bound the trove that the edit brings has its requirements met, and what the edit takes away is no loss
pub record IsHarmless {Y : Type 0} (before after : List ℕ → Option TroveParts) (requirers : BTreeMap (String Y) (BTreeSet (List ℕ))) (bound : Option (List ℕ)) (name : List ℕ) : Type 0 where
  pub comes : IsServedBefore after bound name
  pub goes : (t : TroveParts) → before name ≡ Some t → All (IsNoLoss after requirers bound) (provides_of t)

-- each edit is harmless before the bound
abbrev pub AreHarmless : {Y : Type 0} → Slots → Slots → BTreeMap (String Y) (BTreeSet (List ℕ)) → Option (List ℕ) → Type 0
AreHarmless slots edits requirers bound = (name : List ℕ) → IsSome (slot edits name) → IsHarmless (held slots) (held_after slots edits) requirers bound name

-- The list that the edits make is closed; or the troves are said to be closed, and each edit is harmless.
abbrev pub IsPassed : {Y : Type 0} → Slots → Slots → BTreeMap (String Y) (BTreeSet (List ℕ)) → Bool → Type 0
IsPassed slots edits requirers known = IsClosed (listed (held_after slots edits) (keys slots)) ⊎ (IsTrue known × AreHarmless slots edits requirers None)

-- a fault of the trove of some name, and each edit is harmless before that name
abbrev pub IsFirstFault : {Y : Type 0} → Slots → Slots → BTreeMap (String Y) (BTreeSet (List ℕ)) → Fault → Type 0
IsFirstFault slots edits requirers fault = (name : List ℕ) × IsUnmetAt (held_after slots edits) name fault × AreHarmless slots edits requirers (Some name)

-- The fault is that of the list that the edits make; or the troves are said to be closed, and the fault is that of the first.
abbrev pub IsFaulty : {Y : Type 0} → Slots → Slots → BTreeMap (String Y) (BTreeSet (List ℕ)) → Bool → Fault → Type 0
IsFaulty slots edits requirers known fault = IsUnmetOrMemory (listed (held_after slots edits) (keys slots)) fault ⊎ (IsTrue known × IsFirstFault slots edits requirers fault)
