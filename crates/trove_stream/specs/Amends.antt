-- What keys that are gone and elements that are set make of a list.
use Rattle.std.specs.Prelude.{◌≡◌, ◌⊎◌, ◌↔◌, List, All, Contains}
use Rattle.std.specs.List.Sorted.{IsStrictlySortedBy}
use Rattle.std.specs.declared.cmp.Ordering.{Ordering}
use Rattle.std.specs.declared.cmp.Ordering.TheVariants.{Less}

-- an element of the list has this key
abbrev pub HasKey : {A K : Type 0} → (A → K) → List A → K → Type 0
HasKey {A} key xs k = (x : A) × Contains xs x × (key x ≡ k)

-- Each key that is gone is that of an element, and no element that is set is one already.
pub record Fits {A K : Type 0} (key : A → K) (gone : List K) (set old : List A) : Type 0 where
  pub had : All (HasKey key old) gone
  pub lacked : All (λ x. Contains old x → ⊥) set

-- an old element whose key is neither gone nor that of an element that is set
abbrev pub Remains : {A K : Type 0} → (A → K) → List K → List A → List A → A → Type 0
Remains key gone set old x = Contains old x × (Contains gone (key x) → ⊥) × (HasKey key set (key x) → ⊥)

-- The new list has the old elements that remain, and those that are set.
pub record Amends {A K : Type 0} (key : A → K) (gone : List K) (set old new : List A) : Type 0 where
  pub fits : Fits key gone set old
  pub result : (x : A) → Contains new x ↔ (Remains key gone set old x ⊎ Contains set x)

-- by the order of the keys
abbrev pub by_key : {A K : Type 0} → (A → K) → (K → K → Ordering) → A → A → Ordering
by_key key order x y = order (key x) (key y)

-- the key is below those of all elements
abbrev pub IsBelow : {A K : Type 0} → (A → K) → (K → K → Ordering) → K → List A → Type 0
IsBelow key order k xs = All (λ y. order k (key y) ≡ Less) xs

-- The same where the lists strictly rise by their keys, and no key that is gone is that of an element that is set.
pub record IsAmended {A K : Type 0} (key : A → K) (order : K → K → Ordering) (gone : List K) (set old new : List A) : Type 0 where
  pub amends : Amends key gone set old new
  pub gone_rises : IsStrictlySortedBy order gone
  pub set_rises : IsStrictlySortedBy (by_key key order) set
  pub new_rises : IsStrictlySortedBy (by_key key order) new
  pub apart : (k : K) → Contains gone k → HasKey key set k → ⊥
