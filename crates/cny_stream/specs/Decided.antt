-- What is decided of a stream by the bytes that were given of it so far.
use Rattle.std.specs.Prelude.{◌≡◌, ℕ, ◌<◌, IsTrue, List, ◌++◌, drop, All}
use Rattle.cny_stream.specs.Item.{FitsItem, item_bytes, is_expected, fault_place}

-- Every continuation of what was given has this first fault, so that nothing that comes can change it.
abbrev pub Decided : {Fault : Type 0} → (List ℕ → Fault → Type 0) → List ℕ → Fault → Type 0
Decided IsFirst given fault = (more : List ℕ) → All (λ byte. byte < 256) more → IsFirst (given ++ more) fault

-- Nothing is decided: no fault is the first one of every continuation.
abbrev pub Undecided : {Fault : Type 0} → (List ℕ → Fault → Type 0) → List ℕ → Type 0
Undecided {Fault} IsFirst given = (fault : Fault) → Decided IsFirst given fault → ⊥

-- At `at` begins no whole item with one of these tags, and so the fault lies there.
pub record LacksItem (tags : List ℕ) (at : ℕ) (bytes : List ℕ) (lies : ℕ) : Type 0 where
  pub none : (tag : ℕ) (value rest : List ℕ) → IsTrue (is_expected tags tag) → FitsItem value → drop at bytes ≡ item_bytes tag value ++ rest → ⊥
  pub place : lies ≡ fault_place bytes at tags
