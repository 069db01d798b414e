-- Two lists of bytes, compared place by place.
use Rattle.std.specs.Prelude.{◌≡◌, ◌≢◌, ◌<◌, ◌==◌, ℕ, List, Bool, not, length, slice_index}
use Rattle.std.specs.List.{count_by}
use Rattle.std.specs.Simd.Lanes.{zip2}

-- at each place of both, whether they differ there
abbrev pub differing : List ℕ → List ℕ → List Bool
differing a b = zip2 (λ x y. not (x == y)) a b

-- how many places differ
abbrev pub count_of_differing : List ℕ → List ℕ → ℕ
count_of_differing a b = count_by (λ differs. differs) (differing a b)

-- they are the same at each place before this one
abbrev pub AreSameBefore : List ℕ → List ℕ → ℕ → Type 0
AreSameBefore a b end = (k : ℕ) → k < end → slice_index a k ≡ slice_index b k

-- the first place at which they differ
pub record IsFirstDifference (a b : List ℕ) (at : ℕ) : Type 0 where
  pub within : at < length a
  pub before : AreSameBefore a b at
  pub differs : slice_index a at ≢ slice_index b at
