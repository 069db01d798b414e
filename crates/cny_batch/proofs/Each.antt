-- What is still to be written of several pieces.
use Rattle.std.specs.Prelude.{OnOk}
use Rattle.std.proofs.Common.{Result, Ok, Err, ◌≡◌, ◌≤◌, ◌<◌, ◌+◌, ◌-◌, ℕ, suc, List, [], ◌++◌, sym, ap, ◌∙◌, arith, append_assoc, append-nil}
use Rattle.cny_batch.specs.Manifests.{each_from}

-- the first of those that are left, and those behind it
pub each_step : (f : ℕ → List ℕ) (from end : ℕ) → from < end → each_from f from (end - from) ≡ f from ++ each_from f (from + 1) (end - (from + 1))
unfolding each_from
each_step f from end lt =
    let more : end - from ≡ suc (end - (from + 1)) = omega (arith, lt) in
    ap (each_from f from) more

-- none is left
pub each_done : (f : ℕ → List ℕ) (from end : ℕ) → end ≤ from → each_from f from (end - from) ≡ []
unfolding each_from
each_done f from end le =
    let none : end - from ≡ 0 = omega (arith, le) in
    ap (each_from f from) none

module _ (f : ℕ → List ℕ) (end : ℕ) (start whole : List ℕ) where
  -- one more is written
  pub goes_on : (out next : List ℕ) (from : ℕ) → from < end → out ++ each_from f from (end - from) ≡ start ++ whole → next ≡ out ++ f from → next ++ each_from f (from + 1) (end - (from + 1)) ≡ start ++ whole
  goes_on out next from lt so_far is =
      ap (λ o. o ++ each_from f (from + 1) (end - (from + 1))) is
      ∙ append_assoc out (f from) (each_from f (from + 1) (end - (from + 1)))
      ∙ ap (λ l. out ++ l) (sym (each_step f from end lt))
      ∙ so_far

  -- all are
  pub all_written : (out : List ℕ) (from : ℕ) → end ≤ from → out ++ each_from f from (end - from) ≡ start ++ whole → out ≡ start ++ whole
  all_written out from le so_far = sym (append-nil out) ∙ ap (λ l. out ++ l) (sym (each_done f from end le)) ∙ so_far

-- ---- one piece behind the other

-- a piece, and what is behind it
pub before : (old a mid rest final : List ℕ) → mid ≡ old ++ a → final ≡ mid ++ rest → final ≡ old ++ (a ++ rest)
before old a mid rest final is last = last ∙ ap (λ (o : List ℕ). o ++ rest) is ∙ append_assoc old a rest

-- what is written behind nothing
pub from_none : (old rest final : List ℕ) → old ≡ [] → final ≡ old ++ rest → final ≡ rest
from_none old rest final none is = is ∙ ap (λ (o : List ℕ). o ++ rest) none

pub if_ok : {A B P Q : Type 0} (r : Result A B) → (P → Q) → OnOk r P → OnOk r Q
if_ok (Ok x) f h = f h
if_ok (Err e) f h = tt
