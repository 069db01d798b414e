-- The steps of the loops that read flags and sets.
use Rattle.std.specs.Prelude.{◌≡◌, ℕ, zero, true, false, List, [], ◌∷◌, ◌++◌, length, ◌==◌, Option, Some, None, refl}
use Rattle.std.proofs.Common.{suc, ◌+◌, ◌-◌, ◌<◌, sym, ◌∙◌, ap, arith, append_assoc}
use Rattle.std.proofs.lemmas.Bool.Decides.{nat_tests}
use Rattle.cny_base.specs.declared.text.TextFault.{TextFault}
use Rattle.cny_base.specs.declared.text.TextFault.TheVariants as fault
use Rattle.std.specs.Option.{option_map, option_and_then}
use Rattle.cny_dep.specs.declared.parts.FlavorFlag.{FlavorFlag}
use Rattle.cny_dep.specs.declared.parts.InstructionSet.{InstructionSet}
use Rattle.cny_dep.specs.FlavorReading.{Fails, after_byte, skip_spaces, flag_at, flags_at, with_front, set_at, sets_at, sets_from, with_first_set}
use Rattle.cny_dep.proofs.Again.{flags_opens as flags_open}

-- one more than is left after this step
one_more : (n k : ℕ) → k < n → n - k ≡ suc (n - (k + 1))
one_more n k h = omega arith

none_left : (n k : ℕ) → n ≡ k → n - k ≡ zero
none_left n k h = omega arith

not_empty : (b : ℕ) (bs : List ℕ) → true ≡ (length (b ∷ bs) == 0) → ⊥
not_empty b bs h = grind (arith, nat_tests)

-- an error that comes where nothing is read comes where the whole isn't read
pub fails_along : {X Y : Type 0} (e : TextFault) (read : Option X) (whole : Option Y) → (read ≡ None → whole ≡ None) → Fails e read → Fails e whole
fails_along fault.Memory read whole along fails = tt
fails_along fault.Bad read whole along fails = along fails

-- ---- flags

with_front-push : (front : List FlavorFlag) (f : FlavorFlag) (read : Option (List FlavorFlag × List ℕ)) → with_front front (with_front (f ∷ []) read) ≡ with_front (front ++ f ∷ []) read
with_front-push front f None = refl
with_front-push front f (Some r) = ap (λ l. Some (l, r.1)) (sym (append_assoc front (f ∷ []) r.0))

-- the last flag
pub flags_end : (n k : ℕ) (front : List FlavorFlag) (bytes after : List ℕ) (f : FlavorFlag) → k < n → (f, after) ≡ flag_at bytes → None ≡ after_byte 44 after
    → with_front front (flags_at (n - k) bytes) ≡ Some (front ++ f ∷ [], after)
flags_end n k front bytes after f within is end =
    ap (λ m. with_front front (flags_at m bytes)) (one_more n k within)
    ∙ ap (with_front front) (flags_open (n - (k + 1)) bytes (f, after) None (sym is) (sym end))

-- a flag with a comma after it
pub flags_more : (n k : ℕ) (front : List FlavorFlag) (bytes after more : List ℕ) (f : FlavorFlag) → k < n → (f, after) ≡ flag_at bytes → Some more ≡ after_byte 44 after
    → with_front (front ++ f ∷ []) (flags_at (n - (k + 1)) (skip_spaces more)) ≡ with_front front (flags_at (n - k) bytes)
flags_more n k front bytes after more f within is then =
    sym (ap (λ m. with_front front (flags_at m bytes)) (one_more n k within)
    ∙ ap (with_front front) (flags_open (n - (k + 1)) bytes (f, after) (Some more) (sym is) (sym then))
    ∙ with_front-push front f (flags_at (n - (k + 1)) (skip_spaces more)))

pub no_flags_left : (n k : ℕ) (front : List FlavorFlag) (bytes : List ℕ) → n ≡ k → with_front front (flags_at (n - k) bytes) ≡ None
unfolding flags_at
no_flags_left n k front bytes h = ap (λ m. with_front front (flags_at m bytes)) (none_left n k h)

-- ---- sets

abbrev pub with_sets : List InstructionSet → Option (List InstructionSet) → Option (List InstructionSet)
with_sets front read = option_map (λ ss. front ++ ss) read

with_sets-push : (front : List InstructionSet) (s : InstructionSet) (read : Option (List InstructionSet)) → with_sets front (with_first_set s read) ≡ with_sets (front ++ s ∷ []) read
with_sets-push front s None = refl
with_sets-push front s (Some ss) = ap Some (sym (append_assoc front (s ∷ []) ss))

sets_open : (n : ℕ) (bytes after : List ℕ) (s : InstructionSet) (next : Option (List ℕ)) → set_at bytes ≡ Some (s, after) → after_byte 32 after ≡ next
    → sets_at (suc n) bytes ≡ sets_from s after (option_map (λ rest. sets_at n (skip_spaces rest)) next)
unfolding sets_at
sets_open n bytes after s next is then =
    ap (option_and_then (λ r. sets_from r.0 r.1 (option_map (λ rest. sets_at n (skip_spaces rest)) (after_byte 32 r.1)))) is
    ∙ ap (λ x. sets_from s after (option_map (λ rest. sets_at n (skip_spaces rest)) x)) then

-- no set can be read
pub set_bad : (n k : ℕ) (front : List InstructionSet) (bytes : List ℕ) → k < n → set_at bytes ≡ None → with_sets front (sets_at (n - k) bytes) ≡ None
unfolding sets_at
set_bad n k front bytes within bad = ap (λ m. with_sets front (sets_at m bytes)) (one_more n k within) ∙ ap (with_sets front) (opened (n - (k + 1)))
  where
    opened : (m : ℕ) → sets_at (suc m) bytes ≡ None
    opened m = ap (option_and_then (λ r. sets_from r.0 r.1 (option_map (λ rest. sets_at m (skip_spaces rest)) (after_byte 32 r.1)))) bad

-- the last set
pub sets_end : (n k : ℕ) (front : List InstructionSet) (bytes after : List ℕ) (s : InstructionSet) → k < n → set_at bytes ≡ Some (s, after) → true ≡ (length after == 0)
    → with_sets front (sets_at (n - k) bytes) ≡ Some (front ++ s ∷ [])
sets_end n k front bytes [] s within is end =
    ap (λ m. with_sets front (sets_at m bytes)) (one_more n k within)
    ∙ ap (with_sets front) (sets_open (n - (k + 1)) bytes [] s None is refl)
sets_end n k front bytes (b ∷ after) s within is end = absurd (not_empty b after end)

-- bytes after a set that aren't further sets
pub sets_bad : (n k : ℕ) (front : List InstructionSet) (bytes after : List ℕ) (s : InstructionSet) → k < n → set_at bytes ≡ Some (s, after) → false ≡ (length after == 0)
    → None ≡ after_byte 32 after → with_sets front (sets_at (n - k) bytes) ≡ None
sets_bad n k front bytes [] s within is more end = absurd (cc more)
sets_bad n k front bytes (b ∷ after) s within is more end =
    ap (λ m. with_sets front (sets_at m bytes)) (one_more n k within)
    ∙ ap (with_sets front) (sets_open (n - (k + 1)) bytes (b ∷ after) s None is (sym end))

-- a set with a space after it
pub sets_more : (n k : ℕ) (front : List InstructionSet) (bytes after more : List ℕ) (s : InstructionSet) → k < n → set_at bytes ≡ Some (s, after) → Some more ≡ after_byte 32 after
    → with_sets (front ++ s ∷ []) (sets_at (n - (k + 1)) (skip_spaces more)) ≡ with_sets front (sets_at (n - k) bytes)
sets_more n k front bytes [] more s within is then = absurd (cc then)
sets_more n k front bytes (b ∷ after) more s within is then =
    sym (ap (λ m. with_sets front (sets_at m bytes)) (one_more n k within)
    ∙ ap (with_sets front) (sets_open (n - (k + 1)) bytes (b ∷ after) s (Some more) is (sym then))
    ∙ with_sets-push front s (sets_at (n - (k + 1)) (skip_spaces more)))

pub no_sets_left : (n k : ℕ) (front : List InstructionSet) (bytes : List ℕ) → n ≡ k → with_sets front (sets_at (n - k) bytes) ≡ None
unfolding sets_at
no_sets_left n k front bytes h = ap (λ m. with_sets front (sets_at m bytes)) (none_left n k h)
