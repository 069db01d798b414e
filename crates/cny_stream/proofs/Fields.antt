-- Fields of records: flags, numbers and strs, read and written.
use Rattle.std.proofs.Common.{◌≡◌, ℕ, ◌^◌, ◌<◌, ◌≤◌, Bool, true, false, cond, zero, suc, List, [], ◌∷◌, ◌++◌, length, take, drop, nat_le, ◌&&◌, Option, Some, None, refl, sym, ap, ◌∙◌, subst, arith, inl, inr, ◌⊎◌}
use Rattle.std.specs.Cmp.{first_so, second_so}
use Rattle.std.specs.Cmp.Derive.{both_true}
use Rattle.std.specs.Int.{w16, to_be_bytes, from_be_bytes}
use Rattle.std.proofs.Math.Seq.{take-append_seam, drop-append_seam}
use Rattle.std.proofs.lemmas.List.{take-append-drop, length-take, length-take-le, length-append, append_assoc}
use Rattle.std.proofs.lemmas.Nat.{be_bytes_2, from_be_bytes-to_be_bytes_2}
use Rattle.cny_base.specs.StrField.{FitsStr, str}
use Rattle.cny_stream.specs.declared.record.Flags.{Flags}
use Rattle.cny_stream.specs.Record.{flag_bits}
use Rattle.cny_stream.specs.Reading.{flags_of, str_front}
use Rattle.cny_base.proofs.StrFields.{IsBytes, drop_bytes, take_bytes, head_below as two_below}
use Rattle.cny_base.proofs.Counts.{at_most, is_at_most as most_at}

-- a value that stands behind a test
pub guarded : {A : Type 0} (b : Bool) (x y : A) → cond b (Some x) None ≡ Some y → (b ≡ true) × (x ≡ y)
guarded true x y e = (refl, cc)
guarded false x y e = absurd (cc)

-- which of two ways a choice went
pub chosen : {A : Type 0} (b : Bool) (x y z : A) → cond b x y ≡ z → ((b ≡ true) × (x ≡ z)) ⊎ ((b ≡ false) × (y ≡ z))
chosen true x y z e = inl (refl, e)
chosen false x y z e = inr (refl, e)

pub no_bytes : (bytes : List ℕ) → length bytes ≡ 0 → bytes ≡ []
no_bytes [] is = refl
no_bytes (b ∷ bytes) is = absurd (omega arith)

-- ---- flags

pub bits_again : (flags : Flags) → (nat_le (flag_bits flags) 7 ≡ true) × (flags_of (flag_bits flags) ≡ flags)
bits_again flags = by flags.config flags.initial flags.transient
  where
    by : (config initial transient : Bool) → let made : Flags = record { config = config; initial = initial; transient = transient } in (nat_le (flag_bits made) 7 ≡ true) × (flags_of (flag_bits made) ≡ made)
    by true true true = (refl, refl)
    by true true false = (refl, refl)
    by true false true = (refl, refl)
    by true false false = (refl, refl)
    by false true true = (refl, refl)
    by false true false = (refl, refl)
    by false false true = (refl, refl)
    by false false false = (refl, refl)

pub bits_taken : (bits : ℕ) → bits ≤ 7 → flag_bits (flags_of bits) ≡ bits
bits_taken zero small = refl
bits_taken (suc zero) small = refl
bits_taken (suc (suc zero)) small = refl
bits_taken (suc (suc (suc zero))) small = refl
bits_taken (suc (suc (suc (suc zero)))) small = refl
bits_taken (suc (suc (suc (suc (suc zero))))) small = refl
bits_taken (suc (suc (suc (suc (suc (suc zero)))))) small = refl
bits_taken (suc (suc (suc (suc (suc (suc (suc zero))))))) small = refl
bits_taken (suc (suc (suc (suc (suc (suc (suc (suc bits)))))))) small = absurd (omega arith)

-- ---- numbers

-- ---- a str at the front

-- what was found at the front: a value that fits, spelled so, and bytes behind it
pub record IsFront (bytes value rest : List ℕ) : Type 0 where
  pub fits : FitsStr value
  pub spelled : bytes ≡ str value ++ rest
  pub behind : IsBytes rest

pub front_taken : (bytes value rest : List ℕ) → IsBytes bytes → str_front bytes ≡ Some (value, rest) → IsFront bytes value rest
front_taken bytes value rest fits e =
    let n : ℕ = from_be_bytes w16 (take 2 bytes) in
    let more : List ℕ = drop 2 bytes in
    let found = guarded (nat_le 2 (length bytes) && nat_le n (length more)) (take n more, drop n more) (value, rest) e in
    let long : 2 ≤ length bytes = at_most 2 (length bytes) (first_so (nat_le 2 (length bytes)) (nat_le n (length more)) found.0) in
    let enough : n ≤ length more = at_most n (length more) (second_so (nat_le 2 (length bytes)) (nat_le n (length more)) found.0) in
    let is_value : take n more ≡ value = ap (λ (p : List ℕ × List ℕ). p.0) found.1 in
    let is_rest : drop n more ≡ rest = ap (λ (p : List ℕ × List ℕ). p.1) found.1 in
    let len : length value ≡ n = sym (ap length is_value) ∙ length-take-le n more enough in
    let below : n < 2 ^ 16 = two_below (take 2 bytes) (take_bytes 2 bytes fits) in
    let told : to_be_bytes w16 (length value) ≡ take 2 bytes = be_bytes_2 (take 2 bytes) (length value) (omega (arith, length-take 2 bytes)) (take_bytes 2 bytes fits) len in
    record {
      fits = omega arith;
      spelled =
          sym (take-append-drop 2 bytes) ∙ ap (λ l. take 2 bytes ++ l) (sym (take-append-drop n more))
          ∙ ap (λ l. take 2 bytes ++ (l ++ drop n more)) is_value ∙ ap (λ l. take 2 bytes ++ (value ++ l)) is_rest
          ∙ ap (λ l. l ++ (value ++ rest)) (sym told) ∙ sym (append_assoc (to_be_bytes w16 (length value)) value rest);
      behind = subst IsBytes is_rest (drop_bytes n more (drop_bytes 2 bytes fits));
    }

pub front_again : (value rest : List ℕ) → FitsStr value → str_front (str value ++ rest) ≡ Some (value, rest)
front_again value rest fits =
    let bytes : List ℕ = str value ++ rest in
    let len : from_be_bytes w16 (take 2 bytes) ≡ length value = from_be_bytes-to_be_bytes_2 (length value) fits in
    let tests : (nat_le 2 (length bytes) && nat_le (from_be_bytes w16 (take 2 bytes)) (length (value ++ rest))) ≡ true =
    both_true (most_at 2 (length bytes) (omega arith)) (most_at (from_be_bytes w16 (take 2 bytes)) (length (value ++ rest)) (omega (arith, len, length-append value rest))) in
    ap (λ b. cond b (Some (take (from_be_bytes w16 (take 2 bytes)) (value ++ rest), drop (from_be_bytes w16 (take 2 bytes)) (value ++ rest))) None) tests
    ∙ ap (λ (n : ℕ). Some (take n (value ++ rest), drop n (value ++ rest))) len
    ∙ ap (λ l. Some (l, drop (length value) (value ++ rest))) (take-append_seam value rest) ∙ ap (λ l. Some (value, l)) (drop-append_seam value rest)

pub no_front : (bytes : List ℕ) (found : Option (List ℕ × List ℕ)) → str_front bytes ≡ found → IsBytes bytes
    → ((value rest : List ℕ) → FitsStr value → bytes ≡ str value ++ rest → ⊥) → str_front bytes ≡ None
no_front bytes None is fits never = is
no_front bytes (Some found) is fits never =
    let taken = front_taken bytes found.0 found.1 fits is in
    absurd (never found.0 found.1 taken.fits taken.spelled)
