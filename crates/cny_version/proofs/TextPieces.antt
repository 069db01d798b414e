-- A text cut at a byte.
use Rattle.std.proofs.Common.{◌≡◌, ◌≢◌, ℕ, ◌<◌, suc, Bool, true, false, cond, not, eqb, List, [], ◌∷◌, ◌++◌, length, get_or, Option, Some, None, MatchOption, Bor, refl, sym, ap, ◌∙◌, subst, arith}
use Rattle.std.specs.List.{list_all}
use Rattle.std.specs.Option.{option_map}
use Rattle.std.specs.Cmp.{first_so, second_so}
use Rattle.std.proofs.lemmas.Bool.{not-true, ne_eqb, and_from, eqb-true, eq-eqb}
use Rattle.std.proofs.lemmas.Str.Pattern.{IsSplitOnceResult, split_parts}
use Rattle.cny_version.specs.Reading.{cut, pieces}

-- no such byte is among these
abbrev pub is_free : ℕ → List ℕ → Bool
is_free c bytes = list_all (λ b. not (eqb b c)) bytes

same_byte : (c : ℕ) → eqb c c ≡ true
same_byte c = eq-eqb c c refl

other_byte : (c b : ℕ) (bytes : List ℕ) → is_free c (b ∷ bytes) ≡ true → eqb b c ≡ false
other_byte c b bytes free = not-true (eqb b c) (first_so (not (eqb b c)) (is_free c bytes) free)

free_rest : (c b : ℕ) (bytes : List ℕ) → is_free c (b ∷ bytes) ≡ true → is_free c bytes ≡ true
free_rest c b bytes free = second_so (not (eqb b c)) (is_free c bytes) free

pub cut_at : (c : ℕ) (xs ys : List ℕ) → is_free c xs ≡ true → cut c (xs ++ c ∷ ys) ≡ Some (xs, ys)
cut_at c [] ys free = ap (λ t. cond t (Some ([], ys)) (option_map (λ p. (c ∷ p.0, p.1)) (cut c ys))) (same_byte c)
cut_at c (b ∷ xs) ys free =
    ap (λ t. cond t (Some ([], xs ++ c ∷ ys)) (option_map (λ p. (b ∷ p.0, p.1)) (cut c (xs ++ c ∷ ys)))) (other_byte c b xs free)
    ∙ ap (λ o. option_map (λ p. (b ∷ p.0, p.1)) o) (cut_at c xs ys (free_rest c b xs free))

pub cut_free : (c : ℕ) (xs : List ℕ) → is_free c xs ≡ true → cut c xs ≡ None
cut_free c [] free = refl
cut_free c (b ∷ xs) free =
    ap (λ t. cond t (Some ([], xs)) (option_map (λ p. (b ∷ p.0, p.1)) (cut c xs))) (other_byte c b xs free)
    ∙ ap (λ o. option_map (λ p. (b ∷ p.0, p.1)) o) (cut_free c xs (free_rest c b xs free))

pub pieces_at : (c : ℕ) (xs ys : List ℕ) → is_free c xs ≡ true → pieces c (xs ++ c ∷ ys) ≡ xs ∷ pieces c ys
pieces_at c [] ys free = rw (same_byte c) refl
pieces_at c (b ∷ xs) ys free = rw (other_byte c b xs free, pieces_at c xs ys (free_rest c b xs free)) refl

pub pieces_free : (c : ℕ) (xs : List ℕ) → is_free c xs ≡ true → pieces c xs ≡ xs ∷ []
pieces_free c [] free = refl
pieces_free c (b ∷ xs) free = rw (other_byte c b xs free, pieces_free c xs (free_rest c b xs free)) refl

-- ---- what a cut says of the text

pub record IsCut (c : ℕ) (text before after : List ℕ) : Type 0 where
  pub whole : text ≡ before ++ c ∷ after
  pub free : is_free c before ≡ true

abbrev IsCutBy : ℕ → List ℕ → Option (List ℕ × List ℕ) → Type 0
IsCutBy c text found = MatchOption found (is_free c text ≡ true) (λ p. IsCut c text p.0 p.1)

longer_cut : (c b : ℕ) (text : List ℕ) → eqb b c ≡ false → (found : Option (List ℕ × List ℕ)) → IsCutBy c text found
    → IsCutBy c (b ∷ text) (option_map (λ p. (b ∷ p.0, p.1)) found)
longer_cut c b text other None free = and_from (not (eqb b c)) (is_free c text) (ap not other) free
longer_cut c b text other (Some p) is = record { whole = ap (λ l. b ∷ l) is.whole; free = and_from (not (eqb b c)) (is_free c p.0) (ap not other) is.free }

cut_here : (c b : ℕ) (text : List ℕ) (t : Bool) → eqb b c ≡ t → IsCutBy c text (cut c text)
    → IsCutBy c (b ∷ text) (cond t (Some ([], text)) (option_map (λ p. (b ∷ p.0, p.1)) (cut c text)))
cut_here c b text true is more = record { whole = ap (λ (n : ℕ). n ∷ text) (eqb-true b c is); free = refl }
cut_here c b text false is more = longer_cut c b text is (cut c text) more

pub cut_cases : (c : ℕ) (text : List ℕ) → IsCutBy c text (cut c text)
cut_cases c [] = refl
cut_cases c (b ∷ text) = cut_here c b text (eqb b c) refl (cut_cases c text)

pub cut_some : (c : ℕ) (text before after : List ℕ) → cut c text ≡ Some (before, after) → IsCut c text before after
cut_some c text before after found = let P : Option (List ℕ × List ℕ) → Type 0 = IsCutBy c text in subst P found (cut_cases c text)

-- ---- what `split_once` gives

free_by_index : (c : ℕ) (bytes : List ℕ) → ((i : ℕ) → i < length bytes → get_or bytes i 0 ≢ c) → is_free c bytes ≡ true
free_by_index c [] none = refl
free_by_index c (b ∷ bytes) none =
    and_from (not (eqb b c)) (is_free c bytes) (ap not (ne_eqb b c (none 0 (omega arith))))
    (free_by_index c bytes (λ i within. none (suc i) (omega arith)))

pub record SplitsOnce (c : ℕ) (text : List ℕ) (r : Option (Bor (List ℕ) × Bor (List ℕ))) : Type 0 where
  pub cut : option_map (λ (parts : Bor (List ℕ) × Bor (List ℕ)). (parts.0.now, parts.1.now)) r ≡ cut c text
  pub pieces : MatchOption r (pieces c text ≡ text ∷ []) (λ parts. pieces c text ≡ parts.0.now ∷ pieces c parts.1.now)

pub split_once_is : (c : ℕ) (text : List ℕ) (r : Option (Bor (List ℕ) × Bor (List ℕ))) → IsSplitOnceResult c text r → c < 128 → SplitsOnce c text r
split_once_is c text r is ascii = at r (split_parts c text r is ascii)
  where
    at : (r : Option (Bor (List ℕ) × Bor (List ℕ)))
        → MatchOption r ((i : ℕ) → i < length text → get_or text i 0 ≢ c) (λ x. (text ≡ x.0.now ++ c ∷ x.1.now) × ((i : ℕ) → i < length x.0.now → get_or x.0.now i 0 ≢ c))
        → SplitsOnce c text r
    at None none = let free = free_by_index c text none in record { cut = sym (cut_free c text free); pieces = pieces_free c text free }
    at (Some x) found =
        let free = free_by_index c x.0.now found.1 in
        record {
          cut = sym (ap (cut c) found.0 ∙ cut_at c x.0.now x.1.now free);
          pieces = ap (pieces c) found.0 ∙ pieces_at c x.0.now x.1.now free;
        }
