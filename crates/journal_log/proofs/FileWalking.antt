-- The heads of items lead to the end of bytes, or they don't.
use Rattle.std.proofs.Common.{◌≡◌, ◌⊎◌, inl, inr, ℕ, zero, suc, ◌+◌, ◌<◌, ◌≤◌, Bool, true, false, ◌&&◌, cond, nat_lt, List, [], ◌∷◌, length, take, drop, Some, None, refl, sym, ap, ◌∙◌, arith}
use Rattle.std.specs.Int.{w32, from_be_bytes}
use Rattle.std.proofs.lemmas.Bool.Decides.{nat_tests}
use Rattle.cny_stream.specs.Item.{is_expected}
use Rattle.journal_log.specs.Walk.{are_items, item_size, size_in}

-- ---- skipped bytes

pub too_few : (tags : List ℕ) (n : ℕ) (bytes : List ℕ) → length bytes < n → are_items tags n bytes ≡ false
too_few tags zero bytes short = absurd (omega (arith, short))
too_few tags (suc n) [] short = refl
too_few tags (suc n) (b ∷ bytes) short = too_few tags n bytes (omega (arith, short))

pub all_skipped : (tags bytes : List ℕ) → are_items tags (length bytes) bytes ≡ true
all_skipped tags [] = refl
all_skipped tags (b ∷ bytes) = all_skipped tags bytes

pub skipped : (tags : List ℕ) (a n : ℕ) (bytes : List ℕ) → a ≤ length bytes → are_items tags (a + n) bytes ≡ are_items tags n (drop a bytes)
skipped tags zero n bytes le = let same : zero + n ≡ n = omega arith in ap (λ (k : ℕ). are_items tags k bytes) same
skipped tags (suc a) n [] le = absurd (omega (arith, le))
skipped tags (suc a) n (b ∷ bytes) le =
    let same : suc a + n ≡ suc (a + n) = omega arith in
    ap (λ (k : ℕ). are_items tags k (b ∷ bytes)) same ∙ skipped tags a n bytes (omega (arith, le))

-- ---- one item

is_less : (a b : ℕ) → nat_lt a b ≡ true → a < b
is_less a b h = grind (arith, nat_tests)

some_size : (e short : Bool) (m n : ℕ) → cond e (cond short None (Some m)) None ≡ Some n → (e ≡ true) × (short ≡ false) × (m ≡ n)
some_size true true m n is = absurd (cc is)
some_size true false m n is = (refl, refl, cc is)
some_size false short m n is = absurd (cc is)

no_size : (e short : Bool) (m : ℕ) → cond e (cond short None (Some m)) None ≡ None → (e ≡ false) ⊎ (short ≡ true)
no_size true true m is = inr refl
no_size true false m is = absurd (cc is)
no_size false short m is = inl refl

and_false : (e b : Bool) → b ≡ false → (e && b) ≡ false
and_false true b is = is
and_false false b is = refl

and_true : (e b : Bool) → e ≡ true → (e && b) ≡ b
and_true true b is = refl
and_true false b is = absurd (cc is)

false_and : (e b : Bool) → e ≡ false → (e && b) ≡ false
false_and true b is = absurd (cc is)
false_and false b is = refl

pub one_leads : (tags bytes : List ℕ) (n : ℕ) → item_size tags (length bytes) (take 5 bytes) ≡ Some n → are_items tags 0 bytes ≡ are_items tags n bytes
one_leads tags [] n is = absurd (cc is)
one_leads tags (t ∷ []) n is = absurd (cc is)
one_leads tags (t ∷ a ∷ []) n is = absurd (cc is)
one_leads tags (t ∷ a ∷ b ∷ []) n is = absurd (cc is)
one_leads tags (t ∷ a ∷ b ∷ c ∷ []) n is = absurd (cc is)
one_leads tags (t ∷ a ∷ b ∷ c ∷ d ∷ bytes) n is =
    let v : ℕ = from_be_bytes w32 (a ∷ b ∷ c ∷ d ∷ []) in
    let behind : List ℕ = a ∷ b ∷ c ∷ d ∷ bytes in
    let met = some_size (is_expected tags t) (nat_lt (length (t ∷ behind)) (5 + v)) (5 + v) n is in
    let long : suc (4 + v) ≡ n = omega (arith, met.2) in
    and_true (is_expected tags t) (are_items tags (4 + v) behind) met.0 ∙ ap (λ (k : ℕ). are_items tags k (t ∷ behind)) long

pub none_leads : (tags bytes : List ℕ) → 0 < length bytes → item_size tags (length bytes) (take 5 bytes) ≡ None → are_items tags 0 bytes ≡ false
none_leads tags [] some is = absurd (omega (arith, some))
none_leads tags (t ∷ []) some is =
    let v : ℕ = from_be_bytes w32 [] in
    and_false (is_expected tags t) (are_items tags (4 + v) []) (too_few tags (4 + v) [] (omega arith))
none_leads tags (t ∷ a ∷ []) some is =
    let v : ℕ = from_be_bytes w32 (a ∷ []) in
    and_false (is_expected tags t) (are_items tags (4 + v) (a ∷ [])) (too_few tags (4 + v) (a ∷ []) (omega arith))
none_leads tags (t ∷ a ∷ b ∷ []) some is =
    let v : ℕ = from_be_bytes w32 (a ∷ b ∷ []) in
    and_false (is_expected tags t) (are_items tags (4 + v) (a ∷ b ∷ [])) (too_few tags (4 + v) (a ∷ b ∷ []) (omega arith))
none_leads tags (t ∷ a ∷ b ∷ c ∷ []) some is =
    let v : ℕ = from_be_bytes w32 (a ∷ b ∷ c ∷ []) in
    and_false (is_expected tags t) (are_items tags (4 + v) (a ∷ b ∷ c ∷ [])) (too_few tags (4 + v) (a ∷ b ∷ c ∷ []) (omega arith))
none_leads tags (t ∷ a ∷ b ∷ c ∷ d ∷ bytes) some is = by (no_size (is_expected tags t) (nat_lt (length (t ∷ behind)) (5 + v)) (5 + v) is)
  where
    v : ℕ
    v = from_be_bytes w32 (a ∷ b ∷ c ∷ d ∷ [])

    behind : List ℕ
    behind = a ∷ b ∷ c ∷ d ∷ bytes

    by : (is_expected tags t ≡ false) ⊎ (nat_lt (length (t ∷ behind)) (5 + v) ≡ true) → (is_expected tags t && are_items tags (4 + v) behind) ≡ false
    by (inl other) = false_and (is_expected tags t) (are_items tags (4 + v) behind) other
    by (inr short) = and_false (is_expected tags t) (are_items tags (4 + v) behind) (too_few tags (4 + v) behind (let less = is_less (length (t ∷ behind)) (5 + v) short in omega (arith, less)))

-- ---- at a place

pub at_place : (tags : List ℕ) (at : ℕ) (bytes : List ℕ) → at ≤ length bytes → are_items tags at bytes ≡ are_items tags 0 (drop at bytes)
at_place tags at bytes le = let same : at ≡ at + 0 = omega arith in ap (λ (k : ℕ). are_items tags k bytes) same ∙ skipped tags at 0 bytes le

pub item_leads : (tags : List ℕ) (at n : ℕ) (bytes : List ℕ) → at ≤ length bytes → size_in tags at bytes ≡ Some n → are_items tags at bytes ≡ are_items tags (at + n) bytes
item_leads tags at n bytes le is = at_place tags at bytes le ∙ one_leads tags (drop at bytes) n is ∙ sym (skipped tags at n bytes le)

pub item_lacks : (tags : List ℕ) (at : ℕ) (bytes : List ℕ) → at ≤ length bytes → 0 < length (drop at bytes) → size_in tags at bytes ≡ None → are_items tags at bytes ≡ false
item_lacks tags at bytes le some is = at_place tags at bytes le ∙ none_leads tags (drop at bytes) some is
