-- A path and a last name, joined, are a path where the last name is one or more parts and all isn't too long.
use Rattle.std.proofs.Common.{◌≡◌, ◌≢◌, ℕ, ◌+◌, Bool, true, false, ◌&&◌, ◌||◌, ◌==◌, nat_le, List, [], ◌∷◌, ◌++◌, length, refl, ap, ◌∙◌, arith, length-append}
use Rattle.std.specs.Cmp.{first_so}
use Rattle.cny_base.specs.Path.{is_path, are_parts, join}
use Rattle.cny_base.proofs.Joins.{not_zero}
use Rattle.cny_base.proofs.Parent.{after_slash, are_parts-append}

pub join_root : (path last : List ℕ) → is_path path ≡ true → length path ≡ 1
    → is_path (join path last) ≡ (length last == 0 || (nat_le (length last) 1023 && are_parts last))
join_root [] last is one = absurd (cc is)
join_root (b ∷ []) last is one =
    ap (λ v. v && (length last == 0 || (nat_le (length last) 1023 && are_parts last))) (first_so (b == 47) true is)
join_root (b ∷ c ∷ front) last is one = absurd (omega (arith, one))

both_tests : (slash empty short few own parts : Bool) → slash ≡ true → empty ≡ false → own ≡ true → short ≡ few
    → (slash && (empty || (short && (own && parts)))) ≡ (few && parts)
both_tests true false short few true parts is_slash some is_own same = ap (λ v. v && parts) same
both_tests true false short few false parts is_slash some is_own same = absurd (cc is_own)
both_tests true true short few own parts is_slash some is_own same = absurd (cc some)
both_tests false empty short few own parts is_slash some is_own same = absurd (cc is_slash)

pub join_below : (path last : List ℕ) → is_path path ≡ true → length path ≢ 1
    → is_path (join path last) ≡ (nat_le (length path + length last) 1023 && are_parts last)
join_below [] last is more = absurd (cc is)
join_below (b ∷ []) last is more = absurd (more refl)
join_below (b ∷ c ∷ front) last is more =
    let own = c ∷ front in
    let all = own ++ 47 ∷ last in
    let long : length all ≡ length own + length (47 ∷ last) = length-append own (47 ∷ last) in
    let after = after_slash (b == 47) (length own == 0) (nat_le (length own) 1023) (are_parts own) (not_zero (length front)) is in
    let same : nat_le (length all) 1023 ≡ nat_le (length (b ∷ own) + length last) 1023 = ap (λ (n : ℕ). nat_le n 1023) (omega (arith, long)) in
    let empty : (length all == 0) ≡ false = not_zero (length (front ++ 47 ∷ last)) in
    ap (λ v. b == 47 && (length all == 0 || (nat_le (length all) 1023 && v))) (are_parts-append own last)
    ∙ both_tests (b == 47) (length all == 0) (nat_le (length all) 1023) (nat_le (length (b ∷ own) + length last) 1023) (are_parts own) (are_parts last)
    (first_so (b == 47) (length own == 0 || (nat_le (length own) 1023 && are_parts own)) is) empty after.1 same
