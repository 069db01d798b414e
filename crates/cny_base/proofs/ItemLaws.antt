-- Shared lemmas: item laws.
use Rattle.std.proofs.Common.{arith}
use Rattle.std.specs.Prelude.{List, [], length, refl, ℕ, ◌++◌, ◌∷◌, ◌≡◌}

-- two fronts of one length
pub same_front : (a b r q : List ℕ) → length a ≡ length b → a ++ r ≡ b ++ q → (a ≡ b) × (r ≡ q)
same_front [] [] r q long e = (refl, e)
same_front [] (y ∷ b) r q long e = absurd (omega arith)
same_front (x ∷ a) [] r q long e = absurd (omega arith)
same_front (x ∷ a) (y ∷ b) r q long e =
    let first : x ≡ y = cc in
    let more : a ++ r ≡ b ++ q = cc in
    let rest = same_front a b r q (omega arith) more in
    let front = rest.0 in
    (cc, rest.1)
