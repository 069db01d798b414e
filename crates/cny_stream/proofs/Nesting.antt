-- The item that is left where its value was appended behind an open head.
use Rattle.std.proofs.Common.{◌≡◌, ℕ, ◌+◌, List, ◌++◌, length, take, drop, refl, arith}
use Rattle.std.proofs.lemmas.Grind.{common_steps}
use Rattle.cny_stream.specs.Item.{item_bytes}

pub closed : (tag at : ℕ) (out front head value : List ℕ) → length front ≡ at → length head ≡ 5 → out ≡ (front ++ head) ++ value
    → take at out ++ item_bytes tag (drop (at + 5) out) ≡ front ++ item_bytes tag value
closed tag at out front head value place five is =
    let before : take at out ≡ front = grind (arith, common_steps) in
    let behind : drop (at + 5) out ≡ value = grind (arith, common_steps) in
    rw (before, behind) refl
