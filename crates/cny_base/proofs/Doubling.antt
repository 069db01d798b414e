-- Shared lemmas: doubling.
use Rattle.std.proofs.Common.{Bool, false, refl, true, ◌&&◌, ◌≡◌}

pub both : (a b : Bool) → (a && b) ≡ true → (a ≡ true) × (b ≡ true)
both true b e = (refl, e)
both false b e = absurd cc
