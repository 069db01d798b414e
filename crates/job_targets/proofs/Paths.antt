-- Where saved contents stand.
use Rattle.std.proofs.Common.{ℕ, ◌≤◌, ◌<◌, ◌^◌, ◌∷◌, length, arith, length-append, lit<}
use Rattle.std.specs.Fmt.{decimal}
use Rattle.std.proofs.lemmas.Fmt.{length-decimal-le}
use Rattle.local_db.specs.cny-base.Reserved.{private_directory}
use Rattle.local_db.specs.Names.{saved}

pub saved_short : (n : ℕ) → n < 2 ^ 32 → length (saved n) ≤ 983
saved_short n small =
    let long = length-decimal-le 20 n (lit< tt) (omega (arith, small)) (omega (arith, small)) in
    omega (arith, long, length-append private_directory (47 ∷ 115 ∷ 46 ∷ decimal n))
