-- Short paths.
use Rattle.cny_base.specs.Path.{is_path}
use Rattle.std.proofs.Common.{[], arith, true, ℕ, ◌∷◌, ◌≡◌}
use Rattle.std.proofs.lemmas.Bool.Decides.{nat_tests}

pub slash_first : (b : ℕ) → is_path (b ∷ []) ≡ true → b ≡ 47
slash_first b path = grind (arith, nat_tests)
