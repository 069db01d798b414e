use Rattle.std.proofs.Common.{◌≡◌, ℕ, suc, ◌<◌, true, nat_lt, List, [], ◌∷◌, get_or, refl, arith}
use Rattle.std.proofs.lemmas.Bool.Decides.{nat_tests}
use Rattle.std.specs.List.{list_all}
use Rattle.tree_disk.specs.Tree.{is_byte}
use Rattle.cny_base.proofs.Bools.{both}
use Rattle.tree_disk.proofs.ranges.byte_ranges.Goals as goal

all_bytes : (bytes : List ℕ) → ((i : ℕ) → get_or bytes i 0 < 256) → list_all is_byte bytes ≡ true
all_bytes [] fits = refl
all_bytes (b ∷ bs) fits = let small : b < 256 = fits 0 in both (nat_lt b 256) (list_all is_byte bs) (grind (arith, nat_tests)) (all_bytes bs (λ i. fits (suc i)))

pub returns : goal.returns
returns c = all_bytes c.args.bytes.now (λ i. omega (arith, c.type_inv.bytes i))
