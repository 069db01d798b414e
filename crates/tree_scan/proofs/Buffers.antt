-- What a read leaves in a buffer.
use Rattle.std.proofs.Common.{◌≡◌, ℕ, ◌-◌, min, List, ◌++◌, length, take, drop, ◌∙◌, ap, arith}
use Rattle.std.proofs.lemmas.List.{length-take, length-drop, take_at}

-- the bytes that were read: as many as there were
pub read_count : (file old new : List ℕ) (at count : ℕ) → count ≡ min (length old) (length file - at) → new ≡ take count (drop at file) ++ drop count old
    → take count new ≡ take count (drop at file)
read_count file old new at count most is =
    ap (take count) is ∙ take_at (take count (drop at file)) (drop count old) count (length-take count (drop at file) ∙ short)
  where
    short : min count (length (drop at file)) ≡ count
    short = omega (arith, most, length-drop at file)
