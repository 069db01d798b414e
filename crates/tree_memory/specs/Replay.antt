-- A list of changes, taken whole.
use Rattle.std.specs.Prelude.{◌≡◌, List, [], ◌∷◌, length, take, refl}
use Rattle.std.proofs.Common.{ap}
use Rattle.tree_memory.specs.declared.change.Change.{Change}

pub take_whole : (changes : List Change) → take (length changes) changes ≡ changes
take_whole [] = refl
take_whole (c ∷ changes) = ap (λ l. c ∷ l) (take_whole changes)
