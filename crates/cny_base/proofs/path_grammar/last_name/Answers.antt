use Rattle.std.proofs.Common.{subst, List, ℕ}
use Rattle.std.specs.Str.{IsCharBoundary}
use Rattle.cny_base.proofs.LastName.{name_boundary, name_cut}
use Rattle.cny_base.proofs.path_grammar.last_name.Goals as goal

pub range_from-requires : goal.range_from-requires
range_from-requires c h =
    let start = c.name_start-at.ensures in
    subst (λ (b : List ℕ). IsCharBoundary b c.name_start-at.result) c.as_bytes.ensures.value
    (name_boundary _ _ c.as_bytes.ensures.utf8 start.within start.slash h)

pub returns : goal.returns
returns c =
    let start = c.name_start-at.ensures in
    let cut = name_cut _ _ start.within start.no_slash start.slash in
    cc (c.range_from.ensures.value, cut, c.as_bytes.ensures.value)
