use Rattle.std.proofs.Common.{◌∙◌, ap, ◌++◌, ◌∷◌, []}
use Rattle.tree_nodes.proofs.Between.{forward_at, prefix_at}
use Rattle.tree_nodes.proofs.below.entries_with_prefix.Goals as goal

pub range-requires : goal.range-requires
range-requires c =
    forward_at c.args.dir.now c.in_ok-lower.lower c.in_ok-upper.upper
    (c.in_ok-lower.ensures ∙ ap (λ f. f ++ 47 ∷ []) c.front-front.ensures) (c.in_ok-upper.ensures ∙ ap (λ f. f ++ 48 ∷ []) c.front-front.ensures)

pub returns-clause-entries : goal.returns-clause-entries
returns-clause-entries c =
    c.range.ensures.between tt
    ∙ prefix_at c.args.dir.now c.in_ok-lower.lower c.in_ok-upper.upper
    (c.in_ok-lower.ensures ∙ ap (λ f. f ++ 47 ∷ []) c.front-front.ensures) (c.in_ok-upper.ensures ∙ ap (λ f. f ++ 48 ∷ []) c.front-front.ensures)
    c.args.nodes.now.entries
