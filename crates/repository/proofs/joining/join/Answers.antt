use Rattle.std.proofs.Common.{◌≡◌, None, ◌∙◌, arith}
use Rattle.repo_index.specs.Catalogue.{found}
use Rattle.repository.proofs.Making.{never_there, new_at}
use Rattle.repository.proofs.joining.join.Goals as goal

pub unreachable-requires : goal.unreachable-requires
unreachable-requires c =
    let given = rw c.in-Err-Refused.field-0-is at c.in-Err-Refused.ensures.fault in
    let none : found c.in_ok-copy.field-0.id c.loop-trove.catalogue.troves ≡ None = (λ i. found (c.in_ok-copy.ensures i).id (c.loop-trove.invariant i).troves)
    ∙ new_at c.args.catalogue.now.troves c.args.troves.now c.loop-trove.trove-index c.trove-item.result c.requires.new_ids (omega arith) c.trove-item.is in
    never_there _ given.1 none
