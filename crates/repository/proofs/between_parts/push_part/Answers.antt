use Rattle.std.specs.Option.{option_copied}
use Rattle.repository.proofs.Told.{part_valid, valid_push}
use Rattle.repository.proofs.between_parts.push_part.Goals as goal

pub returns-clause-valid : goal.returns-clause-valid
returns-clause-valid c = λ all.
    valid_push c.args.parts.now.items c.push.new.self.items c.in-Some.part c.in_ok-push.ensures.items
    (part_valid (option_copied c.trove_named-trove.result) c.args.fresh.now c.in-Some.part c.id.ensures.trove (rw c.in-Some.is at c.in_ok-part.ensures)) all
