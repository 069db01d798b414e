use Rattle.std.proofs.Common.{◌++◌}
use Rattle.repository.proofs.Making.{part_refused}
use Rattle.repository.proofs.parts.add_part.Goals as goal

pub returns-clause-refused : goal.returns-clause-refused
returns-clause-refused c =
    part_refused c.args.committed.now.troves (c.args.committed.now.troves ++ c.args.added.now.troves) c.args.part.now c.in_ok-trove.trove c.add_trove.result c.in_ok-trove.ensures.makes c.add_trove.ensures.refused
