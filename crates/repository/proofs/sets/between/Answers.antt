use Rattle.repository.proofs.BetweenCarrying.{has_contents}
use Rattle.repository.proofs.sets.between.Goals as goal

pub returns-clause-contents : goal.returns-clause-contents
returns-clause-contents g c =
    has_contents c.args.catalogue.now.troves c.args.old.now c.requires.old_committed c.troves-troves.ensures.distinct c.args.fresh.now c.in_ok-parts.parts c.in_ok-contents.contents
    c.requires.fresh_committed c.in_ok-parts.ensures.parts c.in_ok-contents.ensures.contents c.in_ok-contents.ensures.hashes
