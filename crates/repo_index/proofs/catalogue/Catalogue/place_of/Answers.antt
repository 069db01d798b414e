use Rattle.std.proofs.Common.{subst}
use Rattle.trove_stream.specs.trove-parts.Id.{IsTroveId}
use Rattle.repo_index.proofs.Placing.{id_at, texts_at}
use Rattle.repo_index.proofs.catalogue.Catalogue.place_of.Goals as goal

pub returns-clause-place : goal.returns-clause-place
returns-clause-place c =
    id_at c.distinct_ids.ensures.equal c.args.self.now.troves c.args.id.now c.in-Some.place c.in-Some-trove_at.trove.now c.in-Some.ensures.place c.in-Some-trove_at.ensures
    (subst IsTroveId c.id.ensures.value c.is_valid-2.ensures) c.is_valid.ensures

pub returns-in_default-clause-only : goal.returns-in_default-clause-only
returns-in_default-clause-only c place is = c.in_default.ensures.only place (texts_at c.args.self.now.troves c.args.id.now place is)

pub returns-clause-only : goal.returns-clause-only
returns-clause-only c place is = c.in-Some.ensures.only place (texts_at c.args.self.now.troves c.args.id.now place is)
