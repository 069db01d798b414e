use Rattle.repo_index.proofs.LatestTrove.{for_one, latest_builds, latest_fits, latest_is}
use Rattle.repo_index.specs.Next.{latest_trove}
use Rattle.std.proofs.Common.{ap, ◌∙◌}
use Rattle.trove_stream.specs.trove-parts.declared.id.TroveId.{TroveId}
use Rattle.repo_index.proofs.latest.latest.Goals as goal

pub returns-in-Some-clause-value : goal.returns-in-Some-clause-value
returns-in-Some-clause-value c =
    latest_is (latest_trove c.args.id.now c.args.catalogue.now.troves) c.in-Some.trove.now c.revision.result.now c.in-Some.ensures
    (c.revision.ensures.value ∙ ap (λ (i : TroveId). i.version.revision) c.id.ensures.value)

pub returns-in-Some-clause-fits : goal.returns-in-Some-clause-fits
returns-in-Some-clause-fits c =
    for_one _ _ (latest_fits c.args.id.now c.args.catalogue.now.troves c.in-Some.trove.now c.in-Some.ensures c.distinct_texts.ensures.versions
    c.id.ensures.trove.lists.id.version c.text-version.ensures.version c.revision.result.now (c.revision.ensures.value ∙ ap (λ (i : TroveId). i.version.revision) c.id.ensures.value))

pub returns-in-Some-clause-build : goal.returns-in-Some-clause-build
returns-in-Some-clause-build c =
    for_one _ _ (latest_builds c.args.id.now c.args.catalogue.now.troves c.in-Some.trove.now c.in-Some.ensures
    c.id.ensures.trove.rules.build c.requires c.revision.result.now (c.revision.ensures.value ∙ ap (λ (i : TroveId). i.version.revision) c.id.ensures.value))
