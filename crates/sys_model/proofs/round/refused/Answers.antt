use Rattle.repo_index.proofs.cny-base.Lists.{place_in}
use Rattle.update_job.proofs.Mapped.{one_named}
use Rattle.sys_model.proofs.round.refused.Goals as goal

pub unreachable-requires : goal.unreachable-requires
unreachable-requires c =
    let two = c.requires in
    let found = c.in-Ok.field-0 in
    let is = c.in-Ok.ensures.value in
    let one = place_in found two.trove (is.all two.trove two.there two.reached) in
    let other = place_in found two.other (is.all two.other two.there_too two.reached_too) in
    two.differ (one_named found c.in-Ok.ensures.names one.0 other.0 two.trove two.other one.2 other.2 two.one_name)
