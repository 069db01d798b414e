use Rattle.std.proofs.Common.{sym, subst}
use Rattle.change_set.specs.trove-stream.Installed.{IsRising}
use Rattle.update_job.proofs.Mapped.{values_rise}
use Rattle.update_job.proofs.by_name.in_order.Goals as goal

pub of_rising-requires : goal.of_rising-requires
of_rising-requires c = subst IsRising (sym c.in_ok-list.ensures) (values_rise c.args.troves c.requires.ordered c.requires.named)
