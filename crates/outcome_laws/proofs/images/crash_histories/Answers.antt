use Rattle.std.proofs.Common.{◌≡◌, subst}
use Rattle.conary_cli.specs.cli-call.cny-laws.State.{State}
use Rattle.outcome_laws.specs.OnDisks.{Lead}
use Rattle.outcome_laws.proofs.CrashLeft.{weaker_left}
use Rattle.outcome_laws.proofs.OnDisks.{history_left, lead_folds}
use Rattle.outcome_laws.proofs.images.crash_histories.Goals as goal

pub returns-clause-left : goal.returns-clause-left
returns-clause-left g c events statuses root root' repo repo' s told far_told crashes happen =
    weaker_left g.T.TreeDisk.disk g.P.TreeDisk.disk (λ u led. subst (λ (t : State). Lead events statuses t u) led.1 led.2) root' repo'
    (history_left g.met.T.TreeDisk.laws g.met.P.TreeDisk.laws c.store_laws.ensures told far_told c.one_reading.ensures.calls events statuses (λ t. t ≡ s) root root' repo repo' crashes happen)

pub returns-clause-fold : goal.returns-clause-fold
returns-clause-fold g c = lead_folds
