use Rattle.std.proofs.Common.{sym}
use Rattle.repository.specs.Outcome.{committed_contents}
use Rattle.outcome_laws.proofs.OpenedStates.{system_of, whole_contents}
use Rattle.outcome_laws.proofs.opened.opened_states.Goals as goal

pub returns : goal.returns
returns g c root root' repo repo' opened told are =
    let reads = g.T.TreeDisk.disk.reads root' in
    let made = system_of reads (g.met.T.TreeDisk.laws.reads_well_formed root') opened.db are.opens_root.rules in (
      record { root = made.system; repository = record { commits = are.rules.commits; contents = committed_contents opened.catalogue.troves (g.P.TreeDisk.disk.reads repo') } },
      record { system = made.is; outer = made.outer; database = made.database; catalogue = sym are.rules.is },
      whole_contents opened.catalogue.troves (g.P.TreeDisk.disk.reads repo'),
    )
