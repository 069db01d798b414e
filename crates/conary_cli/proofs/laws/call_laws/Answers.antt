use Rattle.conary_cli.proofs.Calls.{some_status}
use Rattle.conary_cli.proofs.ProgramEnds.{something_status}
use Rattle.conary_cli.proofs.FormEnds.{form_decides}
use Rattle.conary_cli.proofs.laws.call_laws.Goals as goal

pub returns-clause-statuses : goal.returns-clause-statuses
returns-clause-statuses g c words before now err err' status is = something_status g.T.TreeDisk.disk g.P.TreeDisk.disk words before now err err' status is

pub returns-clause-lines : goal.returns-clause-lines
returns-clause-lines g c words before now err err' status is = some_status g.T.TreeDisk.disk g.P.TreeDisk.disk words before now err err' status is

pub returns-clause-form : goal.returns-clause-form
returns-clause-form g c k before now err err' status call =
    form_decides g.T.TreeDisk.disk g.P.TreeDisk.disk before now k err err' status call.call (record { set = c.unique_set.ensures; made = c.one_manifest.ensures.made; excluded = c.one_manifest.ensures.excluded })
