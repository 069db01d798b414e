use Rattle.std.proofs.Common.{true, false, [], ◌∷◌, Contains}
use Rattle.conary_cli.specs.Commands.{meaning, scope_of}
use Rattle.conary_cli.specs.Several.{AreBatchLines, AreDemoLines}
use Rattle.change_rel.proofs.cny-base.Lists.{contains_first}
use Rattle.outcome_laws.proofs.CountedLines.{run_counted}
use Rattle.outcome_laws.proofs.CrashLeft.{call_left, call_rests, crash_left, edit_left, edit_logged, rest_left}
use Rattle.outcome_laws.proofs.images.crash_images.Goals as goal

pub returns-clause-call : goal.returns-clause-call
returns-clause-call g c states k before now err err' status told far_told crashes call =
    call_left g.met.T.TreeDisk.laws g.met.P.TreeDisk.laws told far_told states (meaning k) call.input before now call.end crashes (call.from told far_told)

pub returns-clause-rest : goal.returns-clause-rest
returns-clause-rest g c m s rests = rest_left g.T.TreeDisk.disk g.P.TreeDisk.disk c.store_laws.ensures (Contains (s ∷ [])) m s (contains_first s []) rests

pub returns-clause-crash : goal.returns-clause-crash
returns-clause-crash g c states root root' repo repo' crashed far_crashed crashes = crash_left g.T.TreeDisk.disk g.P.TreeDisk.disk (Contains states) root root' repo repo' crashed far_crashed crashes

pub returns-clause-edit : goal.returns-clause-edit
returns-clause-edit g c states e root root' repo edit has clear crashes = edit_left g.T.TreeDisk.disk g.P.TreeDisk.disk g.met.T.TreeDisk.laws e root root' repo edit has states crashes clear

pub returns-clause-settled : goal.returns-clause-settled
returns-clause-settled g c k before now err err' status told far_told call s f small =
    call_rests g.T.TreeDisk.disk g.P.TreeDisk.disk c.store_laws.ensures told far_told (scope_of k) (meaning k) call.input before now call.end s call.reaches f small

pub returns-clause-batch : goal.returns-clause-batch
returns-clause-batch g c before now err err' status run told far_told s both =
    run_counted g.met.T.TreeDisk.laws g.met.P.TreeDisk.laws c.store_laws.ensures told far_told true AreBatchLines before now err err' status run s both

pub returns-clause-demo : goal.returns-clause-demo
returns-clause-demo g c packages before now err err' status run told far_told s both =
    run_counted g.met.T.TreeDisk.laws g.met.P.TreeDisk.laws c.store_laws.ensures told far_told false (AreDemoLines packages) before now err err' status run s both

pub returns-clause-edit_logged : goal.returns-clause-edit_logged
returns-clause-edit_logged g c states e puts root root' repo edit has set holds can crashes =
    edit_logged g.T.TreeDisk.disk g.P.TreeDisk.disk g.met.T.TreeDisk.laws e root root' repo edit has states puts crashes set holds can
