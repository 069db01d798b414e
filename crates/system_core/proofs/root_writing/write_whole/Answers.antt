use Rattle.system_core.proofs.StagedWrites.{confines, may, moments, rests, shows, stops}
use Rattle.system_core.proofs.Written.{all_written, not_put, nothing_done, nothing_written, goes_on, put_on}
use Rattle.system_core.proofs.root_writing.write_whole.Goals as goal

pub apply-requires-clause-told : goal.apply-requires-clause-told
apply-requires-clause-told g c tells = rw c.in_ok-base.ensures (may g.T.TreeDisk.disk c.args.puts.now g.whole c.args.root.now (c.requires.1.0 tells) (c.requires.1.1 tells))

pub returns-in_err-base-clause-put : goal.returns-in_err-base-clause-put
returns-in_err-base-clause-put g c tells = not_put _ _ c.from_residual.result c.from_residual.ensures.1

pub returns-clause-put : goal.returns-clause-put
returns-clause-put g c tells =
    let is = c.in_ok-base.ensures in
    put_on g.T.TreeDisk.disk g.whole c.args.root.now (c.requires.1.0 tells) c.apply.new.disk c.apply.result (rests g.T.TreeDisk.disk c.args.puts.now g.whole c.args.root.now (c.requires.1.0 tells) (c.requires.1.1 tells) c.apply.new.disk c.apply.result (rw is at (c.apply.ensures.applied tells)))

pub returns-in_err-base-clause-goes : goal.returns-in_err-base-clause-goes
returns-in_err-base-clause-goes g c tells f kind s t stores settled after =
    nothing_done g.met.T.TreeDisk.laws g.whole c.args.root.now (c.requires.1.0 tells) f kind s t stores settled after _ c.from_residual.result c.from_residual.ensures.1

pub returns-clause-goes : goal.returns-clause-goes
returns-clause-goes g c tells f kind s t stores settled after =
    let is = c.in_ok-base.ensures in
    goes_on g.met.T.TreeDisk.laws g.whole c.args.root.now (c.requires.1.0 tells) f kind s t stores settled after c.apply.new.disk
    (moments g.T.TreeDisk.disk c.args.puts.now g.whole c.args.root.now (c.requires.1.0 tells) (c.requires.1.1 tells) c.apply.new.disk (rw is at (c.apply.ensures.any_moment tells)))
    (confines g.T.TreeDisk.disk c.args.puts.now g.whole c.args.root.now (c.requires.1.0 tells) (c.requires.1.1 tells) c.apply.new.disk (rw is at (c.apply.ensures.confined tells)))
    (shows g.T.TreeDisk.disk c.args.puts.now g.whole c.args.root.now (c.requires.1.0 tells) (c.requires.1.1 tells) c.apply.new.disk (rw is at (c.apply.ensures.visible tells)))
    c.apply.result
    (rests g.T.TreeDisk.disk c.args.puts.now g.whole c.args.root.now (c.requires.1.0 tells) (c.requires.1.1 tells) c.apply.new.disk c.apply.result (rw is at (c.apply.ensures.applied tells)))
    (stops g.T.TreeDisk.disk c.args.puts.now g.whole c.args.root.now (c.requires.1.0 tells) (c.requires.1.1 tells) c.apply.new.disk c.apply.result (rw is at (c.apply.ensures.stopped tells)))

pub returns-in_err-base-clause-writes : goal.returns-in_err-base-clause-writes
returns-in_err-base-clause-writes g c tells = nothing_written g.met.T.TreeDisk.laws g.whole c.args.root.now (c.requires.1.0 tells)

pub returns-clause-writes : goal.returns-clause-writes
returns-clause-writes g c tells =
    let is = c.in_ok-base.ensures in
    all_written g.met.T.TreeDisk.laws g.whole c.args.root.now (c.requires.1.0 tells) c.apply.new.disk
    (moments g.T.TreeDisk.disk c.args.puts.now g.whole c.args.root.now (c.requires.1.0 tells) (c.requires.1.1 tells) c.apply.new.disk (rw is at (c.apply.ensures.any_moment tells)))
    (confines g.T.TreeDisk.disk c.args.puts.now g.whole c.args.root.now (c.requires.1.0 tells) (c.requires.1.1 tells) c.apply.new.disk (rw is at (c.apply.ensures.confined tells)))
    (shows g.T.TreeDisk.disk c.args.puts.now g.whole c.args.root.now (c.requires.1.0 tells) (c.requires.1.1 tells) c.apply.new.disk (rw is at (c.apply.ensures.visible tells)))
    c.apply.result
    (rests g.T.TreeDisk.disk c.args.puts.now g.whole c.args.root.now (c.requires.1.0 tells) (c.requires.1.1 tells) c.apply.new.disk c.apply.result (rw is at (c.apply.ensures.applied tells)))
    (stops g.T.TreeDisk.disk c.args.puts.now g.whole c.args.root.now (c.requires.1.0 tells) (c.requires.1.1 tells) c.apply.new.disk c.apply.result (rw is at (c.apply.ensures.stopped tells)))
