use Rattle.std.proofs.Common.{◌≢◌}
use Rattle.std.proofs.lemmas.List.Elements.{All-weaker}
use Rattle.journal_log.specs.cny-base.Path.{root}
use Rattle.journal_log.specs.declared.put.Put.{Put}
use Rattle.journal_log.specs.WriteSet.{CanBeNamed}
use Rattle.tree_journal.specs.Recovery.{staged_damaged}
use Rattle.tree_journal.proofs.Recovering.{err_on_ok, fault_stops, stops_on, read_ended, reads_joined, stopped_from}
use Rattle.tree_journal.proofs.recovery.check_log.Goals as goal

pub returns-in_err-path-clause-reads : goal.returns-in_err-path-clause-reads
returns-in_err-path-clause-reads g c = λ tells. read_ended (c.in_err-path.ensures.found tells) (err_on_ok _ _ _ c.from_residual.ensures.1)

pub returns-in_err-path-clause-causes : goal.returns-in_err-path-clause-causes
returns-in_err-path-clause-causes g c = stopped_from g.D.TreeDisk.disk c.args.base.now c.args.disk.now c.first_unstaged.new.disk _ _ c.from_residual.ensures.1 (fault_stops g.D.TreeDisk.disk c.args.base.now c.args.disk.now c.first_unstaged.new.disk _ c.in_err-path.ensures.stops)

pub returns-in-Some-clause-reads : goal.returns-in-Some-clause-reads
returns-in-Some-clause-reads g c = λ tells. read_ended (c.in_ok-path.ensures.found tells) tt

pub returns-in-Some-clause-causes : goal.returns-in-Some-clause-causes
returns-in-Some-clause-causes g c = λ tells.
    let found = c.in_ok-path.ensures.found tells in
    let log = c.requires.found tells in
    (staged_damaged (c.requires.flag_set tells) c.args.puts.now log.0 log.1 (rw c.in-Some.is at found.answer), found.same.reads)

pub first_blocked-requires-clause-paths : goal.first_blocked-requires-clause-paths
first_blocked-requires-clause-paths g c = c.requires.loggable.write_set.paths

pub first_blocked-requires-clause-not_root : goal.first_blocked-requires-clause-not_root
first_blocked-requires-clause-not_root g c = All-weaker (λ (p : Put). CanBeNamed c.args.base.now p.path) (λ (p : Put). p.path ≢ root) (λ p h. h.not_root) c.args.puts.now c.requires.loggable.named

pub returns-in_err-path-2-clause-reads : goal.returns-in_err-path-2-clause-reads
returns-in_err-path-2-clause-reads g c = λ tells. reads_joined g.met.D.TreeDisk.laws (c.in_ok-path.ensures.found tells) (c.in_err-path-2.ensures.found tells) (err_on_ok _ _ _ c.from_residual-in_err-path-2.ensures.1)

pub returns-in_err-path-2-clause-causes : goal.returns-in_err-path-2-clause-causes
returns-in_err-path-2-clause-causes g c = stopped_from g.D.TreeDisk.disk c.args.base.now c.args.disk.now c.first_blocked.new.disk _ _ c.from_residual-in_err-path-2.ensures.1
    (stops_on g.D.TreeDisk.disk c.args.base.now c.args.disk.now c.first_unstaged.new.disk c.first_blocked.new.disk _ c.in_ok-path.ensures.later (λ tells. (c.in_ok-path.ensures.found tells).same.reads) (fault_stops g.D.TreeDisk.disk c.args.base.now c.first_unstaged.new.disk c.first_blocked.new.disk _ c.in_err-path-2.ensures.stops))

pub returns-in_err-path-3-clause-reads : goal.returns-in_err-path-3-clause-reads
returns-in_err-path-3-clause-reads g c = λ tells. reads_joined g.met.D.TreeDisk.laws (c.in_ok-path.ensures.found tells) (c.in_ok-path-2.ensures.found tells) (err_on_ok _ _ _ c.from_residual-in_err-path-3.ensures.1)

pub returns-in-Some-2-clause-reads : goal.returns-in-Some-2-clause-reads
returns-in-Some-2-clause-reads g c = λ tells. reads_joined g.met.D.TreeDisk.laws (c.in_ok-path.ensures.found tells) (c.in_ok-path-2.ensures.found tells) tt

pub returns-clause-reads : goal.returns-clause-reads
returns-clause-reads g c = λ tells.
    let first = c.in_ok-path.ensures.found tells in
    let second = c.in_ok-path-2.ensures.found tells in
    let log = c.requires.found tells in
    reads_joined g.met.D.TreeDisk.laws first second (record {
      holds = log.0;
      only = log.1;
      stand = rw c.in_default.is at first.answer;
      can = rw first.same.reads at (rw c.in_default-2.is at second.answer);
    })
