use Rattle.std.proofs.Common.{subst}
use Rattle.cny_laws.specs.RootOpening.{OpensSystem}
use Rattle.cli_call.proofs.OpeningRoot.{Ready, opens_ready}
use Rattle.local_db.proofs.cny-base.Passing.{err_is}
use Rattle.cli_call.proofs.opening.open_root.Goals as goal

pub returns-in_err-db : goal.returns-in_err-db
returns-in_err-db g c =
    let disk = g.T.TreeDisk.disk in
    let ready : Ready disk c.args.root.now c.ready.new.root c.ready.result = record {
      ready = c.ready.ensures.ready;
      makes = c.ready.ensures.makes;
      reads = c.ready.ensures.reads;
      missing = c.ready.ensures.missing;
      untouched = c.ready.ensures.untouched;
      clear = c.ready.ensures.clear;
      outer = c.ready.ensures.outer;
      database = c.ready.ensures.database;
      stops = c.ready.ensures.stops;
      later = c.ready.ensures.later;
    } in
    err_is (OpensSystem disk c.args.root.now c.ready.new.root) c.from_residual.result c.in_err-db.field-0.0 c.from_residual.ensures.1
    (subst (OpensSystem disk c.args.root.now c.ready.new.root) c.in_err-db.was (opens_ready c.args.root.now c.ready.new.root c.ready.result ready))

pub returns : goal.returns
returns g c =
    let disk = g.T.TreeDisk.disk in
    let ready : Ready disk c.args.root.now c.ready.new.root c.ready.result = record {
      ready = c.ready.ensures.ready;
      makes = c.ready.ensures.makes;
      reads = c.ready.ensures.reads;
      missing = c.ready.ensures.missing;
      untouched = c.ready.ensures.untouched;
      clear = c.ready.ensures.clear;
      outer = c.ready.ensures.outer;
      database = c.ready.ensures.database;
      stops = c.ready.ensures.stops;
      later = c.ready.ensures.later;
    } in
    subst (OpensSystem disk c.args.root.now c.ready.new.root) c.in_ok-db.was (opens_ready c.args.root.now c.ready.new.root c.ready.result ready)
