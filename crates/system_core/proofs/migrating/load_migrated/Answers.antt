use Rattle.system_core.specs.Migrating.{Loads}
use Rattle.system_core.proofs.Loaded.{loads_so, not_migrated}
use Rattle.local_db.proofs.cny-base.Passing.{err_is}
use Rattle.system_core.proofs.migrating.load_migrated.Goals as goal

pub returns-in_err-migrate : goal.returns-in_err-migrate
returns-in_err-migrate g c =
    let disk = g.T.TreeDisk.disk in
    let e = c.in_err-migrate.field-0.0 in
    err_is (Loads disk c.args.root.now c.migrate.new.root) c.from_residual.result e c.from_residual.ensures.1
    (not_migrated disk c.args.root.now c.migrate.new.root e c.in_err-migrate.ensures.later c.in_err-migrate.ensures.migrates c.in_err-migrate.ensures.stops)

pub returns : goal.returns
returns g c =
    loads_so g.met.T.TreeDisk.laws c.args.root.now c.migrate.new.root c.load.new.disk c.in_ok-migrate.ensures.later c.load.ensures.later c.in_ok-migrate.ensures.migrates
    c.load.result c.load.ensures.value c.load.ensures.only c.load.ensures.rules c.load.ensures.stops
