use Rattle.std.proofs.Common.{Err, Ok}
use Rattle.system_core.specs.Migrating.{IsMigratingStop, Migrates}
use Rattle.system_core.proofs.Rewritten.{migrated_stops, migrates_read, migrates_written, may_write, on_ok, read_only, was_new, was_written, written_stop}
use Rattle.local_db.proofs.cny-base.Passing.{err_is}
use Rattle.local_db.proofs.cny-base.Faults.{passed_on}
use Rattle.system_core.proofs.migrating.migrate.Goals as goal

pub returns-in_err-found-clause-migrates : goal.returns-in_err-found-clause-migrates
returns-in_err-found-clause-migrates g c tells =
    let disk = g.T.TreeDisk.disk in
    err_is (Migrates disk c.args.root.now c.migrated.new.disk) c.from_residual.result c.in_err-found.field-0.0 c.from_residual.ensures.1
    (migrates_read g.met.T.TreeDisk.laws c.args.root.now c.migrated.new.disk (c.requires tells) (read_only (c.in_err-found.ensures.value tells).same (c.in_err-found.ensures.value tells).time) (Err c.in_err-found.field-0.0) tt)

pub returns-in_err-found-clause-stops : goal.returns-in_err-found-clause-stops
returns-in_err-found-clause-stops g c =
    passed_on (IsMigratingStop g.T.TreeDisk.disk c.args.root.now c.migrated.new.disk) c.in_err-found.field-0.0 c.from_residual.result
    (migrated_stops g.T.TreeDisk.disk c.args.root.now c.migrated.new.disk c.in_err-found.field-0.0 c.in_err-found.ensures.stops (λ tells. read_only (c.in_err-found.ensures.value tells).same (c.in_err-found.ensures.value tells).time)) c.from_residual.ensures.1

pub returns-in_default-clause-migrates : goal.returns-in_default-clause-migrates
returns-in_default-clause-migrates g c tells =
    let laws = g.met.T.TreeDisk.laws in
    let run = c.in_ok-found.ensures.value tells in
    let read = read_only run.same run.time in
    migrates_read laws c.args.root.now c.migrated.new.disk (c.requires tells) read (Ok tt)
    (was_new laws c.args.root.now c.migrated.new.disk (c.requires tells) read (rw c.in_default.is at run.answer))

pub write_all-requires : goal.write_all-requires
write_all-requires g c = record {
  can = λ tells.
      let run = c.in_ok-found.ensures.value tells in
      let found = rw c.in-Some.is at run.answer in
      may_write g.met.T.TreeDisk.laws c.args.root.now c.migrated.new.disk (c.requires tells) (read_only run.same run.time) c.in-Some.puts found.0 found.1
      (rw c.get.ensures.value at c.put_ranges.ensures);
}

pub returns-clause-migrates : goal.returns-clause-migrates
returns-clause-migrates g c tells =
    let laws = g.met.T.TreeDisk.laws in
    let old = c.args.root.now in
    let mid = c.migrated.new.disk in
    let new = c.write_all.new.root in
    let rests = c.requires tells in
    let run = c.in_ok-found.ensures.value tells in
    let read = read_only run.same run.time in
    let found = rw c.in-Some.is at run.answer in
    let nodes = rw c.get.ensures.value at c.put_ranges.ensures in
    let writes = c.write_all.ensures.writes tells in
    migrates_written laws old mid rests read c.in-Some.puts found.0 found.1 nodes new writes c.in_ok-found.ensures.later c.write_all.ensures.later c.write_all.result
    (on_ok c.write_all.result (was_written laws old mid rests read c.in-Some.puts found.0 found.1 nodes new writes) (c.write_all.ensures.put tells))

pub returns-clause-stops : goal.returns-clause-stops
returns-clause-stops g c =
    written_stop g.T.TreeDisk.disk c.args.root.now c.migrated.new.disk c.write_all.new.root c.in_ok-found.ensures.later c.write_all.result c.write_all.ensures.stops c.write_all.ensures.failed
