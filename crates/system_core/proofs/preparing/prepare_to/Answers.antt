use Rattle.std.proofs.Common.{refl}
use Rattle.rollback_stack.specs.cny-base.Count.{Rose}
use Rattle.rollback_stack.specs.Inverse.{IsBackStop}
use Rattle.rollback_stack.proofs.Later.{read_as}
use Rattle.local_db.proofs.cny-base.Faults.{passed_on}
use Rattle.system_core.proofs.PreparedAll.{step_to_is}
use Rattle.system_core.proofs.preparing.prepare_to.Goals as goal

pub returns-in_err-back-clause-stops : goal.returns-in_err-back-clause-stops
returns-in_err-back-clause-stops g c =
    let disk = g.D.TreeDisk.disk in
    let old = c.args.disk.now in
    let rose = Rose (disk.faults old) (disk.faults c.inverse_to.new.disk) in
    passed_on (IsBackStop disk.tells (disk.reads old) c.args.db.now c.args.number rose) c.in_err-back.field-0.0 c.from_residual.result c.in_err-back.ensures.stops c.from_residual.ensures.1

pub database_put-requires : goal.database_put-requires
database_put-requires g c = c.in_ok-back.ensures.database.fits

pub returns-clause-value : goal.returns-clause-value
returns-clause-value g c tells =
    let disk = g.D.TreeDisk.disk in
    let x = disk.reads c.args.disk.now in
    let run = c.in_ok-back.ensures.value tells in
    read_as run (step_to_is x c.args.db.now c.args.number c.in_ok-back.back c.in_ok-write.write c.in_ok-puts.puts _ run.answer c.in_ok-write.ensures.value c.in_ok-write.ensures.bytes c.in_ok-puts.ensures refl)
