use Rattle.job_targets.proofs.tree-journal.Preparing.{makes_stopped, prepares_stop, prepares_then}
use Rattle.rollback_stack.proofs.Putting.{can_put, content_name, dir_name, may_still, put_stops}
use Rattle.std.proofs.Common.{◌∙◌, ap}
use Rattle.sha1.specs.Sha1.{sha1}
use Rattle.job_targets.proofs.tree-disk.ConfinedLaws.{confined_wider}
use Rattle.job_targets.specs.tree-disk.Rows.{is_dir_at}
use Rattle.job_targets.specs.tree-disk.Tree.{Tree}
use Rattle.job_targets.proofs.tree-journal.OwnFiles.{base_stands}
use Rattle.job_targets.specs.content-store.Store.{content_path}
use Rattle.rollback_stack.proofs.saving.save.Goals as goal

pub returns-in_err-make_dir : goal.returns-in_err-make_dir
returns-in_err-make_dir g c = makes_stopped _ (dir_name c.args.dir.now c.args.bytes.now) c.in_err-make_dir.ensures c.from_residual.ensures.1

pub put-requires-clause-can : goal.put-requires-clause-can
put-requires-clause-can g c tells =
    let dir = c.args.dir.now in
    let bytes = c.args.bytes.now in
    let made = c.in_ok-make_dir.ensures.ended tells in
    can_put (g.D.TreeDisk.disk.reads c.make_dir.new.disk) dir (content_path dir (sha1 bytes)) bytes
    (ap (λ (t : Tree). is_dir_at t dir) made ∙ base_stands dir (g.D.TreeDisk.disk.reads c.args.disk.now))
    (may_still (g.D.TreeDisk.disk.reads c.args.disk.now) (g.D.TreeDisk.disk.reads c.make_dir.new.disk) dir bytes made (c.requires.free tells))

pub returns-in_err-put : goal.returns-in_err-put
returns-in_err-put g c =
    let dir = c.args.dir.now in
    let bytes = c.args.bytes.now in
    let made = c.in_ok-make_dir.ensures in
    let put = c.in_err-put.ensures in
    prepares_stop _ made.later (λ tells. confined_wider (dir_name dir bytes) (made.confined tells)) put.decides.later
    (λ tells. confined_wider (content_name dir bytes (g.D.TreeDisk.disk.reads c.make_dir.new.disk)) (put.decides.confined tells))
    (put_stops (content_path dir (sha1 bytes)) (sha1 bytes) bytes _
    (λ tells. may_still (g.D.TreeDisk.disk.reads c.args.disk.now) (g.D.TreeDisk.disk.reads c.make_dir.new.disk) dir bytes (made.ended tells) (c.requires.free tells)) put.decides put.stops)
    c.from_residual-in_err-put.ensures.1

pub returns : goal.returns
returns g c =
    let dir = c.args.dir.now in
    let bytes = c.args.bytes.now in
    let made = c.in_ok-make_dir.ensures in
    let put = c.in_ok-put.ensures in
    prepares_then made.later (λ tells. confined_wider (dir_name dir bytes) (made.confined tells)) put.decides.later
    (λ tells. confined_wider (content_name dir bytes (g.D.TreeDisk.disk.reads c.make_dir.new.disk)) (put.decides.confined tells)) put.stored
