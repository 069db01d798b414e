use Rattle.std.proofs.Common.{take}
use Rattle.std.proofs.lemmas.Result.{err_from_is_err_and}
use Rattle.job_targets.specs.Agree.{IsCollisionOrMemory, IsFirstCollision}
use Rattle.job_targets.proofs.Noting.{collision_map, first_collision}
use Rattle.change_set.proofs.cny-base.Faults.{if_err_from}
use Rattle.job_targets.proofs.agreeing.stashable.Goals as goal

pub returns-in_err-note-clause-collides : goal.returns-in_err-note-clause-collides
returns-in_err-note-clause-collides c =
    let es = c.args.entries.now in
    let k = c.loop-entry.entry-index in
    if_err_from (IsCollisionOrMemory (IsFirstCollision es)) c.from_residual.result c.in_err-note.field-0.0 (err_from_is_err_and c.from_residual.result c.from_residual.ensures.1)
    (collision_map _ (IsFirstCollision es) c.in_err-note.field-0.0
    (λ name at collides. first_collision es k c.entry-item.result name at c.loop-entry-test.true c.entry-item.is c.loop-entry.invariant.1 collides)
    (c.in_err-note.ensures.collides (take k es) c.loop-entry.invariant.0))
