use Rattle.std.proofs.Common.{◌≡◌, ◌∷◌, [], false}
use Rattle.tree_disk.specs.cny-base.Below.{begins_with}
use Rattle.journal_log.specs.Joined.{front_of}
use Rattle.journal_log.proofs.Naming.{no_front, no_slash, then_none}
use Rattle.tree_disk.proofs.cny-base.Faults.{if_none}
use Rattle.journal_log.proofs.named.inside.Goals as goal

pub returns-in_err-rest-clause-none : goal.returns-in_err-rest-clause-none
returns-in_err-rest-clause-none c =
    if_none c.from_residual.result (begins_with (front_of c.args.dir.now) c.args.path.now ≡ false) (no_front c.args.dir.now c.args.path.now c.in_err-rest.ensures.none)

pub returns-clause-none : goal.returns-clause-none
returns-clause-none c =
    then_none c.after-2.result (begins_with (47 ∷ []) c.in_ok-rest.rest.now ≡ false) (begins_with (front_of c.args.dir.now) c.args.path.now ≡ false)
    (no_slash c.args.dir.now c.in_ok-rest.rest.now c.args.path.now c.if-dir-eq1.false c.in_ok-rest.ensures.some) c.after-2.ensures.none
