use Rattle.std.proofs.Common.{sym, subst}
use Rattle.cli_call.specs.Alone.{ActsOnRepository}
use Rattle.cli_call.specs.Command.{disks}
use Rattle.cli_call.proofs.Again.{ready_far}
use Rattle.repo_commands.specs.Serving.{serve}
use Rattle.repo_commands.proofs.SendingEnds.{after_ok}
use Rattle.repo_commands.proofs.ServingEnds.{served_ends, ServingLaws}
use Rattle.repo_commands.proofs.serving.serve_requests.Goals as goal

pub returns-clause-acts : goal.returns-clause-acts
returns-clause-acts g c =
    let old = disks c.args.root.now c.args.repo.now c.args.opened.now in
    let new = disks c.args.root.now c.serve.new.disk c.args.opened.now in
    let laws : ServingLaws = record { catalogue = c.stored_state.ensures.catalogue; undamaged = c.sound_replies.ensures; store = c.store_laws.ensures } in
    subst (ActsOnRepository g.T.TreeDisk.disk g.P.TreeDisk.disk serve c.args.input.now old new) (sym c.on_repository.ensures)
    (served_ends g.met.P.TreeDisk.laws laws c.args.input.now c.args.root.now c.args.repo.now c.serve.new.disk c.args.opened.now c.requires c.serve.result c.serve.ensures)

-- the repository was only read
pub returns-clause-repo_read : goal.returns-clause-repo_read
returns-clause-repo_read g c = c.serve.ensures.same

pub returns-clause-again : goal.returns-clause-again
returns-clause-again g c = after_ok c.on_repository.result (ready_far c.args.root.now c.args.repo.now c.serve.new.disk c.args.opened.now c.serve.ensures.same c.requires)
