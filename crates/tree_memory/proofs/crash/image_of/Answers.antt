use Rattle.std.proofs.Common.{◌∙◌, ap, subst, IfOk}
use Rattle.tree_nodes.specs.tree-disk.Disk.{IsCrashImage}
use Rattle.tree_nodes.specs.Crash.{IsPicked}
use Rattle.tree_memory.specs.State.{State, state_of}
use Rattle.tree_memory.specs.Since.{any_names}
use Rattle.tree_memory.proofs.Crashed.{same}
use Rattle.tree_memory.proofs.crash.image_of.Goals as goal

pub returns-clause-picked : goal.returns-clause-picked
returns-clause-picked c =
    subst (λ (s : State). IfOk c.image.result (IsPicked s.reads s.synced s.unsynced c.args.pick))
    (same c.args.first.now c.args.changes.now c.args.nodes.now c.requires.told
    c.settled_at-mark.result c.settled_at-mark.ensures.within c.settled_at-mark.ensures.after c.settled_at-mark.ensures.last
    c.in_ok-synced.synced c.in_ok-unsynced.unsynced
    (c.in_ok-synced.ensures ∙ ap (λ l. (state_of c.args.first.now l).reads) c.split_at.ensures.front)
    (λ p. c.in_ok-unsynced.ensures.names p ∙ ap (λ l. any_names l p) c.split_at.ensures.back))
    c.image.ensures.picked

pub returns-clause-image : goal.returns-clause-image
returns-clause-image c =
    subst (λ (s : State). IfOk c.image.result (IsCrashImage s.reads s.unsynced))
    (same c.args.first.now c.args.changes.now c.args.nodes.now c.requires.told
    c.settled_at-mark.result c.settled_at-mark.ensures.within c.settled_at-mark.ensures.after c.settled_at-mark.ensures.last
    c.in_ok-synced.synced c.in_ok-unsynced.unsynced
    (c.in_ok-synced.ensures ∙ ap (λ l. (state_of c.args.first.now l).reads) c.split_at.ensures.front)
    (λ p. c.in_ok-unsynced.ensures.names p ∙ ap (λ l. any_names l p) c.split_at.ensures.back))
    c.image.ensures.image
