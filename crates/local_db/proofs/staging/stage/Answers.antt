use Rattle.std.proofs.Common.{subst, arith}
use Rattle.tree_journal.specs.tree-disk.Confined.{Among, Confined, LeavesOnly}
use Rattle.tree_journal.specs.tree-disk.Tree.{Name}
use Rattle.tree_journal.proofs.tree-disk.ConfinedLaws.{confined_start}
use Rattle.trove_stream.specs.cny-base.Reserved.{private_directory}
use Rattle.tree_journal.specs.Apply.{IsAsBefore}
use Rattle.tree_journal.specs.EmptyStage.{is_stage_name}
use Rattle.local_db.proofs.StagedContents.{nothing_staged, stage_keeps}
use Rattle.local_db.proofs.staging.stage.Goals as goal

pub returns-in_err-base-clause-keeps : goal.returns-in_err-base-clause-keeps
returns-in_err-base-clause-keeps g c tells = stage_keeps (confined_start g.met.T.TreeDisk.laws (Among (is_stage_name private_directory)) c.args.root.now)

pub returns-in_err-base-clause-any_moment : goal.returns-in_err-base-clause-any_moment
returns-in_err-base-clause-any_moment g c tells = nothing_staged g.met.T.TreeDisk.laws c.args.root.now (c.requires tells)

pub returns-in_err-base-clause-confined : goal.returns-in_err-base-clause-confined
returns-in_err-base-clause-confined g c tells = confined_start g.met.T.TreeDisk.laws (Among (is_stage_name private_directory)) c.args.root.now

pub clear_stage-requires-clause-short : goal.clear_stage-requires-clause-short
clear_stage-requires-clause-short g c = rw c.in_ok-base.ensures (omega arith)

pub clear_stage-requires-clause-told : goal.clear_stage-requires-clause-told
clear_stage-requires-clause-told g c tells = rw c.in_ok-base.ensures (c.requires tells)

pub returns-clause-path : goal.returns-clause-path
returns-clause-path g c = rw c.in_ok-base.ensures at c.clear_stage.ensures.path

pub returns-clause-emptied : goal.returns-clause-emptied
returns-clause-emptied g c tells = rw c.in_ok-base.ensures at (c.clear_stage.ensures.emptied tells)

pub returns-clause-keeps : goal.returns-clause-keeps
returns-clause-keeps g c tells = stage_keeps (subst (λ (p : Name). Confined g.T.TreeDisk.disk (Among (is_stage_name p)) c.args.root.now c.clear_stage.new.disk) c.in_ok-base.ensures (c.clear_stage.ensures.confined tells))

pub returns-clause-any_moment : goal.returns-clause-any_moment
returns-clause-any_moment g c tells = subst (λ (p : Name). LeavesOnly g.T.TreeDisk.disk c.args.root.now c.clear_stage.new.disk (IsAsBefore g.T.TreeDisk.disk p c.args.root.now)) c.in_ok-base.ensures (c.clear_stage.ensures.any_moment tells)

pub returns-clause-confined : goal.returns-clause-confined
returns-clause-confined g c tells = subst (λ (p : Name). Confined g.T.TreeDisk.disk (Among (is_stage_name p)) c.args.root.now c.clear_stage.new.disk) c.in_ok-base.ensures (c.clear_stage.ensures.confined tells)

pub returns-clause-synced : goal.returns-clause-synced
returns-clause-synced g c tells = rw c.in_ok-base.ensures at (c.clear_stage.ensures.synced tells)
