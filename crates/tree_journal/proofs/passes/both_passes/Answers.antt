use Rattle.journal_log.proofs.tree-disk.StepLaws.{makes_then, makes_stop, makes_wider}
use Rattle.journal_log.specs.tree-disk.Tree.{Name}
use Rattle.journal_log.proofs.tree-disk.Unfailed.{unfailed_then, unfailed_weaker}
use Rattle.std.specs.Prelude.{IsTrue, List}
use Rattle.journal_log.specs.declared.put.Put.{Put}
use Rattle.journal_log.specs.Targets.{is_target}
use Rattle.tree_journal.specs.Passes.{is_work_or_target}
use Rattle.tree_journal.specs.Staging.{outcome}
use Rattle.tree_journal.proofs.ClearPass.{can_clear_all}
use Rattle.tree_journal.proofs.MakePass.{can_make_pass, both_passes}
use Rattle.tree_journal.proofs.Seen.{rest_cleared, cleared_visible, made_visible}
use Rattle.journal_log.proofs.cny-base.Bools.{or_right}
use Rattle.tree_journal.proofs.passes.both_passes.Goals as goal

target_within : (base : Name) (puts : List Put) (q : Name) → IsTrue (is_target puts q) → IsTrue (is_work_or_target base puts q)
target_within base puts q h = or_right _ (is_target puts q) h

pub clear_targets-requires : goal.clear_targets-requires
clear_targets-requires g c tells = can_clear_all c.args.base.now c.args.puts.now _ (c.requires.told tells).replay (g.met.D.TreeDisk.laws.reads_well_formed c.args.disk.now)

pub returns-in_err-clear_targets-clause-makes : goal.returns-in_err-clear_targets-clause-makes
returns-in_err-clear_targets-clause-makes g c = makes_stop (makes_wider (target_within c.args.base.now c.args.puts.now) c.in_err-clear_targets.ensures.makes) c.from_residual.ensures.1

pub returns-in_err-clear_targets-clause-seen : goal.returns-in_err-clear_targets-clause-seen
returns-in_err-clear_targets-clause-seen g c = λ tells.
    unfailed_weaker (λ t. cleared_visible c.args.base.now c.args.puts.now _ t (c.requires.told tells).replay.loggable.write_set.rises) (c.in_err-clear_targets.ensures.seen tells)

pub make_targets-requires-clause-told : goal.make_targets-requires-clause-told
make_targets-requires-clause-told g c = λ tells.
    rw (c.in_ok-clear_targets.ensures.makes.ended tells) (can_make_pass c.args.base.now c.requires.base c.args.puts.now _ (c.requires.told tells) (g.met.D.TreeDisk.laws.reads_well_formed c.args.disk.now))

pub returns-clause-makes : goal.returns-clause-makes
returns-clause-makes g c =
    makes_then {next = outcome c.args.base.now c.args.puts.now} (makes_wider (target_within c.args.base.now c.args.puts.now) c.in_ok-clear_targets.ensures.makes) (λ p h. h) c.make_targets.ensures.makes
    (λ tells. both_passes c.args.base.now c.args.puts.now _ c.requires.base (c.requires.told tells).replay.loggable.named)

pub returns-clause-seen : goal.returns-clause-seen
returns-clause-seen g c = λ tells.
    let disk = g.D.TreeDisk.disk in
    let base = c.args.base.now in
    let puts = c.args.puts.now in
    let tree = disk.reads c.args.disk.now in
    let rises = (c.requires.told tells).replay.loggable.write_set.rises in
    unfailed_then c.in_ok-clear_targets.ensures.makes.later c.make_targets.ensures.makes.later
    (unfailed_weaker (λ t. cleared_visible base puts tree t rises) (c.in_ok-clear_targets.ensures.seen tells))
    (unfailed_weaker (λ t. made_visible base puts tree (disk.reads c.clear_targets.new.disk) (outcome base puts (disk.reads c.clear_targets.new.disk)) t rises
    (rw (c.in_ok-clear_targets.ensures.makes.ended tells) (rest_cleared puts 0 tree rises))
    (rw (c.in_ok-clear_targets.ensures.makes.ended tells) (both_passes base puts tree c.requires.base (c.requires.told tells).replay.loggable.named)))
    (c.make_targets.ensures.seen tells))
