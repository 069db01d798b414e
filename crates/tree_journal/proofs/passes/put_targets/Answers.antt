use Rattle.std.proofs.Common.{◌≡◌, true, IsTrue, List, refl, sym, ap, subst, ◌∙◌}
use Rattle.journal_log.specs.tree-disk.Clear.{is_within, without_tree}
use Rattle.journal_log.proofs.tree-disk.StepLaws.{makes_no_memory, makes_then, makes_stop, makes_wider}
use Rattle.journal_log.specs.tree-disk.Tree.{Name}
use Rattle.journal_log.proofs.tree-disk.Unfailed.{unfailed_start}
use Rattle.journal_log.specs.declared.put.Put.{Put}
use Rattle.journal_log.specs.Own.{gate, work}
use Rattle.journal_log.specs.Targets.{is_target}
use Rattle.tree_journal.specs.Passes.{is_work_or_target}
use Rattle.tree_journal.specs.Staging.{outcome}
use Rattle.tree_journal.proofs.OwnNames.{in_work, log_shorter, staged_shorter, work_not_root, work_part, work_shorter}
use Rattle.tree_journal.proofs.ReplayImages.{can_put_all, same_cleared}
use Rattle.tree_journal.proofs.Seen.{own_then, own_seen}
use Rattle.journal_log.proofs.cny-base.Faults.{passed_memory}
use Rattle.journal_log.proofs.cny-base.Bools.{or_left}
use Rattle.journal_log.proofs.StagedLaws.{p_part as staged_part}
use Rattle.tree_journal.proofs.passes.put_targets.Goals as goal

work_within : (base path : Name) (puts : List Put) → path ≡ work base → (q : Name) → IsTrue (is_within path q) → IsTrue (is_work_or_target base puts q)
work_within base path puts is q h = or_left (is_within (work base) q) (is_target puts q) (subst (λ (p : Name). is_within p q ≡ true) is h)

pub own_path-requires-clause-part : goal.own_path-requires-clause-part
own_path-requires-clause-part g c = staged_part

pub own_path-requires-clause-short : goal.own_path-requires-clause-short
own_path-requires-clause-short g c = staged_shorter c.args.base.now (log_shorter c.args.base.now (gate c.args.base.now) refl c.requires.gate)

pub returns-in_err-dir-clause-makes : goal.returns-in_err-dir-clause-makes
returns-in_err-dir-clause-makes g c = makes_no_memory g.met.D.TreeDisk.laws (is_work_or_target c.args.base.now c.args.puts.now) c.args.disk.now (passed_memory _ c.from_residual.result c.from_residual.ensures.1 c.in_err-dir.ensures.memory)

pub returns-in_err-dir-clause-seen : goal.returns-in_err-dir-clause-seen
returns-in_err-dir-clause-seen g c = λ tells. unfailed_start c.args.disk.now _

pub own_path-requires-2-clause-part : goal.own_path-requires-2-clause-part
own_path-requires-2-clause-part g c = work_part

pub own_path-requires-2-clause-short : goal.own_path-requires-2-clause-short
own_path-requires-2-clause-short g c = work_shorter c.args.base.now (gate c.args.base.now) refl c.requires.gate

pub returns-in_err-work_path-clause-makes : goal.returns-in_err-work_path-clause-makes
returns-in_err-work_path-clause-makes g c = makes_no_memory g.met.D.TreeDisk.laws (is_work_or_target c.args.base.now c.args.puts.now) c.args.disk.now (passed_memory _ c.from_residual-in_err-work_path.result c.from_residual-in_err-work_path.ensures.1 c.in_err-work_path.ensures.memory)

pub returns-in_err-work_path-clause-seen : goal.returns-in_err-work_path-clause-seen
returns-in_err-work_path-clause-seen g c = λ tells. unfailed_start c.args.disk.now _

pub clear_tree-requires : goal.clear_tree-requires
clear_tree-requires g c = λ is. work_not_root c.args.base.now c.requires.base (sym c.in_ok-work_path.ensures.path ∙ is)

pub returns-in_err-clear_tree-clause-makes : goal.returns-in_err-clear_tree-clause-makes
returns-in_err-clear_tree-clause-makes g c =
    makes_stop (makes_wider (work_within c.args.base.now _ c.args.puts.now c.in_ok-work_path.ensures.path) c.in_err-clear_tree.ensures) c.from_residual-in_err-clear_tree.ensures.1

pub returns-in_err-clear_tree-clause-seen : goal.returns-in_err-clear_tree-clause-seen
returns-in_err-clear_tree-clause-seen g c = λ tells.
    own_seen c.args.base.now (is_within (work c.args.base.now)) _ _ _ (in_work c.args.base.now) (rw c.in_ok-work_path.ensures.path at (c.in_err-clear_tree.ensures.confined tells))

pub both_passes-requires-clause-told : goal.both_passes-requires-clause-told
both_passes-requires-clause-told g c = λ tells.
    rw (c.in_ok-clear_tree.ensures.ended tells, c.in_ok-work_path.ensures.path) (can_put_all c.args.base.now c.requires.base c.args.puts.now _ (c.requires.told tells))

pub returns-clause-makes : goal.returns-clause-makes
returns-clause-makes g c =
    makes_then {next = outcome c.args.base.now c.args.puts.now} (makes_wider (work_within c.args.base.now _ c.args.puts.now c.in_ok-work_path.ensures.path) c.in_ok-clear_tree.ensures) (λ p h. h) c.both_passes.ensures.makes
    (λ tells. ap (λ (p : Name). outcome c.args.base.now c.args.puts.now (without_tree (g.D.TreeDisk.disk.reads c.args.disk.now) p)) c.in_ok-work_path.ensures.path)

pub returns-clause-seen : goal.returns-clause-seen
returns-clause-seen g c = λ tells.
    own_then c.args.base.now (is_within (work c.args.base.now)) _ _ _ _ _ (in_work c.args.base.now) c.in_ok-clear_tree.ensures.later c.both_passes.ensures.makes.later
    (rw c.in_ok-work_path.ensures.path at (c.in_ok-clear_tree.ensures.confined tells))
    (same_cleared c.args.base.now c.requires.base c.args.puts.now _ _ _ c.in_ok-work_path.ensures.path (c.in_ok-clear_tree.ensures.ended tells)) (c.both_passes.ensures.seen tells)
