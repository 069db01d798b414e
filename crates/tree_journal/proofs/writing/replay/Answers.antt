use Rattle.std.proofs.Common.{◌≡◌, true, IsTrue, List, ap, arith, subst, sym, ◌∙◌}
use Rattle.std.specs.FinMap.{get}
use Rattle.journal_log.specs.cny-base.Path.{is_path}
use Rattle.journal_log.specs.tree-disk.Confined.{Among, Confined}
use Rattle.journal_log.proofs.tree-disk.ConfinedLaws.{confined_on, confined_then, confined_wider, leaves_then}
use Rattle.journal_log.specs.tree-disk.Clear.{is_within}
use Rattle.journal_log.proofs.tree-disk.ClearLaws.{itself_within}
use Rattle.journal_log.specs.tree-disk.Rows.{can_remove, is_file_at, without}
use Rattle.journal_log.proofs.tree-disk.StepLaws.{makes_then, makes_then_stop, makes_stop, makes_wider}
use Rattle.journal_log.specs.tree-disk.Tree.{Name, Tree, same_name}
use Rattle.journal_log.specs.declared.put.Put.{Put}
use Rattle.journal_log.specs.Own.{gate}
use Rattle.tree_journal.specs.Passes.{is_work_or_target, all_put}
use Rattle.tree_journal.specs.Steps.{is_replay_name}
use Rattle.tree_journal.proofs.InOrder.{makes_synced}
use Rattle.tree_journal.proofs.OwnFiles.{may_remove_file}
use Rattle.tree_journal.proofs.OwnNames.{gate_not_root, gate_own}
use Rattle.tree_journal.proofs.ReplayImages.{putting_leaves, clearing_leaves, flag_stands, same_all_put}
use Rattle.tree_journal.proofs.Seen.{then_own}
use Rattle.journal_log.proofs.cny-base.Bools.{or_left, or_right}
use Rattle.tree_journal.proofs.writing.replay.Goals as goal

target_within : (base : Name) (puts : List Put) (q : Name) → IsTrue (is_work_or_target base puts q) → IsTrue (is_replay_name base puts q)
target_within base puts q h = or_right (is_within (gate base) q) (is_work_or_target base puts q) h

gate_within : (base path : Name) (puts : List Put) → path ≡ gate base → (q : Name) → IsTrue (same_name q path) → IsTrue (is_replay_name base puts q)
gate_within base path puts is q h = or_left (is_within (gate base) q) _ (itself_within (gate base) q (subst (λ (p : Name). same_name q p ≡ true) is h))

pub put_targets-requires-clause-gate : goal.put_targets-requires-clause-gate
put_targets-requires-clause-gate g c = ap is_path (sym c.requires.gate) ∙ c.requires.gate_path

pub put_targets-requires-clause-told : goal.put_targets-requires-clause-told
put_targets-requires-clause-told g c = λ tells. (c.requires.told tells).has_log.can

-- ---- the targets aren't kept yet

pub returns-in_err-put_targets-clause-makes : goal.returns-in_err-put_targets-clause-makes
returns-in_err-put_targets-clause-makes g c = makes_stop (makes_wider (target_within c.args.base.now c.args.puts.now) c.in_err-put_targets.ensures.makes) c.from_residual.ensures.1

pub returns-in_err-put_targets-clause-any_moment : goal.returns-in_err-put_targets-clause-any_moment
returns-in_err-put_targets-clause-any_moment g c = λ tells. putting_leaves _ g.met.D.TreeDisk.laws c.args.base.now c.requires.base c.args.puts.now _ (c.requires.told tells) _ (c.in_err-put_targets.ensures.makes.confined tells)

pub returns-in_err-sync-clause-makes : goal.returns-in_err-sync-clause-makes
returns-in_err-sync-clause-makes g c =
    makes_then_stop {next = λ tree. tree} (makes_wider (target_within c.args.base.now c.args.puts.now) c.in_ok-put_targets.ensures.makes) (λ p none. absurd (cc none)) c.in_err-sync.ensures.makes c.from_residual-in_err-sync.ensures.1

pub returns-in_err-sync-clause-any_moment : goal.returns-in_err-sync-clause-any_moment
returns-in_err-sync-clause-any_moment g c = λ tells.
    putting_leaves _ g.met.D.TreeDisk.laws c.args.base.now c.requires.base c.args.puts.now _ (c.requires.told tells) _
    (confined_on (c.in_ok-put_targets.ensures.makes.confined tells) (λ p none. absurd (cc none)) (c.in_err-sync.ensures.makes.confined tells))

pub returns-in_err-sync-clause-seen : goal.returns-in_err-sync-clause-seen
returns-in_err-sync-clause-seen g c = λ tells.
    let base = c.args.base.now in
    then_own base (λ (q : Name). same_name q (gate base)) _ _ _ _ (gate_own base) c.in_ok-put_targets.ensures.makes.later c.in_err-sync.ensures.makes.later (c.in_ok-put_targets.ensures.seen tells)
    (λ q out. ap (λ (t : Tree). get t q) (c.in_ok-put_targets.ensures.makes.ended tells) ∙ same_all_put base c.requires.base c.args.puts.now _ q out)
    (confined_wider (λ p none. absurd (cc none)) (c.in_err-sync.ensures.makes.confined tells))

-- ---- the flag is taken away

pub remove-requires : goal.remove-requires
remove-requires g c = λ tells.
    let disk = g.D.TreeDisk.disk in
    let base = c.args.base.now in
    subst (λ (t : Tree). can_remove t c.args.gate_path.now ≡ true) (sym (c.in_ok-sync.ensures.makes.ended tells ∙ c.in_ok-put_targets.ensures.makes.ended tells))
    (may_remove_file (all_put base c.args.puts.now (disk.reads c.args.disk.now)) c.args.gate_path.now (λ is. gate_not_root base c.requires.base (sym c.requires.gate ∙ is))
    (subst (λ (p : Name). is_file_at (all_put base c.args.puts.now (disk.reads c.args.disk.now)) p ≡ true) (sym c.requires.gate) (flag_stands _ g.met.D.TreeDisk.laws base c.requires.base c.args.puts.now _ (c.requires.told tells))))

pub returns-in_err-remove-clause-makes : goal.returns-in_err-remove-clause-makes
returns-in_err-remove-clause-makes g c =
    makes_then_stop {next = λ tree. without tree c.args.gate_path.now} (makes_synced (makes_wider (target_within c.args.base.now c.args.puts.now) c.in_ok-put_targets.ensures.makes) c.in_ok-sync.ensures.makes)
    (gate_within c.args.base.now c.args.gate_path.now c.args.puts.now c.requires.gate) c.in_err-remove.ensures.makes c.from_residual-in_err-remove.ensures.1

pub returns-in_err-remove-clause-any_moment : goal.returns-in_err-remove-clause-any_moment
returns-in_err-remove-clause-any_moment g c = λ tells.
    let disk = g.D.TreeDisk.disk in
    let ready = c.requires.told tells in
    let cleared : Confined disk (Among (λ (q : Name). same_name q (gate c.args.base.now))) c.sync.new.disk c.remove.new.disk = rw c.requires.gate at (c.in_err-remove.ensures.makes.confined tells) in
    leaves_then (putting_leaves disk g.met.D.TreeDisk.laws c.args.base.now c.requires.base c.args.puts.now _ ready _
    (confined_on (c.in_ok-put_targets.ensures.makes.confined tells) (λ p none. absurd (cc none)) (c.in_ok-sync.ensures.makes.confined tells)))
    (clearing_leaves disk g.met.D.TreeDisk.laws c.args.base.now c.requires.base c.args.puts.now _ ready _ _
    (c.in_ok-sync.ensures.makes.ended tells ∙ c.in_ok-put_targets.ensures.makes.ended tells) (c.in_ok-sync.ensures.synced tells) cleared)

pub returns-in_err-remove-clause-seen : goal.returns-in_err-remove-clause-seen
returns-in_err-remove-clause-seen g c = λ tells.
    let disk = g.D.TreeDisk.disk in
    let base = c.args.base.now in
    let cleared : Confined disk (Among (λ (q : Name). same_name q (gate c.args.base.now))) c.sync.new.disk c.remove.new.disk = rw c.requires.gate at (c.in_err-remove.ensures.makes.confined tells) in
    then_own base (λ (q : Name). same_name q (gate base)) _ _ _ _ (gate_own base) c.in_ok-put_targets.ensures.makes.later
    (omega (arith, c.in_ok-sync.ensures.makes.later, c.in_err-remove.ensures.makes.later)) (c.in_ok-put_targets.ensures.seen tells)
    (λ q out. ap (λ (t : Tree). get t q) (c.in_ok-put_targets.ensures.makes.ended tells) ∙ same_all_put base c.requires.base c.args.puts.now _ q out)
    (confined_then (confined_wider (λ p none. absurd (cc none)) (c.in_ok-sync.ensures.makes.confined tells)) cleared)

pub returns-clause-makes : goal.returns-clause-makes
returns-clause-makes g c =
    makes_then {next = λ tree. without tree c.args.gate_path.now} (makes_synced (makes_wider (target_within c.args.base.now c.args.puts.now) c.in_ok-put_targets.ensures.makes) c.in_ok-sync.ensures.makes)
    (gate_within c.args.base.now c.args.gate_path.now c.args.puts.now c.requires.gate) (makes_synced c.in_ok-remove.ensures.makes c.sync-2.ensures.makes)
    (λ tells. ap (without _) c.requires.gate)

pub returns-clause-any_moment : goal.returns-clause-any_moment
returns-clause-any_moment g c = λ tells.
    let disk = g.D.TreeDisk.disk in
    let ready = c.requires.told tells in
    let removed : Confined disk (Among (λ (q : Name). same_name q (gate c.args.base.now))) c.sync.new.disk c.remove.new.disk = rw c.requires.gate at (c.in_ok-remove.ensures.makes.confined tells) in
    leaves_then (putting_leaves disk g.met.D.TreeDisk.laws c.args.base.now c.requires.base c.args.puts.now _ ready _
    (confined_on (c.in_ok-put_targets.ensures.makes.confined tells) (λ p none. absurd (cc none)) (c.in_ok-sync.ensures.makes.confined tells)))
    (clearing_leaves disk g.met.D.TreeDisk.laws c.args.base.now c.requires.base c.args.puts.now _ ready _ _
    (c.in_ok-sync.ensures.makes.ended tells ∙ c.in_ok-put_targets.ensures.makes.ended tells) (c.in_ok-sync.ensures.synced tells)
    (confined_on removed (λ p none. absurd (cc none)) (c.sync-2.ensures.makes.confined tells)))

pub returns-clause-seen : goal.returns-clause-seen
returns-clause-seen g c = λ tells.
    let disk = g.D.TreeDisk.disk in
    let base = c.args.base.now in
    let removed : Confined disk (Among (λ (q : Name). same_name q (gate c.args.base.now))) c.sync.new.disk c.remove.new.disk = rw c.requires.gate at (c.in_ok-remove.ensures.makes.confined tells) in
    then_own base (λ (q : Name). same_name q (gate base)) _ _ _ _ (gate_own base) c.in_ok-put_targets.ensures.makes.later
    (omega (arith, c.in_ok-sync.ensures.makes.later, c.in_ok-remove.ensures.makes.later, c.sync-2.ensures.makes.later)) (c.in_ok-put_targets.ensures.seen tells)
    (λ q out. ap (λ (t : Tree). get t q) (c.in_ok-put_targets.ensures.makes.ended tells) ∙ same_all_put base c.requires.base c.args.puts.now _ q out)
    (confined_then (confined_wider (λ p none. absurd (cc none)) (c.in_ok-sync.ensures.makes.confined tells)) (confined_on removed (λ p none. absurd (cc none)) (c.sync-2.ensures.makes.confined tells)))
