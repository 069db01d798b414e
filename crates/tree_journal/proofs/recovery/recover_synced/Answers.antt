use Rattle.std.proofs.Common.{ap, sym, arith, ◌∙◌}
use Rattle.std.specs.FinMap.{get}
use Rattle.journal_log.specs.tree-disk.Confined.{Among}
use Rattle.journal_log.proofs.tree-disk.ConfinedLaws.{confined_read, confined_start}
use Rattle.journal_log.specs.tree-disk.Steps.{no_name}
use Rattle.journal_log.specs.tree-disk.Tree.{Name}
use Rattle.tree_journal.specs.Recovery.{is_committed, is_flag}
use Rattle.tree_journal.proofs.Recovering.{no_flag, recovers_clear, recovers_find_stopped, recovers_on, recovers_replayed, recovers_replay_stopped, recovers_stopped}
use Rattle.journal_log.proofs.cny-base.Faults.{passed_memory}
use Rattle.tree_journal.proofs.recovery.recover_synced.Goals as goal

pub returns-in_err-gate_path : goal.returns-in_err-gate_path
returns-in_err-gate_path g c =
    let laws = g.met.D.TreeDisk.laws in
    recovers_stopped _ laws c.args.base.now _ _ _ _ (omega arith) (λ tells. confined_start laws (Among no_name) c.args.disk.now)
    (passed_memory _ c.from_residual.result c.from_residual.ensures.1 c.in_err-gate_path.ensures.memory) tt

pub returns-in_default : goal.returns-in_default
returns-in_default g c =
    let laws = g.met.D.TreeDisk.laws in
    recovers_clear _ laws c.args.base.now _ _ (omega arith) (λ tells. confined_start laws (Among no_name) c.args.disk.now)
    (λ tells. no_flag c.args.base.now _ (laws.reads_well_formed c.args.disk.now) (rw c.in_default.is at c.in_ok-gate_path.ensures.none)) c.requires

pub returns-in_err-is_flag_set : goal.returns-in_err-is_flag_set
returns-in_err-is_flag_set g c = recovers_find_stopped _ g.met.D.TreeDisk.laws c.args.base.now _ _ _ _ c.in_err-is_flag_set.ensures c.from_residual-in_err-is_flag_set.ensures.1

pub returns-then-not-branch : goal.returns-then-not-branch
returns-then-not-branch g c =
    let laws = g.met.D.TreeDisk.laws in
    let at = rw c.in-Some.is at c.in_ok-gate_path.ensures.some in
    recovers_clear _ laws c.args.base.now _ _ c.in_ok-is_flag_set.ensures.later (λ tells. confined_read laws (Among no_name) (c.in_ok-is_flag_set.ensures.found tells))
    (λ tells. ap (λ (p : Name). is_flag (get (g.D.TreeDisk.disk.reads c.args.disk.now) p)) (sym at) ∙ sym (c.in_ok-is_flag_set.ensures.found tells).answer ∙ c.if-not-branch.true)
    (λ tells p. (c.in_ok-is_flag_set.ensures.found tells).same.unsynced p ∙ c.requires tells p)

pub replay_log-requires-clause-gate : goal.replay_log-requires-clause-gate
replay_log-requires-clause-gate g c = rw c.in-Some.is at c.in_ok-gate_path.ensures.some

pub replay_log-requires-clause-gate_path : goal.replay_log-requires-clause-gate_path
replay_log-requires-clause-gate_path g c = rw c.in-Some.is at c.in_ok-gate_path.ensures.is_path

pub replay_log-requires-clause-synced : goal.replay_log-requires-clause-synced
replay_log-requires-clause-synced g c = λ tells p. (c.in_ok-is_flag_set.ensures.found tells).same.unsynced p ∙ c.requires tells p

pub replay_log-requires-clause-flag_set : goal.replay_log-requires-clause-flag_set
replay_log-requires-clause-flag_set g c = λ tells.
    let found = c.in_ok-is_flag_set.ensures.found tells in
    let at = rw c.in-Some.is at c.in_ok-gate_path.ensures.some in
    ap (is_committed c.args.base.now) found.same.reads ∙ ap (λ (p : Name). is_flag (get (g.D.TreeDisk.disk.reads c.args.disk.now) p)) (sym at) ∙ sym found.answer ∙ c.if-not-branch.false

pub returns-in_err-replay_log : goal.returns-in_err-replay_log
returns-in_err-replay_log g c =
    let laws = g.met.D.TreeDisk.laws in
    let at = rw c.in-Some.is at c.in_ok-gate_path.ensures.some in
    recovers_on _ laws c.args.base.now _ _ _ _ c.in_ok-is_flag_set.ensures.later (λ tells. confined_read laws (Among no_name) (c.in_ok-is_flag_set.ensures.found tells))
    (recovers_replay_stopped _ laws c.args.base.now _ _ _ _ (λ tells.
    let found = c.in_ok-is_flag_set.ensures.found tells in
    ap (is_committed c.args.base.now) found.same.reads ∙ ap (λ (p : Name). is_flag (get (g.D.TreeDisk.disk.reads c.args.disk.now) p)) (sym at) ∙ sym found.answer ∙ c.if-not-branch.false) c.in_err-replay_log.ensures c.from_residual-in_err-replay_log.ensures.1)

pub returns : goal.returns
returns g c =
    let laws = g.met.D.TreeDisk.laws in
    let at = rw c.in-Some.is at c.in_ok-gate_path.ensures.some in
    recovers_on _ laws c.args.base.now _ _ _ _ c.in_ok-is_flag_set.ensures.later (λ tells. confined_read laws (Among no_name) (c.in_ok-is_flag_set.ensures.found tells))
    (recovers_replayed _ laws c.args.base.now _ _ (λ tells.
    let found = c.in_ok-is_flag_set.ensures.found tells in
    ap (is_committed c.args.base.now) found.same.reads ∙ ap (λ (p : Name). is_flag (get (g.D.TreeDisk.disk.reads c.args.disk.now) p)) (sym at) ∙ sym found.answer ∙ c.if-not-branch.false) c.in_ok-replay_log.ensures)
