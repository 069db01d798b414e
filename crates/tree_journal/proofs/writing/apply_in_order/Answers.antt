use Rattle.std.proofs.Common.{ap, sym, refl, ◌∙◌}
use Rattle.std.specs.Prelude.{codes}
use Rattle.journal_log.specs.cny-base.Path.{parent}
use Rattle.journal_log.specs.tree-disk.Rows.{is_dir_at}
use Rattle.journal_log.specs.tree-disk.Tree.{Name, is_dir}
use Rattle.journal_log.specs.Own.{gate, log}
use Rattle.tree_journal.specs.Apply.{with_base}
use Rattle.tree_journal.specs.Steps.{with_staged}
use Rattle.tree_journal.proofs.BetweenSteps.{with_flag, with_log}
use Rattle.tree_journal.proofs.OwnFiles.{base_stands}
use Rattle.tree_journal.proofs.OwnNames.{gate_not_root, log_not_root}
use Rattle.tree_journal.proofs.StagedBytes.{staged_keeps_base}
use Rattle.tree_journal.proofs.Applying.{is_flagged}
use Rattle.tree_journal.proofs.InOrder.{applies_committed, applies_unsynced, applies_unwritten, commits_replayed, commits_unset, file_at, has_written, makes_base, makes_log, makes_stage, makes_synced}
use Rattle.journal_log.proofs.tree-disk.Names.{parent_join}
use Rattle.tree_journal.proofs.writing.apply_in_order.Goals as goal

-- ---- up to the log

pub returns-in_err-sync : goal.returns-in_err-sync
returns-in_err-sync g c = applies_unsynced _ g.met.D.TreeDisk.laws c.args.base.now c.requires.base c.args.puts.now _ c.requires.told c.in_err-sync.ensures.makes c.from_residual.ensures.1

pub make_dir-requires-clause-parent : goal.make_dir-requires-clause-parent
make_dir-requires-clause-parent g c = λ tells. rw (c.in_ok-sync.ensures.makes.ended tells) (c.requires.told tells).parent_stands

pub returns-in_err-make_dir : goal.returns-in_err-make_dir
returns-in_err-make_dir g c =
    applies_unwritten _ g.met.D.TreeDisk.laws c.args.base.now c.requires.base c.args.puts.now _ c.requires.told c.in_ok-sync.ensures.makes c.in_ok-sync.ensures.synced (with_base c.args.base.now)
    (makes_base c.args.base.now c.in_err-make_dir.ensures) c.from_residual-in_err-make_dir.ensures.1

pub stage-requires-clause-logged : goal.stage-requires-clause-logged
stage-requires-clause-logged g c = c.requires.written.logged

pub stage-requires-clause-numbered : goal.stage-requires-clause-numbered
stage-requires-clause-numbered g c = c.requires.written.numbered

pub stage-requires-clause-formed : goal.stage-requires-clause-formed
stage-requires-clause-formed g c = c.requires.written.formed

pub stage-requires-clause-told : goal.stage-requires-clause-told
stage-requires-clause-told g c = λ tells. rw (c.in_ok-make_dir.ensures.ended tells) (base_stands c.args.base.now _)

pub returns-in_err-stage : goal.returns-in_err-stage
returns-in_err-stage g c =
    applies_unwritten _ g.met.D.TreeDisk.laws c.args.base.now c.requires.base c.args.puts.now _ c.requires.told c.in_ok-sync.ensures.makes c.in_ok-sync.ensures.synced
    (λ tree. with_staged c.args.base.now c.args.puts.now c.args.numbered.now (with_base c.args.base.now tree))
    (makes_stage c.args.base.now c.args.puts.now c.args.numbered.now c.in_ok-make_dir.ensures c.in_err-stage.ensures.makes) c.from_residual-in_err-stage.ensures.1

pub write_own_file-requires-clause-not_root : goal.write_own_file-requires-clause-not_root
write_own_file-requires-clause-not_root g c = λ is. log_not_root c.args.base.now c.requires.base (sym c.requires.log ∙ is)

pub write_own_file-requires-clause-parent : goal.write_own_file-requires-clause-parent
write_own_file-requires-clause-parent g c = λ tells.
    let tree = g.D.TreeDisk.disk.reads c.sync.new.disk in
    rw (c.in_ok-stage.ensures.makes.ended tells, c.in_ok-make_dir.ensures.ended tells)
    (ap (λ (p : Name). is_dir_at (with_staged c.args.base.now c.args.puts.now c.args.numbered.now (with_base c.args.base.now tree)) p) (ap parent c.requires.log ∙ parent_join c.args.base.now (codes "log") c.requires.base refl)
    ∙ ap is_dir (staged_keeps_base c.args.base.now c.requires.base c.requires.short c.args.puts.now c.args.numbered.now (with_base c.args.base.now tree)) ∙ base_stands c.args.base.now tree)

pub returns-in_err-write_own_file : goal.returns-in_err-write_own_file
returns-in_err-write_own_file g c =
    applies_unwritten _ g.met.D.TreeDisk.laws c.args.base.now c.requires.base c.args.puts.now _ c.requires.told c.in_ok-sync.ensures.makes c.in_ok-sync.ensures.synced
    (with_log c.args.base.now c.args.puts.now c.args.numbered.now c.args.bytes.now)
    (makes_log c.args.base.now c.args.puts.now c.args.numbered.now c.args.bytes.now (makes_stage c.args.base.now c.args.puts.now c.args.numbered.now c.in_ok-make_dir.ensures c.in_ok-stage.ensures.makes) (file_at c.args.log_path.now (log c.args.base.now) c.args.bytes.now c.requires.log c.in_err-write_own_file.ensures))
    c.from_residual-in_err-write_own_file.ensures.1

pub returns-in_err-sync-2 : goal.returns-in_err-sync-2
returns-in_err-sync-2 g c =
    applies_unwritten _ g.met.D.TreeDisk.laws c.args.base.now c.requires.base c.args.puts.now _ c.requires.told c.in_ok-sync.ensures.makes c.in_ok-sync.ensures.synced
    (with_log c.args.base.now c.args.puts.now c.args.numbered.now c.args.bytes.now)
    (makes_synced (makes_log c.args.base.now c.args.puts.now c.args.numbered.now c.args.bytes.now (makes_stage c.args.base.now c.args.puts.now c.args.numbered.now c.in_ok-make_dir.ensures c.in_ok-stage.ensures.makes) (file_at c.args.log_path.now (log c.args.base.now) c.args.bytes.now c.requires.log c.in_ok-write_own_file.ensures))
    c.in_err-sync-2.ensures.makes) c.from_residual-in_err-sync-2.ensures.1

-- ---- the flag, and what follows it

pub write_own_file-requires-2-clause-not_root : goal.write_own_file-requires-2-clause-not_root
write_own_file-requires-2-clause-not_root g c = λ is. gate_not_root c.args.base.now c.requires.base (sym c.requires.gate ∙ is)

pub write_own_file-requires-2-clause-parent : goal.write_own_file-requires-2-clause-parent
write_own_file-requires-2-clause-parent g c = λ tells.
    let first = has_written _ g.met.D.TreeDisk.laws c.args.base.now c.requires.base c.args.puts.now _ c.requires.told c.in_ok-sync.ensures.makes c.in_ok-sync.ensures.synced c.requires.short c.args.numbered.now c.args.bytes.now c.requires.written
    c.in_ok-make_dir.ensures c.in_ok-stage.ensures.makes c.in_ok-stage.ensures.clear (file_at c.args.log_path.now (log c.args.base.now) c.args.bytes.now c.requires.log c.in_ok-write_own_file.ensures) c.in_ok-sync-2.ensures.makes c.in_ok-sync-2.ensures.synced in
    ap (λ (p : Name). is_dir_at (g.D.TreeDisk.disk.reads c.sync-2.new.disk) p) (ap parent c.requires.gate ∙ parent_join c.args.base.now (codes "gate") c.requires.base refl) ∙ (first.ready tells).has_log.can.base_stands

pub returns-in_err-write_own_file-2 : goal.returns-in_err-write_own_file-2
returns-in_err-write_own_file-2 g c =
    let first = has_written _ g.met.D.TreeDisk.laws c.args.base.now c.requires.base c.args.puts.now _ c.requires.told c.in_ok-sync.ensures.makes c.in_ok-sync.ensures.synced c.requires.short c.args.numbered.now c.args.bytes.now c.requires.written
    c.in_ok-make_dir.ensures c.in_ok-stage.ensures.makes c.in_ok-stage.ensures.clear (file_at c.args.log_path.now (log c.args.base.now) c.args.bytes.now c.requires.log c.in_ok-write_own_file.ensures) c.in_ok-sync-2.ensures.makes c.in_ok-sync-2.ensures.synced in
    applies_committed _ g.met.D.TreeDisk.laws c.args.base.now c.requires.base c.args.puts.now _ c.requires.told c.requires.written first
    (commits_unset _ c.args.base.now c.requires.base c.args.numbered.now _ first.ready (with_flag c.args.base.now)
    (file_at c.args.gate_path.now (gate c.args.base.now) (codes "O") c.requires.gate c.in_err-write_own_file-2.ensures) c.from_residual-in_err-write_own_file-2.ensures.1)

pub returns-in_err-sync-3 : goal.returns-in_err-sync-3
returns-in_err-sync-3 g c =
    let first = has_written _ g.met.D.TreeDisk.laws c.args.base.now c.requires.base c.args.puts.now _ c.requires.told c.in_ok-sync.ensures.makes c.in_ok-sync.ensures.synced c.requires.short c.args.numbered.now c.args.bytes.now c.requires.written
    c.in_ok-make_dir.ensures c.in_ok-stage.ensures.makes c.in_ok-stage.ensures.clear (file_at c.args.log_path.now (log c.args.base.now) c.args.bytes.now c.requires.log c.in_ok-write_own_file.ensures) c.in_ok-sync-2.ensures.makes c.in_ok-sync-2.ensures.synced in
    applies_committed _ g.met.D.TreeDisk.laws c.args.base.now c.requires.base c.args.puts.now _ c.requires.told c.requires.written first
    (commits_unset _ c.args.base.now c.requires.base c.args.numbered.now _ first.ready (with_flag c.args.base.now)
    (makes_synced (file_at c.args.gate_path.now (gate c.args.base.now) (codes "O") c.requires.gate c.in_ok-write_own_file-2.ensures) c.in_err-sync-3.ensures.makes) c.from_residual-in_err-sync-3.ensures.1)

pub replay-requires-clause-logged : goal.replay-requires-clause-logged
replay-requires-clause-logged g c = c.requires.written.logged

pub replay-requires-clause-told : goal.replay-requires-clause-told
replay-requires-clause-told g c = λ tells.
    let first = has_written _ g.met.D.TreeDisk.laws c.args.base.now c.requires.base c.args.puts.now _ c.requires.told c.in_ok-sync.ensures.makes c.in_ok-sync.ensures.synced c.requires.short c.args.numbered.now c.args.bytes.now c.requires.written
    c.in_ok-make_dir.ensures c.in_ok-stage.ensures.makes c.in_ok-stage.ensures.clear (file_at c.args.log_path.now (log c.args.base.now) c.args.bytes.now c.requires.log c.in_ok-write_own_file.ensures) c.in_ok-sync-2.ensures.makes c.in_ok-sync-2.ensures.synced in
    let flag = file_at c.args.gate_path.now (gate c.args.base.now) (codes "O") c.requires.gate c.in_ok-write_own_file-2.ensures in
    is_flagged _ c.args.base.now c.requires.base c.args.numbered.now _ (first.ready tells) _ (c.in_ok-sync-3.ensures.makes.ended tells ∙ flag.ended tells) (c.in_ok-sync-3.ensures.synced tells)

pub returns : goal.returns
returns g c =
    let first = has_written _ g.met.D.TreeDisk.laws c.args.base.now c.requires.base c.args.puts.now _ c.requires.told c.in_ok-sync.ensures.makes c.in_ok-sync.ensures.synced c.requires.short c.args.numbered.now c.args.bytes.now c.requires.written
    c.in_ok-make_dir.ensures c.in_ok-stage.ensures.makes c.in_ok-stage.ensures.clear (file_at c.args.log_path.now (log c.args.base.now) c.args.bytes.now c.requires.log c.in_ok-write_own_file.ensures) c.in_ok-sync-2.ensures.makes c.in_ok-sync-2.ensures.synced in
    applies_committed _ g.met.D.TreeDisk.laws c.args.base.now c.requires.base c.args.puts.now _ c.requires.told c.requires.written first
    (commits_replayed _ c.args.base.now c.requires.base c.args.numbered.now _ first.ready
    (makes_synced (file_at c.args.gate_path.now (gate c.args.base.now) (codes "O") c.requires.gate c.in_ok-write_own_file-2.ensures) c.in_ok-sync-3.ensures.makes)
    c.replay.ensures.makes c.replay.ensures.any_moment c.replay.ensures.synced c.replay.ensures.seen)
