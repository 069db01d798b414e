use Rattle.std.proofs.Common.{◌≡◌, true, IsTrue, List, length, refl, ap, sym, subst, arith, ◌∙◌}
use Rattle.std.specs.Prelude.{codes}
use Rattle.journal_log.specs.cny-base.Path.{parent}
use Rattle.journal_log.specs.tree-disk.Clear.{is_within}
use Rattle.journal_log.specs.tree-disk.Rows.{is_dir_at}
use Rattle.journal_log.proofs.tree-disk.StepLaws.{makes_no_memory, makes_stop, makes_then, makes_wider}
use Rattle.journal_log.specs.tree-disk.Tree.{Name}
use Rattle.journal_log.specs.declared.put.Put.{Put}
use Rattle.journal_log.specs.Own.{staged}
use Rattle.tree_journal.specs.Staging.{HoldsNoOthers}
use Rattle.tree_journal.specs.Steps.{with_stage, with_all_bytes, HasNoStrays, HaveRoom}
use Rattle.tree_journal.proofs.Applying.{numbers_fit, same_length}
use Rattle.tree_journal.proofs.OwnFiles.{ends_so}
use Rattle.tree_journal.proofs.OwnNames.{short_own, staged_is_path, staged_not_root}
use Rattle.tree_journal.proofs.StagedBytes.{no_others, room_for, stage_dir}
use Rattle.journal_log.proofs.tree-disk.Names.{parent_join}
use Rattle.journal_log.proofs.cny-base.Faults.{passed_memory}
use Rattle.journal_log.proofs.StagedLaws.{p_part as staged_part}
use Rattle.tree_journal.proofs.staging.stage.Goals as goal

pub own_path-requires-clause-part : goal.own_path-requires-clause-part
own_path-requires-clause-part g c = staged_part

pub own_path-requires-clause-short : goal.own_path-requires-clause-short
own_path-requires-clause-short g c = short_own c.args.base.now (codes "p") c.requires.short (omega arith)

pub returns-in_err-dir-clause-makes : goal.returns-in_err-dir-clause-makes
returns-in_err-dir-clause-makes g c = makes_no_memory g.met.D.TreeDisk.laws (is_within (staged c.args.base.now)) c.args.disk.now (passed_memory _ c.from_residual.result c.from_residual.ensures.1 c.in_err-dir.ensures.memory)

pub clear_dir-requires-clause-not_root : goal.clear_dir-requires-clause-not_root
clear_dir-requires-clause-not_root g c = λ is. staged_not_root c.args.base.now c.requires.base (sym c.in_ok-dir.ensures.path ∙ is)

pub clear_dir-requires-clause-parent : goal.clear_dir-requires-clause-parent
clear_dir-requires-clause-parent g c = λ tells.
    ap (λ (p : Name). is_dir_at (g.D.TreeDisk.disk.reads c.args.disk.now) p) (ap parent c.in_ok-dir.ensures.path ∙ parent_join c.args.base.now (codes "p") c.requires.base refl) ∙ c.requires.told tells

within : (dir base q : Name) → dir ≡ staged base → IsTrue (is_within dir q) → IsTrue (is_within (staged base) q)
within dir base q is h = subst (λ (p : Name). is_within p q ≡ true) is h

pub returns-in_err-clear_dir-clause-makes : goal.returns-in_err-clear_dir-clause-makes
returns-in_err-clear_dir-clause-makes g c = makes_stop (makes_wider (λ q h. within _ c.args.base.now q c.in_ok-dir.ensures.path h) c.in_err-clear_dir.ensures.makes) c.from_residual-in_err-clear_dir.ensures.1

pub write_all-requires-clause-same_number : goal.write_all-requires-clause-same_number
write_all-requires-clause-same_number g c = ap length c.get.ensures.value ∙ same_length c.args.puts.now c.args.numbered.now c.requires.numbered

pub write_all-requires-clause-told : goal.write_all-requires-clause-told
write_all-requires-clause-told g c = λ tells.
    rw (c.in_ok-clear_dir.ensures.makes.ended tells, c.in_ok-dir.ensures.path) (stage_dir c.args.base.now c.requires.base c.requires.short c.args.puts.now _)

pub write_all-requires-clause-bare : goal.write_all-requires-clause-bare
write_all-requires-clause-bare g c = λ tells.
    let base = c.args.base.now in
    let dir = staged_is_path base c.requires.base c.requires.short in
    let tree = g.D.TreeDisk.disk.reads c.clear_dir.new.disk in
    subst (λ (l : List Put). HaveRoom base l c.args.numbered.now tree) (sym c.get.ensures.value)
    (room_for base c.requires.base dir c.args.puts.now c.args.numbered.now c.requires.numbered tree
    (subst (λ (p : Name). HasNoStrays p c.args.puts.now tree) c.in_ok-dir.ensures.path (c.in_ok-clear_dir.ensures.clear tells))
    (numbers_fit c.args.puts.now c.args.numbered.now c.requires.numbered c.requires.formed))

pub returns-clause-makes : goal.returns-clause-makes
returns-clause-makes g c =
    makes_then {next = with_all_bytes c.args.base.now c.get.result.now c.args.numbered.now} (makes_wider (λ q h. within _ c.args.base.now q c.in_ok-dir.ensures.path h) c.in_ok-clear_dir.ensures.makes) (λ p h. h) c.write_all.ensures
    (λ tells. ap (λ (p : Name). with_all_bytes c.args.base.now c.get.result.now c.args.numbered.now (with_stage p c.args.puts.now (g.D.TreeDisk.disk.reads c.args.disk.now))) c.in_ok-dir.ensures.path
    ∙ ap (λ (l : List Put). with_all_bytes c.args.base.now l c.args.numbered.now (with_stage (staged c.args.base.now) c.args.puts.now (g.D.TreeDisk.disk.reads c.args.disk.now))) c.get.ensures.value)

pub returns-clause-clear : goal.returns-clause-clear
returns-clause-clear g c = λ tells.
    let base = c.args.base.now in
    let puts = c.args.puts.now in
    let made = c.args.numbered.now in
    let tree = g.D.TreeDisk.disk.reads c.clear_dir.new.disk in
    ends_so g.D.TreeDisk.disk.tells (with_all_bytes base c.get.result.now made tree) _ _ _ _ c.write_all.ensures.ended tells
    (λ done. subst (HoldsNoOthers base made) (sym (done ∙ ap (λ (l : List Put). with_all_bytes base l made tree) c.get.ensures.value))
    (no_others base puts made c.requires.numbered tree (subst (λ (p : Name). HasNoStrays p puts tree) c.in_ok-dir.ensures.path (c.in_ok-clear_dir.ensures.clear tells))))
