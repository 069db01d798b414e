use Rattle.std.proofs.Common.{ap, ◌∙◌}
use Rattle.std.specs.FinMap.{get}
use Rattle.std.specs.Fmt.{decimal}
use Rattle.journal_log.specs.cny-base.Path.{is_path, join, parent}
use Rattle.journal_log.specs.tree-disk.Clear.{is_within}
use Rattle.journal_log.proofs.tree-disk.ClearLaws.{itself_within}
use Rattle.journal_log.specs.tree-disk.Rows.{is_dir_at}
use Rattle.journal_log.proofs.tree-disk.StepLaws.{makes_as, makes_no_memory, makes_wider}
use Rattle.journal_log.specs.tree-disk.Tree.{Name}
use Rattle.journal_log.specs.Own.{staged}
use Rattle.tree_journal.specs.Steps.{with_own_file}
use Rattle.tree_journal.proofs.OwnFiles.{may_write_bare, written_bare}
use Rattle.tree_journal.proofs.StagedBytes.{file_parent, in_dir}
use Rattle.journal_log.proofs.cny-base.Faults.{passed_memory}
use Rattle.tree_journal.proofs.staging.write_staged.Goals as goal

pub path_of-requires : goal.path_of-requires
path_of-requires g c = ap (λ (d : Name). is_path (join d (decimal c.args.number))) c.requires.dir ∙ c.requires.path

pub returns-in_err-path : goal.returns-in_err-path
returns-in_err-path g c = makes_no_memory g.met.D.TreeDisk.laws (is_within (staged c.args.base.now)) c.args.disk.now (passed_memory _ c.from_residual.result c.from_residual.ensures.1 c.in_err-path.ensures.memory)

pub append-requires : goal.append-requires
append-requires g c = λ tells. may_write_bare _ _
    (ap (λ (p : Name). is_dir_at (g.D.TreeDisk.disk.reads c.args.disk.now) (parent p)) (c.in_ok-path.ensures.path ∙ ap (λ (d : Name). join d (decimal c.args.number)) c.requires.dir)
    ∙ ap (λ (p : Name). is_dir_at (g.D.TreeDisk.disk.reads c.args.disk.now) p) (file_parent c.args.base.now c.requires.base c.args.number c.ranges.number.fits) ∙ c.requires.told tells)
    (ap (get (g.D.TreeDisk.disk.reads c.args.disk.now)) (c.in_ok-path.ensures.path ∙ ap (λ (d : Name). join d (decimal c.args.number)) c.requires.dir) ∙ c.requires.bare tells)

pub returns : goal.returns
returns g c =
    let path = c.in_ok-path.ensures.path ∙ ap (λ (d : Name). join d (decimal c.args.number)) c.requires.dir in
    let tree = g.D.TreeDisk.disk.reads c.args.disk.now in
    makes_as (makes_wider (λ q h. in_dir c.args.base.now c.requires.base c.args.number _ path q (itself_within _ q h)) c.append.ensures.makes)
    (λ tells. written_bare tree _ c.args.bytes.now (g.met.D.TreeDisk.laws.reads_well_formed c.args.disk.now) (ap is_path path ∙ c.requires.path) (ap (get tree) path ∙ c.requires.bare tells)
    ∙ ap (λ (p : Name). with_own_file p c.args.bytes.now tree) path)
