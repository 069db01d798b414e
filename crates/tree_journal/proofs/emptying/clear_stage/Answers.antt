use Rattle.std.proofs.Common.{◌≡◌, arith}
use Rattle.std.specs.Prelude.{codes}
use Rattle.journal_log.specs.cny-base.declared.stop.Stop.TheVariants as stop
use Rattle.journal_log.specs.tree-disk.Steps.{no_name}
use Rattle.journal_log.proofs.tree-disk.StepLaws.{makes_no_memory}
use Rattle.journal_log.proofs.StagedLaws.{p_part as staged_part}
use Rattle.journal_log.proofs.cny-base.Faults.{passed_memory}
use Rattle.tree_journal.proofs.Emptied.{empties_nothing}
use Rattle.tree_journal.proofs.OwnNames.{short_own}
use Rattle.tree_journal.proofs.emptying.clear_stage.Goals as goal

pub own_path-requires-clause-part : goal.own_path-requires-clause-part
own_path-requires-clause-part g c = staged_part

pub own_path-requires-clause-short : goal.own_path-requires-clause-short
own_path-requires-clause-short g c = short_own c.args.base.now (codes "p") c.requires.short (omega arith)

pub returns-in_err-dir-clause-any_moment : goal.returns-in_err-dir-clause-any_moment
returns-in_err-dir-clause-any_moment g c =
    let memory = passed_memory _ c.from_residual.result c.from_residual.ensures.1 c.in_err-dir.ensures.memory in
    (empties_nothing _ g.met.D.TreeDisk.laws c.args.base.now c.own_path.ensures.base c.args.disk.now c.requires.told (λ s. s ≡ stop.Memory) _ c.from_residual.result
    (makes_no_memory g.met.D.TreeDisk.laws no_name c.args.disk.now memory) memory).any_moment
