use Rattle.journal_log.proofs.tree-disk.StepLaws.{makes_then}
use Rattle.journal_log.proofs.tree-disk.ClearLaws.{itself_within}
use Rattle.journal_log.specs.tree-disk.Rows.{with_append}
use Rattle.tree_journal.proofs.OwnFiles.{may_write, written}
use Rattle.tree_journal.proofs.flag.write_own_file.Goals as goal

pub append-requires : goal.append-requires
append-requires g c = λ tells. rw (c.in_ok-clear_tree.ensures.ended tells) (may_write _ c.args.path.now c.requires.path c.requires.not_root (c.requires.parent tells))

pub returns : goal.returns
returns g c = makes_then {next = λ tree. with_append tree c.args.path.now c.args.bytes.now} c.in_ok-clear_tree.ensures (itself_within c.args.path.now) c.append.ensures.makes (λ tells. written _ c.args.path.now c.args.bytes.now)
