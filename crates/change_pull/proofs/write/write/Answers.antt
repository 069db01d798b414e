use Rattle.std.proofs.Common.{ap, subst, sym, ◌∙◌, arith}
use Rattle.journal_log.specs.tree-disk.Disk.{one_name}
use Rattle.journal_log.specs.tree-disk.Rows.{can_append, with_append}
use Rattle.journal_log.specs.tree-disk.Tree.{Name}
use Rattle.change_pull.specs.Writes.{Writes}
use Rattle.change_pull.proofs.Disks.{written_as}
use Rattle.change_pull.proofs.write.write.Goals as goal

pub append-requires : goal.append-requires
append-requires g c = λ tells.
    ap (λ (p : Name). can_append (g.D.TreeDisk.disk.reads c.args.disk.now) p) c.in_ok-path.ensures.path ∙ (c.requires.room tells).free c.args.number (omega arith) c.in_ok-path.ensures.fits

pub returns-clause-writes : goal.returns-clause-writes
returns-clause-writes g c =
    subst (λ (p : Name). Writes g.D.TreeDisk.disk (one_name p) (λ tree. with_append tree p c.args.bytes.now) c.args.disk.now c.append.new.disk c.halted.result) c.in_ok-path.ensures.path
    (subst (λ r. Writes g.D.TreeDisk.disk (one_name c.in_ok-path.path) (λ tree. with_append tree c.in_ok-path.path c.args.bytes.now) c.args.disk.now c.append.new.disk r) (sym c.halted.ensures.same) (written_as c.append.result c.append.ensures.makes))
