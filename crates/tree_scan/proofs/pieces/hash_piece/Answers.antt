use Rattle.std.proofs.Common.{◌++◌, subst}
use Rattle.sha1.specs.Sha1.{Holds}
use Rattle.tree_disk.proofs.cny-base.ByteLists.{read_front}
use Rattle.tree_scan.proofs.pieces.hash_piece.Goals as goal

pub returns-clause-given : goal.returns-clause-given
returns-clause-given g c tells bytes given =
    let read = c.in_ok-count.ensures.filled tells in
    subst (λ l. Holds c.update.new.self (bytes ++ l)) (read_front _ c.args.buf.now _ c.args.at c.in_ok-count.count read.most read.bytes) (c.update.ensures bytes given)
