use Rattle.std.proofs.Common.{◌++◌, subst}
use Rattle.tree_disk.proofs.cny-base.ByteLists.{read_front}
use Rattle.content_store.proofs.name_file.add_piece.Goals as goal

pub returns-clause-given : goal.returns-clause-given
returns-clause-given g c tells bytes given =
    let read = c.in_ok-count.ensures.filled tells in
    subst (λ l. g.N.Namer.is_given c.args.namer.now c.add.new.naming (bytes ++ l)) (read_front _ c.args.buf.now _ c.args.at c.in_ok-count.count read.most read.bytes) (c.add.ensures bytes given)
