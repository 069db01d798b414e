use Rattle.tree_journal.proofs.Finding.{finds_answer, finds_no_memory}
use Rattle.tree_journal.proofs.unstaged.digest_of.Goals as goal

pub returns-in_err-piece : goal.returns-in_err-piece
returns-in_err-piece g c = finds_no_memory g.met.D.TreeDisk.laws c.args.disk.now c.from_residual.ensures.1

pub returns : goal.returns
returns g c = finds_answer c.in_ok-hash_pieces.ensures (λ tells holds. c.finalize.ensures _ holds)
