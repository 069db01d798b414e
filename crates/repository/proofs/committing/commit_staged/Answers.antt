use Rattle.std.proofs.Common.{refl, rules}
use Rattle.change_pull.proofs.Names.{have_names}
use Rattle.repository.proofs.committing.commit_staged.Goals as goal

pub commit_contents-requires : goal.commit_contents-requires
commit_contents-requires g c = λ κs lives. (lives, (search rules, (refl, (have_names c.args.contents.now (g.D.TreeDisk.disk.reads c.args.disk.now), ((λ tells. record { are = refl; staged = c.requires.staged tells }), (c.requires.contents, c.requires.rests))))))
