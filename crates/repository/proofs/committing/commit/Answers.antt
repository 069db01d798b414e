use Rattle.std.proofs.Common.{refl, rules}
use Rattle.repository.proofs.committing.commit.Goals as goal

pub commit_contents-requires : goal.commit_contents-requires
commit_contents-requires g c = λ κs lives. (lives, (search rules, (refl, (refl, ((λ tells. refl), ((λ tells. c.requires.contents), c.requires.rests))))))
