use Rattle.repo_serve.proofs.StoredReplies.{undamaged}
use Rattle.repo_serve.proofs.laws.sound_replies.Goals as goal

pub returns : goal.returns
returns c = λ x r stream path stores bad. undamaged x r bad.request path stores bad.damaged
