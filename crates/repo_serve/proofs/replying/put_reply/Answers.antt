use Rattle.std.proofs.Common.{refl}
use Rattle.repo_serve.proofs.AnswersLaws.{answers_stop}
use Rattle.repo_serve.proofs.replying.put_reply.Goals as goal

pub returns-in-Err-clause-answers : goal.returns-in-Err-clause-answers
returns-in-Err-clause-answers g c = answers_stop c.in-Err.ensures.answers refl (λ told refusal none. none) (λ told path bad. bad)
