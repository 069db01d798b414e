use Rattle.repo_serve.proofs.AnswersLaws.{answers_stop, answers_then}
use Rattle.repo_serve.proofs.contents.content_of.Goals as goal

pub returns-in_err-check_room-clause-answers : goal.returns-in_err-check_room-clause-answers
returns-in_err-check_room-clause-answers g c = answers_stop c.in_err-check_room.ensures c.from_residual.ensures.1 (λ told refusal none. none) (λ told path no. absurd no)

pub returns-clause-answers : goal.returns-clause-answers
returns-clause-answers g c =
    answers_then g.met.D.TreeDisk.laws c.in_ok-check_room.ensures c.read_content.ensures.answers (λ told u reply is. is) (λ told u refusal none. none) (λ told u path bad. bad)
