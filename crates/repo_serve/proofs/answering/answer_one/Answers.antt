use Rattle.std.proofs.Common.{subst, Option, ◌∙◌}
use Rattle.std.specs.Prelude.{MatchOption}
use Rattle.repo_serve.specs.Steps.{IsNext, IsOver}
use Rattle.repo_serve.specs.declared.reading.Next.{Next}
use Rattle.repo_serve.proofs.AnswersLaws.{answers_stop, answers_value}
use Rattle.repo_serve.proofs.Progress.{request_decides}
use Rattle.repo_serve.proofs.answering.answer_one.Goals as goal

pub returns-in_err-sent-clause-answers : goal.returns-in_err-sent-clause-answers
returns-in_err-sent-clause-answers g c =
    let tree = g.D.TreeDisk.disk.reads c.args.disk.now in
    let answered = c.args.answered.now in
    let bytes = c.args.bytes.now in
    let q = c.in-Some.next.request in
    let to = c.in-Some.next.to in
    let next : IsNext answered.number bytes q to =
    subst (λ (o : Option Next). MatchOption o (IsOver answered.number bytes) (λ (it : Next). IsNext answered.number bytes it.request it.to)) c.in-Some.is c.in_ok-next.ensures.next in
    answers_stop c.in_err-sent.ensures.answers c.from_residual-in_err-sent.ensures.1 (λ told refusal none. request_decides tree answered bytes q to next refusal none)
    (λ told path bad. record { request = q; to = to; next = next; damaged = bad })

pub returns-clause-answers : goal.returns-clause-answers
returns-clause-answers g c =
    let answered = c.args.answered.now in
    let bytes = c.args.bytes.now in
    let q = c.in-Some.next.request in
    let to = c.in-Some.next.to in
    let next : IsNext answered.number bytes q to =
    subst (λ (o : Option Next). MatchOption o (IsOver answered.number bytes) (λ (it : Next). IsNext answered.number bytes it.request it.to)) c.in-Some.is c.in_ok-next.ensures.next in
    answers_value c.in_ok-sent.ensures.answers (λ told p. record {
      request = q;
      reply = p.reply;
      next = next;
      reply_is = p.reply_is;
      moved = record { number = c.move_on.ensures.number; at = c.move_on.ensures.at ∙ c.in_ok-at.ensures; sent = c.move_on.ensures.sent ∙ p.to_is };
      put = p.put;
    })
