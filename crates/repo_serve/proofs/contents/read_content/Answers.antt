use Rattle.std.proofs.Common.{◌≡◌, ◌∙◌, ◌+◌, ℕ, ap, length, refl, rules}
use Rattle.repo_mirror.specs.declared.request.Request.TheVariants.{Content}
use Rattle.repo_serve.specs.Reply.{content_reply}
use Rattle.repo_serve.proofs.AnswersLaws.{answers_fault, answers_stop, answers_value, from_looks}
use Rattle.repo_serve.proofs.StoredReplies.{damaged_content, found_length, found_reply, long_refused}
use Rattle.repo_serve.proofs.contents.read_content.Goals as goal

pub returns-in_err-found-clause-answers : goal.returns-in_err-found-clause-answers
returns-in_err-found-clause-answers g c =
    answers_stop (from_looks c.in_err-found.ensures.finds) c.from_residual.ensures.1 (λ told refusal no. absurd no)
    (λ told path bad. damaged_content c.args.catalogue.now.troves c.args.name.now (g.D.TreeDisk.disk.reads c.args.disk.now) path bad)

pub returns-in_err-to-clause-answers : goal.returns-in_err-to-clause-answers
returns-in_err-to-clause-answers g c =
    let tree = g.D.TreeDisk.disk.reads c.args.disk.now in
    let name = c.args.name.now in
    let twenty : length name ≡ 20 = search rules in
    let len = c.in_ok-reply_len.ensures name twenty in
    answers_fault (from_looks c.in_ok-found.ensures.finds) c.from_residual-in_err-to.ensures.1
    (λ told finds.
    long_refused (Content name) c.args.sent tree c.in_ok-reply_len.field-0
    (found_length c.stored_state.ensures.catalogue tree c.args.catalogue.now (c.requires told) c.stored_state.ensures.content name c.in_ok-found.found finds c.in_ok-reply_len.field-0 len)
    c.in_err-to.field-0.0 c.in_err-to.ensures.refused)

pub returns-clause-answers : goal.returns-clause-answers
returns-clause-answers g c =
    let tree = g.D.TreeDisk.disk.reads c.args.disk.now in
    let name = c.args.name.now in
    let twenty : length name ≡ 20 = search rules in
    let found = c.in_ok-found.found in
    let len = c.in_ok-reply_len.ensures name twenty in
    answers_value (from_looks c.in_ok-found.ensures.finds)
    (λ told finds. record {
      reply = content_reply name found;
      reply_is = found_reply c.stored_state.ensures.catalogue tree c.args.catalogue.now (c.requires told) c.stored_state.ensures.content name found finds c.one_repository.ensures.commits twenty (content_reply name found) refl;
      put = c.in_ok-put_found.ensures;
      to_is = c.in_ok-to.ensures.value ∙ ap (λ (n : ℕ). c.args.sent + n) len;
    })
