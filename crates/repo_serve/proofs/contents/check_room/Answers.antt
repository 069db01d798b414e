use Rattle.std.proofs.Common.{◌≡◌, ◌∙◌, sym, length, rules}
use Rattle.repo_mirror.specs.declared.request.Request.TheVariants.{Content}
use Rattle.repo_serve.proofs.AnswersLaws.{answers_fault, from_looks}
use Rattle.repo_serve.proofs.StoredReplies.{long_refused, recorded_length}
use Rattle.repo_serve.proofs.contents.check_room.Goals as goal

pub returns-in_err-with_reply : goal.returns-in_err-with_reply
returns-in_err-with_reply g c =
    let tree = g.D.TreeDisk.disk.reads c.args.disk.now in
    let name = c.args.name.now in
    let twenty : length name ≡ 20 = search rules in
    answers_fault (from_looks c.in_ok-size.ensures) c.from_residual-in_err-with_reply.ensures.1
    (λ told u.
    long_refused (Content name) c.args.sent tree c.in_ok-sum_of.field-0
    (recorded_length c.stored_state.ensures.catalogue tree c.args.catalogue.now (c.requires told) name twenty c.in-Some.size (sym c.records_content.ensures ∙ c.if-records_content.true) c.in_ok-sum_of.field-0 c.in_ok-sum_of.ensures)
    c.in_err-with_reply.field-0.0 c.in_err-with_reply.ensures.refused)
