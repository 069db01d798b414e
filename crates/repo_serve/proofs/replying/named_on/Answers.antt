use Rattle.std.proofs.Common.{length, refl}
use Rattle.repo_mirror.specs.declared.request.Request.TheVariants.{Named}
use Rattle.repo_serve.specs.Reply.{ids_named, ids_reply}
use Rattle.repo_serve.proofs.AnswersLaws.{answers_fault, answers_value, looked}
use Rattle.repo_serve.proofs.StoredReplies.{long_refused, named_length, named_reply}
use Rattle.repo_serve.proofs.replying.named_on.Goals as goal

pub returns-in_err-named-clause-answers : goal.returns-in_err-named-clause-answers
returns-in_err-named-clause-answers g c =
    let tree = g.D.TreeDisk.disk.reads c.args.disk.now in
    let name = c.args.name.now in
    answers_fault (looked g.met.D.TreeDisk.laws c.args.disk.now) c.from_residual.ensures.1
    (λ told p.
    long_refused (Named name) c.args.sent tree (length (ids_reply (ids_named name c.args.catalogue.now.troves))) (named_length c.stored_state.ensures.catalogue tree c.args.catalogue.now (c.requires told) name)
    c.in_err-named.field-0.0 c.in_err-named.ensures.refused)

pub returns-clause-answers : goal.returns-clause-answers
returns-clause-answers g c =
    answers_value (looked g.met.D.TreeDisk.laws c.args.disk.now)
    (λ told p. record {
      reply = ids_reply (ids_named c.args.name.now c.args.catalogue.now.troves);
      reply_is = named_reply c.stored_state.ensures.catalogue (g.D.TreeDisk.disk.reads c.args.disk.now) c.args.catalogue.now (c.requires told) c.one_repository.ensures.commits c.args.name.now
          (ids_reply (ids_named c.args.name.now c.args.catalogue.now.troves)) refl;
      put = c.in_ok-named.ensures.put;
      to_is = c.in_ok-named.ensures.value;
    })
