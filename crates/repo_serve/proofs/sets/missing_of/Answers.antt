use Rattle.std.proofs.Common.{◌≡◌, ◌∙◌, ap, arith, refl, subst, ℕ, ◌+◌, List, [], Ok, Err}
use Rattle.repo_load.specs.Looks.{Looks}
use Rattle.repo_load.specs.cny-base.declared.refusal.Refusal.{Refusal}
use Rattle.repo_load.specs.tree-disk.Tree.{Tree}
use Rattle.repo_load.specs.trove-stream.declared.parts.TroveParts.{TroveParts}
use Rattle.repo_mirror.specs.declared.request.Request.TheVariants.{Missing}
use Rattle.repo_mirror.specs.Missing.{commits_of, AreMissing}
use Rattle.repository.specs.Damage.{IsDamagedBetween}
use Rattle.repo_serve.specs.Steps.{HasPutReply}
use Rattle.repo_serve.proofs.AnswersLaws.{answers_fault, answers_stop, answers_then, answers_value, from_looks}
use Rattle.repo_serve.proofs.StoredReplies.{damaged_set, long_refused, missing_length, missing_reply}
use Rattle.repo_serve.proofs.sets.missing_of.Goals as goal

pub returns-in_err-to-clause-answers : goal.returns-in_err-to-clause-answers
returns-in_err-to-clause-answers g c =
    let tree = g.D.TreeDisk.disk.reads c.args.disk.now in
    let counts = c.in_ok-counts.counts in
    let missing : AreMissing c.args.ids.now (commits_of c.args.catalogue.now.troves counts) c.in_ok-found.found.troves =
    subst (λ (l : List ℕ). AreMissing c.args.ids.now (commits_of c.args.catalogue.now.troves l) c.in_ok-found.found.troves) c.get.ensures c.in_ok-found.ensures.troves in
    let len = c.in_ok-sum_of.ensures ∙ ap (λ (n : ℕ). 5 + n) c.in_ok-found.ensures.size in
    answers_fault (from_looks c.in_ok-counts.ensures.counts) c.from_residual-in_err-to.ensures.1
    (λ told counted.
    long_refused (Missing c.args.ids.now) c.args.sent tree c.in_ok-sum_of.field-0
    (missing_length c.stored_state.ensures.catalogue tree c.args.catalogue.now (c.requires.holds told) counts c.commits_told.ensures c.one_repository.ensures.commits counted c.args.ids.now c.in_ok-found.found.troves
    missing c.in_ok-sum_of.field-0 len)
    c.in_err-to.field-0.0 c.in_err-to.ensures.refused)

pub returns-in_err-absolute-clause-answers : goal.returns-in_err-absolute-clause-answers
returns-in_err-absolute-clause-answers g c =
    let counts = c.in_ok-counts.counts in
    let troves = c.in_ok-found.found.troves in
    let ids = c.args.ids.now in
    let missing : AreMissing ids (commits_of c.args.catalogue.now.troves counts) troves =
    subst (λ (l : List ℕ). AreMissing ids (commits_of c.args.catalogue.now.troves l) troves) c.get.ensures c.in_ok-found.ensures.troves in
    let set = subst (λ (l : List TroveParts). Looks g.D.TreeDisk.disk (λ tree done. HasPutReply l tree c.args.out.now c.absolute.new.out) (IsDamagedBetween [] l) c.counts.new.disk c.absolute.new.disk (Err c.in_err-absolute.field-0.0)) c.get-2.ensures c.in_err-absolute.ensures in
    answers_then g.met.D.TreeDisk.laws (from_looks c.in_ok-counts.ensures.counts)
    (answers_stop {T = λ (x : Tree) (n : ℕ). ⊥} {U = λ (x : Tree) (refusal : Refusal). ⊥} {V = IsDamagedBetween [] troves} (from_looks set) c.from_residual-in_err-absolute.ensures.1 (λ told refusal no. no) (λ told path bad. bad))
    (λ told counted to no. absurd no)
    (λ told counted refusal no. absurd no)
    (λ told counted path bad. damaged_set c.args.catalogue.now.troves troves ids (commits_of c.args.catalogue.now.troves counts) missing c.in_ok-found.ensures.committed (g.D.TreeDisk.disk.reads c.args.disk.now) path bad)

pub returns-clause-answers : goal.returns-clause-answers
returns-clause-answers g c =
    let tree = g.D.TreeDisk.disk.reads c.args.disk.now in
    let counts = c.in_ok-counts.counts in
    let troves = c.in_ok-found.found.troves in
    let ids = c.args.ids.now in
    let missing : AreMissing ids (commits_of c.args.catalogue.now.troves counts) troves =
    subst (λ (l : List ℕ). AreMissing ids (commits_of c.args.catalogue.now.troves l) troves) c.get.ensures c.in_ok-found.ensures.troves in
    let set = subst (λ (l : List TroveParts). Looks g.D.TreeDisk.disk (λ tree done. HasPutReply l tree c.args.out.now c.absolute.new.out) (IsDamagedBetween [] l) c.counts.new.disk c.absolute.new.disk (Ok tt)) c.get-2.ensures c.in_ok-absolute.ensures in
    answers_then g.met.D.TreeDisk.laws (from_looks c.in_ok-counts.ensures.counts)
    (answers_value {T = λ (x : Tree) (to : ℕ). (to ≡ c.in_ok-to.to) × HasPutReply troves x c.args.out.now c.absolute.new.out} {U = λ (x : Tree) (refusal : Refusal). ⊥} {V = IsDamagedBetween [] troves} {z = c.in_ok-to.to}
    (from_looks set) (λ told put. (refl, put)))
    (λ told counted to is. record {
      reply = is.1.reply;
      reply_is = missing_reply c.stored_state.ensures.catalogue tree c.args.catalogue.now (c.requires.holds told) counts c.commits_told.ensures c.one_repository.ensures.commits counted ids troves missing
          c.stored_between.ensures.contents c.in_ok-found.ensures.committed is.1.reply is.1.long is.1.is;
      put = is.1.put;
      to_is = omega (arith, is.0, is.1.long, c.in_ok-to.ensures.value, c.in_ok-sum_of.ensures, c.in_ok-found.ensures.size);
    })
    (λ told counted refusal no. absurd no)
    (λ told counted path bad. damaged_set c.args.catalogue.now.troves troves ids (commits_of c.args.catalogue.now.troves counts) missing c.in_ok-found.ensures.committed tree path bad)
