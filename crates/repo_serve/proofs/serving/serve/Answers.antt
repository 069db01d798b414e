use Rattle.std.proofs.Common.{◌≡◌, ◌++◌, List, ℕ, length, sym, ap, ◌∙◌, subst, arith}
use Rattle.repo_mirror.specs.Replies.{reply_magic}
use Rattle.repo_mirror.specs.Requests.{request_magic}
use Rattle.repo_serve.specs.Steps.{AnswersAll}
use Rattle.repo_serve.proofs.AnswersLaws.{answers_fault, answers_stop, answers_value}
use Rattle.repo_serve.proofs.WholeStreams.{after_magic, all_served, all_stopped, damaged, refused}
use Rattle.repo_serve.proofs.serving.serve.Goals as goal

pub split_at-requires : goal.split_at-requires
split_at-requires g c =
    let stream = c.args.requests.now in
    let all = ap (λ (l : List ℕ). length l) (after_magic request_magic stream c.in_ok-check_magic.ensures.ok) in
    omega (arith, all)

pub returns-in_err-used : goal.returns-in_err-used
returns-in_err-used g c =
    let tree = g.D.TreeDisk.disk.reads c.args.disk.now in
    let stream = c.args.requests.now in
    let from = c.new-answered.result in
    let items = c.split_at.result.1.now in
    let begins_so : stream ≡ request_magic ++ items = after_magic request_magic stream c.in_ok-check_magic.ensures.ok ∙ ap (λ (l : List ℕ). request_magic ++ l) (sym c.split_at.ensures.back) in
    answers_stop c.in_err-used.ensures.answers c.from_residual-in_err-used.ensures.1
    (λ told refusal d. refused tree from stream items begins_so c.new-answered.ensures.number c.new-answered.ensures.at c.new-answered.ensures.sent refusal d)
    (λ told path bad. damaged tree from stream items begins_so c.new-answered.ensures.number c.new-answered.ensures.at c.new-answered.ensures.sent c.args.catalogue.now.troves path bad)

pub returns-in_err-check_end : goal.returns-in_err-check_end
returns-in_err-check_end g c =
    let tree = g.D.TreeDisk.disk.reads c.args.disk.now in
    let stream = c.args.requests.now in
    let from = c.new-answered.result in
    let items = c.split_at.result.1.now in
    let to = c.answer_all.new.answered in
    let new = c.answer_all.new.out in
    let used = c.in_ok-used.used in
    let begins_so : stream ≡ request_magic ++ items = after_magic request_magic stream c.in_ok-check_magic.ensures.ok ∙ ap (λ (l : List ℕ). request_magic ++ l) (sym c.split_at.ensures.back) in
    answers_fault c.in_ok-used.ensures.answers c.from_residual-in_err-check_end.ensures.1
    (λ told all refusal same.
    let own : AnswersAll tree from to items reply_magic new used = subst (λ (l : List ℕ). AnswersAll tree from to items l new used) c.in_ok-out.ensures all in
    all_stopped tree from stream items begins_so c.new-answered.ensures.number c.new-answered.ensures.at c.new-answered.ensures.sent to new used own c.in_ok-used.ensures.within c.in_ok-used.ensures.used
    c.in_err-check_end.field-0.0 c.in_err-check_end.ensures.refused refusal same)

pub returns : goal.returns
returns g c =
    let tree = g.D.TreeDisk.disk.reads c.args.disk.now in
    let stream = c.args.requests.now in
    let from = c.new-answered.result in
    let items = c.split_at.result.1.now in
    let to = c.answer_all.new.answered in
    let new = c.answer_all.new.out in
    let used = c.in_ok-used.used in
    let begins_so : stream ≡ request_magic ++ items = after_magic request_magic stream c.in_ok-check_magic.ensures.ok ∙ ap (λ (l : List ℕ). request_magic ++ l) (sym c.split_at.ensures.back) in
    answers_value c.in_ok-used.ensures.answers
    (λ told all.
    let own : AnswersAll tree from to items reply_magic new used = subst (λ (l : List ℕ). AnswersAll tree from to items l new used) c.in_ok-out.ensures all in
    all_served tree from stream items begins_so c.new-answered.ensures.number c.new-answered.ensures.at c.new-answered.ensures.sent to new used own c.in_ok-used.ensures.within c.in_ok-used.ensures.used
    c.push_slice.new.self c.in_ok-check_end.ensures.ok c.in_ok-push_slice.ensures.ok)
