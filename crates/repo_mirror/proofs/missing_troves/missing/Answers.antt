use Rattle.std.proofs.Common.{◌≡◌, ◌≢◌, take, drop, sym, ap, ◌∙◌, subst}
use Rattle.std.proofs.lemmas.List.{take_min}
use Rattle.repo_index.specs.Catalogue.{AreCommitted}
use Rattle.repo_mirror.specs.Lengths.{set_length}
use Rattle.repo_mirror.specs.Missing.{commits_of, missing_of, AreMissing}
use Rattle.repo_mirror.specs.declared.missing_troves.ToSend.{ToSend}
use Rattle.repo_mirror.proofs.Gathering.{before_more, both_ok, drop_min, gathered, none_left, one_more, stopped}
use Rattle.repo_mirror.proofs.missing_troves.missing.Goals as goal

pub returns-in-Some-too_much-clause-troves : goal.returns-in-Some-too_much-clause-troves
returns-in-Some-too_much-clause-troves c =
    let troves = c.args.catalogue.now.troves in
    let counts = c.args.counts.now in
    let rest = c.commits.rest.now in
    let count = c.in-Some.count.now in
    let sent = c.commits.sent.troves.items in
    let commit = c.split_at.result.0.now in
    let new = c.push_missing.new.self.troves.items in
    both_ok c.up_to.result (λ (found : ToSend). found.troves ≡ take c.mark-before.result.number new) (λ (found : ToSend). c.mark-before.result.number ≢ 0) (λ (found : ToSend). AreMissing c.args.ids.now (commits_of troves counts) found.troves)
    c.up_to.ensures.troves c.up_to.ensures.some
    (λ found found_is some.
    subst (AreMissing c.args.ids.now (commits_of troves counts)) (sym (before_more sent (missing_of c.args.ids.now commit) new found.troves c.mark-before.result.number c.in_ok-push_missing.ensures.troves c.mark-before.ensures.number found_is))
    (stopped c.args.ids.now troves counts rest c.commits.left.now sent c.commits.invariant.1 count c.in-Some.behind.now c.in-Some.ensures.cases.0 commit c.split_at.result.1.now
    (c.split_at.ensures.front ∙ ap (λ n. take n rest) c.min.ensures ∙ take_min count rest) (c.split_at.ensures.back ∙ ap (λ n. drop n rest) c.min.ensures ∙ drop_min count rest)
    new c.in_ok-push_missing.ensures.troves c.in-Some-too_much.refusal (sym c.in-Some-too_much.ensures) (λ none. some (c.mark-before.ensures.number ∙ none))))

pub returns-in-Some-too_much-clause-size : goal.returns-in-Some-too_much-clause-size
returns-in-Some-too_much-clause-size c =
    let sent = c.commits.sent.troves.items in
    let new = c.push_missing.new.self.troves.items in
    both_ok c.up_to.result (λ (found : ToSend). found.troves ≡ take c.mark-before.result.number new) (λ (found : ToSend). found.size ≡ c.mark-before.result.size) (λ (found : ToSend). found.size ≡ set_length found.troves)
    c.up_to.ensures.troves c.up_to.ensures.size
    (λ found found_is size_is.
    size_is ∙ c.mark-before.ensures.size ∙ c.commits.invariant.0.size
    ∙ ap set_length (sym (before_more sent (missing_of c.args.ids.now c.split_at.result.0.now) new found.troves c.mark-before.result.number c.in_ok-push_missing.ensures.troves c.mark-before.ensures.number found_is)))

pub returns-in-Some-too_much-clause-committed : goal.returns-in-Some-too_much-clause-committed
returns-in-Some-too_much-clause-committed c =
    let sent = c.commits.sent.troves.items in
    let new = c.push_missing.new.self.troves.items in
    both_ok c.up_to.result (λ (found : ToSend). found.troves ≡ take c.mark-before.result.number new) (λ (found : ToSend). c.mark-before.result.number ≢ 0) (λ (found : ToSend). AreCommitted c.args.catalogue.now.troves found.troves)
    c.up_to.ensures.troves c.up_to.ensures.some
    (λ found found_is some.
    subst (AreCommitted c.args.catalogue.now.troves) (sym (before_more sent (missing_of c.args.ids.now c.split_at.result.0.now) new found.troves c.mark-before.result.number c.in_ok-push_missing.ensures.troves c.mark-before.ensures.number found_is))
    c.commits.invariant.1.committed)

pub commits-preserved : goal.commits-preserved
commits-preserved c =
    let rest = c.commits.rest.now in
    let count = c.in-Some.count.now in (
      c.in_ok-push_missing.ensures.summed,
      one_more c.args.ids.now c.args.catalogue.now.troves c.args.counts.now rest c.commits.left.now c.commits.sent.troves.items c.commits.invariant.1 count c.in-Some.behind.now c.in-Some.ensures.cases.0 c.split_at.result.0.now c.split_at.result.1.now
          (c.split_at.ensures.front ∙ ap (λ n. take n rest) c.min.ensures ∙ take_min count rest) (c.split_at.ensures.back ∙ ap (λ n. drop n rest) c.min.ensures ∙ drop_min count rest)
          c.push_missing.new.self.troves.items c.in_ok-push_missing.ensures.troves (sym c.in_default-too_much.ensures),
    )

pub returns-clause-troves : goal.returns-clause-troves
returns-clause-troves c =
    subst (AreMissing c.args.ids.now (commits_of c.args.catalogue.now.troves c.args.counts.now)) (sym c.all_of.ensures.troves)
    (gathered c.args.ids.now c.args.catalogue.now.troves c.args.counts.now c.commits.rest.now c.commits.left.now c.commits.sent.troves.items c.commits.invariant.1 (none_left c.commits.left.now c.in_default.ensures.cases))
