use Rattle.std.proofs.Common.{List, All, length, take, drop, ap, refl, sym, subst, ◌∙◌, arith}
use Rattle.repo_index.specs.trove-stream.declared.parts.TroveParts.{TroveParts}
use Rattle.repo_load.specs.State.{HasRefs}
use Rattle.repo_load.proofs.Resolved.{all_resolved, one_missing, one_resolved}
use Rattle.repo_load.proofs.resolving.first_unresolved.Goals as goal

pub returns-then-not-have_refs : goal.returns-then-not-have_refs
returns-then-not-have_refs c whole commits troves counts =
    let have = rw c.if-not-have_refs.true at c.have_refs.ensures in
    one_missing whole commits c.commits.left.now c.commits.rest.now c.in-Some.count.now c.in-Some.behind.now (c.commits.invariant.1 whole commits troves counts) c.in-Some.ensures.cases.0
    c.args.counts.now c.split_at.result.0.now _ counts (c.split_at.ensures.front ∙ ap (λ n. take n c.commits.rest.now) c.min.ensures)
    refl (λ all. absurd (cc (have.1 (subst (λ (l : List TroveParts). All (HasRefs l) c.split_at.result.0.now) (sym troves) all))))

pub commits-preserved : goal.commits-preserved
commits-preserved c =
    let long = ap length c.in-Some.ensures.cases.0 in
    let have = rw c.if-not-have_refs.false at c.have_refs.ensures in (
      omega (arith, long, c.commits.invariant.0),
      λ whole commits troves counts. one_resolved whole commits c.commits.left.now c.commits.rest.now c.in-Some.count.now c.in-Some.behind.now (c.commits.invariant.1 whole commits troves counts) c.in-Some.ensures.cases.0
          c.split_at.result.0.now c.split_at.result.1.now (c.split_at.ensures.front ∙ ap (λ n. take n c.commits.rest.now) c.min.ensures)
          (c.split_at.ensures.back ∙ ap (λ n. drop n c.commits.rest.now) c.min.ensures)
          (subst (λ (l : List TroveParts). All (HasRefs l) c.split_at.result.0.now) troves (have.0 refl)),
    )

pub returns : goal.returns
returns c whole commits troves counts = all_resolved whole commits c.commits.left.now c.commits.rest.now (c.commits.invariant.1 whole commits troves counts) c.in_default.ensures.cases
