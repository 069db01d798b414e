use Rattle.std.proofs.Common.{◌+◌, ◌∷◌, [], length, ap, arith, length-append}
use Rattle.repo_load.specs.Loading.{HasCount, HoldsCounts, LacksCount}
use Rattle.repo_load.specs.Looks.{no_damage}
use Rattle.repo_load.proofs.Counted.{not_lacking, one_counted}
use Rattle.repo_load.proofs.LooksLaws.{looks_answer, looks_memory, looks_stop, looks_then}
use Rattle.repo_load.proofs.counting.counts.Goals as goal

pub returns-in_err-count-clause-counts : goal.returns-in_err-count-clause-counts
returns-in_err-count-clause-counts g c =
    looks_then g.met.D.TreeDisk.laws c.loop-before.invariant.0
    (looks_stop {R = HoldsCounts} {S = LacksCount (c.from.result + 1)} c.in_err-count.ensures c.from_residual.ensures.1 (λ tells path p. p))
    (λ tells so_far z p. p)
    (λ tells so_far path lacks. not_lacking (g.D.TreeDisk.disk.reads c.args.disk.now) c.args.catalogue.now c.loop-before.before (c.from.result + 1) (c.requires tells)
    (omega (arith, c.loop-before-test.true, c.commits-before-end.ensures)) (omega (arith, c.from.ensures)) lacks)

pub returns-in_err-push-clause-counts : goal.returns-in_err-push-clause-counts
returns-in_err-push-clause-counts g c =
    looks_then g.met.D.TreeDisk.laws c.loop-before.invariant.0
    (looks_memory {R = HoldsCounts} {S = no_damage} c.in_ok-count.ensures c.from_residual-in_err-push.ensures.1)
    (λ tells so_far z p. p) (λ tells so_far path p. p)

pub loop-before-preserved : goal.loop-before-preserved
loop-before-preserved g c =
    let long = ap length c.in_ok-push.ensures.items in
    let more = length-append c.loop-before.counts.items (c.in_ok-count.count ∷ []) in (
      looks_then g.met.D.TreeDisk.laws c.loop-before.invariant.0
          (looks_answer {R = λ tree (x : Unit {0}). HasCount (c.from.result + 1) tree c.in_ok-count.count} {S = no_damage} {z = tt} c.in_ok-count.ensures (λ tells p. p))
          (λ tells so_far z counted. one_counted c.one_commit.ensures (g.D.TreeDisk.disk.reads c.args.disk.now) c.loop-before.counts.items c.loop-before.before (c.from.result + 1) c.in_ok-count.count (omega (arith, c.from.ensures))
          so_far counted _ c.in_ok-push.ensures.items)
          (λ tells so_far path p. p),
      omega (arith, long, more, c.loop-before.invariant.1),
    )
