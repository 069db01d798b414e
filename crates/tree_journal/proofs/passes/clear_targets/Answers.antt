use Rattle.std.proofs.Common.{◌≡◌, ℕ, ◌-◌, List, length, drop, ap, arith}
use Rattle.std.proofs.lemmas.List.{drop_all}
use Rattle.journal_log.proofs.tree-disk.StepLaws.{makes_start, makes_then, makes_then_stop, makes_as}
use Rattle.journal_log.proofs.tree-disk.Unfailed.{unfailed_start, unfailed_then}
use Rattle.journal_log.specs.declared.put.Put.{Put}
use Rattle.tree_journal.specs.Passes.{all_cleared}
use Rattle.tree_journal.proofs.WriteSets.{own_target}
use Rattle.tree_journal.proofs.ClearPass.{can_clear_at, one_more_cleared}
use Rattle.tree_journal.proofs.Seen.{rest_cleared, step_cleared}
use Rattle.tree_journal.proofs.passes.clear_targets.Goals as goal

pub places-init : goal.places-init
places-init g c = record {
  within = omega arith;
  so_far = makes_start g.met.D.TreeDisk.laws _ c.args.disk.now (tt {0}) (λ tells. ap (λ (l : List Put). all_cleared l (g.D.TreeDisk.disk.reads c.args.disk.now)) (drop_all (length c.args.puts.now) c.args.puts.now (omega arith)));
  seen = λ tells. unfailed_start c.args.disk.now _;
}

pub clear_target-requires : goal.clear_target-requires
clear_target-requires g c = λ tells.
    rw (c.places.invariant.so_far.ended tells) (can_clear_at c.args.puts.now _ (c.places.place - 1) c.places.place c.index-puts-place.result (omega arith) (omega arith) c.index-puts-place.is (c.requires tells).can)

pub places-preserved : goal.places-preserved
places-preserved g c =
    let disk = g.D.TreeDisk.disk in
    let puts = c.args.puts.now in
    let tree = disk.reads c.args.disk.now in
    record {
      within = omega arith;
      so_far = makes_then c.places.invariant.so_far (own_target puts (c.places.place - 1) c.index-puts-place.result (omega arith) c.index-puts-place.is) c.in_ok-clear_target.ensures.makes
          (λ tells. one_more_cleared puts _ (c.places.place - 1) c.places.place c.index-puts-place.result (omega arith) (omega arith) c.index-puts-place.is);
      seen = λ tells. unfailed_then c.places.invariant.so_far.later c.in_ok-clear_target.ensures.makes.later (c.places.invariant.seen tells)
          (step_cleared puts tree _ _ (all_cleared (drop c.places.place puts) tree) _ (c.places.invariant.so_far.ended tells)
          (rest_cleared puts c.places.place tree (c.requires tells).rises)
          (rw (c.places.invariant.so_far.ended tells, one_more_cleared puts tree (c.places.place - 1) c.places.place c.index-puts-place.result (omega arith) (omega arith) c.index-puts-place.is) (rest_cleared puts (c.places.place - 1) tree (c.requires tells).rises))
          (c.in_ok-clear_target.ensures.seen tells));
    }

pub returns-in_err-clear_target-clause-makes : goal.returns-in_err-clear_target-clause-makes
returns-in_err-clear_target-clause-makes g c =
    makes_then_stop c.places.invariant.so_far (own_target c.args.puts.now (c.places.place - 1) c.index-puts-place.result (omega arith) c.index-puts-place.is) c.in_err-clear_target.ensures.makes c.from_residual.ensures.1

pub returns-in_err-clear_target-clause-seen : goal.returns-in_err-clear_target-clause-seen
returns-in_err-clear_target-clause-seen g c = λ tells.
    let disk = g.D.TreeDisk.disk in
    let puts = c.args.puts.now in
    let tree = disk.reads c.args.disk.now in
    unfailed_then c.places.invariant.so_far.later c.in_err-clear_target.ensures.makes.later (c.places.invariant.seen tells)
    (step_cleared puts tree _ _ (all_cleared (drop c.places.place puts) tree) _ (c.places.invariant.so_far.ended tells)
    (rest_cleared puts c.places.place tree (c.requires tells).rises)
    (rw (c.places.invariant.so_far.ended tells, one_more_cleared puts tree (c.places.place - 1) c.places.place c.index-puts-place.result (omega arith) (omega arith) c.index-puts-place.is) (rest_cleared puts (c.places.place - 1) tree (c.requires tells).rises))
    (c.in_err-clear_target.ensures.seen tells))

pub returns-clause-makes : goal.returns-clause-makes
returns-clause-makes g c =
    let none : c.places.place ≡ 0 = omega (arith, c.places-test.false) in
    makes_as c.places.invariant.so_far (λ tells. ap (λ (n : ℕ). all_cleared (drop n c.args.puts.now) (g.D.TreeDisk.disk.reads c.args.disk.now)) none)
