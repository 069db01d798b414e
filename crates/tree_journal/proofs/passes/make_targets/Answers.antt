use Rattle.std.proofs.Common.{◌≡◌, true, IsTrue, List, map, ap, refl, ◌∙◌}
use Rattle.std.proofs.lemmas.List.{take_all}
use Rattle.std.proofs.lemmas.List.Elements.{All-contains}
use Rattle.std.proofs.Common.{⊎_elim}
use Rattle.journal_log.specs.tree-disk.Clear.{is_within}
use Rattle.journal_log.proofs.tree-disk.ClearLaws.{or_cases}
use Rattle.journal_log.proofs.tree-disk.StepLaws.{makes_start, makes_then, makes_then_stop, makes_as}
use Rattle.journal_log.specs.tree-disk.Tree.{Name, same_name}
use Rattle.journal_log.proofs.tree-disk.Unfailed.{unfailed_start, unfailed_then}
use Rattle.journal_log.specs.declared.put.Put.{Put}
use Rattle.journal_log.specs.Own.{work}
use Rattle.journal_log.specs.WriteSet.{CanBeLogged}
use Rattle.journal_log.specs.Targets.{is_target, with_targets}
use Rattle.tree_journal.specs.Passes.{is_work_or_name, is_work_or_target}
use Rattle.tree_journal.specs.Staging.{resolve}
use Rattle.tree_journal.proofs.WriteSets.{own_target, place_listed}
use Rattle.tree_journal.proofs.MakePass.{can_make_next, can_make_now, one_more_made, step_made}
use Rattle.tree_journal.proofs.Seen.{step_between}
use Rattle.journal_log.proofs.cny-base.Bools.{or_left, or_right}
use Rattle.tree_journal.proofs.passes.make_targets.Goals as goal

name_within : (base : Name) (puts : List Put) (p : Put) → ((q : Name) → same_name q p.path ≡ true → is_target puts q ≡ true) → (q : Name) → IsTrue (is_work_or_name base p.path q) → IsTrue (is_work_or_target base puts q)
name_within base puts p own q h = ⊎_elim
    (λ within. or_left (is_within (work base) q) (is_target puts q) within)
    (λ same. or_right (is_within (work base) q) (is_target puts q) (own q same))
    (or_cases (is_within (work base) q) (same_name q p.path) h)

pub loop-put-init : goal.loop-put-init
loop-put-init g c = record {
  so_far = makes_start g.met.D.TreeDisk.laws (is_work_or_target c.args.base.now c.args.puts.now) c.args.disk.now (tt {0}) (λ tells. refl);
  rest = λ tells. (c.requires.told tells).can;
  seen = λ tells. unfailed_start c.args.disk.now _;
}

pub make_target-requires-clause-logged : goal.make_target-requires-clause-logged
make_target-requires-clause-logged g c = All-contains (λ (p : Put). CanBeLogged c.args.base.now p.want) c.args.puts.now c.put-item.result c.requires.logged (place_listed c.args.puts.now c.loop-put.put-index c.put-item.result c.loop-put-test.true c.put-item.is)

pub make_target-requires-clause-told : goal.make_target-requires-clause-told
make_target-requires-clause-told g c = λ tells.
    let tree = g.D.TreeDisk.disk.reads c.args.disk.now in
    let puts = c.args.puts.now in
    let base = c.args.base.now in
    let i = c.loop-put.put-index in
    let p = c.put-item.result in
    let told = c.requires.told tells in
    rw (c.loop-put.invariant.so_far.ended tells) (can_make_now base c.requires.base puts told.named tree i p c.loop-put-test.true c.put-item.is
    (can_make_next base tree puts tree i p c.loop-put-test.true c.put-item.is (c.loop-put.invariant.rest tells)).0 told.stand told.workable)

pub returns-in_err-make_target-clause-makes : goal.returns-in_err-make_target-clause-makes
returns-in_err-make_target-clause-makes g c =
    makes_then_stop c.loop-put.invariant.so_far (name_within c.args.base.now c.args.puts.now c.put-item.result (own_target c.args.puts.now c.loop-put.put-index c.put-item.result c.loop-put-test.true c.put-item.is)) c.in_err-make_target.ensures.makes c.from_residual.ensures.1

pub returns-in_err-make_target-clause-seen : goal.returns-in_err-make_target-clause-seen
returns-in_err-make_target-clause-seen g c = λ tells.
    let told = c.requires.told tells in
    unfailed_then c.loop-put.invariant.so_far.later c.in_err-make_target.ensures.makes.later (c.loop-put.invariant.seen tells)
    (step_between c.args.base.now c.requires.base c.args.puts.now told.named told.rises _ c.loop-put.put-index c.put-item.result c.loop-put-test.true c.put-item.is _ _ (c.loop-put.invariant.so_far.ended tells) (c.in_err-make_target.ensures.seen tells))

pub loop-put-preserved : goal.loop-put-preserved
loop-put-preserved g c =
    let tree = g.D.TreeDisk.disk.reads c.args.disk.now in
    let puts = c.args.puts.now in
    let base = c.args.base.now in
    let i = c.loop-put.put-index in
    let p = c.put-item.result in
    record {
      so_far = makes_then c.loop-put.invariant.so_far (name_within base puts p (own_target puts i p c.loop-put-test.true c.put-item.is)) c.in_ok-make_target.ensures.makes
          (λ tells. let told = c.requires.told tells in step_made base c.requires.base puts told.named tree i p ∙ one_more_made base tree puts tree i p c.loop-put-test.true c.put-item.is);
      rest = λ tells. (can_make_next base tree puts tree i p c.loop-put-test.true c.put-item.is (c.loop-put.invariant.rest tells)).1;
      seen = λ tells. let told = c.requires.told tells in
          unfailed_then c.loop-put.invariant.so_far.later c.in_ok-make_target.ensures.makes.later (c.loop-put.invariant.seen tells)
          (step_between base c.requires.base puts told.named told.rises tree i p c.loop-put-test.true c.put-item.is _ _ (c.loop-put.invariant.so_far.ended tells) (c.in_ok-make_target.ensures.seen tells));
    }

pub returns-clause-makes : goal.returns-clause-makes
returns-clause-makes g c = makes_as c.loop-put.invariant.so_far (λ tells.
    ap (λ (l : List Put). with_targets (map (resolve c.args.base.now (g.D.TreeDisk.disk.reads c.args.disk.now)) l) (g.D.TreeDisk.disk.reads c.args.disk.now)) (take_all c.loop-put.put-index c.args.puts.now c.loop-put-test.false))
