use Rattle.std.proofs.Common.{◌≡◌, ◌∷◌, [], ◌++◌, List, Some, map, All, sym, ◌∙◌, ap, subst, arith}
use Rattle.std.specs.Borrow.{Bor}
use Rattle.std.specs.BTreeMap.{get}
use Rattle.std.specs.Cmp.Lexicographic.{slice_cmp}
use Rattle.std.specs.Map.Iter.{deref_pair}
use Rattle.std.specs.Ordering.{nat_cmp}
use Rattle.std.proofs.lemmas.List.{map_push}
use Rattle.std.proofs.lemmas.List.Elements.{All-nil, All-push}
use Rattle.std.proofs.lemmas.Map.Iter.{iter_end, rest_more, rest_so_far}
use Rattle.std.proofs.lemmas.Map.Views.{All-turn}
use Rattle.job_targets.specs.cny-base.Count.{Rose}
use Rattle.job_targets.specs.Old.{IsDamagedOld}
use Rattle.job_targets.proofs.tree-disk.Moments.{rose_before}
use Rattle.job_targets.specs.tree-disk.Tree.{Name, Tree}
use Rattle.past_jobs.specs.declared.found.FoundMark.{FoundMark}
use Rattle.rollback_stack.specs.Inverse.{HoldsOld}
use Rattle.rollback_stack.specs.JobReading.{IsReadStop}
use Rattle.rollback_stack.specs.Wanting.{HasWanted, IsFirstDamaged}
use Rattle.rollback_stack.proofs.Finding.{all_wanted, none_wanted, one_held, one_wanted}
use Rattle.rollback_stack.proofs.Later.{read_as, read_start, read_stop_then, read_stopped, read_then}
use Rattle.change_rel.proofs.cny-base.Faults.{passed_on}
use Rattle.rollback_stack.proofs.back.old_nodes.Goals as goal

pub loop-path-init : goal.loop-path-init
loop-path-init g c = record {
  later = omega arith;
  read = λ tells. read_start g.met.D.TreeDisk.laws c.args.disk.now;
  ordered = c.new-wants.ensures.ordered;
  wanted = λ tells. none_wanted (g.D.TreeDisk.disk.reads c.args.disk.now) c.args.found.now c.new-wants.result c.new-wants.ensures.empty;
  good = λ tells. All-nil (λ (e : Name × FoundMark). HoldsOld (g.D.TreeDisk.disk.reads c.args.disk.now) e.1.number e.1.mark);
}

pub loop-path-preserved : goal.loop-path-preserved
loop-path-preserved g c =
    let x = g.D.TreeDisk.disk.reads c.args.disk.now in
    let found = c.args.found.now in
    let so_far = c.loop-path.invariant in
    let item : Bor Name × Bor FoundMark = (c.in-Some.path, c.in-Some.at) in
    let gives = c.into_iter-path-iterator.ensures.into_iter_gives in
    let turn = All-turn deref_pair (λ (e : Name × FoundMark). get (slice_cmp nat_cmp) found e.0 ≡ Some e.1) found.entries c.loop-path.yielded c.into_iter-path-iterator.result c.loop-path.path-iterator c.next.new.self c.next.result item
    gives.6 gives.0 c.loop-path.yielded_by c.in-Some.is c.next.ensures.steps in
    record {
      later = omega (arith, so_far.later, c.in_ok-want_found.ensures.later);
      read = λ tells. read_as (read_then g.met.D.TreeDisk.laws (so_far.read tells) (c.in_ok-want_found.ensures.value tells)) tt;
      ordered = c.in_ok-want_found.ensures.ordered so_far.ordered;
      wanted = λ tells. one_wanted x found (map deref_pair c.loop-path.yielded) (map deref_pair (c.loop-path.yielded ++ item ∷ [])) c.loop-path.wants c.want_found.new.wants c.in-Some.path.now c.in-Some.at.now
          (so_far.wanted tells) turn
          (subst (λ (t : Tree). HasWanted t c.in-Some.path.now c.in-Some.at.now c.loop-path.wants c.want_found.new.wants) (so_far.read tells).same.reads (c.in_ok-want_found.ensures.value tells).answer)
          (map_push deref_pair c.loop-path.yielded item);
      good = λ tells.
          subst (All (λ (e : Name × FoundMark). HoldsOld x e.1.number e.1.mark)) (sym (map_push deref_pair c.loop-path.yielded item))
          (All-push (λ (e : Name × FoundMark). HoldsOld x e.1.number e.1.mark) (map deref_pair c.loop-path.yielded) (c.in-Some.path.now, c.in-Some.at.now) (so_far.good tells)
          (one_held x c.in-Some.path.now c.in-Some.at.now c.loop-path.wants c.want_found.new.wants
          (subst (λ (t : Tree). HasWanted t c.in-Some.path.now c.in-Some.at.now c.loop-path.wants c.want_found.new.wants) (so_far.read tells).same.reads (c.in_ok-want_found.ensures.value tells).answer)));
    }

pub returns-in_err-want_found-clause-value : goal.returns-in_err-want_found-clause-value
returns-in_err-want_found-clause-value g c tells = read_stopped g.met.D.TreeDisk.laws _ _ c.from_residual.result (c.loop-path.invariant.read tells) (c.in_err-want_found.ensures.value tells) c.from_residual.ensures.1

pub returns-in_err-want_found-clause-stops : goal.returns-in_err-want_found-clause-stops
returns-in_err-want_found-clause-stops g c =
    let told = g.D.TreeDisk.disk.tells in
    let faults = g.D.TreeDisk.disk.faults in
    let x = g.D.TreeDisk.disk.reads c.args.disk.now in
    let y = g.D.TreeDisk.disk.reads c.loop-path.disk in
    let found = c.args.found.now in
    let so_far = c.loop-path.invariant in
    let e = c.in_err-want_found.field-0.0 in
    let p = c.in-Some.path.now in
    let f = c.in-Some.at.now in
    let item : Bor Name × Bor FoundMark = (c.in-Some.path, c.in-Some.at) in
    let gives = c.into_iter-path-iterator.ensures.into_iter_gives in
    let turn = All-turn deref_pair (λ (e : Name × FoundMark). get (slice_cmp nat_cmp) found e.0 ≡ Some e.1) found.entries c.loop-path.yielded c.into_iter-path-iterator.result c.loop-path.path-iterator c.next.new.self c.next.result item
    gives.6 gives.0 c.loop-path.yielded_by c.in-Some.is c.next.ensures.steps in
    let rose = Rose (faults c.loop-path.disk) (faults c.want_found.new.disk) in
    let later = Rose (faults c.args.disk.now) (faults c.want_found.new.disk) in
    passed_on (IsReadStop told (IsFirstDamaged x found) later) e c.from_residual.result
    (read_stop_then told (IsDamagedOld y f.number f.mark) (IsFirstDamaged x found) rose later e
    (λ tells path damaged. record {
      front = map deref_pair c.loop-path.yielded;
      place = p;
      at = f;
      rest = c.next.new.self;
      split = sym gives.0
          ∙ rest_so_far deref_pair c.loop-path.yielded c.into_iter-path-iterator.result c.loop-path.path-iterator c.loop-path.yielded_by
          ∙ ap (λ (l : List (Name × FoundMark)). map deref_pair c.loop-path.yielded ++ l)
          (rest_more deref_pair c.loop-path.path-iterator c.next.new.self c.next.result item c.in-Some.is c.next.ensures.steps);
      good = so_far.good tells;
      among = turn;
      damaged = subst (λ (t : Tree). IsDamagedOld t f.number f.mark path) (so_far.read tells).same.reads damaged;
    })
    (λ r. rose_before (faults c.args.disk.now) (faults c.loop-path.disk) (faults c.want_found.new.disk) so_far.later r)
    c.in_err-want_found.ensures.stops) c.from_residual.ensures.1

pub returns-clause-value : goal.returns-clause-value
returns-clause-value g c tells =
    let x = g.D.TreeDisk.disk.reads c.args.disk.now in
    let found = c.args.found.now in
    let so_far = c.loop-path.invariant in
    let whole = iter_end deref_pair found.entries c.loop-path.yielded c.into_iter-path-iterator.result c.loop-path.path-iterator c.next.new.self c.next.result
    c.into_iter-path-iterator.ensures.into_iter_gives.0 c.loop-path.yielded_by c.in-None.is c.next.ensures.steps in
    read_as (so_far.read tells) (all_wanted x found (map deref_pair c.loop-path.yielded) c.loop-path.wants (so_far.wanted tells) whole.0)
