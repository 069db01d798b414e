use Rattle.std.proofs.Common.{◌++◌, ◌∷◌, [], refl}
use Rattle.job_targets.proofs.GatherLaws.{gathers_memory}
use Rattle.job_targets.proofs.Gathered.{put_next, put_stop}
use Rattle.job_targets.specs.Carrying.{HasWant}
use Rattle.job_targets.proofs.Listed.{zip_next}
use Rattle.job_targets.proofs.puts.put_list.Goals as goal

pub loop-one-preserved : goal.loop-one-preserved
loop-one-preserved g c = record {
  so_far = put_next g.met.C.Contents.laws g.met.T.TreeDisk.laws (g.I.Carries.listed c.args.carried.now) c.args.planned.now c.loop-one.puts.items c.push.new.self.items c.loop-one.invariant.so_far c.in_ok-put.ensures.gathers
      c.loop-one-test.true c.one-item.is c.in_ok-push.ensures.items;
  have = zip_next (HasWant (g.I.Carries.gives c.args.carried.now)) c.args.planned.now c.loop-one.one-index c.one-item.result c.loop-one.puts.items c.in_ok-put.put c.push.new.self.items c.loop-one-test.true c.one-item.is c.in_ok-push.ensures.items
      c.loop-one.invariant.have c.in_ok-put.ensures.has;
}

pub returns-in_err-put-clause-gathers : goal.returns-in_err-put-clause-gathers
returns-in_err-put-clause-gathers g c =
    put_stop g.met.C.Contents.laws g.met.T.TreeDisk.laws (g.I.Carries.listed c.args.carried.now) c.args.planned.now c.loop-one.puts.items c.loop-one.invariant.so_far c.in_err-put.ensures.gathers
    c.loop-one-test.true c.one-item.is c.from_residual.ensures.1

pub returns-in_err-push-clause-gathers : goal.returns-in_err-push-clause-gathers
returns-in_err-push-clause-gathers g c =
    gathers_memory
    (put_next g.met.C.Contents.laws g.met.T.TreeDisk.laws (g.I.Carries.listed c.args.carried.now) c.args.planned.now c.loop-one.puts.items (c.loop-one.puts.items ++ c.in_ok-put.put ∷ []) c.loop-one.invariant.so_far c.in_ok-put.ensures.gathers
    c.loop-one-test.true c.one-item.is refl)
    c.from_residual-in_err-push.ensures.1
