use Rattle.local_db.specs.declared.format.Format.TheVariants.{Two}
use Rattle.local_db.specs.RecordText.{FitsDelta, IsDelta, delta_bytes}
use Rattle.job_record.proofs.Written.{all_of, all_written, one_delta_written}
use Rattle.job_record.proofs.writing.put_deltas.Goals as goal

pub loop-delta-preserved : goal.loop-delta-preserved
loop-delta-preserved c =
    one_delta_written c.args.out.now c.args.deltas.now c.loop-delta.delta-index c.delta-item.result c.loop-delta.out c.put_delta.new.out c.loop-delta-test.true c.delta-item.is c.loop-delta.invariant
    c.in_ok-put_delta.ensures.valid c.in_ok-put_delta.ensures.fits c.in_ok-put_delta.ensures.ok

pub returns-clause-ok : goal.returns-clause-ok
returns-clause-ok c = all_written (delta_bytes Two) c.args.out.now c.args.deltas.now c.loop-delta.delta-index c.loop-delta.out c.loop-delta-test.false c.loop-delta.invariant.text

pub returns-clause-valid : goal.returns-clause-valid
returns-clause-valid c = all_of (IsDelta Two) c.args.deltas.now c.loop-delta.delta-index c.loop-delta-test.false c.loop-delta.invariant.deltas_are

pub returns-clause-fits : goal.returns-clause-fits
returns-clause-fits c = all_of (FitsDelta Two) c.args.deltas.now c.loop-delta.delta-index c.loop-delta-test.false c.loop-delta.invariant.deltas_fit
