use Rattle.std.proofs.Common.{◌≡◌, List, Err, take, ap, ◌∙◌, subst}
use Rattle.std.proofs.lemmas.Result.{err_from_is_err_and}
use Rattle.local_db.specs.cny-base.declared.text.TextFault.TheVariants.{Bad}
use Rattle.local_db.specs.trove-stream.declared.parts.TroveParts.{TroveParts}
use Rattle.local_db.specs.trove-stream.Installed.{trove_of}
use Rattle.past_jobs.specs.Table.{trove_at}
use Rattle.past_jobs.proofs.Joining.{unnamed, put_step, front, absent_now, all_within, here_in}
use Rattle.past_jobs.proofs.Back.{may_from}
use Rattle.change_rel.proofs.cny-dep.Faults.{handed_on}
use Rattle.change_rel.specs.trove-stream.Either.{or_else}
use Rattle.past_jobs.proofs.taking.add_all.Goals as goal

pub add_one-requires-clause-absent : goal.add_one-requires-clause-absent
add_one-requires-clause-absent c =
    c.loop-trove.invariant.found c.trove-item.result.id.name
    ∙ absent_now c.args.troves.now c.requires.rising c.args.table.now.troves c.requires.absent c.loop-trove.trove-index c.trove-item.result c.loop-trove-test.true c.trove-item.is

pub returns-in_err-add_one-clause-bad : goal.returns-in_err-add_one-clause-bad
returns-in_err-add_one-clause-bad c = λ h whole sound all_new all_old.
    let met = handed_on c.from_residual.result c.in_err-add_one.field-0.0 Bad (err_from_is_err_and c.from_residual.result c.from_residual.ensures.1) h in
    c.in_err-add_one.ensures.bad (ap Err met)
    (may_from c.args.format whole c.loop-trove.table.troves c.loop-trove.table.marks c.loop-trove.table.len c.trove-item.result c.loop-trove.invariant.indexed sound
    (here_in c.args.troves.now whole c.loop-trove.trove-index c.trove-item.result all_new c.loop-trove-test.true c.trove-item.is)
    (all_within c.args.format c.args.table.now.troves c.loop-trove.table.troves c.args.table.now.marks c.loop-trove.table.marks c.args.table.now.len c.loop-trove.table.len c.args.troves.now whole c.loop-trove.trove-index
    c.requires.indexed c.loop-trove.invariant.indexed c.loop-trove.invariant.found all_new all_old)
    (c.loop-trove.invariant.found c.trove-item.result.id.name
    ∙ absent_now c.args.troves.now c.requires.rising c.args.table.now.troves c.requires.absent c.loop-trove.trove-index c.trove-item.result c.loop-trove-test.true c.trove-item.is))

pub loop-trove-preserved : goal.loop-trove-preserved
loop-trove-preserved c = record {
  indexed = c.in_ok-add_one.ensures.indexed;
  sound = c.in_ok-add_one.ensures.sound;
  found = λ name. subst (λ (l : List TroveParts). trove_at c.add_one.new.table.troves name ≡ or_else (trove_of name l) (trove_at c.args.table.now.troves name)) (front c.args.troves.now c.loop-trove.trove-index c.trove-item.result c.loop-trove-test.true c.trove-item.is)
      (put_step (take c.loop-trove.trove-index c.args.troves.now) c.trove-item.result name (trove_at c.args.table.now.troves name) (trove_at c.loop-trove.table.troves name) (trove_at c.add_one.new.table.troves name)
      (unnamed c.args.troves.now c.requires.rising c.loop-trove.trove-index c.trove-item.result c.loop-trove-test.true c.trove-item.is)
      (c.loop-trove.invariant.found name) (c.in_ok-add_one.ensures.troves name));
}
