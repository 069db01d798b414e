use Rattle.past_jobs.proofs.Sound.{sound_with}
use Rattle.past_jobs.proofs.Joining.{old_or_new}
use Rattle.past_jobs.proofs.Maps.{rises_in}
use Rattle.past_jobs.specs.Table.{troves_of}
use Rattle.past_jobs.proofs.taking.add_one.Goals as goal

pub returns-clause-sound : goal.returns-clause-sound
returns-clause-sound c =
    sound_with c.args.format (troves_of c.args.table.now.troves) (troves_of c.put_trove.new.table.troves) c.args.trove.now c.requires.sound
    (record {
      trove = c.in_ok-put_trove.ensures.trove;
      allowed = c.is_allowed.ensures.0 c.if-not-is_allowed.false;
      told = c.can_tell.ensures.0 c.if-not-can_tell.false;
      shares = c.may_join.ensures.0 c.if-not-may_join.false;
    })
    (rises_in c.args.format c.put_trove.new.table.troves c.put_trove.new.table.marks c.put_trove.new.table.len c.in_ok-put_trove.ensures.indexed)
    (old_or_new c.args.format c.args.table.now.troves c.put_trove.new.table.troves c.args.table.now.marks c.put_trove.new.table.marks c.args.table.now.len c.put_trove.new.table.len c.args.trove.now
    c.requires.indexed c.in_ok-put_trove.ensures.indexed c.in_ok-put_trove.ensures.troves)
