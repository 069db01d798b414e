use Rattle.std.proofs.Common.{arith}
use Rattle.update_job.specs.Changes.{IsFresh}
use Rattle.update_job.proofs.Noting.{notes_none, note_next, noted_whole, one_fresh}
use Rattle.update_job.proofs.comparing.note_all_fresh.Goals as goal

pub loop-trove-init : goal.loop-trove-init
loop-trove-init c = record { ordered = c.requires.was_ordered; all = notes_none (IsFresh c.args.before.now) c.args.changes.now }

pub loop-trove-preserved : goal.loop-trove-preserved
loop-trove-preserved c =
    note_next (IsFresh c.args.before.now) (one_fresh c.args.before.now) c.args.troves.now c.requires.rising c.loop-trove.trove-index c.trove-item.result c.args.changes.now c.loop-trove.changes c.note_fresh.new.changes (omega arith) c.trove-item.is
    c.loop-trove.invariant c.in_ok-note_fresh.ensures.noted c.in_ok-note_fresh.ensures.ordered

pub returns-clause-noted : goal.returns-clause-noted
returns-clause-noted c = noted_whole (IsFresh c.args.before.now) c.args.troves.now c.loop-trove.trove-index c.args.changes.now c.loop-trove.changes (omega arith) c.loop-trove.invariant
