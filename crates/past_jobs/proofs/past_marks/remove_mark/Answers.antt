use Rattle.std.proofs.Common.{None}
use Rattle.past_jobs.proofs.Added.{marked_after}
use Rattle.past_jobs.proofs.past_marks.remove_mark.Goals as goal

pub returns : goal.returns
returns c =
    marked_after c.args.marks.now c.take_recorders-recorders.new.marks c.insert.new.self c.take_recorders-recorders.result c.without_mark-fewer.result
    c.args.path.now c.args.name.now c.in_ok-copy.field-0 None c.in_ok-copy.ensures
    c.take_recorders-recorders.ensures.taken c.take_recorders-recorders.ensures.kept c.without_mark-fewer.ensures c.in_ok-insert.ensures.updates.0
