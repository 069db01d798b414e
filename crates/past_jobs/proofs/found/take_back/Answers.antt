use Rattle.past_jobs.proofs.Undone.{found_next}
use Rattle.past_jobs.proofs.found.take_back.Goals as goal

pub returns : goal.returns
returns c = λ newest jobs is are.
    found_next newest c.args.number jobs c.args.changes.now c.args.found.now c.note_all.new.found is c.requires are
    c.in_ok-note_all.ensures.noted (c.in_ok-note_all.ensures.ordered are.ordered) c.in_ok-note_all.ensures.paths
