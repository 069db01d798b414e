use Rattle.outcome_laws.proofs.playing.run_stopped.Goals as goal

pub returns : goal.returns
returns c = (
  c.call_line.result,
  c.call_line.ensures.0,
  record {
    begun = c.stop_after-2.new.self;
    far = c.stop_after.new.self;
    root_stop = record { stop = c.stop_after-2.ensures.stop; state = c.stop_after-2.ensures.state; calls = c.stop_after-2.ensures.calls; fails = c.stop_after-2.ensures.fails; faults = c.stop_after-2.ensures.faults };
    repo_stop = record { stop = c.stop_after.ensures.stop; state = c.stop_after.ensures.state; calls = c.stop_after.ensures.calls; fails = c.stop_after.ensures.fails; faults = c.stop_after.ensures.faults };
    was_made = c.call_line.ensures.1;
  },
)
