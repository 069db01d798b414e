use Rattle.std.proofs.Common.{ℕ, List, length, refl, ap}
use Rattle.tree_memory.specs.Memory.{state}
use Rattle.outcome_laws.specs.Play.{answered}
use Rattle.outcome_laws.proofs.MadeEvents.{over_last}
use Rattle.outcome_laws.proofs.playing.make_call.Goals as goal

pub returns-clause-ok : goal.returns-clause-ok
returns-clause-ok c = record {
  end = answered (state c.args.root.now).reads c.call_line-status.result c.call_line-status.ensures.0;
  gained = over_last c.args.statuses.now c.push_slice.new.self c.write_at.new.self _ 255 c.call_line-status.result (ap (λ (l : List ℕ). length l) c.get-place.ensures) c.in_ok-push_slice.ensures.ok c.write_at.ensures;
  makes = (refl, c.call_line-status.ensures.1);
}
