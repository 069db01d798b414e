use Rattle.std.proofs.Common.{string_bytes}
use Rattle.cny_report.proofs.Downward.{rolled_back_step}
use Rattle.cny_report.proofs.jobs.rolled_back_text.Goals as goal

pub loop-step-preserved : goal.loop-step-preserved
loop-step-preserved c =
    rolled_back_step c.args.newest c.loop-step.step (string_bytes c.loop-step.text) (string_bytes c.push_rolled_back.new.out) c.loop-step.invariant c.in_ok-push_rolled_back.ensures
