use Rattle.outcome_laws.proofs.MadeEvents.{edit_made, on_err_both, on_ok, stopped_made, stopped_missed}
use Rattle.outcome_laws.proofs.playing.make.Goals as goal

pub returns-in_ok-push_slice-in-Stopped-clause-ok : goal.returns-in_ok-push_slice-in-Stopped-clause-ok
returns-in_ok-push_slice-in-Stopped-clause-ok c = on_ok c.crash_both.result
    (λ left. stopped_made _ c.in-Stopped.line c.in-Stopped.repo_calls c.in-Stopped.root_calls c.in-Stopped.pick _ _ _ _ _ _ _ _ c.in-Stopped.is c.in_ok-push_slice-in-Stopped.ensures.ok c.run_stopped.ensures left)
    c.crash_both.ensures.ok

pub returns-in_ok-push_slice-in-Stopped-clause-err : goal.returns-in_ok-push_slice-in-Stopped-clause-err
returns-in_ok-push_slice-in-Stopped-clause-err c = on_err_both c.crash_both.result
    (λ same same_far. stopped_missed _ c.in-Stopped.line c.in-Stopped.repo_calls c.in-Stopped.root_calls c.in-Stopped.pick _ _ _ _ _ _ _ _ c.in-Stopped.is c.in_ok-push_slice-in-Stopped.ensures.ok c.run_stopped.ensures same same_far)
    c.crash_both.ensures.root c.crash_both.ensures.repo

pub returns-in-Edit-clause-ok : goal.returns-in-Edit-clause-ok
returns-in-Edit-clause-ok c = on_ok c.make_edit.result (λ meets. edit_made _ c.in-Edit.path c.in-Edit.node _ _ _ _ c.in-Edit.is meets) c.make_edit.ensures.ok
