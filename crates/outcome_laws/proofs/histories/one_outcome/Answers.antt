use Rattle.outcome_laws.proofs.OneAnswer.{each_once}
use Rattle.outcome_laws.proofs.histories.one_outcome.Goals as goal

pub returns : goal.returns
returns c = each_once (record {
  install = c.one_installation.ensures;
  show = c.one_description.ensures;
  cook = c.one_cook.ensures;
  commit = c.one_commit.ensures;
  serve = c.one_serving.ensures;
  ask_mirror = c.one_mirror_asking.ensures;
  take_mirror = c.one_mirror_taking.ensures;
  list_committed = c.one_list_committed.ensures;
  update = c.one_update.ensures;
  update_input = c.one_update_by_input.ensures;
  sync = c.one_sync.ensures;
  erase = c.one_erasure.ensures;
  roll_back = c.one_rollback.ensures;
  list_installed = c.one_list_installed.ensures;
  verify = c.one_verification.ensures.installed;
  verify_fully = c.one_verification.ensures.fully;
  list_jobs = c.one_list_jobs.ensures;
  change_locally = c.one_local_change.ensures;
  send = c.one_sending.ensures;
  move = c.one_moving.ensures;
})
