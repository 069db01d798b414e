use Rattle.system_core.proofs.job_writing.write_targets.Given as goal

abbrev pub ghost-job_of : goal.ghost-job_of
ghost-job_of g a = g.whole

abbrev pub ghost-put_job : goal.ghost-put_job
ghost-put_job g a = g.whole
