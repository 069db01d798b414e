use Rattle.system_core.proofs.job_writing.write_job.Given as goal

abbrev pub ghost-write_targets : goal.ghost-write_targets
ghost-write_targets g a = a.puts
