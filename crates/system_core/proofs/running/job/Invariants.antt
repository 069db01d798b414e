use Rattle.job_targets.specs.Carrying.{whole_of}
use Rattle.system_core.proofs.running.job.Given as goal

abbrev pub ghost-write_targets : goal.ghost-write_targets
ghost-write_targets g a = whole_of (g.T.TreeDisk.disk.reads a.root.now) a.puts
