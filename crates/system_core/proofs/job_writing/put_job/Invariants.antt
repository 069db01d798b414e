use Rattle.job_targets.specs.Carrying.{whole_of}
use Rattle.system_core.proofs.job_writing.put_job.Given as goal

abbrev pub ghost-write_whole : goal.ghost-write_whole
ghost-write_whole g a = whole_of (g.T.TreeDisk.disk.reads a.root.now) a.puts.now
