use Rattle.std.proofs.Common.{refl}
use Rattle.system_core.proofs.StagedWrites.{means_itself}
use Rattle.system_core.proofs.job_writing.write_job.Goals as goal

pub write_targets-requires : goal.write_targets-requires
write_targets-requires g c = λ κs lives.
    let targets = c.requires.targets in (
      lives,
      (
        refl,
        (
          targets.free,
          (
            (λ tells. means_itself (g.T.TreeDisk.disk.reads c.args.root.now) c.args.puts targets.given),
            (c.requires.db, (c.requires.list, (c.requires.changes, (targets, c.requires.told)))),
          ),
        ),
      ),
    )
