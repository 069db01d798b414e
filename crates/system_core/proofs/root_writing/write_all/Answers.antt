use Rattle.system_core.proofs.StagedWrites.{means_itself}
use Rattle.system_core.proofs.root_writing.write_all.Goals as goal

pub write_whole-requires : goal.write_whole-requires
write_whole-requires g c = λ κs lives. (
  lives,
  (
    c.requires.can,
    (λ tells. let can = c.requires.can tells in means_itself (g.T.TreeDisk.disk.reads c.args.root.now) c.args.puts.now can.given),
  ),
)
