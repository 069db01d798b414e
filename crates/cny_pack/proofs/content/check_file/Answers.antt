use Rattle.std.proofs.Common.{IsTrue}
use Rattle.cny_pack.specs.Halts.{Never, OnlyChanged}
use Rattle.cny_pack.proofs.Stopping.{halt_disk}
use Rattle.tree_disk.specs.cny-base.Count.{Rose}
use Rattle.cny_pack.proofs.content.check_file.Goals as goal

pub returns-in_err-seen-clause-stops : goal.returns-in_err-seen-clause-stops
returns-in_err-seen-clause-stops g c =
    halt_disk c.from_residual.result _ Never (OnlyChanged (IsTrue g.D.TreeDisk.disk.tells → ⊥)) (Rose (g.D.TreeDisk.disk.faults c.args.disk.now) (g.D.TreeDisk.disk.faults c.size_now.new.disk)) ⊥ c.from_residual.ensures.1 (λ why never. absurd never)
    c.in_err-seen.ensures.stops
