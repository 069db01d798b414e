use Rattle.std.proofs.Common.{◌≡◌, drop, take, None, Ok, IsTrue}
use Rattle.repository.specs.Outcome.{committed_contents, AreSound, IsDamagedSource}
use Rattle.repository.specs.Order.{sources_stop}
use Rattle.repository.specs.Tests.{collision}
use Rattle.repository.specs.Verdict.{Checks}
use Rattle.repository.proofs.colliding.check_collisions.Given as goal

abbrev pub ghost-check_content : goal.ghost-check_content
ghost-check_content g a = g.listed

abbrev pub invariant-loop-place : goal.invariant-loop-place
invariant-loop-place g l =
    record {
      checks : Checks g.D.TreeDisk.disk (λ tree. None) (IsDamagedSource g.listed l.committed.troves) l.fn.disk l.disk (Ok tt);
      rest : IsTrue g.D.TreeDisk.disk.tells → collision (committed_contents l.committed.troves (g.D.TreeDisk.disk.reads l.fn.disk)) (drop l.place g.listed)
          ≡ collision (committed_contents l.committed.troves (g.D.TreeDisk.disk.reads l.fn.disk)) g.listed;
      left : IsTrue g.D.TreeDisk.disk.tells → sources_stop l.committed.troves (g.D.TreeDisk.disk.reads l.fn.disk) (drop l.place g.listed) ≡ sources_stop l.committed.troves (g.D.TreeDisk.disk.reads l.fn.disk) g.listed;
      sound : IsTrue g.D.TreeDisk.disk.tells → AreSound (take l.place g.listed) l.committed.troves (g.D.TreeDisk.disk.reads l.fn.disk);
    }
