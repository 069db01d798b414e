use Rattle.std.proofs.Common.{◌≡◌, All, Ok, map, take}
use Rattle.repo_load.specs.Looks.{Looks}
use Rattle.repository.specs.Between.{carried_name, AreStoredIn}
use Rattle.repository.specs.BetweenSteps.{IsDamagedAmong, IsHashed}
use Rattle.repository.proofs.between_contents.read_contents.Given as goal

abbrev pub invariant-loop-name : goal.invariant-loop-name
invariant-loop-name g l = record {
  looks : Looks {X = Unit {0}} g.D.TreeDisk.disk (λ tree x. AreStoredIn tree l.contents.items) (IsDamagedAmong l.catalogue.troves l.names) l.fn.disk l.disk (Ok tt);
  names_are : map carried_name l.contents.items ≡ take l.name-index l.names;
  hashed : All IsHashed l.contents.items;
}
