use Rattle.std.proofs.Common.{Ok, take}
use Rattle.job_targets.specs.Gathering.{Gathers}
use Rattle.job_targets.specs.Carrying.{AreWholePuts, HaveWants}
use Rattle.job_targets.proofs.puts.put_list.Given as goal

abbrev pub invariant-loop-one : goal.invariant-loop-one
invariant-loop-one g l = record {
  so_far : Gathers {X = Unit {0}} g.T.TreeDisk.disk g.C.Contents.contents (λ tree done. AreWholePuts (g.I.Carries.listed l.carried tree) (g.C.Contents.contents.answers l.fn.far) tree (take l.one-index l.planned) l.puts.items) (λ tree why. ⊥)
      l.fn.root l.root l.fn.far l.far (Ok tt);
  have : HaveWants (g.I.Carries.gives l.carried) (take l.one-index l.planned) l.puts.items;
}
