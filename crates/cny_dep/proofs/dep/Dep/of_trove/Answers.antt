use Rattle.std.proofs.Common.{None}
use Rattle.cny_dep.specs.declared.class.Class.TheVariants.{Trove}
use Rattle.cny_dep.proofs.DepParts.{dependency_by}
use Rattle.cny_dep.proofs.PartBytes.{name_is_dep_name}
use Rattle.cny_dep.proofs.dep.Dep.of_trove.Goals as goal

pub make-requires : goal.make-requires
make-requires c = dependency_by Trove c.text.result.now c.new.result.items None (name_is_dep_name c.text.result.now c.text.ensures.name) c.new.ensures.items
