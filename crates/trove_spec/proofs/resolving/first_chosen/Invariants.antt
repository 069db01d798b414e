use Rattle.std.proofs.Common.{◌≡◌, drop}
use Rattle.trove_spec.specs.Resolve.{first_chosen}
use Rattle.trove_spec.proofs.resolving.first_chosen.Given as goal

abbrev pub invariant-loop-label : goal.invariant-loop-label
invariant-loop-label l =
    first_chosen l.name l.system l.catalogue.troves (drop l.label-index l.labels) ≡ first_chosen l.name l.system l.catalogue.troves l.labels
