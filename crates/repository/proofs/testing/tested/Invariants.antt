use Rattle.change_set.specs.declared.change.ChangeSet.{ChangeSet}
use Rattle.repository.proofs.testing.tested.Given as goal

abbrev pub ghost-check_troves : goal.ghost-check_troves
ghost-check_troves g a = g.change.contents
