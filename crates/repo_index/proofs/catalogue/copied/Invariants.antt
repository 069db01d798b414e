use Rattle.std.proofs.Common.{◌≡◌, take}
use Rattle.repo_index.specs.Index.{IsIndexOf}
use Rattle.repo_index.proofs.catalogue.copied.Given as goal

abbrev pub invariant-loop-trove : goal.invariant-loop-trove
invariant-loop-trove l = record { copies_are : l.copies.items ≡ take l.trove-index l.troves; index_is : IsIndexOf l.copies.items l.index }
