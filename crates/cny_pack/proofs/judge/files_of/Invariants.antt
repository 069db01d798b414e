use Rattle.std.proofs.Common.{take}
use Rattle.std.specs.Prelude.{All}
use Rattle.std.specs.List.{AllZip}
use Rattle.manifest_troves.specs.trove-parts.Files.{IsFileAt}
use Rattle.cny_pack.specs.Judged.{StandsFor}
use Rattle.cny_pack.proofs.judge.files_of.Given as goal

abbrev pub invariant-loop-sight : goal.invariant-loop-sight
invariant-loop-sight l = AllZip StandsFor (take l.sight-index l.sights) l.files.items × All IsFileAt l.files.items
