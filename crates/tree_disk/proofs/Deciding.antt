-- Shared lemmas: deciding.
use Rattle.cny_base.specs.declared.refusal.Refusal.{Refusal}
use Rattle.cny_base.specs.declared.stop.Stop.{Stop}
use Rattle.std.proofs.Common.{Ok, Result, refl}
use Rattle.tree_disk.proofs.StepLaws.{tests_then}
use Rattle.tree_disk.specs.Disk.{DiskModel, IsDisk}
use Rattle.tree_disk.specs.Steps.{Tests}
use Rattle.tree_disk.specs.Tree.{Tree}

module _ {D : Type 0} {disk : DiskModel D} where
  module _ (laws : IsDisk disk) where
    -- one test after another that passed
    pub tests_next : {X Y Z W : Type 0} {view : X → Y} {other : Z → W} {test : Tree → Result Y Refusal} {next : Tree → Result W Refusal} {old mid new : D} {x : X} {r : Result Z Stop}
        → Tests disk view test old mid (Ok x) → Tests disk other next mid new r → Tests disk other next old new r
    tests_next first then = tests_then laws first then (λ tells. refl)
