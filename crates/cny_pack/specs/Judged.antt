-- Troves whose rules are kept, whoever owns the files and whatever their contents are.
use Rattle.std.specs.Prelude.{◌≡◌, List, []}
use Rattle.std.specs.List.{AllZip}
use Rattle.tree_disk.specs.Looks.{sees_dir}
use Rattle.manifest_troves.specs.cny-stream.Record.{is_dir}
use Rattle.manifest_troves.specs.trove-parts.declared.id.TroveId.{TroveId}
use Rattle.manifest_troves.specs.trove-parts.declared.files.FileAt.{FileAt}
use Rattle.manifest_troves.specs.declared.lines.DepLine.{DepLine}
use Rattle.manifest_troves.specs.declared.lines.TroveLines.{TroveLines}
use Rattle.manifest_troves.specs.Troves.{AreTroves}
use Rattle.cny_pack.specs.declared.plan.Sight.{Sight}

-- at the same path, and a directory where one was seen
pub record StandsFor (sight : Sight) (file : FileAt) : Type 0 where
  pub path : file.path ≡ sight.path
  pub kind : is_dir file.rec ≡ sees_dir sight.look

abbrev pub lines_with : TroveId → List DepLine → List DepLine → List FileAt → TroveLines
lines_with id requires_ provides files = record { id = id; refs = []; requires_ = requires_; provides = provides; files = files }

-- The troves of these lines and of files that stand for what was seen keep the rules of troves.
pub record IsJudged (id : TroveId) (requires_ provides : List DepLine) (sights : List Sight) : Type 0 where
  pub files : List FileAt
  pub stand : AllZip StandsFor sights files
  pub troves : AreTroves (lines_with id requires_ provides files)
