-- What the lines of a manifest say of its troves, and whether they make any.
use Rattle.manifest_troves.specs.declared.lines.TroveLines.{TroveLines}
use Rattle.manifest_troves.specs.Troves.{AreTroves}
use Rattle.cny_manifest.specs.Body.{Body}

abbrev pub lines_of : Body → TroveLines
lines_of b = record { id = b.id; refs = b.refs; requires_ = b.requires_; provides = b.provides; files = b.files }

-- each trove that they make keeps the rules of troves
abbrev pub CanEnd : Body → Type 0
CanEnd b = AreTroves (lines_of b)
