-- How the text of a version goes on after a label.
use Rattle.std.specs.Prelude.{◌≡◌, ℕ, ◌<◌, Bool, List, [], ◌∷◌, length, Some, None, IsTrue}
use Rattle.cny_version.specs.declared.scan.Step.{Step}
use Rattle.cny_version.specs.declared.scan.Step.TheVariants as step
use Rattle.cny_version.specs.Label.{LabelParts, is_label}
use Rattle.cny_version.specs.Version.{WholeBranch, last_label}
use Rattle.cny_version.specs.Reading.{pieces, label_found, version_on}
use Rattle.cny_version.specs.Slices.{parts_of}

-- the piece between two slashes, the piece of a further label, and the rest
pub record HasLabelNext (whole : Bool) (previous : LabelParts) (text between rest : List ℕ) (label : LabelParts) : Type 0 where
  pub piece : List ℕ
  pub pieces_are : pieces 47 text ≡ between ∷ piece ∷ pieces 47 rest
  pub found : label_found whole previous piece ≡ Some label
  pub label_is : IsTrue (is_label label)
  pub shorter : length rest < length text

abbrev pub IsStep : Bool → LabelParts → List ℕ → Step → Type 0
IsStep whole previous text step.End = pieces 47 text ≡ text ∷ []
IsStep whole previous text (step.Label between label rest) = HasLabelNext whole previous text between.now rest.now (parts_of label)
IsStep whole previous text step.Bad = (b : WholeBranch) → last_label b ≡ previous → version_on whole b (pieces 47 text) ≡ None
