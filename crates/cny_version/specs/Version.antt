-- Versions. A version is a list of parts. A part is a list of labels (the first, and the shadows of it) and a revision.
-- Without the last revision it is a branch.
use Rattle.std.specs.Prelude.{◌≡◌, ℕ, ◌+◌, ◌≤◌, List, [], ◌∷◌, ◌++◌, length, sum_by, IsTrue}
use Rattle.std.specs.List.{list_all, flat_map}
use Rattle.cny_base.specs.declared.limits.TheConstants.{VERSION_LIMIT}
use Rattle.cny_version.specs.declared.revision.Revision.{Revision}
use Rattle.cny_version.specs.Label.{LabelParts, label_text, is_label}
use Rattle.cny_version.specs.Revision.{revision_text, is_revision}

-- The labels are of a type of their own, since a text may leave out what a label shares with the one before it.
pub record Part (L : Type 0) : Type 0 where
  pub first : L
  pub shadows : List L
  pub revision : Revision

-- the parts before the last one, and the labels of the last one
pub record BranchParts (L : Type 0) : Type 0 where
  pub before : List (Part L)
  pub first : L
  pub shadows : List L

pub record VersionParts (L : Type 0) : Type 0 where
  pub branch : BranchParts L
  pub revision : Revision

-- ---- texts, from the text of a label

-- the first label after `/`, each shadow after `//`
abbrev pub labels_text : {L : Type 0} → (L → List ℕ) → L → List L → List ℕ
labels_text text first shadows = (47 ∷ text first) ++ flat_map (λ label. 47 ∷ 47 ∷ text label) shadows

-- the labels, and the revision after `/`
abbrev pub part_text : {L : Type 0} → (L → List ℕ) → Part L → List ℕ
part_text text p = labels_text text p.first p.shadows ++ 47 ∷ revision_text p.revision

abbrev pub branch_text_by : {L : Type 0} → (L → List ℕ) → BranchParts L → List ℕ
branch_text_by text b = flat_map (part_text text) b.before ++ labels_text text b.first b.shadows

-- the parts in their order
abbrev pub version_text_by : {L : Type 0} → (L → List ℕ) → VersionParts L → List ℕ
version_text_by text v = branch_text_by text v.branch ++ 47 ∷ revision_text v.revision

-- ---- versions with whole labels

abbrev pub WholeBranch : Type 0
WholeBranch = BranchParts LabelParts

abbrev pub WholeVersion : Type 0
WholeVersion = VersionParts LabelParts

abbrev pub branch_text : WholeBranch → List ℕ
branch_text b = branch_text_by label_text b

abbrev pub version_text : WholeVersion → List ℕ
version_text v = version_text_by label_text v

-- the last of the labels
abbrev pub last_of : LabelParts → List LabelParts → LabelParts
last_of first [] = first
last_of first (label ∷ shadows) = last_of label shadows

abbrev pub last_label : WholeBranch → LabelParts
last_label b = last_of b.first b.shadows

-- how many shadows the parts have
abbrev pub depth_of_parts : List (Part LabelParts) → ℕ
depth_of_parts parts = sum_by (λ p. length p.shadows) parts

-- the depth: how many shadows there are from the front
abbrev pub depth : WholeBranch → ℕ
depth b = depth_of_parts b.before + length b.shadows

-- ---- rules

abbrev pub AreLabels : LabelParts → List LabelParts → Type 0
AreLabels first shadows = IsTrue (is_label first) × IsTrue (list_all is_label shadows)

-- The parts that come after so many shadows: the depth at a revision is the number of shadows before it, from the front of the version.
abbrev pub ArePartsAfter : ℕ → List (Part LabelParts) → Type 0
ArePartsAfter shadows [] = Unit {0}
ArePartsAfter shadows (p ∷ parts) =
    AreLabels p.first p.shadows × IsTrue (is_revision (shadows + length p.shadows) p.revision) × ArePartsAfter (shadows + length p.shadows) parts

abbrev pub IsBranch : WholeBranch → Type 0
IsBranch b = ArePartsAfter 0 b.before × AreLabels b.first b.shadows

-- a version by the rules: at most 512 bytes
pub record IsVersion (v : WholeVersion) : Type 0 where
  pub branch : IsBranch v.branch
  pub revision : IsTrue (is_revision (depth v.branch) v.revision)
  pub short : length (version_text v) ≤ VERSION_LIMIT

-- the text of a version
abbrev pub IsVersionText : List ℕ → Type 0
IsVersionText text = (v : WholeVersion) × IsVersion v × (text ≡ version_text v)
