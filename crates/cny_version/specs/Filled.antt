-- Abbreviated texts: a label after the first may leave out its host, or its host and namespace, where they are those of the label before it.
use Rattle.std.specs.Prelude.{◌≡◌, ℕ, List, [], ◌∷◌, ◌++◌}
use Rattle.cny_version.specs.Label.{LabelParts, label_text}
use Rattle.cny_version.specs.Version.{Part, BranchParts, VersionParts, WholeBranch, WholeVersion, version_text_by, last_of, IsVersion}

-- a whole label, a namespace and a tag, or a tag alone
pub data AbbreviatedLabel : Type 0 where
  whole : LabelParts → AbbreviatedLabel
  without_host : List ℕ → List ℕ → AbbreviatedLabel
  only_tag : List ℕ → AbbreviatedLabel

-- `host@namespace:tag`, `namespace:tag` or `tag`
abbrev pub abbreviated_label_text : AbbreviatedLabel → List ℕ
abbreviated_label_text (whole label) = label_text label
abbreviated_label_text (without_host namespace tag) = namespace ++ 58 ∷ tag
abbreviated_label_text (only_tag tag) = tag

-- what is left out is that of the label before
abbrev pub filled_label : LabelParts → AbbreviatedLabel → LabelParts
filled_label previous (whole label) = label
filled_label previous (without_host namespace tag) = record { host = previous.host; namespace = namespace; tag = tag }
filled_label previous (only_tag tag) = record { host = previous.host; namespace = previous.namespace; tag = tag }

-- before the first label there is nothing to take over; an empty host is that of no label
abbrev pub no_label : LabelParts
no_label = record { host = []; namespace = []; tag = [] }

-- ---- each label filled up from the one before it, by what a label takes over from the one before

abbrev pub filled_shadows : {L : Type 0} → (LabelParts → L → LabelParts) → LabelParts → List L → List LabelParts
filled_shadows fill previous [] = []
filled_shadows fill previous (label ∷ labels) = fill previous label ∷ filled_shadows fill (fill previous label) labels

abbrev pub filled_part : {L : Type 0} → (LabelParts → L → LabelParts) → LabelParts → Part L → Part LabelParts
filled_part fill previous p =
    record { first = fill previous p.first; shadows = filled_shadows fill (fill previous p.first) p.shadows; revision = p.revision }

abbrev pub label_after : LabelParts → List (Part LabelParts) → LabelParts
label_after previous [] = previous
label_after previous (p ∷ parts) = label_after (last_of p.first p.shadows) parts

abbrev pub filled_parts : {L : Type 0} → (LabelParts → L → LabelParts) → LabelParts → List (Part L) → List (Part LabelParts)
filled_parts fill previous [] = []
filled_parts fill previous (p ∷ parts) =
    filled_part fill previous p ∷ filled_parts fill (label_after previous (filled_part fill previous p ∷ [])) parts

abbrev pub filled_branch : {L : Type 0} → (LabelParts → L → LabelParts) → BranchParts L → WholeBranch
filled_branch fill b =
    let before = filled_parts fill no_label b.before in
    let first = fill (label_after no_label before) b.first in
    record { before = before; first = first; shadows = filled_shadows fill first b.shadows }

abbrev pub filled_by : {L : Type 0} → (LabelParts → L → LabelParts) → VersionParts L → WholeVersion
filled_by fill v = record { branch = filled_branch fill v.branch; revision = v.revision }

-- ---- abbreviated versions

abbrev pub AbbreviatedVersion : Type 0
AbbreviatedVersion = VersionParts AbbreviatedLabel

abbrev pub filled : AbbreviatedVersion → WholeVersion
filled v = filled_by filled_label v

abbrev pub abbreviated_text : AbbreviatedVersion → List ℕ
abbreviated_text v = version_text_by abbreviated_label_text v

-- the text of an abbreviated version that, filled up, is this version
abbrev pub IsAbbreviationOf : WholeVersion → List ℕ → Type 0
IsAbbreviationOf v text = (a : AbbreviatedVersion) × (v ≡ filled a) × (text ≡ abbreviated_text a)

-- the text of an abbreviated version that, filled up, is a version by the rules
abbrev pub IsAbbreviatedText : List ℕ → Type 0
IsAbbreviatedText text = (a : AbbreviatedVersion) × IsVersion (filled a) × (text ≡ abbreviated_text a)
