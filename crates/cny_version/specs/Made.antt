-- Versions made from others: shadows, branches, and the next revision.
use Rattle.std.specs.Prelude.{ℕ, ◌+◌, ◌-◌, List, [], ◌∷◌, ◌++◌, length, take, replicate, slice_index, Option, Some, None}
use Rattle.cny_version.specs.declared.revision.Revision.{Revision}
use Rattle.cny_version.specs.Label.{LabelParts}
use Rattle.cny_version.specs.Version.{Part, BranchParts, WholeVersion}

-- ---- branches

-- the branch with one more shadow
abbrev pub shadowed : {L : Type 0} → BranchParts L → L → BranchParts L
shadowed b label = record { before = b.before; first = b.first; shadows = b.shadows ++ label ∷ [] }

-- the part that a branch is with a revision
abbrev pub part_of : {L : Type 0} → BranchParts L → Revision → Part L
part_of b r = record { first = b.first; shadows = b.shadows; revision = r }

-- the branch onto a label that leaves from this revision of the branch
abbrev pub branched : {L : Type 0} → BranchParts L → Revision → L → BranchParts L
branched b r label = record { before = b.before ++ part_of b r ∷ []; first = label; shadows = [] }

-- ---- versions

-- branch(v) `//` label `/` revision(v)
abbrev pub shadow_onto : WholeVersion → LabelParts → WholeVersion
shadow_onto v label = record { branch = shadowed v.branch label; revision = v.revision }

-- v `/` label `/` revision(v)
abbrev pub branch_onto : WholeVersion → LabelParts → WholeVersion
branch_onto v label = record { branch = branched v.branch v.revision label; revision = v.revision }

-- the version on the same branch with this revision
abbrev pub with_revision : WholeVersion → Revision → WholeVersion
with_revision v r = record { branch = v.branch; revision = r }

-- ---- the next revision

-- a count filled up with zeros to depth + 1 numbers
abbrev pub filled_up : ℕ → List ℕ → List ℕ
filled_up depth numbers = numbers ++ replicate (depth + 1 - length numbers) 0

-- the count with its last number, the one after depth others, raised by 1
abbrev pub raised : ℕ → List ℕ → List ℕ
raised depth numbers = take depth numbers ++ (slice_index numbers depth + 1) ∷ []

-- the count after the latest one; the first is zeros followed by 1
abbrev pub next_count : ℕ → Option (List ℕ) → List ℕ
next_count depth None = replicate depth 0 ++ 1 ∷ []
next_count depth (Some latest) = raised depth (filled_up depth latest)
