-- Verifications as texts.
use Rattle.std.specs.Prelude.{ℕ, List, [], ◌∷◌, ◌++◌, length, codes}
use Rattle.std.specs.Fmt.{decimal}
use Rattle.std.specs.List.{flat_map}
use Rattle.tree_scan.specs.declared.verification.Finding.{Finding}
use Rattle.tree_scan.specs.declared.verification.Found.{Found}
use Rattle.tree_scan.specs.declared.verification.Found.TheVariants.{Missing, Changed, Bytes}
use Rattle.tree_scan.specs.declared.verification.Verified.{Verified}

-- how a path differs from its record
abbrev pub found_text : List ℕ → Found → List ℕ
found_text path Missing = codes "missing " ++ path
found_text path Changed = codes "changed " ++ path
found_text path (Bytes count) = codes "changed " ++ path ++ codes " bytes " ++ decimal count

abbrev pub finding_line : Finding → List ℕ
finding_line finding = found_text finding.path finding.what ++ 10 ∷ []

-- how many recorded paths were looked at, and how many of them differ
abbrev pub sum_line : ℕ → ℕ → List ℕ
sum_line paths changed = codes "verified " ++ decimal paths ++ codes " paths, " ++ decimal changed ++ codes " changed" ++ 10 ∷ []

-- a line for each path that differs, and the sum
abbrev pub verified_text : Verified → List ℕ
verified_text verified = flat_map finding_line verified.lines ++ sum_line verified.paths (length verified.lines)
