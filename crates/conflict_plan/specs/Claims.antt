-- What a list of troves records of a path.
use Rattle.std.specs.Prelude.{ℕ, ◌&&◌, if◌then◌else◌, List, [], ◌∷◌, ◌++◌, Option, Some, None}
use Rattle.trove_stream.specs.cny-stream.declared.record.FileRec.{FileRec}
use Rattle.trove_stream.specs.cny-stream.Record.{is_dir}
use Rattle.trove_stream.specs.trove-parts.declared.files.FileAt.{FileAt}
use Rattle.trove_stream.specs.declared.parts.TroveParts.{TroveParts}
use Rattle.tree_scan.specs.tree-disk.Tree.{Name, same_name}

-- a trove's name, and what it records
abbrev pub Claim : Type 0
Claim = List ℕ × FileRec

-- what the files of a trove of this name record of a path
abbrev pub claims_in : List ℕ → List FileAt → Name → List Claim
claims_in name [] path = []
claims_in name (file ∷ files) path = if same_name file.path path then (name, file.rec) ∷ claims_in name files path else claims_in name files path

-- what each trove records of a path, in the order of the list
abbrev pub claims : List TroveParts → Name → List Claim
claims [] path = []
claims (t ∷ list) path = claims_in t.id.name t.files path ++ claims list path

abbrev pub first_record : List Claim → Option FileRec
first_record [] = None
first_record (c ∷ cs) = Some c.1

-- the record of a path: that of the first trove which records it
abbrev pub record_at : List TroveParts → Name → Option FileRec
record_at list path = first_record (claims list path)

-- the name of the first trove that doesn't record a directory, where this record or it isn't one
abbrev pub rival : FileRec → List Claim → Option (List ℕ)
rival rec [] = None
rival rec (c ∷ cs) = if (is_dir rec && is_dir c.1) then rival rec cs else Some c.0

abbrev pub with_rival : List ℕ → Option (List ℕ) → Option (List ℕ × List ℕ)
with_rival first None = None
with_rival first (Some second) = Some (first, second)

abbrev pub owners : List Claim → Option (List ℕ × List ℕ)
owners [] = None
owners (c ∷ cs) = with_rival c.0 (rival c.1 cs)

-- the first trove that records a path, and the first later one such that the two don't both record a directory
abbrev pub owners_at : List TroveParts → Name → Option (List ℕ × List ℕ)
owners_at list path = owners (claims list path)
