-- Lists of troves as texts.
use Rattle.std.specs.Prelude.{ℕ, List, [], ◌∷◌, ◌++◌, filter, codes}
use Rattle.std.specs.List.{flat_map}
use Rattle.update_job.specs.trove-parts.declared.id.TroveId.{TroveId}
use Rattle.update_job.specs.trove-parts.Id.{id_text_of}
use Rattle.update_job.specs.trove-stream.declared.parts.TroveParts.{TroveParts}
pub use Rattle.update_job.specs.trove-stream.Installed.{has_name}

-- the text of an id, and a line feed
abbrev pub id_line : TroveId → List ℕ
id_line id = id_text_of id ++ 10 ∷ []

-- a line for each trove
abbrev pub troves_text : List TroveParts → List ℕ
troves_text troves = flat_map (λ t. id_line t.id) troves

-- a line for each trove of this name
abbrev pub named_text : List ℕ → List TroveParts → List ℕ
named_text name troves = troves_text (filter (has_name name) troves)

-- a word with a space behind it, and the line of an id
abbrev pub told_id : List ℕ → TroveId → List ℕ
told_id word id = word ++ id_line id

-- what is written where nothing changes
abbrev pub nothing_changes : List ℕ
nothing_changes = codes "nothing changes" ++ 10 ∷ []

abbrev pub committed_line : TroveId → List ℕ
committed_line id = told_id (codes "committed ") id

-- a line for each trove that was committed, or that nothing changes
abbrev pub committed_text : List TroveId → List ℕ
committed_text [] = nothing_changes
committed_text (id ∷ ids) = flat_map committed_line (id ∷ ids)
