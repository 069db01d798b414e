-- What changes lead from one list to another, as names and troves.
use Rattle.std.specs.Prelude.{ℕ, List, map, flat_map}
use Rattle.std.specs.Option.{option_to_list}
use Rattle.rollback_stack.specs.trove-stream.Installed.{trove_of}
use Rattle.rollback_stack.specs.trove-stream.declared.parts.TroveParts.{TroveParts}
use Rattle.update_job.specs.declared.comparing.Change.{Change}
use Rattle.update_job.specs.Changes.{name_of}

-- the names of the troves that change
abbrev pub names_changed : List Change → List (List ℕ)
names_changed changes = map name_of changes

-- what the list has of these names, in their order
abbrev pub troves_named : List TroveParts → List (List ℕ) → List TroveParts
troves_named list names = flat_map (λ name. option_to_list (trove_of name list)) names
