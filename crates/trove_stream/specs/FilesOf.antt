-- The files of troves.
use Rattle.std.specs.List.{flat_map}
use Rattle.std.specs.Prelude.{List}
use Rattle.trove_parts.specs.declared.files.FileAt.{FileAt}
use Rattle.trove_stream.specs.declared.parts.TroveParts.{TroveParts}

-- what the troves record of their paths
abbrev pub files_of : List TroveParts → List FileAt
files_of list = flat_map (λ (t : TroveParts). t.files) list
