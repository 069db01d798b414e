-- Change sets as texts.
use Rattle.std.specs.Prelude.{ℕ, List, [], ◌∷◌, ◌++◌, length, codes}
use Rattle.std.specs.Fmt.{decimal}
use Rattle.std.specs.List.{flat_map}
use Rattle.hex.specs.Hex.{encode_lower}
use Rattle.update_job.specs.trove-parts.Id.{id_text_of}
use Rattle.update_job.specs.change-set.declared.change.Part.{Part}
use Rattle.update_job.specs.change-set.declared.change.Part.TheVariants.{Whole, Relative}
use Rattle.update_job.specs.change-set.declared.change.Carried.{Carried}
use Rattle.update_job.specs.change-set.declared.change.ChangeSet.{ChangeSet}

-- a whole trove: its id; a relative trove: the id that it leads to, and the one that it starts from
abbrev pub part_line : Part → List ℕ
part_line (Whole trove) = codes "absolute " ++ id_text_of trove.id ++ 10 ∷ []
part_line (Relative rel) = codes "relative " ++ id_text_of rel.fresh ++ codes " from " ++ id_text_of rel.old ++ 10 ∷ []

-- the content's name in hexadecimal digits, and the number of its bytes
abbrev pub content_line : Carried → List ℕ
content_line content = codes "content " ++ encode_lower content.name ++ codes " " ++ decimal (length content.bytes) ++ 10 ∷ []

-- a line for each part, then one for each content, in the order of the set
abbrev pub change_text : ChangeSet → List ℕ
change_text set = flat_map part_line set.parts ++ flat_map content_line set.contents
