-- What a trove records, as text.
use Rattle.std.specs.Prelude.{ℕ, Bool, List, [], ◌∷◌, ◌++◌, if◌then◌else◌, codes}
use Rattle.std.specs.Fmt.{decimal}
use Rattle.std.specs.List.{flat_map}
use Rattle.hex.specs.Hex.{encode_lower}
use Rattle.update_job.specs.cny-base.Number.{octal_text}
use Rattle.cny_dep.specs.Dep.{Dependency, dep_text}
use Rattle.update_job.specs.cny-stream.Owner.{OwnerNames, is_root}
use Rattle.update_job.specs.cny-stream.declared.record.FileRec.{FileRec}
use Rattle.update_job.specs.cny-stream.declared.record.FileRec.TheVariants.{Dir, File, Link}
use Rattle.update_job.specs.cny-stream.declared.record.Flags.{Flags}
use Rattle.update_job.specs.trove-parts.declared.files.FileAt.{FileAt}
use Rattle.update_job.specs.trove-stream.declared.parts.TroveParts.{TroveParts}
use Rattle.cny_report.specs.Troves.{id_line, told_id}

-- a space, the user, `:` and the group; nothing where root owns it
abbrev pub owner_field : OwnerNames → List ℕ
owner_field owner = if is_root owner then [] else codes " " ++ owner.user ++ codes ":" ++ owner.group

-- the word where the flag is set
abbrev pub flag_field : Bool → List ℕ → List ℕ
flag_field flag word = if flag then word else []

-- a space and the word of each flag that is set
abbrev pub flags_field : Flags → List ℕ
flags_field flags = flag_field flags.config (codes " config") ++ flag_field flags.initial (codes " initial") ++ flag_field flags.transient (codes " transient")

-- the size, and the content's name in hexadecimal digits
abbrev pub content_field : ℕ → List ℕ → List ℕ
content_field size name = codes " " ++ decimal size ++ codes " " ++ encode_lower name

-- what the record says, and the path
abbrev pub record_text : List ℕ → FileRec → List ℕ
record_text path (Dir mode owner) = codes "dir " ++ octal_text mode ++ owner_field owner ++ codes " " ++ path
record_text path (File mode owner flags size name) =
    codes "file " ++ octal_text mode ++ owner_field owner ++ content_field size name ++ flags_field flags ++ codes " " ++ path
record_text path (Link target) = codes "link " ++ path ++ codes " -> " ++ target

abbrev pub file_line : FileAt → List ℕ
file_line file = record_text file.path file.rec ++ 10 ∷ []

-- a word with a space behind it, and a dependency
abbrev pub dep_line : List ℕ → Dependency → List ℕ
dep_line word dep = word ++ dep_text dep ++ 10 ∷ []

-- the line of the trove, and one for each file, reference, requirement and provide, in the order of its lists
abbrev pub trove_text : TroveParts → List ℕ
trove_text t = id_line t.id ++ flat_map file_line t.files ++ flat_map (told_id (codes "ref ")) t.refs
    ++ flat_map (dep_line (codes "requires ")) t.requires_ ++ flat_map (dep_line (codes "provides ")) t.provides
