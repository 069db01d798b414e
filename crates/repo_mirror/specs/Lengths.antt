-- How long the stream of an absolute change set is, told by the records of its troves: no content is read.
use Rattle.std.specs.Prelude.{ℕ, ◌+◌, if◌then◌else◌, List, [], ◌∷◌, ◌++◌, length, sum_by}
use Rattle.std.specs.List.{list_any}
use Rattle.change_set.specs.cny-stream.declared.record.FileRec.{FileRec}
use Rattle.change_set.specs.cny-stream.declared.record.FileRec.TheVariants.{Dir, File, Link}
use Rattle.change_set.specs.trove-parts.declared.files.FileAt.{FileAt}
use Rattle.change_set.specs.trove-stream.declared.parts.TroveParts.{TroveParts}
use Rattle.change_set.specs.trove-stream.FilesOf.{files_of}
use Rattle.change_set.specs.trove-stream.Stream.{trove_bytes}
use Rattle.repo_index.specs.Catalogue.{is_file_of}

-- the item of a trove: a head of five bytes, and its stream
abbrev pub trove_length : TroveParts → ℕ
trove_length t = 5 + length (trove_bytes t)

-- The item of a file's content: a head of five bytes, the name, and the bytes. Where one of the files before it has the same
-- content, it is there already.
abbrev pub content_length : List FileAt → FileRec → ℕ
content_length before (Dir mode owner) = 0
content_length before (File mode owner flags size name) = if list_any (is_file_of name) before then 0 else 25 + size
content_length before (Link target) = 0

-- the items of the contents that files behind others have, each once
abbrev pub contents_length : List FileAt → List FileAt → ℕ
contents_length before [] = 0
contents_length before (file ∷ files) = content_length before file.rec + contents_length (before ++ file ∷ []) files

-- the stream: the magic of eight bytes, an item for each trove, one for each content that they name, and the end of five bytes
abbrev pub set_length : List TroveParts → ℕ
set_length troves = 13 + (sum_by trove_length troves + contents_length [] (files_of troves))
