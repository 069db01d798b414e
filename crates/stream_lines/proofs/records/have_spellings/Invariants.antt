use Rattle.std.proofs.Common.{All, take}
use Rattle.line_words.specs.cny-report.trove-parts.Files.{FitsFile}
use Rattle.stream_lines.proofs.records.have_spellings.Given as goal

abbrev pub invariant-loop-file : goal.invariant-loop-file
invariant-loop-file l = All FitsFile (take l.file-index l.files)
