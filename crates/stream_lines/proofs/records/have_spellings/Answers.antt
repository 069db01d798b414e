use Rattle.std.proofs.Common.{All, List, take_all, subst, rules}
use Rattle.std.proofs.lemmas.List.Elements.{All-more}
use Rattle.line_words.specs.cny-report.trove-parts.Files.{FitsFile}
use Rattle.line_words.specs.cny-report.trove-parts.declared.files.FileAt.{FileAt}
use Rattle.stream_lines.proofs.records.have_spellings.Goals as goal

pub loop-file-preserved : goal.loop-file-preserved
loop-file-preserved c =
    All-more FitsFile c.args.files.now c.loop-file.file-index c.file-item.result c.loop-file-test.true c.loop-file.invariant
    (subst (λ (file : FileAt). FitsFile file) c.file-item.is (c.has_spelling.ensures.0 (search rules)))

pub returns : goal.returns
returns c = λ _. subst (λ (files : List FileAt). All FitsFile files) (take_all c.loop-file.file-index c.args.files.now c.loop-file-test.false) c.loop-file.invariant
