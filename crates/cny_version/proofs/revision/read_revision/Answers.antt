use Rattle.std.proofs.Common.{◌≡◌, true}
use Rattle.cny_version.specs.Revision.{revision_text, is_revision}
use Rattle.cny_version.specs.Reading.{revision_found}
use Rattle.cny_version.proofs.ReaderAnswers.{ok_given}
use Rattle.cny_version.proofs.RevisionTexts.{revision_sound}
use Rattle.cny_version.proofs.revision.read_revision.Goals as goal

pub returns-clause-text : goal.returns-clause-text
returns-clause-text c =
    ok_given c.read_parts.result (revision_found c.args.depth c.args.text.now) (λ r. revision_text r ≡ c.args.text.now) c.read_parts.ensures
    (λ r found. (revision_sound c.args.depth c.args.text.now r found).text_is)

pub returns-clause-fits : goal.returns-clause-fits
returns-clause-fits c =
    ok_given c.read_parts.result (revision_found c.args.depth c.args.text.now) (λ r. is_revision c.args.depth r ≡ true) c.read_parts.ensures
    (λ r found. (revision_sound c.args.depth c.args.text.now r found).is)
