use Rattle.std.proofs.Common.{◌≡◌, ◌↔◌, true, subst, sym}
use Rattle.cny_version.specs.Version.{IsVersionText}
use Rattle.cny_version.specs.Reading.{version_found}
use Rattle.cny_version.proofs.ReaderAnswers.{some_exactly}
use Rattle.cny_version.proofs.VersionReaders.{whole_found, own_text_back}
use Rattle.cny_version.proofs.VersionTexts.{version_is}
use Rattle.cny_version.proofs.version.Version.is_whole.Goals as goal

pub returns : goal.returns
returns c =
    subst (λ t. (t ≡ true) ↔ IsVersionText c.args.text.now) (sym c.is_version.ensures)
    (some_exactly (version_found true c.args.text.now) (λ v found. (v, version_is true c.args.text.now v found, whole_found c.args.text.now v found))
    (λ inside. (inside.0, own_text_back true c.args.text.now inside.0 inside.1 inside.2)))
