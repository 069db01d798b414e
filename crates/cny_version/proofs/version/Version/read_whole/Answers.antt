use Rattle.std.proofs.Common.{◌≡◌, true}
use Rattle.cny_version.specs.Version.{version_text, IsVersion}
use Rattle.cny_version.specs.Reading.{version_found}
use Rattle.cny_version.proofs.ReaderAnswers.{ok_found, only_found, bad_exactly}
use Rattle.cny_version.proofs.VersionReaders.{whole_found, own_text_back}
use Rattle.cny_version.proofs.VersionTexts.{version_is}
use Rattle.cny_version.proofs.version.Version.read_whole.Goals as goal

pub returns-clause-value : goal.returns-clause-value
returns-clause-value c =
    ok_found c.found.result (version_found true c.args.text.now) (λ v. c.args.text.now ≡ version_text v) c.found.ensures (whole_found c.args.text.now)

pub returns-clause-ok : goal.returns-clause-ok
returns-clause-ok c = ok_found c.found.result (version_found true c.args.text.now) IsVersion c.found.ensures (version_is true c.args.text.now)

pub returns-clause-only : goal.returns-clause-only
returns-clause-only c v is same = only_found c.found.result (version_found true c.args.text.now) v c.found.ensures (own_text_back true c.args.text.now v is same)

pub returns-clause-bad : goal.returns-clause-bad
returns-clause-bad c =
    bad_exactly c.found.result (version_found true c.args.text.now) c.found.ensures
    (λ v found. (v, version_is true c.args.text.now v found, whole_found c.args.text.now v found))
    (λ inside. (inside.0, own_text_back true c.args.text.now inside.0 inside.1 inside.2))
