use Rattle.std.proofs.Common.{false, subst}
use Rattle.cny_version.specs.Version.{IsVersion}
use Rattle.cny_version.specs.Filled.{filled, IsAbbreviationOf}
use Rattle.cny_version.specs.Reading.{version_found}
use Rattle.cny_version.proofs.ReaderAnswers.{ok_found, only_found, not_bad, bad_exactly}
use Rattle.cny_version.proofs.VersionReaders.{abbreviation_found, abbreviation_back, own_text_back}
use Rattle.cny_version.proofs.VersionTexts.{version_is}
use Rattle.cny_version.proofs.version.Version.read.Goals as goal

pub returns-clause-value : goal.returns-clause-value
returns-clause-value c =
    ok_found c.found.result (version_found false c.args.text.now) (λ v. IsAbbreviationOf v c.args.text.now) c.found.ensures (abbreviation_found c.args.text.now)

pub returns-clause-ok : goal.returns-clause-ok
returns-clause-ok c = ok_found c.found.result (version_found false c.args.text.now) IsVersion c.found.ensures (version_is false c.args.text.now)

pub returns-clause-only : goal.returns-clause-only
returns-clause-only c a is same = only_found c.found.result (version_found false c.args.text.now) (filled a) c.found.ensures (abbreviation_back c.args.text.now a is same)

pub returns-clause-bad : goal.returns-clause-bad
returns-clause-bad c =
    bad_exactly c.found.result (version_found false c.args.text.now) c.found.ensures
    (λ v found. let a = abbreviation_found c.args.text.now v found in (a.0, subst IsVersion a.1 (version_is false c.args.text.now v found), a.2))
    (λ inside. (filled inside.0, abbreviation_back c.args.text.now inside.0 inside.1 inside.2))

pub returns-clause-whole : goal.returns-clause-whole
returns-clause-whole c v is same =
    let found = own_text_back false c.args.text.now v is same in
    (only_found c.found.result (version_found false c.args.text.now) v c.found.ensures found, not_bad c.found.result (version_found false c.args.text.now) v c.found.ensures found)
