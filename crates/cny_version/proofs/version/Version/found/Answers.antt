use Rattle.std.proofs.Common.{◌≡◌, true, arith}
use Rattle.std.specs.Option.{is_some}
use Rattle.cny_version.specs.Reading.{version_found}
use Rattle.cny_version.proofs.ReaderAnswers.{reads_from_gives}
use Rattle.cny_version.proofs.version.Version.found.Goals as goal

pub returns : goal.returns
returns c =
    let is : is_some (version_found c.args.whole c.args.text.now) ≡ true = grind arith in
    reads_from_gives c.read_parts.result (version_found c.args.whole c.args.text.now) is c.read_parts.ensures
