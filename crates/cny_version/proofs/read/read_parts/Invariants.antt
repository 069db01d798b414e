use Rattle.std.proofs.Common.{◌≡◌, length}
use Rattle.std.specs.Str.{IsUtf8}
use Rattle.cny_version.specs.Version.{last_label}
use Rattle.cny_version.specs.Reading.{pieces, version_on, version_found}
use Rattle.cny_version.specs.Slices.{parts_of}
use Rattle.cny_version.proofs.read.read_parts.Given as goal

abbrev pub invariant-labels : goal.invariant-labels
invariant-labels l = record {
  utf8 : IsUtf8 l.rest;
  last : last_label l.branch ≡ parts_of l.label;
  same : version_on l.whole l.branch (pieces 47 l.rest) ≡ version_found l.whole l.text;
}

abbrev pub decreases-labels : goal.decreases-labels
decreases-labels l = length l.rest
