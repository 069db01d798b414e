use Rattle.std.proofs.Common.{◌≤◌, IsTrue, length}
use Rattle.std.specs.Str.{IsUtf8}
use Rattle.cny_version.specs.Label.{is_label}
use Rattle.cny_version.specs.Reading.{version_found}
use Rattle.cny_version.specs.Slices.{parts_of}
use Rattle.cny_version.proofs.VersionSteps.{IsAt}
use Rattle.cny_version.proofs.scan.is_version.Given as goal

abbrev pub invariant-labels : goal.invariant-labels
invariant-labels l = record {
  utf8 : IsUtf8 l.rest;
  label_is : IsTrue (is_label (parts_of l.label));
  shallow : l.depth ≤ l.size;
  short : l.size ≤ 512;
  at : IsAt l.whole (parts_of l.label) l.depth l.size l.rest (version_found l.whole l.text);
}

abbrev pub decreases-labels : goal.decreases-labels
decreases-labels l = length l.rest
