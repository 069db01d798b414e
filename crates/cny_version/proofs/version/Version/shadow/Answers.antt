use Rattle.std.proofs.Common.{◌≡◌, true, sym, subst, arith}
use Rattle.cny_version.specs.Revision.{is_revision}
use Rattle.cny_version.specs.Version.{depth}
use Rattle.cny_version.specs.Made.{shadowed}
use Rattle.cny_version.proofs.VersionReaders.{fits_shadow}
use Rattle.cny_version.proofs.version.Version.shadow.Goals as goal

pub on-requires-clause-fits : goal.on-requires-clause-fits
on-requires-clause-fits c =
    let b = c.self.inside.branch in
    let branch : c.in_ok-branch.branch ≡ shadowed b c.in_ok-label.label = grind arith in
    let revision : c.in_ok-revision.revision ≡ c.self.inside.revision = grind arith in
    subst (λ b. is_revision (depth b) c.in_ok-revision.revision ≡ true) (sym branch)
    (subst (λ r. is_revision (depth (shadowed b c.in_ok-label.label)) r ≡ true) (sym revision) (fits_shadow b c.in_ok-label.label c.self.inside.revision c.self.invariant.1.revision))
