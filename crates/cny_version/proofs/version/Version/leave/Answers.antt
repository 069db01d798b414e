use Rattle.std.proofs.Common.{◌≡◌, true, sym, subst, arith}
use Rattle.cny_version.specs.Revision.{is_revision}
use Rattle.cny_version.specs.Version.{depth}
use Rattle.cny_version.specs.Made.{branched}
use Rattle.cny_version.proofs.VersionReaders.{fits_branch}
use Rattle.cny_version.proofs.version.Version.leave.Goals as goal

pub on-requires-clause-fits : goal.on-requires-clause-fits
on-requires-clause-fits c =
    let b = c.self.inside.branch in
    let s = c.in_ok-branch_revision.branch_revision in
    let branch : c.in_ok-branch.branch ≡ branched b s c.in_ok-label.label = grind arith in
    let revision : c.in_ok-revision.revision ≡ c.self.inside.revision = grind arith in
    subst (λ b. is_revision (depth b) c.in_ok-revision.revision ≡ true) (sym branch)
    (subst (λ r. is_revision (depth (branched b s c.in_ok-label.label)) r ≡ true) (sym revision) (fits_branch b s c.in_ok-label.label c.self.inside.revision c.self.invariant.1.revision))
