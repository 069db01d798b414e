use Rattle.std.proofs.Common.{Ok, Err, sym, subst, ◌∙◌}
use Rattle.repo_index.specs.cny-base.declared.limits.TheConstants.{CONFIG_LIMIT}
use Rattle.repo_index.specs.cny-base.declared.stop.Stop.{Stop}
use Rattle.tree_disk.specs.Rows.{bytes_at}
use Rattle.tree_disk.proofs.StepLaws.{tests_refuse, tests_value}
use Rattle.tree_disk.specs.Steps.{Tests}
use Rattle.trove_spec.proofs.Sizes.{none_larger}
use Rattle.trove_spec.proofs.bounded.read_within.Goals as goal

pub returns-in-None-clause-tests : goal.returns-in-None-clause-tests
returns-in-None-clause-tests g c =
    let disk = g.T.TreeDisk.disk in
    let tested = c.in_ok-whole.ensures.tests in
    subst (λ (s : Stop). Tests disk (λ bytes. bytes) (λ tree. Ok (bytes_at tree c.args.path.now)) c.args.root.now c.read_whole.new.disk (Err s)) (sym c.too_large.ensures)
    (tests_refuse tested (λ tells. absurd (none_larger CONFIG_LIMIT (bytes_at (disk.reads c.args.root.now) c.args.path.now) (c.requires.fits tells) (sym (tests_value tested tells) ∙ c.in-None.is))))
