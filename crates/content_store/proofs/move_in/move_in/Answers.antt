use Rattle.std.proofs.Common.{◌≡◌, ap, sym, ◌∙◌, refl, false}
use Rattle.std.specs.Prelude.{IsTrue}
use Rattle.tree_disk.specs.cny-base.Path.{parent}
use Rattle.tree_disk.specs.Tree.{Tree}
use Rattle.tree_disk.specs.Rows.{can_rename, is_file_at, with_rename}
use Rattle.tree_disk.proofs.StepLaws.{makes_after_test, tests_value}
use Rattle.content_store.specs.Outcome.{IsCollision}
use Rattle.content_store.proofs.Paths.{content_parent}
use Rattle.content_store.proofs.Standing.{file_of_size, may_rename, no_file_of_size, move_new_file, move_over_file, move_within}
use Rattle.content_store.proofs.Deciding.{decides_makes, decides_test, decides_test_stop, stops_later, stops_makes, stops_test}
use Rattle.tree_disk.proofs.Deciding.{tests_next}
use Rattle.content_store.proofs.move_in.move_in.Goals as goal

pub returns-in_err-look-clause-decides : goal.returns-in_err-look-clause-decides
returns-in_err-look-clause-decides g c = decides_test_stop g.met.D.TreeDisk.laws c.in_err-look.ensures.tests c.in_err-look.ensures.stops c.from_residual.ensures.1

pub returns-in-Some-clause-decides : goal.returns-in-Some-clause-decides
returns-in-Some-clause-decides g c =
    decides_test g.met.D.TreeDisk.laws (tests_next g.met.D.TreeDisk.laws c.in_ok-look.ensures.tests c.expect_same_file.ensures.tests) (λ tells.
    move_over_file _ c.args.path.now c.args.name.now c.args.from.now (file_of_size _ c.args.path.now c.in_ok-look.look c.in-Some.size (tests_value c.in_ok-look.ensures.tests tells) (sym c.size.ensures ∙ c.in-Some.is)).0)

pub rename-requires : goal.rename-requires
rename-requires g c tells =
    let none = no_file_of_size (g.D.TreeDisk.disk.reads c.args.disk.now) c.args.path.now c.in_ok-look.look (tests_value c.in_ok-look.ensures.tests tells) (sym c.size.ensures ∙ c.in-None.is) in
    ap (λ (t : Tree). can_rename t c.args.from.now c.args.path.now) (c.in_ok-look.ensures.tests.same tells).same.reads
    ∙ may_rename _ c.args.dir.now c.args.path.now c.args.from.now (c.requires.can tells) (ap parent c.requires.path ∙ content_parent c.args.dir.now c.args.name.now c.requires.dir c.fits-name) (c.requires.from tells) none

pub returns-clause-decides : goal.returns-clause-decides
returns-clause-decides g c =
    let none : IsTrue g.D.TreeDisk.disk.tells → is_file_at (g.D.TreeDisk.disk.reads c.args.disk.now) c.args.path.now ≡ false = λ tells. no_file_of_size (g.D.TreeDisk.disk.reads c.args.disk.now) c.args.path.now c.in_ok-look.look (tests_value c.in_ok-look.ensures.tests tells) (sym c.size.ensures ∙ c.in-None.is) in
    decides_makes {change = λ t. with_rename t c.args.from.now c.args.path.now} (makes_after_test g.met.D.TreeDisk.laws c.in_ok-look.ensures.tests c.rename.ensures.makes (λ tells. refl))
    (λ tells. move_within _ c.args.path.now c.args.from.now (none tells))
    (λ tells. move_new_file _ c.args.path.now c.args.name.now c.args.from.now (none tells))

pub returns-in_err-look-clause-stops : goal.returns-in_err-look-clause-stops
returns-in_err-look-clause-stops g c = stops_test IsCollision c.from_residual.result c.in_err-look.ensures.tests c.in_err-look.ensures.stops c.from_residual.ensures.1

pub returns-in-Some-clause-stops : goal.returns-in-Some-clause-stops
returns-in-Some-clause-stops g c = stops_later IsCollision (g.D.TreeDisk.disk.faults c.expect_same_file.new.disk) c.expect_same_file.result c.in_ok-look.ensures.tests.later c.expect_same_file.ensures.stops

pub returns-clause-stops : goal.returns-clause-stops
returns-clause-stops g c = stops_later IsCollision (g.D.TreeDisk.disk.faults c.rename.new.disk) c.rename.result c.in_ok-look.ensures.tests.later (stops_makes IsCollision c.rename.ensures.makes)
