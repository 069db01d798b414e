use Rattle.std.proofs.Common.{◌≡◌, ap, sym, ◌∙◌, refl, false}
use Rattle.std.specs.Prelude.{IsTrue}
use Rattle.tree_disk.specs.cny-base.Path.{parent}
use Rattle.tree_disk.specs.Tree.{Tree}
use Rattle.tree_disk.specs.Rows.{can_append, is_file_at, with_append}
use Rattle.tree_disk.proofs.StepLaws.{makes_after_test, tests_value}
use Rattle.content_store.specs.Outcome.{IsCollisionOf}
use Rattle.content_store.proofs.Paths.{content_parent}
use Rattle.content_store.proofs.Standing.{file_of_size, may_append, no_file_of_size, put_new_file, put_over_file, put_within}
use Rattle.content_store.proofs.Deciding.{decides_makes, decides_test, stops_later, stops_makes, stops_test}
use Rattle.tree_disk.proofs.Deciding.{tests_next}
use Rattle.content_store.proofs.keep.keep.Goals as goal

pub returns-in-Some-clause-decides : goal.returns-in-Some-clause-decides
returns-in-Some-clause-decides g c =
    decides_test g.met.D.TreeDisk.laws (tests_next g.met.D.TreeDisk.laws c.in_ok-look.ensures.tests c.expect_same.ensures.tests) (λ tells.
    put_over_file _ c.args.path.now c.args.name.now c.args.bytes.now (file_of_size _ c.args.path.now c.in_ok-look.look c.in-Some.size (tests_value c.in_ok-look.ensures.tests tells) (sym c.size.ensures ∙ c.in-Some.is)).0)

pub append-requires : goal.append-requires
append-requires g c tells =
    ap (λ (t : Tree). can_append t c.args.path.now) (c.in_ok-look.ensures.tests.same tells).same.reads
    ∙ may_append _ c.args.dir.now c.args.path.now (c.requires.can tells) (ap parent c.requires.path ∙ content_parent c.args.dir.now c.args.name.now c.requires.dir c.fits-name)

pub returns-clause-decides : goal.returns-clause-decides
returns-clause-decides g c =
    let none : IsTrue g.D.TreeDisk.disk.tells → is_file_at (g.D.TreeDisk.disk.reads c.args.disk.now) c.args.path.now ≡ false = λ tells. no_file_of_size (g.D.TreeDisk.disk.reads c.args.disk.now) c.args.path.now c.in_ok-look.look (tests_value c.in_ok-look.ensures.tests tells) (sym c.size.ensures ∙ c.in-None.is) in
    decides_makes {change = λ t. with_append t c.args.path.now c.args.bytes.now} (makes_after_test g.met.D.TreeDisk.laws c.in_ok-look.ensures.tests c.append.ensures.makes (λ tells. refl))
    (λ tells. put_within _ c.args.path.now (none tells))
    (λ tells. put_new_file _ c.args.path.now c.args.name.now c.args.bytes.now (none tells))

pub returns-in_err-look-clause-stops : goal.returns-in_err-look-clause-stops
returns-in_err-look-clause-stops g c = stops_test (IsCollisionOf c.args.name.now) c.from_residual.result c.in_err-look.ensures.tests c.in_err-look.ensures.stops c.from_residual.ensures.1

pub returns-in-Some-clause-stops : goal.returns-in-Some-clause-stops
returns-in-Some-clause-stops g c = stops_later (IsCollisionOf c.args.name.now) (g.D.TreeDisk.disk.faults c.expect_same.new.disk) c.expect_same.result c.in_ok-look.ensures.tests.later c.expect_same.ensures.stops

pub returns-clause-stops : goal.returns-clause-stops
returns-clause-stops g c = stops_later (IsCollisionOf c.args.name.now) (g.D.TreeDisk.disk.faults c.append.new.disk) c.append.result c.in_ok-look.ensures.tests.later (stops_makes (IsCollisionOf c.args.name.now) c.append.ensures.makes)
