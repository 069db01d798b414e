use Rattle.std.proofs.Common.{IsTrue, take, ap, sym, ◌∙◌, refl}
use Rattle.std.proofs.lemmas.List.{get_or_default}
use Rattle.cny_base.specs.Path.{join}
use Rattle.tree_disk.specs.Tree.{Name}
use Rattle.tree_disk.specs.Rows.{without}
use Rattle.tree_disk.specs.Clear.{is_within, without_each, without_tree}
use Rattle.tree_disk.specs.Looks.{sees_nothing, sees_dir}
use Rattle.tree_disk.proofs.Looks.{dir_seen, nothing_seen}
use Rattle.tree_disk.proofs.StepLaws.{tests_value, makes_from_test, makes_after_test, makes_then, makes_then_stop, makes_test_stop, makes_test_then_stop, makes_wider}
use Rattle.tree_disk.proofs.ClearLaws.{below_within, itself_within, within_join_below}
use Rattle.tree_disk.proofs.Clearing.{without_after, without-leaf, without-nothing, may_remove_after, one_more_cleared}
use Rattle.tree_disk.proofs.clear.+clear.Goals as goal

pub clear_at-returns-in_err-look : goal.clear_at-returns-in_err-look
clear_at-returns-in_err-look g t c = makes_test_stop g.met.D.TreeDisk.laws (is_within c.args.path.now) c.in_err-look.ensures.tests c.in_err-look.ensures.stops c.from_residual.ensures.1

pub clear_at-returns-then-is_nothing : goal.clear_at-returns-then-is_nothing
clear_at-returns-then-is_nothing g t c =
    let laws = g.met.D.TreeDisk.laws in
    let tree = g.D.TreeDisk.disk.reads c.args.disk.now in
    let seen = c.in_ok-look.ensures.tests in
    makes_from_test laws (is_within c.args.path.now) tt seen (λ tells.
    without-nothing tree c.args.path.now (laws.reads_well_formed c.args.disk.now) c.requires.path
    (nothing_seen tree c.args.path.now (ap sees_nothing (sym (tests_value seen tells)) ∙ sym c.is_nothing.ensures ∙ c.if-is_nothing.true)))

pub clear_at-returns-then-is_dir : goal.clear_at-returns-then-is_dir
clear_at-returns-then-is_dir g t c = makes_after_test g.met.D.TreeDisk.laws c.in_ok-look.ensures.tests c.clear_dir.ensures (λ tells. refl)

pub clear_at-returns : goal.clear_at-returns
clear_at-returns g t c =
    let laws = g.met.D.TreeDisk.laws in
    let tree = g.D.TreeDisk.disk.reads c.args.disk.now in
    let path = c.args.path.now in
    let seen = c.in_ok-look.ensures.tests in
    makes_after_test laws seen (makes_wider (itself_within path) c.remove.ensures.makes) (λ tells.
    without-leaf tree path (laws.reads_well_formed c.args.disk.now) c.requires.path
    (sym (dir_seen tree path) ∙ ap sees_dir (sym (tests_value seen tells)) ∙ sym c.is_dir.ensures ∙ c.if-is_dir.false))

pub clear_dir-returns-in_err-names : goal.clear_dir-returns-in_err-names
clear_dir-returns-in_err-names g t c = makes_test_stop g.met.D.TreeDisk.laws (is_within c.args.path.now) c.in_err-names.ensures.tests c.in_err-names.ensures.stops c.from_residual.ensures.1

pub clear_dir-returns-in_err-clear_each : goal.clear_dir-returns-in_err-clear_each
clear_dir-returns-in_err-clear_each g t c =
    makes_test_then_stop g.met.D.TreeDisk.laws c.in_ok-names.ensures.tests (below_within c.args.path.now) c.in_err-clear_each.ensures c.from_residual-in_err-clear_each.ensures.1

pub clear_dir-remove-requires : goal.clear_dir-remove-requires
clear_dir-remove-requires g t c tells =
    let laws = g.met.D.TreeDisk.laws in
    let listed = c.in_ok-names.ensures.tests in
    may_remove_after _ _ _ c.args.path.now c.get.result.now (laws.reads_well_formed c.args.disk.now) c.requires.path c.requires.not_root (listed.same tells).same.reads (c.get.ensures ∙ tests_value listed tells) (c.in_ok-clear_each.ensures.ended tells) (c.requires.dir tells)

pub clear_dir-returns : goal.clear_dir-returns
clear_dir-returns g t c =
    let laws = g.met.D.TreeDisk.laws in
    let path = c.args.path.now in
    makes_after_test laws {change = λ u. without (without_each u path c.get.result.now) path} c.in_ok-names.ensures.tests (makes_then (makes_wider (below_within path) c.in_ok-clear_each.ensures) (itself_within path) c.remove.ensures.makes (λ tells. refl)) (λ tells.
    without_after _ path c.get.result.now (laws.reads_well_formed c.args.disk.now) c.requires.path c.requires.not_root (c.get.ensures ∙ tests_value c.in_ok-names.ensures.tests tells))

pub clear_each-returns-in_err-clear_at : goal.clear_each-returns-in_err-clear_at
clear_each-returns-in_err-clear_at g t c =
    let path = c.args.path.now in
    let within = λ (q : Name) (low : IsTrue (is_within (join path c.get.result.now) q)). within_join_below path c.get.result.now q c.requires.path c.requires.not_root low in
    makes_then_stop c.loop-last.invariant (rw c.in_ok-child.ensures.child within) c.in_err-clear_at.ensures c.from_residual-in_err-clear_at.ensures.1

pub clear_each-loop-last-preserved : goal.clear_each-loop-last-preserved
clear_each-loop-last-preserved g t c =
    let path = c.args.path.now in
    let names = c.args.names.now in
    let last = c.get.result.now in
    let within = λ (q : Name) (low : IsTrue (is_within (join path last) q)). within_join_below path last q c.requires.path c.requires.not_root low in
    let tree = g.D.TreeDisk.disk.reads c.args.disk.now in
    makes_then c.loop-last.invariant (rw c.in_ok-child.ensures.child within) c.in_ok-clear_at.ensures (λ tells.
    ap (without_tree (without_each tree path (take c.loop-last.last-index names))) c.in_ok-child.ensures.child
    ∙ one_more_cleared tree path names c.loop-last.last-index last c.loop-last-test.true
    (c.get.ensures ∙ c.last-item.is ∙ get_or_default names c.loop-last.last-index c.last-item.result last c.loop-last-test.true))
