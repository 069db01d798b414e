use Rattle.std.proofs.Common.{inl, ap, refl, ◌∙◌, Some}
use Rattle.journal_log.specs.cny-base.declared.node.Node.TheVariants as node
use Rattle.journal_log.specs.tree-disk.Rows.{with_mode}
use Rattle.journal_log.proofs.tree-disk.StepLaws.{tests_value, makes_after_test}
use Rattle.journal_log.specs.tree-disk.Tree.{Tree, put}
use Rattle.tree_journal.proofs.MakePass.{may_set_dir_mode, with_dir_mode, may_make_missing_dir}
use Rattle.tree_journal.proofs.Seen.{read_shows, step_shows}
use Rattle.journal_log.proofs.tree-disk.Looks.{dir_told}
use Rattle.tree_journal.proofs.passes.make_dir_at.Goals as goal

pub returns-in_err-look-clause-seen : goal.returns-in_err-look-clause-seen
returns-in_err-look-clause-seen g c = λ tells. read_shows (c.in_err-look.ensures.tests.same tells) (λ t is. inl is)

pub set_mode-requires : goal.set_mode-requires
set_mode-requires g c = λ tells.
    let seen = c.in_ok-look.ensures.tests in
    rw (seen.same tells).same.reads (may_set_dir_mode _ c.args.path.now (dir_told _ c.args.path.now _ _ _ (tests_value seen tells) c.is_dir.ensures c.if-is_dir.true))

pub returns-then-is_dir-clause-makes : goal.returns-then-is_dir-clause-makes
returns-then-is_dir-clause-makes g c =
    let seen = c.in_ok-look.ensures.tests in
    makes_after_test g.met.D.TreeDisk.laws seen c.set_mode.ensures.makes (λ tells.
    with_dir_mode _ c.args.path.now c.args.mode (dir_told _ c.args.path.now _ _ _ (tests_value seen tells) c.is_dir.ensures c.if-is_dir.true))

pub returns-then-is_dir-clause-seen : goal.returns-then-is_dir-clause-seen
returns-then-is_dir-clause-seen g c = λ tells.
    let seen = c.in_ok-look.ensures.tests in
    step_shows seen.later c.set_mode.ensures.makes.later (seen.same tells) (c.set_mode.ensures.seen tells)
    (ap (λ (t : Tree). with_mode t c.args.path.now c.args.mode) (seen.same tells).same.reads
    ∙ with_dir_mode _ c.args.path.now c.args.mode (dir_told _ c.args.path.now _ _ _ (tests_value seen tells) c.is_dir.ensures c.if-is_dir.true))

pub make_dir-requires : goal.make_dir-requires
make_dir-requires g c = λ tells.
    let seen = c.in_ok-look.ensures.tests in
    rw (seen.same tells).same.reads (may_make_missing_dir _ c.args.path.now (c.requires tells) (dir_told _ c.args.path.now _ _ _ (tests_value seen tells) c.is_dir.ensures c.if-is_dir.false))

pub returns-clause-makes : goal.returns-clause-makes
returns-clause-makes g c = makes_after_test g.met.D.TreeDisk.laws c.in_ok-look.ensures.tests c.make_dir.ensures.makes (λ tells. refl)

pub returns-clause-seen : goal.returns-clause-seen
returns-clause-seen g c = λ tells.
    let seen = c.in_ok-look.ensures.tests in
    step_shows seen.later c.make_dir.ensures.makes.later (seen.same tells) (c.make_dir.ensures.seen tells)
    (ap (λ (t : Tree). put t c.args.path.now (Some (node.Dir c.args.mode))) (seen.same tells).same.reads)
