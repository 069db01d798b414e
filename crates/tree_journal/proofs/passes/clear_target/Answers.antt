use Rattle.std.proofs.Common.{inl, ap, sym, ◌∙◌}
use Rattle.journal_log.specs.tree-disk.Rows.{without}
use Rattle.journal_log.proofs.tree-disk.StepLaws.{tests_value, makes_after_test, makes_from_test}
use Rattle.journal_log.specs.tree-disk.Disk.{one_name}
use Rattle.journal_log.specs.tree-disk.Tree.{Tree}
use Rattle.tree_journal.specs.Passes.{is_obstructed}
use Rattle.tree_journal.proofs.ClearPass.{obstructed_at, cleared_away, cleared_kept}
use Rattle.tree_journal.proofs.Seen.{read_shows, step_shows}
use Rattle.tree_journal.proofs.passes.clear_target.Goals as goal

pub returns-in_err-look-clause-seen : goal.returns-in_err-look-clause-seen
returns-in_err-look-clause-seen g c = λ tells. read_shows (c.in_err-look.ensures.tests.same tells) (λ t is. inl is)

pub returns-then-not-obstructs-clause-makes : goal.returns-then-not-obstructs-clause-makes
returns-then-not-obstructs-clause-makes g c =
    let seen = c.in_ok-look.ensures.tests in
    makes_from_test g.met.D.TreeDisk.laws (one_name c.args.put.now.path) tt seen (λ tells.
    cleared_kept _ c.args.put.now (sym (obstructed_at _ c.args.put.now) ∙ ap (is_obstructed c.args.put.now.want) (sym (tests_value seen tells)) ∙ sym c.obstructs.ensures ∙ c.if-not-obstructs.true))

pub returns-then-not-obstructs-clause-seen : goal.returns-then-not-obstructs-clause-seen
returns-then-not-obstructs-clause-seen g c = λ tells. read_shows (c.in_ok-look.ensures.tests.same tells) (λ t is. inl is)

pub remove-requires : goal.remove-requires
remove-requires g c tells =
    let seen = c.in_ok-look.ensures.tests in
    rw (seen.same tells).same.reads (c.requires tells (sym (obstructed_at _ c.args.put.now) ∙ ap (is_obstructed c.args.put.now.want) (sym (tests_value seen tells)) ∙ sym c.obstructs.ensures ∙ c.if-not-obstructs.false))

pub returns-clause-makes : goal.returns-clause-makes
returns-clause-makes g c =
    let seen = c.in_ok-look.ensures.tests in
    makes_after_test g.met.D.TreeDisk.laws seen c.remove.ensures.makes (λ tells.
    sym (cleared_away _ c.args.put.now (sym (obstructed_at _ c.args.put.now) ∙ ap (is_obstructed c.args.put.now.want) (sym (tests_value seen tells)) ∙ sym c.obstructs.ensures ∙ c.if-not-obstructs.false)))

pub returns-clause-seen : goal.returns-clause-seen
returns-clause-seen g c = λ tells.
    let seen = c.in_ok-look.ensures.tests in
    step_shows seen.later c.remove.ensures.makes.later (seen.same tells) (c.remove.ensures.seen tells)
    (ap (λ (t : Tree). without t c.args.put.now.path) (seen.same tells).same.reads
    ∙ sym (cleared_away _ c.args.put.now (sym (obstructed_at _ c.args.put.now) ∙ ap (is_obstructed c.args.put.now.want) (sym (tests_value seen tells)) ∙ sym c.obstructs.ensures ∙ c.if-not-obstructs.false)))
