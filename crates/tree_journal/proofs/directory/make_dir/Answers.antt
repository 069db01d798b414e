use Rattle.std.proofs.Common.{ap, sym, ◌∙◌}
use Rattle.journal_log.proofs.tree-disk.StepLaws.{tests_value, makes_after_test, makes_from_test}
use Rattle.journal_log.specs.tree-disk.Looks.{sees_nothing}
use Rattle.journal_log.specs.tree-disk.Disk.{one_name}
use Rattle.tree_journal.proofs.OwnFiles.{base_kept, base_made, may_make_base, other_seen}
use Rattle.journal_log.proofs.tree-disk.Looks.{dir_told, nothing_seen}
use Rattle.tree_journal.proofs.directory.make_dir.Goals as goal

pub returns-then-is_dir : goal.returns-then-is_dir
returns-then-is_dir g c =
    let seen = c.in_ok-look.ensures.tests in
    makes_from_test g.met.D.TreeDisk.laws (one_name c.args.path.now) tt seen (λ tells.
    base_kept c.args.path.now _ (dir_told _ c.args.path.now _ _ _ (tests_value seen tells) c.is_dir.ensures c.if-is_dir.true))

pub new_dir-requires : goal.new_dir-requires
new_dir-requires g c = λ tells.
    let seen = c.in_ok-look.ensures.tests in
    rw (seen.same tells).same.reads (may_make_base _ c.args.path.now (c.requires.parent tells) (nothing_seen _ c.args.path.now (ap sees_nothing (sym (tests_value seen tells)) ∙ sym c.is_nothing.ensures ∙ c.if-is_nothing.true)))

pub returns-then-is_nothing : goal.returns-then-is_nothing
returns-then-is_nothing g c = makes_after_test g.met.D.TreeDisk.laws c.in_ok-look.ensures.tests c.new_dir.ensures (λ tells. base_made c.args.path.now _ (dir_told _ c.args.path.now _ _ _ (tests_value c.in_ok-look.ensures.tests tells) c.is_dir.ensures c.if-is_dir.false))

pub replace_by_dir-requires-clause-parent : goal.replace_by_dir-requires-clause-parent
replace_by_dir-requires-clause-parent g c = λ tells.
    let seen = c.in_ok-look.ensures.tests in
    rw (seen.same tells).same.reads (c.requires.parent tells)

pub replace_by_dir-requires-clause-stands : goal.replace_by_dir-requires-clause-stands
replace_by_dir-requires-clause-stands g c = λ tells.
    let seen = c.in_ok-look.ensures.tests in
    rw (seen.same tells).same.reads (other_seen _ c.args.path.now
    (ap sees_nothing (sym (tests_value seen tells)) ∙ sym c.is_nothing.ensures ∙ c.if-is_nothing.false)
    (dir_told _ c.args.path.now _ _ _ (tests_value seen tells) c.is_dir.ensures c.if-is_dir.false))

pub returns : goal.returns
returns g c = makes_after_test g.met.D.TreeDisk.laws c.in_ok-look.ensures.tests c.replace_by_dir.ensures (λ tells. base_made c.args.path.now _ (dir_told _ c.args.path.now _ _ _ (tests_value c.in_ok-look.ensures.tests tells) c.is_dir.ensures c.if-is_dir.false))
