use Rattle.std.proofs.Common.{◌≡◌, cond, inl, inr, true, false, Some, ap, sym, ◌∙◌}
use Rattle.std.proofs.lemmas.Bool.{false≢true}
use Rattle.local_db.specs.Sharing.{kind_at}
use Rattle.tree_journal.specs.tree-disk.Tree.{same_name}
use Rattle.local_db.proofs.Apart.{add_noted, apart_dirs, dirs_of_apart}
use Rattle.local_db.proofs.sharing.add_file.Goals as goal

pub returns-in-None-clause-noted : goal.returns-in-None-clause-noted
returns-in-None-clause-noted c before noted h =
    let path = c.in_ok-path.ensures in
    let dir = c.is_dir-is_dir.ensures in
    add_noted before c.args.kinds.now c.args.file.now noted c.insert.new.self
    (λ q. c.in_ok-before.ensures.updates.0 q ∙ (λ i. cond (same_name (path i) q) (Some (dir i)) (kind_at c.args.kinds.now q)))
    (inl (ap (kind_at c.args.kinds.now) (sym path) ∙ sym c.in_ok-before.ensures.old ∙ c.in-None.is))

pub returns-then-was_dir-clause-apart : goal.returns-then-was_dir-clause-apart
returns-then-was_dir-clause-apart c before noted =
    let path = c.in_ok-path.ensures in
    let dir = c.is_dir-is_dir.ensures in
    let was : kind_at c.args.kinds.now c.args.file.now.path ≡ Some true =
    ap (kind_at c.args.kinds.now) (sym path) ∙ sym c.in_ok-before.ensures.old ∙ c.in-Some.is ∙ ap Some c.if-was_dir.true in
    (λ is. apart_dirs before c.args.kinds.now c.args.file.now noted was (sym dir ∙ is), λ apart. dir ∙ (dirs_of_apart before c.args.kinds.now c.args.file.now noted true was apart).1)

pub returns-then-was_dir-clause-noted : goal.returns-then-was_dir-clause-noted
returns-then-was_dir-clause-noted c before noted h =
    let path = c.in_ok-path.ensures in
    let dir = c.is_dir-is_dir.ensures in
    add_noted before c.args.kinds.now c.args.file.now noted c.insert.new.self
    (λ q. c.in_ok-before.ensures.updates.0 q ∙ (λ i. cond (same_name (path i) q) (Some (dir i)) (kind_at c.args.kinds.now q)))
    (inr (ap (kind_at c.args.kinds.now) (sym path) ∙ sym c.in_ok-before.ensures.old ∙ c.in-Some.is ∙ ap Some c.if-was_dir.true))

pub returns-else-was_dir-clause-apart : goal.returns-else-was_dir-clause-apart
returns-else-was_dir-clause-apart c before noted =
    let path = c.in_ok-path.ensures in
    let was : kind_at c.args.kinds.now c.args.file.now.path ≡ Some false =
    ap (kind_at c.args.kinds.now) (sym path) ∙ sym c.in_ok-before.ensures.old ∙ c.in-Some.is ∙ ap Some c.if-was_dir.false in
    (λ is. absurd (false≢true (sym c.if-was_dir.false ∙ is)), λ apart. absurd (false≢true (dirs_of_apart before c.args.kinds.now c.args.file.now noted false was apart).0))
