use Rattle.std.proofs.Common.{cond, None, Some, ap, ◌∙◌}
use Rattle.std.specs.BTreeMap.{get}
use Rattle.std.specs.Cmp.Lexicographic.{slice_cmp}
use Rattle.std.specs.Ordering.{nat_cmp}
use Rattle.tree_scan.specs.tree-disk.Laws.{same_means}
use Rattle.tree_scan.specs.tree-disk.Tree.{same_name}
use Rattle.conflict_plan.specs.Records.{noted}
use Rattle.conflict_plan.proofs.Ahead.{one_noted}
use Rattle.conflict_plan.proofs.records.add_file.Goals as goal

pub returns : goal.returns
returns c = λ path.
    let was = get (slice_cmp nat_cmp) c.args.records.now path in
    let mid = get (slice_cmp nat_cmp) c.remove.new.self path in
    let now = c.in_ok-now.now in
    let updated = c.in_ok-insert.ensures.updates.0 path ∙ ap (λ k. cond (same_name k path) (Some now) mid) c.in_ok-path.ensures in
    one_noted c.args.side c.args.name.now c.args.file.now path was c.remove.result mid (get (slice_cmp nat_cmp) c.insert.new.self path) now
    (λ same. c.remove.ensures.value ∙ ap (get (slice_cmp nat_cmp) c.args.records.now) (same_means c.args.file.now.path path same))
    (λ other. c.remove.ensures.updates.0 path ∙ ap (λ b. cond b None was) other)
    (λ same. updated ∙ ap (λ b. cond b (Some now) mid) same)
    (λ other. updated ∙ ap (λ b. cond b (Some now) mid) other)
    (c.in_ok-now.ensures ∙ ap (λ r. noted c.args.side r (c.args.name.now, c.args.file.now.rec)) c.or_nothing-before.ensures)
