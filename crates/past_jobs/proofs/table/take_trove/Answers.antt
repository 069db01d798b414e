use Rattle.std.proofs.Common.{◌≡◌, ◌-◌, ◌≤◌, ◌&&◌, ℕ, List, None, is_some, cond, sym, ap, ◌∙◌, subst, arith}
use Rattle.local_db.specs.trove-parts.declared.files.FileAt.{FileAt}
use Rattle.local_db.specs.Installed.{record_at}
use Rattle.local_db.specs.tree-disk.Tree.{same_name}
use Rattle.past_jobs.specs.Table.{mark_at, item_len}
use Rattle.past_jobs.proofs.Maps.{take_indexed}
use Rattle.past_jobs.proofs.Joining.{weighs}
use Rattle.past_jobs.proofs.table.take_trove.Goals as goal

pub overflow_sub-table : goal.overflow_sub-table
overflow_sub-table c =
    subst (λ (k : ℕ). k ≤ c.args.table.now.len) (sym c.in_ok-table.ensures.value)
    (weighs c.args.format c.args.table.now.troves c.args.table.now.marks c.args.table.now.len c.requires c.args.name.now c.in-Some.trove (sym c.in-Some.ensures.value))

pub returns-clause-indexed : goal.returns-clause-indexed
returns-clause-indexed c =
    let fits = weighs c.args.format c.args.table.now.troves c.args.table.now.marks c.args.table.now.len c.requires c.args.name.now c.in-Some.trove (sym c.in-Some.ensures.value) in
    let by : c.in_ok-table.field-0 ≡ item_len c.args.format c.in-Some.trove = c.in_ok-table.ensures.value in
    take_indexed c.args.format c.args.table.now.troves c.remove.new.self c.args.table.now.marks c.remove_files.new.marks c.args.table.now.len (c.args.table.now.len - c.in_ok-table.field-0) c.in-Some.trove c.requires c.in-Some.ensures.ordered
    c.args.name.now (sym c.in-Some.ensures.value) c.in-Some.ensures.entries c.in-Some.ensures.updates.0
    (λ p q. c.in_ok-remove_files.ensures p q
    ∙ ap (λ (l : List FileAt). cond (same_name c.args.name.now q && is_some (record_at l p)) None (mark_at c.args.table.now.marks p q)) c.files.ensures.value)
    (omega (arith, fits, by))
