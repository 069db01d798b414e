use Rattle.std.proofs.Common.{◌≡◌, ◌+◌, ℕ, List, Some, cond, ap, ◌∙◌}
use Rattle.std.specs.BTreeMap.{insert_entry}
use Rattle.std.specs.Cmp.Lexicographic.{slice_cmp}
use Rattle.std.specs.Ordering.{nat_cmp}
use Rattle.local_db.specs.trove-parts.declared.id.TroveId.{TroveId}
use Rattle.local_db.specs.trove-parts.declared.files.FileAt.{FileAt}
use Rattle.local_db.specs.trove-stream.declared.parts.TroveParts.{TroveParts}
use Rattle.local_db.specs.Installed.{record_at, first_mark}
use Rattle.local_db.specs.tree-disk.Tree.{same_name}
use Rattle.past_jobs.specs.Table.{mark_at, trove_at}
use Rattle.past_jobs.proofs.Maps.{put_indexed}
use Rattle.past_jobs.proofs.table.put_trove.Goals as goal

pub returns-clause-indexed : goal.returns-clause-indexed
returns-clause-indexed c =
    let name_is : c.in_ok-copy.field-0 ≡ c.args.trove.now.id.name = c.in_ok-copy.ensures ∙ ap (λ (id : TroveId). id.name) c.id-2.ensures.value in
    let own_name : c.id.result.now.name ≡ c.args.trove.now.id.name = ap (λ (id : TroveId). id.name) c.id.ensures.value in
    let value_is : c.in_ok-copy-2.field-0 ≡ c.args.trove.now = c.in_ok-copy-2.ensures in
    let entries_are : c.insert.new.self.entries ≡ insert_entry (slice_cmp nat_cmp) c.args.table.now.troves.entries c.in_ok-copy.field-0 c.in_ok-copy-2.field-0 = c.in_ok-insert.ensures.entries in
    let at : (q : List ℕ) → trove_at c.insert.new.self q ≡ cond (same_name c.in_ok-copy.field-0 q) (Some c.in_ok-copy-2.field-0) (trove_at c.args.table.now.troves q) = c.in_ok-insert.ensures.updates.0 in
    let marks : (p q : List ℕ) → mark_at c.add_files.new.marks p q ≡ cond (same_name c.id.result.now.name q) (first_mark (record_at c.files.result.now p) (mark_at c.args.table.now.marks p q)) (mark_at c.args.table.now.marks p q) = c.in_ok-add_files.ensures in
    put_indexed c.args.format c.args.table.now.troves c.insert.new.self c.args.table.now.marks c.add_files.new.marks c.args.table.now.len c.in-Some.len c.args.trove.now c.requires.indexed c.in_ok-insert.ensures.ordered
    c.requires.absent
    (entries_are ∙ ap (λ (n : List ℕ). insert_entry (slice_cmp nat_cmp) c.args.table.now.troves.entries n c.in_ok-copy-2.field-0) name_is ∙ ap (insert_entry (slice_cmp nat_cmp) c.args.table.now.troves.entries c.args.trove.now.id.name) value_is)
    (λ q. at q ∙ ap (λ (n : List ℕ). cond (same_name n q) (Some c.in_ok-copy-2.field-0) (trove_at c.args.table.now.troves q)) name_is ∙ ap (λ (t : TroveParts). cond (same_name c.args.trove.now.id.name q) (Some t) (trove_at c.args.table.now.troves q)) value_is)
    (λ p q. marks p q
    ∙ ap (λ (n : List ℕ). cond (same_name n q) (first_mark (record_at c.files.result.now p) (mark_at c.args.table.now.marks p q)) (mark_at c.args.table.now.marks p q)) own_name
    ∙ ap (λ (l : List FileAt). cond (same_name c.args.trove.now.id.name q) (first_mark (record_at l p) (mark_at c.args.table.now.marks p q)) (mark_at c.args.table.now.marks p q)) c.files.ensures.value)
    (c.in-Some.ensures.1 ∙ ap (λ (k : ℕ). c.args.table.now.len + k) c.in_ok-by.ensures.value)
