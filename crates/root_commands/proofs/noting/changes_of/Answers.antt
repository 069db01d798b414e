use Rattle.std.proofs.Common.{◌≡◌, ℕ, true, false, List, None, ap, sym, subst, ◌∙◌}
use Rattle.std.specs.BTreeMap.{is_at}
use Rattle.std.specs.Cmp.Lexicographic.{slice_cmp}
use Rattle.std.specs.Map.{lookup}
use Rattle.std.specs.Ordering.{nat_cmp}
use Rattle.update_job.specs.Changes.{AreChanges, noted}
use Rattle.root_commands.specs.Noting.{id_by_name, turned}
use Rattle.root_commands.proofs.Changed.{changes_between}
use Rattle.root_commands.proofs.noting.changes_of.Goals as goal

pub returns : goal.returns
returns c = λ before after rising after_rising were are.
    let was = c.args.before.now in
    let now = c.args.after.now in
    let none : (name : List ℕ) → noted c.new-changes.result name ≡ None = λ name. ap (lookup (is_at (slice_cmp nat_cmp name))) c.new-changes.ensures.empty in
    let both : (name : List ℕ) → noted c.note_all-2.new.changes name ≡ turned true (id_by_name name now) (turned false (id_by_name name was) None) = λ name.
    c.in_ok-note_all-2.ensures.noted name
    ∙ ap (turned true (id_by_name name now)) (c.in_ok-note_all.ensures.noted name ∙ ap (turned false (id_by_name name was)) (none name)) in
    subst (AreChanges before after) (sym (c.new.ensures ∙ c.in_ok-list.ensures))
    (changes_between c.note_all-2.new.changes c.in_ok-note_all-2.ensures.ordered was now both before after rising after_rising were are)
