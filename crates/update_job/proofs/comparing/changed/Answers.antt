use Rattle.std.proofs.Common.{List, sym, subst, ◌∙◌}
use Rattle.change_set.specs.trove-stream.declared.parts.TroveParts.{TroveParts}
use Rattle.update_job.specs.Changes.{IsLost, IsFresh, NotesAll, AreChanges}
use Rattle.update_job.proofs.Noting.{changes_of}
use Rattle.update_job.proofs.comparing.changed.Goals as goal

pub returns : goal.returns
returns c =
    let before = c.args.before.now in
    let after = c.args.after.now in
    let empty = c.new-noted.result in
    let middle = c.note_all_lost.new.changes in
    let last = c.note_all_fresh.new.changes in
    let lost : NotesAll (IsLost after) before empty middle = subst (λ (l : List TroveParts). NotesAll (IsLost after) l empty middle) c.troves.ensures.value c.in_ok-note_all_lost.ensures.noted in
    let fresh : NotesAll (IsFresh before) after middle last = subst (λ (l : List TroveParts). NotesAll (IsFresh before) l middle last) c.troves-2.ensures.value c.in_ok-note_all_fresh.ensures.noted in
    subst (AreChanges before after) (sym (c.new.ensures ∙ c.in_ok-changes.ensures)) (changes_of before after empty middle last c.new-noted.ensures.empty lost fresh c.in_ok-note_all_fresh.ensures.ordered)
