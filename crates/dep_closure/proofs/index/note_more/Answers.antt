use Rattle.std.proofs.Common.{sym, rules}
use Rattle.std.proofs.lemmas.Map.Text.{btree_map_updates_text}
use Rattle.dep_closure.proofs.Noted.{notes_kept}
use Rattle.dep_closure.proofs.index.note_more.Goals as goal

pub returns-in_err-note_in-clause-kept : goal.returns-in_err-note_in-clause-kept
returns-in_err-note_in-clause-kept c =
    notes_kept c.args.index.now (c.get_mut.follows.lender c.note_in.new.names) c.args.dep.now c.note_in.new.names
    (btree_map_updates_text c.args.dep.now c.args.index.now (c.get_mut.follows.lender c.note_in.new.names) _ ((c.get_mut.follows.holds c.note_in.new.names).3 (search rules)))
    c.in-Some.names.now (sym c.in-Some.ensures.value) c.note_in.ensures.kept

pub returns-in_ok-note_in-clause-kept : goal.returns-in_ok-note_in-clause-kept
returns-in_ok-note_in-clause-kept c =
    notes_kept c.args.index.now (c.get_mut.follows.lender c.note_in.new.names) c.args.dep.now c.note_in.new.names
    (btree_map_updates_text c.args.dep.now c.args.index.now (c.get_mut.follows.lender c.note_in.new.names) _ ((c.get_mut.follows.holds c.note_in.new.names).3 (search rules)))
    c.in-Some.names.now (sym c.in-Some.ensures.value) c.note_in.ensures.kept
