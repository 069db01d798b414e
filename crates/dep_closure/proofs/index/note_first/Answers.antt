use Rattle.std.proofs.Common.{◌≡◌, ℕ, List, Some, string_bytes, ap, ◌∙◌}
use Rattle.std.specs.BTreeMap.{get_by_text}
use Rattle.std.specs.Map.{update}
use Rattle.std.specs.Str.{bytes_eq}
use Rattle.std.proofs.lemmas.Map.Text.{btree_map_updates_text}
use Rattle.std.proofs.lemmas.Result.{IfOk-at_ok}
use Rattle.dep_closure.proofs.Noted.{notes_added, notes_own}
use Rattle.dep_closure.proofs.index.note_first.Goals as goal

pub returns-clause-noted : goal.returns-clause-noted
returns-clause-noted c =
    let key : string_bytes c.in_ok-key.key ≡ c.args.dep.now = IfOk-at_ok (λ s. string_bytes s ≡ c.args.dep.now) c.in_ok-key.was c.from_str.ensures.ok in
    notes_own c.args.index.now c.insert.new.self c.args.dep.now c.note_in.new.names
    (λ other. btree_map_updates_text (string_bytes c.in_ok-key.key) c.args.index.now c.insert.new.self _ c.in_ok-insert.ensures.updates other
    ∙ ap (λ (d : List ℕ). update bytes_eq (get_by_text c.args.index.now) d (Some c.note_in.new.names) other) key)
    c.args.name.now c.in_ok-note_in.ensures.noted

pub returns-clause-kept : goal.returns-clause-kept
returns-clause-kept c =
    let key : string_bytes c.in_ok-key.key ≡ c.args.dep.now = IfOk-at_ok (λ s. string_bytes s ≡ c.args.dep.now) c.in_ok-key.was c.from_str.ensures.ok in
    notes_added c.args.index.now c.insert.new.self c.args.dep.now c.note_in.new.names
    (λ other. btree_map_updates_text (string_bytes c.in_ok-key.key) c.args.index.now c.insert.new.self _ c.in_ok-insert.ensures.updates other
    ∙ ap (λ (d : List ℕ). update bytes_eq (get_by_text c.args.index.now) d (Some c.note_in.new.names) other) key)
    c.requires
