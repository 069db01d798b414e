use Rattle.std.proofs.Common.{◌≡◌, ◌<◌, ◌≤◌, ℕ, List, None, Err, All, Contains, map, sym, ap, ◌∙◌, subst}
use Rattle.std.proofs.lemmas.Result.{err_from_is_err_and}
use Rattle.local_db.specs.cny-base.declared.text.TextFault.TheVariants.{Bad}
use Rattle.local_db.specs.trove-stream.declared.parts.TroveParts.{TroveParts}
use Rattle.local_db.specs.trove-stream.Installed.{IsRising, trove_of}
use Rattle.past_jobs.specs.Past.{AreChangedIds}
use Rattle.past_jobs.specs.Table.{trove_at, troves_of}
use Rattle.past_jobs.proofs.Back.{sound_past, sound_left, rising_made, absent_made, all_made, all_left, list_before, too_large}
use Rattle.change_rel.proofs.cny-dep.Faults.{handed_on}
use Rattle.change_rel.specs.trove-stream.Either.{or_else}
use Rattle.past_jobs.proofs.past_list.taken_back.Goals as goal

pub returns-in_err-taken-clause-bad : goal.returns-in_err-taken-clause-bad
returns-in_err-taken-clause-bad c = λ h before past.
    let met = handed_on c.from_residual.result c.in_err-taken.field-0.0 Bad (err_from_is_err_and c.from_residual.result c.from_residual.ensures.1) h in
    c.in_err-taken.ensures.bad (ap Err met) before past.back

pub add_all-requires-clause-sound : goal.add_all-requires-clause-sound
add_all-requires-clause-sound c = sound_left c.args.format c.args.table.troves c.take_all.new.table.troves c.args.table.marks c.take_all.new.table.marks c.args.table.len c.take_all.new.table.len c.args.deltas.now c.in_ok-taken.taken.made.items c.requires.held c.requires.rising c.in_ok-taken.ensures.indexed c.in_ok-taken.ensures.troves c.in_ok-taken.ensures.made

pub add_all-requires-clause-rising : goal.add_all-requires-clause-rising
add_all-requires-clause-rising c = subst IsRising (sym c.as_slice-2.ensures.value)
    (rising_made c.args.format c.args.table.troves c.take_all.new.table.troves c.args.table.marks c.take_all.new.table.marks c.args.table.len c.take_all.new.table.len c.args.deltas.now c.in_ok-taken.taken.made.items c.requires.held c.requires.rising c.in_ok-taken.ensures.indexed c.in_ok-taken.ensures.troves c.in_ok-taken.ensures.made)

pub add_all-requires-clause-absent : goal.add_all-requires-clause-absent
add_all-requires-clause-absent c = subst (All (λ (t : TroveParts). trove_at c.take_all.new.table.troves t.id.name ≡ None)) (sym c.as_slice-2.ensures.value)
    (absent_made c.args.format c.args.table.troves c.take_all.new.table.troves c.args.table.marks c.take_all.new.table.marks c.args.table.len c.take_all.new.table.len c.args.deltas.now c.in_ok-taken.taken.made.items c.requires.held c.requires.rising c.in_ok-taken.ensures.indexed c.in_ok-taken.ensures.troves c.in_ok-taken.ensures.made)

pub returns-in_err-add_all-clause-bad : goal.returns-in_err-add_all-clause-bad
returns-in_err-add_all-clause-bad c = λ h before past.
    let met = handed_on c.from_residual-in_err-add_all.result c.in_err-add_all.field-0.0 Bad (err_from_is_err_and c.from_residual-in_err-add_all.result c.from_residual-in_err-add_all.ensures.1) h in
    c.in_err-add_all.ensures.bad (ap Err met) before (sound_past c.args.format c.args.deltas.now (troves_of c.args.table.troves) before past)
    (subst (All (Contains before)) (sym c.as_slice-2.ensures.value) (all_made c.args.format c.args.table.troves c.take_all.new.table.troves c.args.table.marks c.take_all.new.table.marks c.args.table.len c.take_all.new.table.len c.args.deltas.now c.in_ok-taken.taken.made.items c.requires.held c.requires.rising c.in_ok-taken.ensures.indexed c.in_ok-taken.ensures.troves c.in_ok-taken.ensures.made
    c.one_result.ensures before past.back))
    (all_left c.args.format c.args.table.troves c.take_all.new.table.troves c.args.table.marks c.take_all.new.table.marks c.args.table.len c.take_all.new.table.len c.args.deltas.now c.in_ok-taken.taken.made.items c.requires.held c.requires.rising c.in_ok-taken.ensures.indexed c.in_ok-taken.ensures.troves c.in_ok-taken.ensures.made
    c.one_result.ensures before past.back)

pub returns-then-table-most_bytes-clause-bad : goal.returns-then-table-most_bytes-clause-bad
returns-then-table-most_bytes-clause-bad c = λ h before past.
    too_large c.args.format c.args.table.troves c.take_all.new.table.troves c.args.table.marks c.take_all.new.table.marks c.args.table.len c.take_all.new.table.len c.args.deltas.now c.in_ok-taken.taken.made.items c.requires.held c.requires.rising c.in_ok-taken.ensures.indexed c.in_ok-taken.ensures.troves c.in_ok-taken.ensures.made
    c.add_all.new.table.troves c.add_all.new.table.marks c.add_all.new.table.len c.in_ok-add_all.ensures.indexed c.in_ok-add_all.ensures.sound
    (λ name. c.in_ok-add_all.ensures.troves name ∙ ap (λ (l : List TroveParts). or_else (trove_of name l) (trove_at c.take_all.new.table.troves name)) c.as_slice-2.ensures.value)
    c.one_result.ensures (subst (λ (k : ℕ). k < c.add_all.new.table.len) c.most_bytes.ensures c.if-table-most_bytes.true) before past

pub returns : goal.returns
returns c =
    let is = list_before c.args.format c.args.table.troves c.take_all.new.table.troves c.args.table.marks c.take_all.new.table.marks c.args.table.len c.take_all.new.table.len c.args.deltas.now c.in_ok-taken.taken.made.items c.requires.held c.requires.rising c.in_ok-taken.ensures.indexed c.in_ok-taken.ensures.troves c.in_ok-taken.ensures.made
    c.add_all.new.table.troves c.add_all.new.table.marks c.add_all.new.table.len c.in_ok-add_all.ensures.indexed c.in_ok-add_all.ensures.sound
    (λ name. c.in_ok-add_all.ensures.troves name ∙ ap (λ (l : List TroveParts). or_else (trove_of name l) (trove_at c.take_all.new.table.troves name)) c.as_slice-2.ensures.value)
    c.one_result.ensures (subst (λ (k : ℕ). c.add_all.new.table.len ≤ k) c.most_bytes.ensures c.if-table-most_bytes.false) in
    record {
      held = is.is_held;
      past = is.past;
      only = is.only;
      before = subst (AreChangedIds (troves_of c.add_all.new.table.troves) (troves_of c.args.table.troves)) (sym (c.new.ensures ∙ c.in_ok-before.ensures ∙ ap (map (λ (t : TroveParts). t.id)) c.as_slice.ensures.value)) is.before;
      after = subst (AreChangedIds (troves_of c.args.table.troves) (troves_of c.add_all.new.table.troves)) (sym (c.new-2.ensures ∙ c.in_ok-taken.ensures.after)) is.after;
      bad = λ h before past. absurd (cc h);
    }
