use Rattle.std.proofs.Common.{[], ◌+◌, ◌-◌, Err, length, drop, ap, sym, ◌∙◌, arith, append-nil}
use Rattle.std.proofs.lemmas.List.{length-drop, take_all, drop-drop}
use Rattle.std.proofs.lemmas.Result.{err_from_is_err_and}
use Rattle.local_db.specs.cny-base.declared.text.TextFault.TheVariants.{Bad}
use Rattle.local_db.specs.RecordText.{told_text}
use Rattle.job_record.proofs.Fronts.{entry_here, nothing_behind, second_behind, tolds_behind}
use Rattle.change_rel.proofs.cny-dep.Faults.{handed_on}
use Rattle.job_record.proofs.entries.entry_of.Goals as goal

pub returns-in_err-before-clause-bad : goal.returns-in_err-before-clause-bad
returns-in_err-before-clause-bad c h e is =
    let value = c.args.value.now in
    let to = c.in-Some.text.to in
    let met = handed_on c.from_residual-in_err-before.result c.in_err-before.field-0.0 Bad (err_from_is_err_and c.from_residual-in_err-before.result c.from_residual-in_err-before.ensures.1) h in
    c.in_err-before.ensures.bad (ap Err met) e.before (told_text e.after) is.entry_is.before_is
    (take_all (length value - to) (drop to value) (omega (arith, length-drop to value)) ∙ tolds_behind value c.in-Some.text.from to e c.in-Some.ensures.found is)

pub returns-in_err-after-clause-bad : goal.returns-in_err-after-clause-bad
returns-in_err-after-clause-bad c h e is =
    let value = c.args.value.now in
    let to = c.in-Some.text.to in
    let m = c.in_ok-before.before.size in
    let met = handed_on c.from_residual-in_err-after.result c.in_err-after.field-0.0 Bad (err_from_is_err_and c.from_residual-in_err-after.result c.from_residual-in_err-after.ensures.1) h in
    let one = take_all (length value - to) (drop to value) (omega (arith, length-drop to value)) in
    let behind = second_behind _ c.in_ok-before.before.told m e c.in_ok-before.ensures.value is.entry_is (one ∙ tolds_behind value c.in-Some.text.from to e c.in-Some.ensures.found is) in
    c.in_err-after.ensures.bad (ap Err met) e.after [] is.entry_is.after_is
    (take_all (length value - (to + m)) (drop (to + m) value) (omega (arith, length-drop (to + m) value)) ∙ sym (drop-drop m to value) ∙ sym (ap (drop m) one) ∙ behind ∙ sym (append-nil (told_text e.after)))

pub returns-then-at-after-clause-bad : goal.returns-then-at-after-clause-bad
returns-then-at-after-clause-bad c _ e is =
    let value = c.args.value.now in
    let to = c.in-Some.text.to in
    let m = c.in_ok-before.before.size in
    let n = c.in_ok-after.after.size in
    let one = take_all (length value - to) (drop to value) (omega (arith, length-drop to value)) in
    let two = take_all (length value - (to + m)) (drop (to + m) value) (omega (arith, length-drop (to + m) value)) in
    let behind = second_behind _ c.in_ok-before.before.told m e c.in_ok-before.ensures.value is.entry_is (one ∙ tolds_behind value c.in-Some.text.from to e c.in-Some.ensures.found is) in
    let long = nothing_behind _ c.in_ok-after.after.told n e c.in_ok-after.ensures.value is.entry_is (two ∙ sym (drop-drop m to value) ∙ sym (ap (drop m) one) ∙ behind) in
    let within = c.in_ok-before.ensures.value.within in
    let to_within = c.in-Some.ensures.found.within in
    c.if-at-after.true (omega (arith, long, ap length two, length-drop (to + m) value, within, ap length one, length-drop to value, to_within))

pub returns-clause-value : goal.returns-clause-value
returns-clause-value c =
    let value = c.args.value.now in
    let to = c.in-Some.text.to in
    let m = c.in_ok-before.before.size in
    let n = c.in_ok-after.after.size in
    entry_here value c.in_ok-path.path c.in-Some.text.from to _ _ c.in_ok-before.before.told c.in_ok-after.after.told m n c.in-Some.ensures.found c.in_ok-path.ensures.value c.in_ok-path.ensures.ok
    (take_all (length value - to) (drop to value) (omega (arith, length-drop to value))) c.in_ok-before.ensures.value
    (take_all (length value - (to + m)) (drop (to + m) value) (omega (arith, length-drop (to + m) value))) c.in_ok-after.ensures.value
    (let end = c.if-at-after.false in omega (arith, end))
