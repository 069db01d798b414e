use Rattle.std.proofs.Common.{◌≡◌, List, Err, map, ap, sym, ◌∙◌, subst}
use Rattle.std.proofs.lemmas.Result.{err_from_is_err_and}
use Rattle.local_db.specs.cny-base.declared.text.TextFault.TheVariants.{Bad}
use Rattle.local_db.specs.trove-stream.declared.parts.TroveParts.{TroveParts}
use Rattle.rollback_stack.specs.Halves.{half_of, half_told}
use Rattle.rollback_stack.proofs.Halves.{composed, read_of_entries}
use Rattle.change_rel.proofs.cny-dep.Faults.{handed_on}
use Rattle.rollback_stack.proofs.job_reading.job_in.Goals as goal

pub returns-in_err-read-clause-bad : goal.returns-in_err-read-clause-bad
returns-in_err-read-clause-bad c is before es told =
    let met = handed_on c.from_residual.result c.in_err-read.field-0.0 Bad (err_from_is_err_and c.from_residual.result c.from_residual.ensures.1) is in
    c.in_err-read.ensures.bad (ap Err met) (map (half_of before) es) (c.into_vec.ensures ∙ told.told ∙ sym (composed before c.args.list.now.troves es))

pub returns-in_err-changed-clause-bad : goal.returns-in_err-changed-clause-bad
returns-in_err-changed-clause-bad c is before es told =
    let met = handed_on c.from_residual-in_err-changed.result c.in_err-changed.field-0.0 Bad (err_from_is_err_and c.from_residual-in_err-changed.result c.from_residual-in_err-changed.ensures.1) is in
    c.in_err-changed.ensures.bad (ap Err met) before told.back

pub returns-in_err-changes-clause-bad : goal.returns-in_err-changes-clause-bad
returns-in_err-changes-clause-bad c is before es told =
    let met = handed_on c.from_residual-in_err-changes.result c.in_err-changes.field-0.0 Bad (err_from_is_err_and c.from_residual-in_err-changes.result c.from_residual-in_err-changes.ensures.1) is in
    let same = c.in_ok-changed.ensures.only before told.back in
    let read = read_of_entries before c.args.list.now.troves c.args.found.entries c.in_ok-read.read.items es (sym c.into_vec.ensures ∙ c.in_ok-read.ensures.value) told.told in
    c.in_err-changes.ensures.bad (ap Err met) es (subst (λ (l : List TroveParts). c.in_ok-read.read.items ≡ map (half_of l) es) (sym same) read) told.changes

pub returns-clause-told : goal.returns-clause-told
returns-clause-told c =
    let after = c.args.list.now.troves in
    let before = c.take_back.new.self.troves in
    record {
      back = c.in_ok-changed.ensures.past;
      told = sym c.into_vec.ensures ∙ c.in_ok-read.ensures.value ∙ ap (map (half_told after)) c.in_ok-changes.ensures.value ∙ composed before after c.in_ok-changes.changes.items;
      changes = c.in_ok-changes.ensures.changes;
    }
