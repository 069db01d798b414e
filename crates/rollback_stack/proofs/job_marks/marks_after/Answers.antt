use Rattle.std.proofs.Common.{Err, ap, sym, ◌∙◌, length}
use Rattle.std.proofs.lemmas.Iterator.Adapters.{YieldsList-from_vec}
use Rattle.std.proofs.lemmas.Iterator.Consumers.{YieldsList-turn, YieldsList-end}
use Rattle.std.proofs.lemmas.Result.{err_from_is_err_and}
use Rattle.local_db.specs.cny-base.declared.text.TextFault.TheVariants.{Bad}
use Rattle.rollback_stack.specs.declared.job_marks.HalfRead.{HalfRead}
use Rattle.rollback_stack.specs.Halves.{half_told}
use Rattle.rollback_stack.proofs.Mapping.{all_so, map_itself, mapped_item, mapped_push}
use Rattle.change_rel.proofs.cny-dep.Faults.{handed_on}
use Rattle.rollback_stack.proofs.job_marks.marks_after.Goals as goal

pub returns-in_err-mark_after-clause-bad : goal.returns-in_err-mark_after-clause-bad
returns-in_err-mark_after-clause-bad c is read e =
    let item = c.in-Some.entry in
    let gives = c.into_iter-entry-iterator.ensures.into_iter_gives in
    let turn = YieldsList-turn (YieldsList-from_vec {s = c.into_iter-entry-iterator.result} c.args.entries.items gives.0 (gives.1 ∙ c.args.entries.ok.0)) c.loop-entry.yielded c.loop-entry.entry-iterator c.loop-entry.yielded_by _ c.next.new.self item c.in-Some.is c.next.ensures.steps in
    let met = handed_on c.from_residual.result c.in_err-mark_after.field-0.0 Bad (err_from_is_err_and c.from_residual.result c.from_residual.ensures.1) is in
    let there = mapped_item (λ (half : HalfRead). Unit {0}) (half_told c.args.list.now.troves) read c.args.entries.items (length c.loop-entry.yielded) item e (all_so read) turn.0 in
    c.in_err-mark_after.ensures.bad (ap Err met) there.0 (turn.1 ∙ there.1)

pub loop-entry-preserved : goal.loop-entry-preserved
loop-entry-preserved c =
    mapped_push (half_told c.args.list.now.troves) c.loop-entry.yielded c.loop-entry.read.items c.push.new.self.items c.in-Some.entry c.in_ok-mark_after.field-0 c.loop-entry.invariant c.in_ok-mark_after.ensures.value c.in_ok-push.ensures.items

pub returns-clause-value : goal.returns-clause-value
returns-clause-value c =
    let gives = c.into_iter-entry-iterator.ensures.into_iter_gives in
    let end = YieldsList-end (YieldsList-from_vec {s = c.into_iter-entry-iterator.result} c.args.entries.items gives.0 (gives.1 ∙ c.args.entries.ok.0)) c.loop-entry.yielded c.loop-entry.entry-iterator c.loop-entry.yielded_by _ c.next.new.self c.in-None.is c.next.ensures.steps in
    sym (sym (map_itself c.loop-entry.yielded) ∙ end.0) ∙ c.loop-entry.invariant
