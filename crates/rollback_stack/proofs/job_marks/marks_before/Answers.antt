use Rattle.std.proofs.Common.{Err, ap, sym, ◌∙◌, All, length, subst}
use Rattle.std.proofs.lemmas.Iterator.Adapters.{YieldsList-from_vec}
use Rattle.std.proofs.lemmas.Iterator.Consumers.{YieldsList-turn, YieldsList-end}
use Rattle.std.proofs.lemmas.List.Elements.{All-push}
use Rattle.std.proofs.lemmas.Result.{err_from_is_err_and}
use Rattle.local_db.specs.cny-base.declared.text.TextFault.TheVariants.{Bad}
use Rattle.rollback_stack.specs.JobEntries.{IsChange}
use Rattle.rollback_stack.specs.Halves.{half_of}
use Rattle.rollback_stack.proofs.Mapping.{map_itself, mapped_item, mapped_push}
use Rattle.change_rel.proofs.cny-dep.Faults.{handed_on}
use Rattle.rollback_stack.proofs.job_marks.marks_before.Goals as goal

pub returns-in_err-mark_before-clause-bad : goal.returns-in_err-mark_before-clause-bad
returns-in_err-mark_before-clause-bad c is es e changes =
    let item = c.in-Some.half in
    let gives = c.into_iter-half-iterator.ensures.into_iter_gives in
    let turn = YieldsList-turn (YieldsList-from_vec {s = c.into_iter-half-iterator.result} c.args.read.items gives.0 (gives.1 ∙ c.args.read.ok.0)) c.loop-half.yielded c.loop-half.half-iterator c.loop-half.yielded_by _ c.next.new.self item c.in-Some.is c.next.ensures.steps in
    let met = handed_on c.from_residual.result c.in_err-mark_before.field-0.0 Bad (err_from_is_err_and c.from_residual.result c.from_residual.ensures.1) is in
    let there = mapped_item IsChange (half_of c.args.list.now.troves) es c.args.read.items (length c.loop-half.yielded) item e changes turn.0 in
    c.in_err-mark_before.ensures.bad (ap Err met) there.0 (turn.1 ∙ there.1) there.2

pub loop-half-preserved : goal.loop-half-preserved
loop-half-preserved c =
    let change = c.in_ok-mark_before.field-0 in
    let pushed = c.in_ok-push.ensures.items in
    record {
      read = mapped_push (half_of c.args.list.now.troves) c.loop-half.yielded c.loop-half.changes.items c.push.new.self.items c.in-Some.half change c.loop-half.invariant.read c.in_ok-mark_before.ensures.value pushed;
      changes = subst (All IsChange) (sym pushed) (All-push IsChange c.loop-half.changes.items change c.loop-half.invariant.changes c.in_ok-mark_before.ensures.change);
    }

pub returns-clause-value : goal.returns-clause-value
returns-clause-value c =
    let gives = c.into_iter-half-iterator.ensures.into_iter_gives in
    let end = YieldsList-end (YieldsList-from_vec {s = c.into_iter-half-iterator.result} c.args.read.items gives.0 (gives.1 ∙ c.args.read.ok.0)) c.loop-half.yielded c.loop-half.half-iterator c.loop-half.yielded_by _ c.next.new.self c.in-None.is c.next.ensures.steps in
    sym (sym (map_itself c.loop-half.yielded) ∙ end.0) ∙ c.loop-half.invariant.read
