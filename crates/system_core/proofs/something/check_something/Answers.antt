use Rattle.std.proofs.Common.{◌≡◌, ◌≤◌, ◌<◌, ℕ, List, Result, Ok, Err, IsErrAnd, length, get_or, All, sym, subst, arith}
use Rattle.std.specs.Prelude.{IfErr}
use Rattle.std.proofs.lemmas.List.{take_all}
use Rattle.std.proofs.lemmas.List.Elements.{All-map, All-more}
use Rattle.rollback_stack.specs.cny-base.declared.refusal.Fault.{Fault}
use Rattle.rollback_stack.specs.cny-base.declared.refusal.Fault.TheVariants as fault
use Rattle.job_targets.specs.declared.entry.Entry.{Entry}
use Rattle.rollback_stack.specs.Entries.{entry_of}
use Rattle.rollback_stack.specs.change-set.Contents.{IfRefused}
use Rattle.system_core.specs.JobWriting.{StandsBeforeOrAfter}
use Rattle.system_core.specs.Something.{IsNothing, LacksSomething}
use Rattle.system_core.proofs.Lacking.{IsSomeEntry, something_of}
use Rattle.system_core.proofs.something.check_something.Goals as goal

lacking : {T : Type 0} (es : List Entry) (k : ℕ) (e : Entry) (why : Fault) (r : Result T Fault) → k < length es → e ≡ get_or es k e → IsErrAnd r (λ f. f ≡ why) → IfRefused (IsNothing e) why → IfErr r (IfRefused (LacksSomething es))
lacking es k e why (Ok x) lt is same nothing = absurd same
lacking es k e why (Err f) lt is same nothing = subst (IfRefused (LacksSomething es)) (sym same) (by why nothing)
  where
    by : (why : Fault) → IfRefused (IsNothing e) why → IfRefused (LacksSomething es) why
    by (fault.Refused refusal) nothing = record { entry = e; among = (k, lt, sym is); nothing = nothing.0; refusal_is = nothing.1 }
    by fault.Memory nothing = tt

pub loop-entry-preserved : goal.loop-entry-preserved
loop-entry-preserved c =
    All-more IsSomeEntry c.args.entries.now c.loop-entry.entry-index c.entry-item.result c.loop-entry-test.true c.loop-entry.invariant
    (subst IsSomeEntry c.entry-item.is (something_of c.entry-item.result c.in_ok-check_entry.ensures.something))

pub returns-in_err-check_entry-clause-refused : goal.returns-in_err-check_entry-clause-refused
returns-in_err-check_entry-clause-refused c =
    lacking c.args.entries.now c.loop-entry.entry-index c.entry-item.result c.in_err-check_entry.field-0.0 c.from_residual.result c.loop-entry-test.true c.entry-item.is c.from_residual.ensures.1 c.in_err-check_entry.ensures.refused

pub returns-clause-something : goal.returns-clause-something
returns-clause-something c =
    let past : length c.args.entries.now ≤ c.loop-entry.entry-index = omega arith in
    All-map StandsBeforeOrAfter entry_of c.args.entries.now (subst (All IsSomeEntry) (take_all c.loop-entry.entry-index c.args.entries.now past) c.loop-entry.invariant)
