use Rattle.std.proofs.Common.{List, All, sym, subst}
use Rattle.std.specs.Prelude.{IfErr, OnOk}
use Rattle.rollback_stack.specs.trove-stream.declared.parts.TroveParts.{TroveParts}
use Rattle.rollback_stack.specs.trove-stream.Trove.{IsTrove}
use Rattle.dep_closure.specs.Closed.{IsClosed}
use Rattle.rollback_stack.specs.trove-stream.Installed.{IsRising}
use Rattle.local_db.specs.Installed.{IsInstalled}
use Rattle.system_core.specs.Answers.{IsJobTestStop, PassesListTests}
use Rattle.system_core.specs.Lists.{AllPathsAllowed}
use Rattle.system_core.proofs.AnswerLaws.{closed_answer, stop_answer}
use Rattle.system_core.proofs.TestLaws.{closed_stop, gathers_lists}
use Rattle.system_core.proofs.testing.tested.Goals as goal

pub returns-in_err-test_closure-clause-gathers : goal.returns-in_err-test_closure-clause-gathers
returns-in_err-test_closure-clause-gathers g c =
    closed_stop g.met.C.Contents.laws g.met.T.TreeDisk.laws _ c.args.before.now c.args.list.now c.args.root.now c.args.far.now c.in_err-test_closure.field-0.0 c.from_residual.result c.from_residual.ensures.1 c.in_err-test_closure.ensures.fault

pub returns-in_err-test_closure-clause-stops : goal.returns-in_err-test_closure-clause-stops
returns-in_err-test_closure-clause-stops g c =
    stop_answer c.args.list.now c.from_residual.result _ c.from_residual.ensures.1 (closed_answer c.args.list.now c.in_err-test_closure.field-0.0 c.in_err-test_closure.ensures.fault)

pub tests_of-requires-clause-before : goal.tests_of-requires-clause-before
tests_of-requires-clause-before g c = subst IsInstalled (sym c.troves.ensures.value) c.requires.before

pub tests_of-requires-clause-in_order : goal.tests_of-requires-clause-in_order
tests_of-requires-clause-in_order g c = subst IsRising (sym c.troves-2.ensures.value) c.troves-2.ensures.rising

pub tests_of-requires-clause-closed : goal.tests_of-requires-clause-closed
tests_of-requires-clause-closed g c = subst IsClosed (sym c.troves-2.ensures.value) c.in_ok-test_closure.ensures.ok

pub tests_of-requires-clause-allowed : goal.tests_of-requires-clause-allowed
tests_of-requires-clause-allowed g c = subst AllPathsAllowed (sym c.troves-2.ensures.value) c.requires.allowed

pub returns-clause-gathers : goal.returns-clause-gathers
returns-clause-gathers g c = gathers_lists _ c.args.before.now c.troves.result.now c.args.list.now c.troves-2.result.now c.troves.ensures.value c.troves-2.ensures.value c.tests_of.ensures.gathers

pub returns-clause-troves : goal.returns-clause-troves
returns-clause-troves g c = subst (All IsTrove) c.troves-2.ensures.value c.tests_of.ensures.troves

pub returns-clause-passes : goal.returns-clause-passes
returns-clause-passes g c = subst (λ (l : List TroveParts). OnOk c.tests_of.result (PassesListTests l)) c.troves-2.ensures.value c.tests_of.ensures.passes

pub returns-clause-stops : goal.returns-clause-stops
returns-clause-stops g c = subst (λ (l : List TroveParts). IfErr c.tests_of.result (IsJobTestStop l)) c.troves-2.ensures.value c.tests_of.ensures.stops
