use Rattle.std.proofs.Common.{◌≡◌, All, sym, ap, subst, ◌∙◌}
use Rattle.rollback_stack.specs.trove-stream.Installed.{IsRising}
use Rattle.rollback_stack.specs.trove-stream.Trove.{IsTrove}
use Rattle.dep_closure.specs.Changed.{IsChanged}
use Rattle.system_core.specs.Changing.{names_changed, troves_named}
use Rattle.system_core.proofs.ListChanges.{changed_so, closed_after, come_rises, unmet_after}
use Rattle.system_core.proofs.closure.test_closure.Goals as goal

pub of-requires : goal.of-requires
of-requires c = subst IsRising (sym c.troves-3.ensures.value) c.troves-3.ensures.rising

pub change-requires : goal.change-requires
change-requires c =
    let names : c.as_slice.result.now ≡ names_changed c.args.changes.now = c.as_slice.ensures.value ∙ c.in_ok-gone.ensures in
    subst IsRising (sym (c.as_slice-3.ensures.value ∙ c.in_ok-come.ensures ∙ ap (troves_named c.args.list.now) names)) (come_rises c.args.before.now c.args.list.now c.args.changes.now c.requires)

pub returns : goal.returns
returns c =
    let before = c.args.before.now in
    let list = c.args.list.now in
    let changes = c.args.changes.now in
    let gone = c.as_slice-2.result.now in
    let come = c.as_slice-3.result.now in
    let old = c.in_ok-closure.closure in
    let names : c.as_slice.result.now ≡ names_changed changes = c.as_slice.ensures.value ∙ c.in_ok-gone.ensures in
    let olds : All IsTrove before = subst (All IsTrove) c.troves.ensures.value c.troves_keep_rules.ensures in
    let news : All IsTrove list = subst (All IsTrove) c.troves-2.ensures.value c.troves_keep_rules-2.ensures in
    let changed : IsChanged gone come old list =
    changed_so c.distinct_troves.ensures.unique before list changes c.requires olds news c.troves-2.ensures.rising gone come old (c.as_slice-2.ensures.value ∙ c.in_ok-gone.ensures)
    (c.as_slice-3.ensures.value ∙ c.in_ok-come.ensures ∙ ap (troves_named list) names) (c.in_ok-closure.ensures ∙ c.troves-3.ensures.value) in record {
      ok = closed_after c.one_changed_list.ensures gone come old list changed c.change.result c.change.new.self c.change.ensures.ok c.change.ensures.closed;
      fault = unmet_after c.one_changed_list.ensures gone come old list changed c.change.result c.change.ensures.fault;
      troves = news;
    }
