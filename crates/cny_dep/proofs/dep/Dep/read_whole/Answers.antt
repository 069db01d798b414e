use Rattle.std.proofs.Common.{◌≡◌, sym, ◌∙◌, ap, not, Err}
use Rattle.std.specs.Cmp.Lexicographic.{nat_list_eq_equiv}
use Rattle.std.specs.Str.{bytes_eq}
use Rattle.std.proofs.lemmas.Bool.{false≢true}
use Rattle.cny_dep.specs.Dep.{dep_text}
use Rattle.std.proofs.lemmas.Result.{err_from_is_err_and}
use Rattle.cny_base.specs.declared.text.TextFault.TheVariants.{Bad}
use Rattle.cny_dep.proofs.Faults.{handed_on}
use Rattle.cny_dep.proofs.DepParts.{canonical_relaxed}
use Rattle.cny_dep.proofs.dep.Dep.read_whole.Goals as goal

pub returns-in_err-dep-clause-bad : goal.returns-in_err-dep-clause-bad
returns-in_err-dep-clause-bad c h dep is same =
    let met : c.in_err-dep.field-0.0 ≡ Bad = handed_on c.from_residual.result c.in_err-dep.field-0.0 Bad (err_from_is_err_and c.from_residual.result c.from_residual.ensures.1) h in
    c.in_err-dep.ensures.bad (ap Err met) dep is (canonical_relaxed c.args.text.now dep is same)

pub returns-then-ne-clause-bad : goal.returns-then-ne-clause-bad
returns-then-ne-clause-bad c _ dep is same =
    let own : c.in_ok-dep.dep ≡ dep = c.in_ok-dep.ensures.only dep is (canonical_relaxed c.args.text.now dep is same) in
    let texts : c.text.result.now ≡ c.args.text.now = c.text.ensures.value ∙ ap dep_text own ∙ sym same in
    false≢true (sym (c.ne.ensures ∙ ap (λ l. not (bytes_eq l c.args.text.now)) texts ∙ ap not (nat_list_eq_equiv.refl c.args.text.now)) ∙ c.if-ne.true)

pub returns-clause-only : goal.returns-clause-only
returns-clause-only c dep is same = c.in_ok-dep.ensures.only dep is (canonical_relaxed c.args.text.now dep is same)
