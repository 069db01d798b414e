use Rattle.std.proofs.Common.{◌≡◌, ◌∷◌, ◌++◌, sym, ◌∙◌, ap, Err, subst, true}
use Rattle.std.specs.Option.{option_map}
use Rattle.std.proofs.lemmas.Bool.{false≢true}
use Rattle.std.proofs.lemmas.Result.{err_from_is_err_and}
use Rattle.cny_base.specs.declared.text.TextFault.TheVariants.{Bad}
use Rattle.cny_dep.specs.Dep.{Dependency, class_text}
use Rattle.cny_dep.specs.Listing.{group_text, Lists}
use Rattle.cny_dep.specs.Part.{is_dep_name}
use Rattle.cny_dep.specs.Relaxed.{IsRelaxedText}
use Rattle.cny_dep.proofs.Faults.{handed_on}
use Rattle.cny_dep.proofs.DepParts.{relaxed_parts, relaxed_by, dependency_by, same_dep, one_list}
use Rattle.cny_dep.proofs.PartBytes.{name_bytes}
use Rattle.cny_dep.proofs.dep.Dep.read.Goals as goal

pub returns-in_err-name-clause-bad : goal.returns-in_err-name-clause-bad
returns-in_err-name-clause-bad c _ dep is relaxed =
    let parts = relaxed_parts c.args.text.now dep is relaxed in
    let first = rw c.in_ok-class.ensures.ok_part at (c.class_and_rest.ensures.only dep.class (dep.name ++ group_text parts.group) parts.spelled) in
    rw c.in_err-name.ensures.ok_part at (c.name_and_group.ensures.only dep.name parts.group (name_bytes dep.name is.name) first.1)

pub returns-then-not-is_dep_name-clause-bad : goal.returns-then-not-is_dep_name-clause-bad
returns-then-not-is_dep_name-clause-bad c _ dep is relaxed =
    let parts = relaxed_parts c.args.text.now dep is relaxed in
    let first = rw c.in_ok-class.ensures.ok_part at (c.class_and_rest.ensures.only dep.class (dep.name ++ group_text parts.group) parts.spelled) in
    let second = rw c.in_ok-name.ensures.ok_part at (c.name_and_group.ensures.only dep.name parts.group (name_bytes dep.name is.name) first.1) in
    false≢true (sym c.if-not-is_dep_name.true ∙ c.is_dep_name.ensures ∙ ap is_dep_name (c.as_bytes.ensures.value ∙ second.0) ∙ is.name)

pub returns-in_err-flags-clause-bad : goal.returns-in_err-flags-clause-bad
returns-in_err-flags-clause-bad c h dep is relaxed =
    let parts = relaxed_parts c.args.text.now dep is relaxed in
    let first = rw c.in_ok-class.ensures.ok_part at (c.class_and_rest.ensures.only dep.class (dep.name ++ group_text parts.group) parts.spelled) in
    let second = rw c.in_ok-name.ensures.ok_part at (c.name_and_group.ensures.only dep.name parts.group (name_bytes dep.name is.name) first.1) in
    let met : c.in_err-flags.field-0.0 ≡ Bad = handed_on c.from_residual-in_err-flags.result c.in_err-flags.field-0.0 Bad (err_from_is_err_and c.from_residual-in_err-flags.result c.from_residual-in_err-flags.ensures.1) h in
    c.in_err-flags.ensures.bad (ap Err met) dep.flags (subst (λ group. Lists group dep.flags) (sym second.1) parts.lists)

pub make-requires : goal.make-requires
make-requires c =
    let valid : is_dep_name c.in_ok-name.name.now ≡ true = ap is_dep_name (sym c.as_bytes.ensures.value) ∙ sym c.is_dep_name.ensures ∙ c.if-not-is_dep_name.false in
    dependency_by c.in_ok-class.class c.in_ok-name.name.now c.in_ok-flags.flags.items (option_map (λ inner. inner.now) c.in_ok-name.group) valid c.in_ok-flags.ensures.found

pub returns-clause-value : goal.returns-clause-value
returns-clause-value c =
    let first = rw c.in_ok-class.ensures.ok_part at c.class_and_rest.ensures.found in
    let second = rw c.in_ok-name.ensures.ok_part at c.name_and_group.ensures.found in
    let made : Dependency = record { class = c.in_ok-class.class; name = c.in_ok-name.name.now; flags = c.in_ok-flags.flags.items } in
    subst (IsRelaxedText c.args.text.now) (sym c.in_ok-make.ensures)
    (relaxed_by c.args.text.now made (option_map (λ inner. inner.now) c.in_ok-name.group) (first ∙ ap (λ l. class_text c.in_ok-class.class ++ 58 ∷ 32 ∷ l) second) c.in_ok-flags.ensures.found)

pub returns-clause-only : goal.returns-clause-only
returns-clause-only c dep is relaxed =
    let parts = relaxed_parts c.args.text.now dep is relaxed in
    let first = rw c.in_ok-class.ensures.ok_part at (c.class_and_rest.ensures.only dep.class (dep.name ++ group_text parts.group) parts.spelled) in
    let second = rw c.in_ok-name.ensures.ok_part at (c.name_and_group.ensures.only dep.name parts.group (name_bytes dep.name is.name) first.1) in
    let lists : Lists parts.group c.in_ok-flags.flags.items = subst (λ group. Lists group c.in_ok-flags.flags.items) second.1 c.in_ok-flags.ensures.found in
    let made : Dependency = record { class = c.in_ok-class.class; name = c.in_ok-name.name.now; flags = c.in_ok-flags.flags.items } in
    c.in_ok-make.ensures ∙ same_dep made dep (record { class = first.0; name = second.0; flags = one_list parts.group c.in_ok-flags.flags.items dep.flags lists parts.lists })

pub returns-in_err-flags-clause-early : goal.returns-in_err-flags-clause-early
returns-in_err-flags-clause-early c none =
    let valid : is_dep_name c.in_ok-name.name.now ≡ true = ap is_dep_name (sym c.as_bytes.ensures.value) ∙ sym c.is_dep_name.ensures ∙ c.if-not-is_dep_name.false in
    let first = rw c.in_ok-class.ensures.ok_part at c.class_and_rest.ensures.found in
    let second = rw c.in_ok-name.ensures.ok_part at c.name_and_group.ensures.found in
    absurd (none c.in_ok-class.class c.in_ok-name.name.now (option_map (λ inner. inner.now) c.in_ok-name.group) valid (first ∙ ap (λ l. class_text c.in_ok-class.class ++ 58 ∷ 32 ∷ l) second))
