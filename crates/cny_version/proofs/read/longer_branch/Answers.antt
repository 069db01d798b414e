use Rattle.std.proofs.Common.{◌≤◌, length, Some, sym, ap, ◌∙◌, subst}
use Rattle.cny_version.specs.Version.{branch_text}
use Rattle.cny_version.specs.Made.{shadowed}
use Rattle.cny_version.specs.Reading.{Gives}
use Rattle.cny_version.specs.Slices.{parts_of}
use Rattle.cny_version.proofs.VersionSteps.{step_oversized, branch_is, shadow_fits, shadow_is}
use Rattle.cny_version.proofs.read.longer_branch.Goals as goal

pub returns-in_default : goal.returns-in_default
returns-in_default c =
    step_oversized c.args.branch c.args.between.now (parts_of c.args.label) (length c.text.result.now) (sym (ap length c.text.ensures.value)) (sym c.in_default.ensures)

pub returns-else-is_empty : goal.returns-else-is_empty
returns-else-is_empty c =
    subst (λ found. Gives c.branch_from.result found)
    (sym (branch_is c.args.branch c.args.between.now (parts_of c.args.label) (length c.text.result.now) c.in-Some._longer (sym c.is_empty.ensures ∙ c.if-is_empty.false)
    (sym (ap length c.text.ensures.value)) (sym c.in-Some.ensures)))
    c.branch_from.ensures

pub shadow-requires : goal.shadow-requires
shadow-requires c =
    subst (λ l. length (branch_text (shadowed c.args.branch l)) ≤ 512) (sym c.in_ok-label.ensures)
    (shadow_fits c.args.branch c.args.between.now (parts_of c.args.label) (length c.text.result.now) c.in-Some._longer (sym c.is_empty.ensures ∙ c.if-is_empty.true)
    (sym (ap length c.text.ensures.value)) (sym c.in-Some.ensures))

pub returns-in_ok-shadow : goal.returns-in_ok-shadow
returns-in_ok-shadow c =
    let empty = sym c.is_empty.ensures ∙ c.if-is_empty.true in
    let short = shadow_fits c.args.branch c.args.between.now (parts_of c.args.label) (length c.text.result.now) c.in-Some._longer empty (sym (ap length c.text.ensures.value)) (sym c.in-Some.ensures) in
    shadow_is c.args.branch c.args.between.now (parts_of c.args.label) empty short
    ∙ ap (λ l. Some (shadowed c.args.branch l)) (sym c.in_ok-label.ensures)
    ∙ ap (λ b. Some b) (sym c.in_ok-shadow.ensures)
