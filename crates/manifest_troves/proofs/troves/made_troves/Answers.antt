use Rattle.std.proofs.Common.{◌≡◌, sym, ◌∙◌, subst}
use Rattle.std.specs.Prelude.{All}
use Rattle.std.proofs.lemmas.Result.{IfOk-weaker, on_ok_weaker}
use Rattle.change_set.specs.cny-base.Name.{kind_of_name}
use Rattle.change_set.specs.cny-base.declared.name.NameKind.TheVariants.{Component, Package, Group}
use Rattle.change_set.specs.trove-stream.Trove.{IsTrove}
use Rattle.manifest_troves.specs.declared.lines.TroveLines.{TroveLines}
use Rattle.manifest_troves.specs.Troves.{component_names, package_troves, whole_component, group_trove, troves_of}
use Rattle.manifest_troves.proofs.Components.{alone_are, alone_bad, alone_ok, troves_of_kind}
use Rattle.manifest_troves.proofs.troves.made_troves.Goals as goal

pub returns-in_err-component_trove-in-Component-clause-bad : goal.returns-in_err-component_trove-in-Component-clause-bad
returns-in_err-component_trove-in-Component-clause-bad c = alone_bad c.args.lines (whole_component c.args.lines) (troves_of_kind c.args.lines Component (sym c.kind.ensures ∙ c.in-Component.is)) c.in_err-component_trove-in-Component.field-0.0 c.from_residual.result c.in_err-component_trove-in-Component.ensures.bad c.from_residual.ensures.1

pub returns-in_ok-list_of-in-Component-clause-ok : goal.returns-in_ok-list_of-in-Component-clause-ok
returns-in_ok-list_of-in-Component-clause-ok c = alone_ok c.args.lines (whole_component c.args.lines) (troves_of_kind c.args.lines Component (sym c.kind.ensures ∙ c.in-Component.is)) _ _ c.in_ok-component_trove-in-Component.ensures.ok c.in_ok-list_of-in-Component.ensures

pub returns-in_ok-list_of-in-Component-clause-are : goal.returns-in_ok-list_of-in-Component-clause-are
returns-in_ok-list_of-in-Component-clause-are c = alone_are c.args.lines (whole_component c.args.lines) (troves_of_kind c.args.lines Component (sym c.kind.ensures ∙ c.in-Component.is)) _ c.in_ok-component_trove-in-Component.ensures.ok c.in_ok-component_trove-in-Component.ensures.is

pub returns-in_err-group_trove-in-Group-clause-bad : goal.returns-in_err-group_trove-in-Group-clause-bad
returns-in_err-group_trove-in-Group-clause-bad c = alone_bad c.args.lines (group_trove c.args.lines) (troves_of_kind c.args.lines Group (sym c.kind.ensures ∙ c.in-Group.is)) c.in_err-group_trove-in-Group.field-0.0 c.from_residual-in_err-group_trove-in-Group.result c.in_err-group_trove-in-Group.ensures.bad c.from_residual-in_err-group_trove-in-Group.ensures.1

pub returns-in_ok-list_of-in-Group-clause-ok : goal.returns-in_ok-list_of-in-Group-clause-ok
returns-in_ok-list_of-in-Group-clause-ok c = alone_ok c.args.lines (group_trove c.args.lines) (troves_of_kind c.args.lines Group (sym c.kind.ensures ∙ c.in-Group.is)) _ _ c.in_ok-group_trove-in-Group.ensures.ok c.in_ok-list_of-in-Group.ensures

pub returns-in_ok-list_of-in-Group-clause-are : goal.returns-in_ok-list_of-in-Group-clause-are
returns-in_ok-list_of-in-Group-clause-are c = alone_are c.args.lines (group_trove c.args.lines) (troves_of_kind c.args.lines Group (sym c.kind.ensures ∙ c.in-Group.is)) _ c.in_ok-group_trove-in-Group.ensures.ok c.in_ok-group_trove-in-Group.ensures.is

pub returns-in-Package-clause-ok : goal.returns-in-Package-clause-ok
returns-in-Package-clause-ok c =
    let l : TroveLines = c.args.lines in
    let e : kind_of_name l.id.name ≡ Package = sym c.kind.ensures ∙ c.in-Package.is in
    IfOk-weaker c.package_troves.result (λ troves. troves.items ≡ package_troves l (component_names l)) (λ troves. troves.items ≡ troves_of l)
    (λ troves is. is ∙ sym (troves_of_kind l Package e)) c.package_troves.ensures.ok

pub returns-in-Package-clause-are : goal.returns-in-Package-clause-are
returns-in-Package-clause-are c =
    let l : TroveLines = c.args.lines in
    let e : kind_of_name l.id.name ≡ Package = sym c.kind.ensures ∙ c.in-Package.is in
    on_ok_weaker c.package_troves.result (subst (All IsTrove) (sym (troves_of_kind l Package e))) c.package_troves.ensures.are

pub returns-in-Package-clause-bad : goal.returns-in-Package-clause-bad
returns-in-Package-clause-bad c = λ is are.
    let l : TroveLines = c.args.lines in
    let e : kind_of_name l.id.name ≡ Package = sym c.kind.ensures ∙ c.in-Package.is in
    c.package_troves.ensures.bad is (subst (All IsTrove) (troves_of_kind l Package e) are)
