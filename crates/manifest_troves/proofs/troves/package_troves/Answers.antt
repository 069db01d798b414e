use Rattle.std.proofs.Common.{◌≡◌, ℕ, List, [], ◌∷◌, ◌++◌, map, refl, ap, ◌∙◌, subst}
use Rattle.std.specs.Prelude.{All}
use Rattle.std.specs.BTreeMap.{BTreeMap}
use Rattle.std.proofs.lemmas.List.Elements.{All-cons}
use Rattle.std.proofs.lemmas.Result.{err_from_is_err_and}
use Rattle.change_set.specs.trove-stream.declared.parts.TroveParts.{TroveParts}
use Rattle.change_set.specs.trove-stream.Trove.{IsTrove}
use Rattle.manifest_troves.specs.declared.lines.TroveLines.{TroveLines}
use Rattle.manifest_troves.specs.Shares.{Shared, named_trove}
use Rattle.manifest_troves.specs.Troves.{with_name, component_names}
use Rattle.manifest_troves.proofs.Components.{handed_bad, bad_name_bars, package_made, package_barred, components_barred}
use Rattle.manifest_troves.proofs.Sharing.{entries_are, keys_are, components_are}
use Rattle.manifest_troves.proofs.troves.package_troves.Goals as goal

pub returns-in_err-shares-clause-bad : goal.returns-in_err-shares-clause-bad
returns-in_err-shares-clause-bad c = λ is.
    let p = err_from_is_err_and c.from_residual.result c.from_residual.ensures.1 in
    bad_name_bars c.args.lines (c.in_err-shares.ensures.bad (handed_bad c.from_residual.result p.0 c.in_err-shares.field-0.0 p.1 p.2 is))

pub returns-in_err-package_trove-clause-bad : goal.returns-in_err-package_trove-clause-bad
returns-in_err-package_trove-clause-bad c = λ is.
    let l : TroveLines = c.args.lines in
    let m : BTreeMap (List ℕ) Shared = c.in_ok-shares.shares in
    let p = err_from_is_err_and c.from_residual-in_err-package_trove.result c.from_residual-in_err-package_trove.ensures.1 in
    let entries = entries_are l.id.name l.files l.requires_ l.provides m c.in_ok-refs.ensures.ordered c.in_ok-shares.ensures.ok in
    package_barred l (component_names l) c.in_ok-refs.refs.items (c.in_ok-refs.ensures.refs ∙ ap (map (with_name l.id)) (keys_are l m entries))
    (c.in_err-package_trove.ensures.bad (handed_bad c.from_residual-in_err-package_trove.result p.0 c.in_err-package_trove.field-0.0 p.1 p.2 is))

pub returns-in_err-push_components-clause-bad : goal.returns-in_err-push_components-clause-bad
returns-in_err-push_components-clause-bad c = λ is.
    let l : TroveLines = c.args.lines in
    let m : BTreeMap (List ℕ) Shared = c.in_ok-shares.shares in
    let p = err_from_is_err_and c.from_residual-in_err-push_components.result c.from_residual-in_err-push_components.ensures.1 in
    let entries = entries_are l.id.name l.files l.requires_ l.provides m c.in_ok-refs.ensures.ordered c.in_ok-shares.ensures.ok in
    components_barred l (component_names l) (map (named_trove l.id) m.entries) (components_are l m entries)
    (c.in_err-push_components.ensures.bad (handed_bad c.from_residual-in_err-push_components.result p.0 c.in_err-push_components.field-0.0 p.1 p.2 is))

pub returns-clause-ok : goal.returns-clause-ok
returns-clause-ok c =
    let l : TroveLines = c.args.lines in
    let m : BTreeMap (List ℕ) Shared = c.in_ok-shares.shares in
    let entries = entries_are l.id.name l.files l.requires_ l.provides m c.in_ok-refs.ensures.ordered c.in_ok-shares.ensures.ok in
    let whole : TroveParts = c.in_ok-package_trove.field-0 in
    let first : c.push.new.self.items ≡ whole ∷ [] = c.in_ok-push.ensures.items ∙ ap (λ (ts : List TroveParts). ts ++ whole ∷ []) c.in_ok-troves.ensures.items in
    package_made l (component_names l) c.push_components.new.troves.items (map (named_trove l.id) m.entries) c.in_ok-refs.refs.items whole c.in_ok-package_trove.ensures.ok
    (c.in_ok-refs.ensures.refs ∙ ap (map (with_name l.id)) (keys_are l m entries)) (components_are l m entries)
    (c.in_ok-push_components.ensures.ok ∙ ap (λ (ts : List TroveParts). ts ++ map (named_trove l.id) m.entries) first)

pub returns-clause-are : goal.returns-clause-are
returns-clause-are c =
    let l : TroveLines = c.args.lines in
    let m : BTreeMap (List ℕ) Shared = c.in_ok-shares.shares in
    let entries = entries_are l.id.name l.files l.requires_ l.provides m c.in_ok-refs.ensures.ordered c.in_ok-shares.ensures.ok in
    let whole : TroveParts = c.in_ok-package_trove.field-0 in
    let made : List TroveParts = whole ∷ map (named_trove l.id) m.entries in
    subst (All IsTrove)
    (package_made l (component_names l) made (map (named_trove l.id) m.entries) c.in_ok-refs.refs.items whole c.in_ok-package_trove.ensures.ok
    (c.in_ok-refs.ensures.refs ∙ ap (map (with_name l.id)) (keys_are l m entries)) (components_are l m entries) refl)
    (All-cons IsTrove whole (map (named_trove l.id) m.entries) c.in_ok-package_trove.ensures.is c.in_ok-push_components.ensures.are)
