use Rattle.std.proofs.Common.{◌≡◌, List, All, None, sym, subst, ◌∙◌}
use Rattle.cny_version.specs.Version.{last_label}
use Rattle.repo_index.specs.trove-parts.declared.id.TroveId.{TroveId}
use Rattle.repo_index.specs.trove-stream.declared.parts.TroveParts.{TroveParts}
use Rattle.repo_index.specs.Catalogue.{found}
use Rattle.trove_spec.specs.Expansion.{IsExpansion, IsUnexpanded}
use Rattle.repo_shadow.specs.Moved.{moved_troves, first_refusal, IsUnmoved}
use Rattle.repo_shadow.specs.Within.{AllReferWithin}
use Rattle.repo_shadow.proofs.MovedTroves.{all_can_move, all_along, refs_within, moved_names, all_on_label, all_fresh}
use Rattle.repo_shadow.proofs.Refusals.{none_long, none_taken, refused_move, unexpanded, memory_alone}
use Rattle.cny_version.specs.cny-base.Refusals.{IsRefusalOrMemory}
use Rattle.cny_version.proofs.cny-base.Faults.{handed_on}
use Rattle.repo_index.specs.trove-stream.NameOrder.{HasRisingNames}
use Rattle.repo_shadow.proofs.shadow.moved.Goals as goal

pub returns-in_err-troves-clause-fault : goal.returns-in_err-troves-clause-fault
returns-in_err-troves-clause-fault c =
    let troves = c.args.catalogue.now.troves in
    let fault = c.in_err-troves.field-0.0 in
    handed_on (IsUnmoved c.args.way c.args.label.now troves c.args.root.now) c.from_residual.result fault c.from_residual.ensures.1
    (unexpanded c.args.way c.args.label.now troves c.args.root.now fault
    (subst (λ (roots : List TroveId). IsUnexpanded troves roots fault) c.from_ref.ensures.value c.in_err-troves.ensures.fault))

pub returns-in_err-refuse_move-clause-fault : goal.returns-in_err-refuse_move-clause-fault
returns-in_err-refuse_move-clause-fault c =
    let troves = c.args.catalogue.now.troves in
    let moving = c.in_ok-troves.troves in
    let way = c.args.way in
    let label = c.args.label.now in
    let fault = c.in_err-refuse_move.field-0.0 in
    handed_on (IsUnmoved way label troves c.args.root.now) c.from_residual-in_err-refuse_move.result fault c.from_residual-in_err-refuse_move.ensures.1
    (refused_move way label troves moving c.args.root.now
    (subst (λ (roots : List TroveId). IsExpansion troves roots moving) c.from_ref.ensures.value c.in_ok-troves.ensures.value) c.in_ok-troves.ensures.once fault
    (subst (λ (l : List TroveParts). IsRefusalOrMemory (first_refusal way label troves l) fault) c.get.ensures c.in_err-refuse_move.ensures.fault))

pub moved_troves-requires : goal.moved_troves-requires
moved_troves-requires c =
    let troves = c.args.catalogue.now.troves in
    let moving = c.in_ok-troves.troves in
    let way = c.args.way in
    let label = c.args.label.now in
    let none : first_refusal way label troves moving ≡ None = subst (λ (l : List TroveParts). first_refusal way label troves l ≡ None) c.get.ensures c.in_ok-refuse_move.ensures.none in
    all_can_move troves moving c.requires c.in_ok-troves.ensures.value.there c.in_ok-troves.ensures.closed way label c.in_ok-troves.ensures.names (none_long way label troves moving none)

pub returns-in_err-moved_troves-clause-fault : goal.returns-in_err-moved_troves-clause-fault
returns-in_err-moved_troves-clause-fault c =
    handed_on (IsUnmoved c.args.way c.args.label.now c.args.catalogue.now.troves c.args.root.now) c.from_residual-in_err-moved_troves.result c.in_err-moved_troves.field-0.0 c.from_residual-in_err-moved_troves.ensures.1
    (memory_alone c.args.way c.args.label.now c.args.catalogue.now.troves c.args.root.now c.in_err-moved_troves.field-0.0 c.in_err-moved_troves.ensures.fault)

pub returns : goal.returns
returns c =
    let troves = c.args.catalogue.now.troves in
    let moving = c.in_ok-troves.troves in
    let way = c.args.way in
    let label = c.args.label.now in
    let made = c.in_ok-moved_troves.field-0 in
    let expanded = c.in_ok-troves.ensures in
    let none : first_refusal way label troves moving ≡ None = subst (λ (l : List TroveParts). first_refusal way label troves l ≡ None) c.get.ensures c.in_ok-refuse_move.ensures.none in
    let is : moved_troves way label moving ≡ made = sym (c.in_ok-moved_troves.ensures.value ∙ all_along troves moving c.requires expanded.value.there expanded.closed way label) in record {
      value = record {
        moving = moving;
        expansion = subst (λ (roots : List TroveId). IsExpansion troves roots moving) c.from_ref.ensures.value expanded.value;
        once = expanded.once;
        unrefused = none;
        made_is = sym is;
      };
      names = subst HasRisingNames is (moved_names way label moving expanded.names);
      refs = subst AllReferWithin is (refs_within troves moving c.requires expanded.value.there expanded.closed way label);
      on_label = subst (All (λ (t : TroveParts). last_label t.id.version.branch ≡ label)) is (all_on_label way label moving);
      fresh = subst (All (λ (t : TroveParts). found t.id troves ≡ None)) is (all_fresh way label troves moving (none_taken way label troves moving none));
      fault = tt;
    }
