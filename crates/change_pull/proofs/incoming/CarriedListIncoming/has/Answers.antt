use Rattle.std.proofs.Common.{◌≡◌, List, ℕ, length, rules, sym, ap, ◌∙◌, subst}
use Rattle.std.specs.Prelude.{nat_eq}
use Rattle.std.specs.List.{list_any}
use Rattle.std.specs.List.Sorted.{IsStrictlySortedBy}
use Rattle.std.proofs.lemmas.Fn.{always_returns_same}
use Rattle.change_set.specs.ChangeSet.{content_cmp}
use Rattle.change_set.specs.declared.change.Carried.{Carried}
use Rattle.change_set.proofs.Carrying.{against}
use Rattle.change_pull.specs.Incoming.{is_carried}
use Rattle.change_pull.proofs.Sizes.{found_size, missed_size, same_test}
use Rattle.change_pull.proofs.incoming.CarriedListIncoming.has.Goals as goal

pub returns-in-Ok : goal.returns-in-Ok
returns-in-Ok c dir listed tree rises stand =
    let cs = c.get-contents.result.now in
    let same : listed ≡ cs = stand ∙ sym c.get-contents.ensures in
    ap (λ (b : List ℕ). nat_eq (length b) c.args.size) c.get.ensures ∙ ap (λ (d : Carried). nat_eq (length d.bytes) c.args.size) (sym c.index-contents-place.is)
    ∙ same_test (length c.index-contents-place.result.bytes) c.args.size
    ∙ found_size cs c.args.name.now c.args.size (subst (IsStrictlySortedBy content_cmp) same rises) c.in-Ok.place c.index-contents-place.result c.in-Ok.ensures.bound c.index-contents-place.is
    (c.in-Ok.ensures.position (against c.args.name.now) (always_returns_same _ _ _ (λ a r g k. search rules)))
    ∙ ap (list_any (is_carried c.args.name.now c.args.size)) (sym same)

pub returns-in-Err : goal.returns-in-Err
returns-in-Err c dir listed tree rises stand =
    let cs = c.get-contents.result.now in
    let same : listed ≡ cs = stand ∙ sym c.get-contents.ensures in
    missed_size cs c.args.name.now c.args.size (subst (IsStrictlySortedBy content_cmp) same rises) c.in-Err.field-0
    (c.in-Err.ensures.position (against c.args.name.now) (always_returns_same _ _ _ (λ a r g k. search rules)))
    ∙ ap (list_any (is_carried c.args.name.now c.args.size)) (sym same)
