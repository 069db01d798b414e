use Rattle.std.proofs.Common.{◌≡◌, map, rules, sym, ap, ◌∙◌, subst}
use Rattle.std.specs.Prelude.{nat_eq}
use Rattle.std.specs.List.{list_any}
use Rattle.std.specs.List.Sorted.{IsStrictlySortedBy}
use Rattle.std.proofs.lemmas.Fn.{always_returns_same}
use Rattle.change_set.specs.ChangeSet.{content_cmp}
use Rattle.change_pull.specs.declared.staged.Staged.{Staged}
use Rattle.change_pull.specs.Files.{carried_in}
use Rattle.change_pull.specs.Incoming.{is_carried, AreStaged}
use Rattle.change_pull.proofs.Sizes.{same_test, staged_against, staged_found, staged_missed}
use Rattle.change_pull.proofs.incoming.StagedListIncoming.has.Goals as goal

pub returns-in-Ok : goal.returns-in-Ok
returns-in-Ok c dir listed tree rises stand =
    let ones = c.get-contents.result.now in
    let are : listed ≡ map (carried_in tree) ones = stand.are ∙ ap (map (carried_in tree)) (sym c.get-contents.ensures) in
    ap (λ (one : Staged). nat_eq one.size c.args.size) (sym c.index-contents-place.is)
    ∙ same_test c.index-contents-place.result.size c.args.size
    ∙ staged_found dir ones tree c.args.name.now c.args.size (subst (AreStaged dir tree) (sym c.get-contents.ensures) stand.staged) (subst (IsStrictlySortedBy content_cmp) are rises)
    c.in-Ok.place c.index-contents-place.result c.in-Ok.ensures.bound c.index-contents-place.is
    (c.in-Ok.ensures.position (staged_against c.args.name.now) (always_returns_same _ _ _ (λ a r g k. search rules)))
    ∙ ap (list_any (is_carried c.args.name.now c.args.size)) (sym are)

pub returns-in-Err : goal.returns-in-Err
returns-in-Err c dir listed tree rises stand =
    let ones = c.get-contents.result.now in
    let are : listed ≡ map (carried_in tree) ones = stand.are ∙ ap (map (carried_in tree)) (sym c.get-contents.ensures) in
    staged_missed dir ones tree c.args.name.now c.args.size (subst (AreStaged dir tree) (sym c.get-contents.ensures) stand.staged) (subst (IsStrictlySortedBy content_cmp) are rises) c.in-Err.field-0
    (c.in-Err.ensures.position (staged_against c.args.name.now) (always_returns_same _ _ _ (λ a r g k. search rules)))
    ∙ ap (list_any (is_carried c.args.name.now c.args.size)) (sym are)
