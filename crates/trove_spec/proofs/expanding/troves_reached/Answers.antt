use Rattle.std.proofs.Common.{◌≡◌, ℕ, List, map, Bor, ap, subst, ◌∙◌, rules}
use Rattle.std.specs.Prelude.{IsPermutation}
use Rattle.std.proofs.lemmas.List.Sorted.{IsPermutation-map, answers_always}
use Rattle.repo_index.specs.trove-stream.declared.parts.TroveParts.{TroveParts}
use Rattle.repo_index.specs.Places.{troves_at}
use Rattle.trove_spec.proofs.InOrder.{now_of, is_before, before_order, sorted_troves, expansion_of, closed_in}
use Rattle.trove_spec.proofs.expanding.troves_reached.Goals as goal

-- sorting only moves the troves that were gathered
moved_of : (all : List TroveParts) (keys places : List ℕ) (old new : List (Bor TroveParts)) → map now_of old ≡ troves_at all places → places ≡ keys → IsPermutation old new
    → IsPermutation (troves_at all keys) (map now_of new)
moved_of all keys places old new placed same moved =
    subst (λ (l : List TroveParts). IsPermutation l (map now_of new)) (placed ∙ ap (troves_at all) same) (IsPermutation-map now_of old new moved)

pub returns-clause-value : goal.returns-clause-value
returns-clause-value c =
    let all = c.args.catalogue.now.troves in
    let keys = c.in_ok-places.places in
    let new = c.sort_unstable_by.new.self.items in
    let moved = moved_of all keys c.as_slice.result.now c.in_ok-troves.troves.items new c.in_ok-troves.ensures c.as_slice.ensures.keys c.sort_unstable_by.ensures.permutation in
    expansion_of all c.args.roots.now keys (map now_of new) c.in_ok-places.ensures moved c.troves-all.ensures.distinct
    (sorted_troves new (c.sort_unstable_by.ensures.sorted is_before before_order (answers_always _ _ _ (λ f a r g h. search rules))))

pub returns-clause-closed : goal.returns-clause-closed
returns-clause-closed c =
    let all = c.args.catalogue.now.troves in
    let keys = c.in_ok-places.places in
    let new = c.sort_unstable_by.new.self.items in
    let moved = moved_of all keys c.as_slice.result.now c.in_ok-troves.troves.items new c.in_ok-troves.ensures c.as_slice.ensures.keys c.sort_unstable_by.ensures.permutation in
    closed_in all c.args.roots.now keys (map now_of new) c.in_ok-places.ensures moved
