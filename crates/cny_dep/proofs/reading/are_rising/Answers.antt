use Rattle.std.proofs.Common.{◌≡◌, ℕ, ◌+◌, Bool, true, false, List, [], get_or, ap, ◌∙◌, arith, rules, tests, IsTrue}
use Rattle.std.specs.Cmp.Lexicographic.{slice_cmp, nat_list_cmp_total}
use Rattle.std.specs.List.{IsAllAdjacentAnswer}
use Rattle.std.specs.List.Sorted.{IsStrictlySortedBy}
use Rattle.std.specs.Ordering.{nat_cmp, is_lt}
use Rattle.std.proofs.lemmas.Bool.{false≢true}
use Rattle.std.proofs.lemmas.List.Sorted.{answers_always}
use Rattle.std.proofs.lemmas.Map.Keys.{Less-from_sorted, sorted_from_all_adjacent}
use Rattle.cny_base.proofs.Orders.{less}
use Rattle.cny_dep.proofs.reading.are_rising.Goals as goal

abbrev below : List ℕ → List ℕ → Bool
below x y = is_lt (slice_cmp nat_cmp x y)

rising : (xs : List (List ℕ)) (b : Bool) → IsAllAdjacentAnswer (λ x y b. b ≡ below x y) xs b
    → (IsTrue b → IsStrictlySortedBy (slice_cmp nat_cmp) xs) × (IsStrictlySortedBy (slice_cmp nat_cmp) xs → IsTrue b)
rising xs true answer = (λ _. sorted_from_all_adjacent nat_list_cmp_total xs [] (λ k within. less (slice_cmp nat_cmp (get_or xs k []) (get_or xs (k + 1) [])) (answer k [] within)), λ _. search rules)
rising xs false answer = (
  λ h. absurd (search (rules, h)),
  λ sorted. absurd (false≢true (answer.2 [] ∙ ap is_lt (Less-from_sorted (slice_cmp nat_cmp) xs answer.0 (answer.0 + 1) [] sorted (omega arith) answer.1))),
)

pub returns : goal.returns
returns c = rising c.args.flags.now c.is_sorted_by.result (c.is_sorted_by.ensures.cases below (answers_always _ _ _ (λ f a r g h. search (rules, tests))))
