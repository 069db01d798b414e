use Rattle.std.proofs.Common.{rules, List, Bool, true, false, subst, MatchBool, sym, ◌≡◌, ◌∙◌}
use Rattle.std.specs.List.{IsAllAdjacentAnswer}
use Rattle.std.proofs.lemmas.List.Sorted.{answers_always}
use Rattle.journal_log.specs.declared.put.Put.{Put}
use Rattle.journal_log.specs.WriteSet.{Rises}
use Rattle.journal_log.proofs.Rising.{is_before, rises_answer}
use Rattle.journal_log.proofs.put.Puts.new.Goals as goal

-- what the test says of the puts
answer : (puts seen : List Put) (r b : Bool) → seen ≡ puts → r ≡ b → IsAllAdjacentAnswer (λ x y t. t ≡ is_before x y) seen r → MatchBool b (Rises puts) (Rises puts → ⊥)
answer puts seen r b same is cases = subst (λ (l : List Put). MatchBool b (Rises l) (Rises l → ⊥)) same (subst (λ (t : Bool). MatchBool t (Rises seen) (Rises seen → ⊥)) is (rises_answer seen r cases))

pub returns-then-not-is_sorted_by-clause-none : goal.returns-then-not-is_sorted_by-clause-none
returns-then-not-is_sorted_by-clause-none c =
    answer _ _ _ false c.deref.ensures.value c.if-not-is_sorted_by.true (c.is_sorted_by.ensures.cases is_before (answers_always _ _ _ (λ f a r g k. search rules)))

pub invariant_of-result : goal.invariant_of-result
invariant_of-result c =
    answer _ _ _ true (c.deref.ensures.value ∙ sym c.new.ensures) c.if-not-is_sorted_by.false (c.is_sorted_by.ensures.cases is_before (answers_always _ _ _ (λ f a r g k. search rules)))

pub returns-clause-rises : goal.returns-clause-rises
returns-clause-rises c =
    answer _ _ _ true c.deref.ensures.value c.if-not-is_sorted_by.false (c.is_sorted_by.ensures.cases is_before (answers_always _ _ _ (λ f a r g k. search rules)))
