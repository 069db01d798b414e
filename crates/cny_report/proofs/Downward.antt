-- One number more, from a number down.
use Rattle.std.proofs.Common.{◌≡◌, ℕ, zero, suc, ◌-◌, ◌+◌, List, [], ◌∷◌, ◌++◌, sym, ap, ◌∙◌, arith, append-nil}
use Rattle.std.specs.List.{flat_map}
use Rattle.std.proofs.lemmas.Grind.{flat_map-append}
use Rattle.cny_report.specs.Jobs.{downward, rolled_back_line, rolled_back_text}

downward_more : (newest count : ℕ) → downward newest (suc count) ≡ downward newest count ++ (newest - count) ∷ []
downward_more newest zero = ap (λ (n : ℕ). n ∷ []) (omega arith)
downward_more newest (suc count) =
    let next : newest - 1 - count ≡ newest - suc count = omega arith in
    ap (λ (ns : List ℕ). newest ∷ ns) (downward_more (newest - 1) count ∙ ap (λ (n : ℕ). downward (newest - 1) count ++ n ∷ []) next)

pub rolled_back_more : (newest count : ℕ) → rolled_back_text newest (suc count) ≡ rolled_back_text newest count ++ rolled_back_line (newest - count)
rolled_back_more newest count =
    ap (flat_map rolled_back_line) (downward_more newest count)
    ∙ flat_map-append rolled_back_line (downward newest count) ((newest - count) ∷ [])
    ∙ ap (λ (line : List ℕ). rolled_back_text newest count ++ line) (append-nil (rolled_back_line (newest - count)))

-- a text grows by the line of the next number
pub rolled_back_step : (newest count : ℕ) (text grown : List ℕ) → text ≡ rolled_back_text newest count → grown ≡ text ++ rolled_back_line (newest - count)
    → grown ≡ rolled_back_text newest (count + 1)
rolled_back_step newest count text grown is grows =
    let next : suc count ≡ count + 1 = omega arith in
    grows ∙ ap (λ (front : List ℕ). front ++ rolled_back_line (newest - count)) is ∙ sym (rolled_back_more newest count)
    ∙ ap (λ (n : ℕ). rolled_back_text newest n) next
