-- Bytes that are copied and written in parts.
use Rattle.std.proofs.Common.{◌≡◌, ℕ, List, [], ◌++◌, length, take, drop, ◌-◌, ◌+◌, ap, sym, ◌∙◌, append_assoc, append-nil, arith, Option, Some, None}
use Rattle.std.specs.Io.KnownBytes.{Appends}
use Rattle.std.proofs.lemmas.List.{take_rest, take-append-drop, drop-drop}
use Rattle.std.proofs.lemmas.Grind.{common_steps}
use Rattle.cny_base.specs.Flow.{AppendsPart}

pub appends_more : (old mid new : Option (List ℕ)) (a b : List ℕ) → Appends old mid a → Appends mid new b → Appends old new (a ++ b)
appends_more None mid new a b p q = tt
appends_more (Some x) None new a b p q = absurd p
appends_more (Some x) (Some y) None a b p q = absurd q
appends_more (Some x) (Some y) (Some z) a b p q = q ∙ ap (λ l. l ++ b) p ∙ append_assoc x a b

whole_front : (front rest : List ℕ) → take (length front) (front ++ rest) ≡ front
whole_front front rest = grind (arith, common_steps)

-- the parts so far and an empty one are a first part of all
pub part_appended : (old mid new : Option (List ℕ)) (front rest bytes : List ℕ) → front ++ rest ≡ bytes → Appends old mid front → Appends mid new [] → AppendsPart old new bytes
part_appended old mid new front rest bytes split p q =
    (length front, rw (← split, whole_front front rest, ← append-nil front) (appends_more old mid new front [] p q))

-- a further part moves from the rest to the front
pub part_moves : (front rest bytes : List ℕ) (n : ℕ) → front ++ rest ≡ bytes → (front ++ take n rest) ++ take (length rest - n) (drop n rest) ≡ bytes
part_moves front rest bytes n split =
    append_assoc front _ _ ∙ ap (λ l. front ++ (take n rest ++ l)) (take_rest rest n) ∙ ap (λ l. front ++ l) (take-append-drop n rest) ∙ split

-- bytes that were copied from a place on stand at the front, and those after them are left
pub front_copied : (xs rest front : List ℕ) (at n m : ℕ) → front ≡ take m (drop at xs) → m ≡ n → length front ≡ n → drop at xs ≡ take n (front ++ rest) ++ drop (at + n) xs
front_copied xs rest front at n m copied same whole =
    let first : take n (front ++ rest) ≡ take n (drop at xs) = rw (← whole, whole_front, whole, copied, same) in
    rw (first, ← drop-drop n at xs) (sym (take-append-drop n (drop at xs)))
