-- Strictly rising paths, by neighbours.
use Rattle.std.proofs.Common.{◌≡◌, ℕ, zero, suc, ◌<◌, Bool, true, false, List, [], ◌∷◌, length, get_or, arith, add-one, MatchBool}
use Rattle.std.specs.declared.cmp.Ordering.{Ordering}
use Rattle.std.specs.declared.cmp.Ordering.TheVariants.{Less, Equal, Greater}
use Rattle.std.specs.Ordering.{nat_cmp, is_lt}
use Rattle.std.specs.Cmp.Lexicographic.{slice_cmp}
use Rattle.std.specs.List.{IsAllAdjacentAnswer}
use Rattle.journal_log.specs.declared.put.Put.{Put}
use Rattle.journal_log.specs.WriteSet.{Rises}
use Rattle.tree_disk.proofs.cny-base.Orders.{less}

abbrev pub is_before : Put → Put → Bool
is_before p q = is_lt (slice_cmp nat_cmp p.path q.path)

not_less : (o : Ordering) → false ≡ is_lt o → o ≡ Less → ⊥
not_less Less h e = cc
not_less Equal h e = cc
not_less Greater h e = cc

rises_from : (puts : List Put) → ((k : ℕ) (d : Put) → suc k < length puts → true ≡ is_before (get_or puts k d) (get_or puts (suc k) d)) → Rises puts
rises_from [] all = tt
rises_from (p ∷ []) all = (tt, tt)
rises_from (p ∷ q ∷ puts) all =
    (less (slice_cmp nat_cmp p.path q.path) (all 0 p (omega arith)), rises_from (q ∷ puts) (λ k d lt. all (suc k) d (omega arith)))

pub rising_at : (puts : List Put) (k : ℕ) (d : Put) → Rises puts → suc k < length puts → slice_cmp nat_cmp (get_or puts k d).path (get_or puts (suc k) d).path ≡ Less
rising_at [] k d rises lt = absurd (omega arith)
rising_at (p ∷ []) k d rises lt = absurd (omega arith)
rising_at (p ∷ q ∷ puts) zero d rises lt = rises.0
rising_at (p ∷ q ∷ puts) (suc k) d rises lt = rising_at (q ∷ puts) k d rises.1 (omega arith)

pub rises_answer : (puts : List Put) (r : Bool) → IsAllAdjacentAnswer (λ x y b. b ≡ is_before x y) puts r → MatchBool r (Rises puts) (Rises puts → ⊥)
rises_answer puts true all = rises_from puts (λ k d lt. rw add-one at (all k d (omega arith)))
rises_answer [] false found = λ rises. absurd (omega arith)
rises_answer (p ∷ puts) false found = λ rises.
    not_less (slice_cmp nat_cmp (get_or (p ∷ puts) found.0 p).path (get_or (p ∷ puts) (suc found.0) p).path) (rw add-one at (found.2 p)) (rising_at (p ∷ puts) found.0 p rises (omega arith))
