-- Sums of cells, a flag and a set at a time.
use Rattle.std.specs.Prelude.{◌≡◌, ℕ, ℤ, pos, ◌+ℤ◌, ◌≤ℤ◌, neg_ℤ, true, ◌&&◌, nat_le, List, [], ◌∷◌, ◌++◌, length, take, drop, Option, Some, None, refl}
use Rattle.std.proofs.Common.{suc, ◌+◌, ◌*◌, ◌<◌, ◌≤◌, get_or, sym, ◌∙◌, ap, arith, drop-cons, add-one}
use Rattle.std.proofs.lemmas.Int.{ints}
use Rattle.std.proofs.lemmas.List.Sums.{sum_by_more}
use Rattle.std.specs.Cmp.{first_so}
use Rattle.std.specs.List.{flat_map, sum_by}
use Rattle.std.specs.Option.{option_map, option_and_then}
use Rattle.cny_dep.specs.Canonical.{are_flags, are_sets, set_count, flag_count, is_flavor}
use Rattle.cny_dep.specs.declared.parts.FlavorFlag.{FlavorFlag}
use Rattle.cny_dep.specs.declared.parts.InstructionSet.{InstructionSet}
use Rattle.cny_dep.specs.declared.parts.Parts.{Parts}
use Rattle.cny_dep.specs.Score.{flag_cell, flag_cells, set_cells, total}
use Rattle.cny_base.proofs.Counts.{at_most}

-- ---- sums

-- a sum with more added to it
abbrev pub add_to : ℤ → Option ℤ → Option ℤ
add_to n sum = option_map (λ m. n +ℤ m) sum

pub sum_none : (sum : Option ℤ) → add_to (pos 0) sum ≡ sum
sum_none None = refl
sum_none (Some n) = ap Some (zero_plus n)
  where
    zero_plus : (m : ℤ) → pos 0 +ℤ m ≡ m
    zero_plus m = omega (arith, ints)

plus_assoc : (a b c : ℤ) → (a +ℤ b) +ℤ c ≡ a +ℤ (b +ℤ c)
plus_assoc a b c = omega (arith, ints)

add_twice : (a b : ℤ) (sum : Option ℤ) → add_to a (add_to b sum) ≡ add_to (a +ℤ b) sum
add_twice a b None = refl
add_twice a b (Some n) = ap Some (sym (plus_assoc a b n))

total-append_here : (sum rest : Option ℤ) (n : ℤ) → add_to n (option_and_then (λ m. add_to m rest) sum) ≡ option_and_then (λ m. add_to m rest) (add_to n sum)
total-append_here None rest n = refl
total-append_here (Some m) rest n = add_twice n m rest

total-append : (xs ys : List (Option ℤ)) → total (xs ++ ys) ≡ option_and_then (λ n. add_to n (total ys)) (total xs)
total-append [] ys = sym (sum_none (total ys))
total-append (None ∷ xs) ys = refl
total-append (Some n ∷ xs) ys = ap (add_to n) (total-append xs ys) ∙ total-append_here (total xs) (total ys) n

pub first_refuses : (xs ys : List (Option ℤ)) → None ≡ total xs → None ≡ total (xs ++ ys)
first_refuses xs ys refused = ap (option_and_then (λ n. add_to n (total ys))) refused ∙ sym (total-append xs ys)

pub second_refuses : (xs ys : List (Option ℤ)) (n : ℤ) → Some n ≡ total xs → None ≡ total ys → None ≡ total (xs ++ ys)
second_refuses xs ys n first refused = ap (add_to n) refused ∙ ap (option_and_then (λ m. add_to m (total ys))) first ∙ sym (total-append xs ys)

pub both_add : (xs ys : List (Option ℤ)) (n m : ℤ) → Some n ≡ total xs → Some m ≡ total ys → Some (n +ℤ m) ≡ total (xs ++ ys)
both_add xs ys n m first second = ap (add_to n) second ∙ ap (option_and_then (λ k. add_to k (total ys))) first ∙ sym (total-append xs ys)

-- the list from an index on, by its first item
drop_here : {X : Type 0} (xs : List X) (i : ℕ) (x : X) → i < length xs → x ≡ get_or xs i x → drop i xs ≡ x ∷ drop (i + 1) xs
drop_here xs i x within is = drop-cons xs i x within ∙ ap (λ y. y ∷ drop (suc i) xs) (sym is) ∙ ap (λ n. x ∷ drop n xs) (sym (add-one i))

-- ---- flags

-- how far the sum over flags has come
pub record FlagsSummed (trove system : List FlavorFlag) (i : ℕ) (score : ℤ) : Type 0 where
  pub value : add_to score (total (flag_cells system (drop i trove))) ≡ total (flag_cells system trove)
  pub low : neg_ℤ (pos (2 * i)) ≤ℤ score
  pub high : score ≤ℤ pos (2 * i)

pub flag_next : (trove system : List FlavorFlag) (i : ℕ) (score : ℤ) (f : FlavorFlag) (worth : Option ℤ) → i < length trove → f ≡ get_or trove i f
    → FlagsSummed trove system i score → worth ≡ flag_cell system f
    → add_to score (total (worth ∷ flag_cells system (drop (i + 1) trove))) ≡ total (flag_cells system trove)
flag_next trove system i score f worth within is summed worth_is =
    ap (λ c. add_to score (total (c ∷ flag_cells system (drop (i + 1) trove)))) worth_is
    ∙ ap (λ l. add_to score (total (flag_cells system l))) (sym (drop_here trove i f within is))
    ∙ summed.value

pub flag_added : (trove system : List FlavorFlag) (i : ℕ) (score n : ℤ) (f : FlavorFlag) → i < length trove → f ≡ get_or trove i f
    → FlagsSummed trove system i score → Some n ≡ flag_cell system f → neg_ℤ (pos 2) ≤ℤ n → n ≤ℤ pos 2
    → FlagsSummed trove system (i + 1) (score +ℤ n)
flag_added trove system i score n f within is summed worth low high =
    let low_before = summed.low in
    let high_before = summed.high in
    record {
      value = sym (add_twice score n (total (flag_cells system (drop (i + 1) trove)))) ∙ flag_next trove system i score f (Some n) within is summed worth;
      low = omega (arith, ints);
      high = omega (arith, ints);
    }

-- ---- sets

-- how far the sum over sets has come
pub record SetsSummed (trove system : List InstructionSet) (i : ℕ) (score : ℤ) : Type 0 where
  pub value : add_to score (total (flat_map (set_cells system) (drop i trove))) ≡ total (flat_map (set_cells system) trove)
  pub low : neg_ℤ (pos (2 * sum_by set_count (take i trove))) ≤ℤ score
  pub high : score ≤ℤ pos (2 * sum_by set_count (take i trove))

pub set_next : (trove system : List InstructionSet) (i : ℕ) (score : ℤ) (s : InstructionSet) (worth : Option ℤ) → i < length trove → s ≡ get_or trove i s
    → SetsSummed trove system i score → worth ≡ total (set_cells system s)
    → add_to score (option_and_then (λ n. add_to n (total (flat_map (set_cells system) (drop (i + 1) trove)))) worth) ≡ total (flat_map (set_cells system) trove)
set_next trove system i score s worth within is summed worth_is =
    let others = flat_map (set_cells system) (drop (i + 1) trove) in
    ap (λ w. add_to score (option_and_then (λ n. add_to n (total others)) w)) worth_is
    ∙ ap (add_to score) (sym (total-append (set_cells system s) others))
    ∙ ap (λ l. add_to score (total (flat_map (set_cells system) l))) (sym (drop_here trove i s within is))
    ∙ summed.value

pub set_added : (trove system : List InstructionSet) (i : ℕ) (score n : ℤ) (s : InstructionSet) → i < length trove → s ≡ get_or trove i s
    → SetsSummed trove system i score → Some n ≡ total (set_cells system s) → neg_ℤ (pos (2 * set_count s)) ≤ℤ n → n ≤ℤ pos (2 * set_count s)
    → SetsSummed trove system (i + 1) (score +ℤ n)
set_added trove system i score n s within is summed worth low high =
    let low_before = summed.low in
    let high_before = summed.high in
    let count : sum_by set_count (take (i + 1) trove) ≡ sum_by set_count (take i trove) + set_count s =
    sum_by_more set_count trove i s within ∙ ap (λ x. sum_by set_count (take i trove) + set_count x) (sym is) in
    record {
      value = sym (add_twice score n (total (flat_map (set_cells system) (drop (i + 1) trove)))) ∙ set_next trove system i score s (Some n) within is summed worth;
      low = omega (arith, ints);
      high = omega (arith, ints);
    }

-- ---- both

pub few_flags : (p : Parts) (fs : List FlavorFlag) → is_flavor p ≡ true → fs ≡ p.flags → length fs ≤ 64
few_flags p fs is same =
    let within = at_most (flag_count p) 64 (first_so (nat_le (flag_count p) 64) (are_flags p.flags && are_sets p.sets) is) in
    omega (arith, ap length same)
