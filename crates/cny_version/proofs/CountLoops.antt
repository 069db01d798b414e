-- Counts that are read and written number by number, in a loop.
use Rattle.std.proofs.Common.{◌≡◌, ℕ, ◌-◌, ◌<◌, suc, zero, Bool, true, false, cond, eqb, List, [], ◌∷◌, ◌++◌, Option, Some, None, refl, sym, ap, ◌∙◌, arith, append_assoc, ◌≤◌, length, take, drop, get_or}
use Rattle.std.specs.Option.{option_map, option_and_then, is_some}
use Rattle.std.specs.List.{onto_first, flat_map}
use Rattle.cny_version.specs.Reading.{pieces, number_found, count_found}
use Rattle.std.proofs.lemmas.List.{append-nil, take_all}
use Rattle.std.specs.Fmt.{decimal}
use Rattle.cny_version.specs.Revision.{count_text}

-- ---- reading

pub pieces_some : (c : ℕ) (text : List ℕ) → (p : List ℕ) × ((ps : List (List ℕ)) × (pieces c text ≡ p ∷ ps))
pieces_some c [] = ([], ([], refl))
pieces_some c (b ∷ text) =
    let more = pieces_some c text in
    at (eqb b c) (pieces c text) more.0 more.1.0 more.1.1
  where
    at : (t : Bool) (ps : List (List ℕ)) (q : List ℕ) (qs : List (List ℕ)) → ps ≡ q ∷ qs
        → (p : List ℕ) × ((rs : List (List ℕ)) × (cond t ([] ∷ ps) (onto_first b ps) ≡ p ∷ rs))
    at true ps q qs are = ([], (ps, refl))
    at false ps q qs are = (b ∷ q, (qs, ap (onto_first b) are))

-- the count found behind the numbers that are read already
abbrev pub behind : List ℕ → Option (List ℕ) → Option (List ℕ)
behind front found = option_map (λ (rest : List ℕ). front ++ rest) found

behind_more : (front : List ℕ) (n : ℕ) (found : Option (List ℕ)) → behind (front ++ n ∷ []) found ≡ behind front (option_map (λ (rest : List ℕ). n ∷ rest) found)
behind_more front n None = refl
behind_more front n (Some rest) = ap (λ (l : List ℕ). Some l) (append_assoc front (n ∷ []) rest)

-- ---- one number more

after_number : ℕ → List (List ℕ) → ℕ → Option (List ℕ)
after_number room ps n = option_map (λ (rest : List ℕ). n ∷ rest) (count_found room ps)

count_more : (room : ℕ) (p q : List ℕ) (qs : List (List ℕ)) → 0 < room → count_found room (p ∷ q ∷ qs) ≡ option_and_then (after_number (room - 1) (q ∷ qs)) (number_found p)
unfolding after_number
count_more zero p q qs some = absurd (omega arith)
count_more (suc room) p q qs some =
    let same : room ≡ suc room - 1 = omega arith in
    ap (λ r. option_and_then (λ n. option_map (λ ns. n ∷ ns) (count_found r (q ∷ qs))) (number_found p)) same

pub count_keeps : (room n : ℕ) (rest first after : List ℕ) → pieces 46 rest ≡ first ∷ pieces 46 after → 0 < room → number_found first ≡ Some n
    → count_found room (pieces 46 rest) ≡ option_map (λ (ns : List ℕ). n ∷ ns) (count_found (room - 1) (pieces 46 after))
unfolding after_number
count_keeps room n rest first after are some number =
    let more = pieces_some 46 after in
    ap (count_found room) (are ∙ ap (λ ps. first ∷ ps) more.1.1)
    ∙ count_more room first more.0 more.1.0 some
    ∙ ap (λ o. option_and_then (after_number (room - 1) (more.0 ∷ more.1.0)) o) number
    ∙ ap (λ ps. option_map (λ (ns : List ℕ). n ∷ ns) (count_found (room - 1) ps)) (sym more.1.1)

pub count_no_room : (room : ℕ) (rest first after : List ℕ) → pieces 46 rest ≡ first ∷ pieces 46 after → room ≡ 0 → count_found room (pieces 46 rest) ≡ None
count_no_room room rest first after are none =
    let more = pieces_some 46 after in
    ap (λ r. count_found r (pieces 46 rest)) none ∙ ap (count_found 0) (are ∙ ap (λ ps. first ∷ ps) more.1.1)

-- ---- whether a count is there

some_mapped : {A B : Type 0} (f : A → B) (o : Option A) → is_some (option_map f o) ≡ is_some o
some_mapped f None = refl
some_mapped f (Some x) = refl

pub still_some : (room n : ℕ) (rest first after : List ℕ) → pieces 46 rest ≡ first ∷ pieces 46 after → 0 < room → number_found first ≡ Some n
    → is_some (count_found (room - 1) (pieces 46 after)) ≡ is_some (count_found room (pieces 46 rest))
still_some room n rest first after are some number =
    sym (ap is_some (count_keeps room n rest first after are some number) ∙ some_mapped (λ (ns : List ℕ). n ∷ ns) (count_found (room - 1) (pieces 46 after)))

pub still_behind : (front : List ℕ) (room n : ℕ) (rest first after : List ℕ) → pieces 46 rest ≡ first ∷ pieces 46 after → 0 < room → number_found first ≡ Some n
    → behind (front ++ n ∷ []) (count_found (room - 1) (pieces 46 after)) ≡ behind front (count_found room (pieces 46 rest))
still_behind front room n rest first after are some number =
    behind_more front n (count_found (room - 1) (pieces 46 after)) ∙ sym (ap (behind front) (count_keeps room n rest first after are some number))

-- ---- writing

-- the numbers after the first one
abbrev pub more_text : List ℕ → List ℕ
more_text numbers = flat_map (λ n. 46 ∷ decimal n) numbers

pub count_text_cons : (n : ℕ) (numbers : List ℕ) → count_text (n ∷ numbers) ≡ decimal n ++ more_text numbers
count_text_cons n [] = sym (append-nil (decimal n))
count_text_cons n (m ∷ numbers) = ap (λ l. decimal n ++ 46 ∷ l) (count_text_cons m numbers)

pub count_text_split : (numbers : List ℕ) → 1 ≤ length numbers → count_text numbers ≡ decimal (get_or numbers 0 0) ++ more_text (take (length numbers - 1) (drop 1 numbers))
count_text_split [] some = absurd (omega arith)
count_text_split (n ∷ numbers) some = count_text_cons n numbers ∙ ap (λ l. decimal n ++ more_text l) (sym (take_whole (length (n ∷ numbers) - 1) numbers (omega arith)))
  where
    take_whole : (i : ℕ) (xs : List ℕ) → length xs ≤ i → take i xs ≡ xs
    take_whole i xs past = take_all i xs past
