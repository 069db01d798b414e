-- The next count.
use Rattle.std.proofs.Common.{◌≡◌, ℕ, ◌+◌, ◌-◌, ◌^◌, ◌<◌, ◌≤◌, suc, zero, true, List, [], ◌∷◌, ◌++◌, length, take, replicate, get_or, Option, MatchOption, Bor, rules, Some, None, refl, sym, ap, ◌∙◌, subst, arith, length-append}
use Rattle.std.specs.List.{list_all}
use Rattle.std.specs.Option.{ForSome, option_copied}
use Rattle.std.specs.Cmp.{first_so, second_so}
use Rattle.std.proofs.lemmas.Bool.{and_from, lt-ltb}
use Rattle.std.proofs.lemmas.Bool.Decides.{nat_tests}
use Rattle.std.proofs.lemmas.List.{length-take-le, take_more}
use Rattle.cny_version.specs.declared.revision.Revision.{Revision}
use Rattle.cny_version.specs.Revision.{fits_32_bits, ends_above_zero, is_count, is_build, is_revision}
use Rattle.cny_version.specs.Made.{filled_up, raised, next_count}
use Rattle.cny_version.specs.Next.{count_in_question, latest_count, with_count, number_to_raise}
use Rattle.cny_version.proofs.CountTexts.{count_parts, count_is}
use Rattle.cny_version.proofs.RevisionTexts.{revision_parts, revision_is}

abbrev zeros : ℕ → List ℕ
zeros n = replicate n 0

length_zeros : (n : ℕ) → length (zeros n) ≡ n
length_zeros zero = refl
length_zeros (suc n) = ap suc (length_zeros n)

longer_filled : (depth : ℕ) (numbers : List ℕ) → depth + 1 ≤ length (filled_up depth numbers)
longer_filled depth numbers = omega (arith, length-append numbers (replicate (depth + 1 - length numbers) 0), length_zeros (depth + 1 - length numbers))

zeros_at : (n i : ℕ) → get_or (zeros n) i 0 ≡ 0
zeros_at zero i = refl
zeros_at (suc n) zero = refl
zeros_at (suc n) (suc i) = zeros_at n i

filled_at : (numbers : List ℕ) (n i : ℕ) → get_or (numbers ++ replicate n 0) i 0 ≡ get_or numbers i 0
filled_at [] n i = zeros_at n i
filled_at (m ∷ numbers) n zero = refl
filled_at (m ∷ numbers) n (suc i) = filled_at numbers n i

pub number_filled : (depth : ℕ) (numbers : List ℕ) (i : ℕ) → get_or (filled_up depth numbers) i 0 ≡ get_or numbers i 0
number_filled depth numbers i = filled_at numbers (depth + 1 - length numbers) i

-- one number more
one_more : (depth : ℕ) (numbers : List ℕ) (i : ℕ) → i < depth → take (i + 1) (filled_up depth numbers) ≡ take i (filled_up depth numbers) ++ get_or numbers i 0 ∷ []
one_more depth numbers i below =
    take_more (filled_up depth numbers) i 0 (omega (arith, longer_filled depth numbers))
    ∙ ap (λ n. take i (filled_up depth numbers) ++ n ∷ []) (number_filled depth numbers i)

pub one_pushed : (depth : ℕ) (numbers : List ℕ) (i number : ℕ) (items pushed : List ℕ) → i < depth → items ≡ take i (filled_up depth numbers) → number ≡ get_or numbers i 0
    → pushed ≡ items ++ number ∷ [] → pushed ≡ take (i + 1) (filled_up depth numbers)
one_pushed depth numbers i number items pushed below items_are number_is is =
    is ∙ ap (λ l. l ++ number ∷ []) items_are ∙ ap (λ n. take i (filled_up depth numbers) ++ n ∷ []) number_is ∙ sym (one_more depth numbers i below)

zeros_before : (n : ℕ) → take n (zeros (n + 1)) ≡ zeros n
zeros_before zero = refl
zeros_before (suc n) =
    let more : suc n + 1 ≡ suc (n + 1) = omega arith in
    ap (λ m. take (suc n) (zeros m)) more ∙ ap (λ l. 0 ∷ l) (zeros_before n)

-- with no latest count it is as with one of no numbers
pub first_count : (depth : ℕ) → next_count depth None ≡ raised depth (filled_up depth [])
first_count depth =
    let all : depth + 1 - 0 ≡ depth + 1 = omega arith in
    sym (ap (λ n. take depth (zeros n) ++ (get_or (zeros n) depth 0 + 1) ∷ []) all
    ∙ ap (λ l. l ++ (get_or (zeros (depth + 1)) depth 0 + 1) ∷ []) (zeros_before depth)
    ∙ ap (λ n. zeros depth ++ (n + 1) ∷ []) (zeros_at (depth + 1) depth))

-- ---- the next count is by the rules

ends_snoc : (numbers : List ℕ) (n : ℕ) → ends_above_zero (numbers ++ (n + 1) ∷ []) ≡ true
ends_snoc [] n = grind (arith, nat_tests)
ends_snoc (m ∷ []) n = grind (arith, nat_tests)
ends_snoc (m ∷ k ∷ numbers) n = ends_snoc (k ∷ numbers) n

fit_snoc : (numbers : List ℕ) (n : ℕ) → list_all fits_32_bits numbers ≡ true → fits_32_bits n ≡ true → list_all fits_32_bits (numbers ++ n ∷ []) ≡ true
fit_snoc [] n fit last = and_from (fits_32_bits n) true last refl
fit_snoc (m ∷ numbers) n fit last =
    and_from (fits_32_bits m) (list_all fits_32_bits (numbers ++ n ∷ [])) (first_so (fits_32_bits m) (list_all fits_32_bits numbers) fit)
    (fit_snoc numbers n (second_so (fits_32_bits m) (list_all fits_32_bits numbers) fit) last)

fit_zeros : (n : ℕ) → list_all fits_32_bits (zeros n) ≡ true
fit_zeros zero = refl
fit_zeros (suc n) = fit_zeros n

fit_append : (xs ys : List ℕ) → list_all fits_32_bits xs ≡ true → list_all fits_32_bits ys ≡ true → list_all fits_32_bits (xs ++ ys) ≡ true
fit_append [] ys front back = back
fit_append (x ∷ xs) ys front back =
    and_from (fits_32_bits x) (list_all fits_32_bits (xs ++ ys)) (first_so (fits_32_bits x) (list_all fits_32_bits xs) front)
    (fit_append xs ys (second_so (fits_32_bits x) (list_all fits_32_bits xs) front) back)

fit_take : (n : ℕ) (xs : List ℕ) → list_all fits_32_bits xs ≡ true → list_all fits_32_bits (take n xs) ≡ true
fit_take zero xs fit = refl
fit_take (suc n) [] fit = refl
fit_take (suc n) (x ∷ xs) fit =
    and_from (fits_32_bits x) (list_all fits_32_bits (take n xs)) (first_so (fits_32_bits x) (list_all fits_32_bits xs) fit)
    (fit_take n xs (second_so (fits_32_bits x) (list_all fits_32_bits xs) fit))

pub raised_is_count : (depth : ℕ) (numbers : List ℕ) (last : ℕ) → length numbers ≤ depth + 1 → list_all fits_32_bits numbers ≡ true → last + 1 < 2 ^ 32
    → is_count depth (take depth (filled_up depth numbers) ++ (last + 1) ∷ []) ≡ true
raised_is_count depth numbers last short fit small =
    let filled = filled_up depth numbers in
    count_is depth _ (take depth filled ++ (last + 1) ∷ []) (record {
      texts_are = refl;
      short = omega (arith, length-append (take depth filled) ((last + 1) ∷ []), length-take-le depth filled (omega (arith, longer_filled depth numbers)));
      fit = fit_snoc (take depth filled) (last + 1) (fit_take depth filled (fit_append numbers (replicate (depth + 1 - length numbers) 0) fit (fit_zeros (depth + 1 - length numbers)))) (lt-ltb (last + 1) (2 ^ 32) small);
      ends = ends_snoc (take depth filled) last;
    })

-- the wanted revision with a count by the rules is by the rules
pub counted_fits : (depth : ℕ) (wanted : Revision) (build : Option (List ℕ)) (count : List ℕ) → wanted.build ≡ build → is_revision depth wanted ≡ true → is_count depth count ≡ true
    → is_revision depth (with_count wanted build count) ≡ true
counted_fits depth wanted None count same is fits = revision_is depth wanted.upstream count None (revision_parts depth wanted is).upstream_is fits refl
counted_fits depth wanted (Some build) count same is fits =
    let p = revision_parts depth wanted is in
    revision_is depth wanted.upstream wanted.source (Some count) p.upstream_is p.source_is fits

-- ---- the latest count

-- the numbers of the latest count, none for none
pub record IsLatest (depth : ℕ) (found : Option (List ℕ)) (numbers : List ℕ) : Type 0 where
  pub next : next_count depth found ≡ take depth (filled_up depth numbers) ++ (get_or numbers depth 0 + 1) ∷ []
  pub raise : number_to_raise depth found ≡ get_or numbers depth 0

pub latest_is : (depth : ℕ) (found : Option (List ℕ)) (numbers : List ℕ) → MatchOption found (numbers ≡ []) (λ n. numbers ≡ n) → IsLatest depth found numbers
latest_is depth None numbers is =
    subst (IsLatest depth None) (sym is) (record {
      next = first_count depth ∙ ap (λ n. take depth (filled_up depth []) ++ (n + 1) ∷ []) (number_filled depth [] depth);
      raise = refl;
    })
latest_is depth (Some latest) numbers is =
    subst (IsLatest depth (Some latest)) (sym is) (record {
      next = ap (λ n. take depth (filled_up depth latest) ++ (n + 1) ∷ []) (number_filled depth latest depth);
      raise = number_filled depth latest depth;
    })

-- the numbers of the latest count are by the rules where the latest revision is
pub record FitsLatest (depth : ℕ) (numbers : List ℕ) : Type 0 where
  pub short : length numbers ≤ depth + 1
  pub fit : list_all fits_32_bits numbers ≡ true

fits_count : (depth : ℕ) (count numbers : List ℕ) → is_count depth count ≡ true → numbers ≡ count → FitsLatest depth numbers
fits_count depth count numbers is same =
    let k = count_parts depth count is in
    subst (FitsLatest depth) (sym same) (record { short = k.short; fit = k.fit })

fits_none : (depth : ℕ) (numbers : List ℕ) → numbers ≡ [] → FitsLatest depth numbers
fits_none depth numbers same = subst (FitsLatest depth) (sym same) (record { short = omega arith; fit = refl })

fits_question : (depth : ℕ) (wanted build : Option (List ℕ)) (r : Revision) (numbers : List ℕ) → r.build ≡ build → is_revision depth r ≡ true
    → MatchOption (count_in_question wanted r) (numbers ≡ []) (λ n. numbers ≡ n) → FitsLatest depth numbers
fits_question depth None build r numbers same is found = fits_count depth r.source numbers (revision_parts depth r is).source_is found
fits_question depth (Some wanted) None r numbers same is found =
    fits_none depth numbers (subst (λ o. MatchOption o (numbers ≡ []) (λ n. numbers ≡ n)) same found)
fits_question depth (Some wanted) (Some count) r numbers same is found =
    fits_count depth count numbers (ap (is_build depth) (sym same) ∙ (revision_parts depth r is).build_is) (subst (λ o. MatchOption o (numbers ≡ []) (λ n. numbers ≡ n)) same found)

pub fits_latest : (depth : ℕ) (wanted : Revision) (latest : Option (Bor Revision)) (numbers : List ℕ) → ForSome latest (λ r. is_revision depth r.now ≡ true)
    → MatchOption (latest_count wanted (option_copied latest)) (numbers ≡ []) (λ n. numbers ≡ n) → FitsLatest depth numbers
fits_latest depth wanted None numbers fits found = fits_none depth numbers found
fits_latest depth wanted (Some r) numbers fits found = fits_question depth wanted.build r.now.build r.now numbers refl (search rules) found
