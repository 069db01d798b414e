-- The numbers given to files so far, one file after the other.
use Rattle.std.proofs.Common.{◌≡◌, ◌⊎◌, inl, inr, ⊎_elim, ℕ, ◌+◌, ◌<◌, ◌≤◌, ◌^◌, ◌==◌, Bool, true, false, cond, List, [], ◌∷◌, ◌++◌, length, get_or, take, refl, sym, ◌∙◌, ap, subst, arith, All, Contains, length-append}
use Rattle.std.specs.List.{list_any}
use Rattle.std.proofs.lemmas.Bool.{cases_lt}
use Rattle.std.proofs.lemmas.List.{take_all, take_more}
use Rattle.std.proofs.lemmas.List.Elements.{All-nil, All-push, All-weaker, All-head, All-tail, Contains-append_left, Contains-push, Contains-push_cases}
use Rattle.journal_log.specs.declared.put.Want.{Want}
use Rattle.journal_log.specs.declared.put.Want.TheVariants.{Nothing, Dir, File, Link, Staged}
use Rattle.journal_log.specs.declared.put.Put.{Put}
use Rattle.journal_log.specs.Staged.{is_file_want, names_staged, AreStagedNumbers}
use Rattle.journal_log.specs.Numbers.{staged_want, file_count, with_numbers, NumbersRise, AreLeastFree, IsNumbered, IsNextFree, IsNumberedNext}

-- ---- one more write

count_push : (front : List Put) (p : Put) → file_count (front ++ p ∷ []) ≡ file_count front + cond (is_file_want p.want) 1 0
count_push [] p = omega arith
count_push (q ∷ front) p = omega (arith, count_push front p)

none_left : (puts : List Put) → with_numbers [] puts ≡ puts
none_left [] = refl
none_left (p ∷ puts) = refl

pub less : (b : Bool) (n : ℕ) (numbers : List ℕ) (m : ℕ) → length (n ∷ numbers) ≡ cond b 1 0 + m → length (cond b numbers (n ∷ numbers)) ≡ m
less true n numbers m e = omega (arith, e)
less false n numbers m e = omega (arith, e)

-- a write that stays
push_same : (numbers : List ℕ) (front : List Put) (p : Put) → length numbers ≡ file_count front → with_numbers numbers (front ++ p ∷ []) ≡ with_numbers numbers front ++ p ∷ []
push_same [] [] p enough = refl
push_same (n ∷ numbers) [] p enough = absurd (omega arith)
push_same [] (q ∷ front) p enough = refl
push_same (n ∷ numbers) (q ∷ front) p enough =
    ap (λ (l : List Put). record { path = q.path; want = staged_want n q.want } ∷ l)
    (push_same (cond (is_file_want q.want) numbers (n ∷ numbers)) front p (less (is_file_want q.want) n numbers (file_count front) enough))

unstaged : (n : ℕ) (w : Want) → is_file_want w ≡ false → staged_want n w ≡ w
unstaged n Nothing none = refl
unstaged n (Dir mode) none = refl
unstaged n (File mode bytes) none = absurd (cc none)
unstaged n (Link target) none = refl
unstaged n (Staged mode m size name) none = refl

is_none : (b : Bool) (m : ℕ) → 0 ≡ cond b 1 0 + m → b ≡ false
is_none true m e = absurd (omega (arith, e))
is_none false m e = refl

rest_none : (b : Bool) (m : ℕ) → 0 ≡ cond b 1 0 + m → 0 ≡ m
rest_none true m e = absurd (omega (arith, e))
rest_none false m e = omega (arith, e)

behind : (b : Bool) (m n : ℕ) (numbers : List ℕ) → cond b (numbers ++ n ∷ []) (m ∷ numbers ++ n ∷ []) ≡ cond b numbers (m ∷ numbers) ++ n ∷ []
behind true m n numbers = refl
behind false m n numbers = refl

-- a file that gets the next number
push_file : (numbers : List ℕ) (front : List Put) (n : ℕ) (p : Put) → length numbers ≡ file_count front
    → with_numbers (numbers ++ n ∷ []) (front ++ p ∷ []) ≡ with_numbers numbers front ++ record { path = p.path; want = staged_want n p.want } ∷ []
push_file [] [] n p enough = refl
push_file (m ∷ numbers) [] n p enough = absurd (omega arith)
push_file [] (q ∷ front) n p enough =
    let none = is_none (is_file_want q.want) (file_count front) enough in
    ap (λ (b : Bool). record { path = q.path; want = staged_want n q.want } ∷ with_numbers (cond b [] (n ∷ [])) (front ++ p ∷ [])) none
    ∙ ap (λ (w : Want). record { path = q.path; want = w } ∷ with_numbers (n ∷ []) (front ++ p ∷ [])) (unstaged n q.want none)
    ∙ ap (λ (l : List Put). q ∷ l) (push_file [] front n p (rest_none (is_file_want q.want) (file_count front) enough))
    ∙ ap (λ (l : List Put). q ∷ l ++ record { path = p.path; want = staged_want n p.want } ∷ []) (none_left front)
push_file (m ∷ numbers) (q ∷ front) n p enough =
    ap (λ (l : List ℕ). record { path = q.path; want = staged_want m q.want } ∷ with_numbers l (front ++ p ∷ [])) (behind (is_file_want q.want) m n numbers)
    ∙ ap (λ (l : List Put). record { path = q.path; want = staged_want m q.want } ∷ l)
    (push_file (cond (is_file_want q.want) numbers (m ∷ numbers)) front n p (less (is_file_want q.want) m numbers (file_count front) enough))

-- ---- the numbers given so far

-- The first of all writes, with their files' bytes staged: their numbers are the least free ones, and lie below `from`.
pub record IsNumberedTo (puts front : List Put) (from : ℕ) (made : List Put) : Type 0 where
  pub numbers : List ℕ
  pub free : AreLeastFree puts numbers
  pub fit : All (λ n. n < 2 ^ 32) numbers
  pub enough : length numbers ≡ file_count front
  pub writes : made ≡ with_numbers numbers front
  pub below : All (λ n. n < from) numbers
  pub seen : (m : ℕ) → m < from → (names_staged puts m ≡ true) ⊎ Contains numbers m

rises_push : (numbers : List ℕ) (n : ℕ) → NumbersRise numbers → All (λ m. m < n) numbers → NumbersRise (numbers ++ n ∷ [])
rises_push [] n rise low = (All-nil (λ m. n < m), tt)
rises_push (k ∷ numbers) n rise low = (
  All-push (λ m. k < m) numbers n rise.0 (All-head (λ m. m < n) k numbers low),
  rises_push numbers n rise.1 (All-tail (λ m. m < n) k numbers low),
)

same_free : (puts : List Put) (used : List ℕ) (n : ℕ) (b : Bool) → AreStagedNumbers puts used → list_any (λ m. m == n) used ≡ b → names_staged puts n ≡ b
same_free puts used n b same is = sym (same n) ∙ is

given : (puts front : List Put) (used : List ℕ) (from n : ℕ) (p : Put) (made : List Put) → AreStagedNumbers puts used → IsNumberedTo puts front from made → IsNextFree used from n → is_file_want p.want ≡ true
    → IsNumberedTo puts (front ++ p ∷ []) (n + 1) (made ++ record { path = p.path; want = staged_want n p.want } ∷ [])
given puts front used from n p made same so_far next file = record {
  numbers = so_far.numbers ++ n ∷ [];
  free = record {
    rise = rises_push so_far.numbers n so_far.free.rise (All-weaker (λ m. m < from) (λ m. m < n) (λ m lt. let h = next.from_on in omega (arith, lt, h)) so_far.numbers so_far.below);
    free = All-push (λ m. names_staged puts m ≡ false) so_far.numbers n so_far.free.free (same_free puts used n false same next.free);
    least = least;
  };
  fit = All-push (λ m. m < 2 ^ 32) so_far.numbers n so_far.fit next.fits;
  enough = omega (arith, length-append so_far.numbers (n ∷ []), so_far.enough, count_push front p, ap {B = ℕ} (λ (b : Bool). cond b 1 0) file);
  writes = ap (λ (l : List Put). l ++ record { path = p.path; want = staged_want n p.want } ∷ []) so_far.writes ∙ sym (push_file so_far.numbers front n p so_far.enough);
  below = All-push (λ m. m < n + 1) so_far.numbers n (All-weaker (λ m. m < from) (λ m. m < n + 1) (λ m lt. let h = next.from_on in omega (arith, lt, h)) so_far.numbers so_far.below) (omega arith);
  seen = λ m lt. elim (cases_lt m n) [
    | inl before ↦ under m before
    | inr later ↦ inr (subst (Contains (so_far.numbers ++ n ∷ [])) (let e : n ≡ m = omega (arith, lt, later) in e) (Contains-push so_far.numbers n))
  ];
}
  where
    under : (m : ℕ) → m < n → (names_staged puts m ≡ true) ⊎ Contains (so_far.numbers ++ n ∷ []) m
    under m lt = elim (cases_lt m from) [
      | inl before ↦ ⊎_elim (λ used. inl used) (λ has. inr (Contains-append_left so_far.numbers (n ∷ []) m has)) (so_far.seen m before)
      | inr later ↦ inl (same_free puts used m true same (next.least m later lt))
    ]

    least : (m k : ℕ) → Contains (so_far.numbers ++ n ∷ []) k → m < k → (names_staged puts m ≡ true) ⊎ Contains (so_far.numbers ++ n ∷ []) m
    least m k has lt = ⊎_elim
        (λ old. ⊎_elim (λ used. inl used) (λ has. inr (Contains-append_left so_far.numbers (n ∷ []) m has)) (so_far.free.least m k old lt))
        (λ new. under m (let e : n ≡ k = new in omega (arith, lt, e)))
        (Contains-push_cases so_far.numbers n k has)

left : (puts front : List Put) (from : ℕ) (p : Put) (made : List Put) → IsNumberedTo puts front from made → is_file_want p.want ≡ false → IsNumberedTo puts (front ++ p ∷ []) from (made ++ p ∷ [])
left puts front from p made so_far none = record {
  numbers = so_far.numbers;
  free = so_far.free;
  fit = so_far.fit;
  enough = omega (arith, so_far.enough, count_push front p, ap {B = ℕ} (λ (b : Bool). cond b 1 0) none);
  writes = ap (λ (l : List Put). l ++ p ∷ []) so_far.writes ∙ sym (push_same so_far.numbers front p so_far.enough);
  below = so_far.below;
  seen = so_far.seen;
}

one_next : (puts front : List Put) (used : List ℕ) (p : Put) (from to : ℕ) (made : List Put) (q : Put) → AreStagedNumbers puts used → IsNumberedTo puts front from made → IsNumberedNext used p from to q → IsNumberedTo puts (front ++ p ∷ []) to (made ++ q ∷ [])
one_next puts front used p from to made q same so_far next = ⊎_elim
    (λ stays. subst (λ (n : ℕ). IsNumberedTo puts (front ++ p ∷ []) n (made ++ q ∷ [])) (sym stays.1)
    (subst (λ (x : Put). IsNumberedTo puts (front ++ p ∷ []) from (made ++ x ∷ [])) (sym stays.0) (left puts front from p made so_far stays.2)))
    (λ file. subst (λ (n : ℕ). IsNumberedTo puts (front ++ p ∷ []) n (made ++ q ∷ [])) (sym file.2)
    (subst (λ (x : Put). IsNumberedTo puts (front ++ p ∷ []) (file.0 + 1) (made ++ x ∷ [])) (sym file.4) (given puts front used from file.0 p made same so_far file.1 file.3)))
    next

-- the next write is that at k
pub one_more : (puts : List Put) (used : List ℕ) (k : ℕ) (p : Put) (from to : ℕ) (made more : List Put) (q : Put) → k < length puts → p ≡ get_or puts k p → AreStagedNumbers puts used
    → IsNumberedTo puts (take k puts) from made → IsNumberedNext used p from to q → more ≡ made ++ q ∷ [] → IsNumberedTo puts (take (k + 1) puts) to more
one_more puts used k p from to made more q lt is same so_far next pushed =
    subst (λ (l : List Put). IsNumberedTo puts (take (k + 1) puts) to l) (sym pushed)
    (subst (λ (l : List Put). IsNumberedTo puts l to (made ++ q ∷ [])) (ap (λ (x : Put). take k puts ++ x ∷ []) is ∙ sym (take_more puts k p lt))
    (one_next puts (take k puts) used p from to made q same so_far next))

pub all_numbered : (puts : List Put) (k from : ℕ) (made : List Put) → length puts ≤ k → IsNumberedTo puts (take k puts) from made → IsNumbered puts made
all_numbered puts k from made le so_far = record {
  numbers = so_far.numbers;
  free = so_far.free;
  fit = so_far.fit;
  enough = so_far.enough ∙ ap file_count (take_all k puts le);
  writes = so_far.writes ∙ ap (with_numbers so_far.numbers) (take_all k puts le);
}
