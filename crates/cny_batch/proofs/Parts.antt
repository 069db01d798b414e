-- The parts of a line, cut from its front.
use Rattle.std.proofs.Common.{◌≡◌, ℕ, ◌+◌, ◌-◌, ◌<◌, ◌≤◌, Bool, true, false, cond, ◌&&◌, ◌||◌, not, ◌==◌, nat_lt, List, [], ◌∷◌, ◌++◌, length, get_or, take, drop, refl, sym, ap, ◌∙◌, inl, inr, subst, arith}
use Rattle.std.specs.List.{list_any, onto_first}
use Rattle.std.proofs.lemmas.Bool.{cases_lt, lt-ltb, le-ltb, ne_eqb}
use Rattle.std.proofs.lemmas.Bool.Decides.{nat_tests}
use Rattle.std.proofs.lemmas.List.{take_more, drop_all, drop-drop, drop-append-le, length_push, length-drop}
use Rattle.std.proofs.lemmas.List.Folds.{list_any-append}
use Rattle.cny_base.proofs.Bools.{or_false}
use Rattle.cny_batch.specs.Words.{is_close, is_in_brackets, parts_from, parts_of}
use Rattle.cny_batch.specs.Reading.{AreBehind}

-- ---- bytes in front of the first part

abbrev pub in_front : List ℕ → List (List ℕ) → List (List ℕ)
in_front front [] = front ∷ []
in_front front (part ∷ parts) = (front ++ part) ∷ parts

none_in_front : (t : Bool) (b : ℕ) (xs ys : List (List ℕ)) → in_front [] (cond t ([] ∷ xs) (onto_first b ys)) ≡ cond t ([] ∷ xs) (onto_first b ys)
none_in_front true b xs ys = refl
none_in_front false b xs [] = refl
none_in_front false b xs (y ∷ ys) = refl

pub parts_begin : (line : List ℕ) → parts_of line ≡ in_front [] (parts_from false line)
parts_begin [] = refl
parts_begin (b ∷ bs) = sym (none_in_front (b == 32 && not false) b (parts_from false bs) (parts_from (is_in_brackets false b (list_any is_close bs)) bs))

-- ---- what is behind the last `]`

pub none_behind : AreBehind 0 []
none_behind k le =
    let nothing : List ℕ = [] in
    ap (list_any is_close) (drop_all k nothing (omega arith)) ∙ sym (le-ltb 0 (length nothing - k) (omega arith))

closed : (x : Bool) → (x || true) ≡ true
closed true = refl
closed false = refl

at_end : (behind : ℕ) (text : List ℕ) (b k : ℕ) → length text < k → list_any is_close (drop k (text ++ b ∷ [])) ≡ nat_lt behind (length (text ++ b ∷ []) - k)
at_end behind text b k past =
    ap (list_any is_close) (drop_all k (text ++ b ∷ []) (omega (arith, length_push text b)))
    ∙ sym (le-ltb behind (length (text ++ b ∷ []) - k) (omega (arith, length_push text b)))

one_more : (text : List ℕ) (b k : ℕ) → k ≤ length text → list_any is_close (drop k (text ++ b ∷ [])) ≡ (list_any is_close (drop k text) || is_close b)
one_more text b k within =
    ap (list_any is_close) (drop-append-le k text (b ∷ []) within)
    ∙ list_any-append is_close (drop k text) (b ∷ [])
    ∙ ap (λ v. list_any is_close (drop k text) || v) (or_false (is_close b))

pub behind_close : (behind : ℕ) (text : List ℕ) (b : ℕ) → is_close b ≡ true → AreBehind behind text → AreBehind 0 (text ++ b ∷ [])
behind_close behind text b close are k le = elim (cases_lt (length text) k) [
  | inl past ↦ at_end 0 text b k past
  | inr within ↦
      one_more text b k within
      ∙ ap (λ v. list_any is_close (drop k text) || v) close
      ∙ closed (list_any is_close (drop k text))
      ∙ sym (lt-ltb 0 (length (text ++ b ∷ []) - k) (omega (arith, length_push text b)))
]

less_by_one : (behind m n : ℕ) → n ≡ m + 1 → nat_lt behind m ≡ nat_lt (behind + 1) n
less_by_one behind m n e = grind (arith, nat_tests)

pub behind_other : (behind : ℕ) (text : List ℕ) (b : ℕ) → is_close b ≡ false → AreBehind behind text → AreBehind (behind + 1) (text ++ b ∷ [])
behind_other behind text b other are k le = elim (cases_lt (length text) k) [
  | inl past ↦ at_end (behind + 1) text b k past
  | inr within ↦
      one_more text b k within
      ∙ ap (λ v. list_any is_close (drop k text) || v) other
      ∙ or_false (list_any is_close (drop k text))
      ∙ are k within
      ∙ less_by_one behind (length text - k) (length (text ++ b ∷ []) - k) (omega (arith, length_push text b))
]

-- what is left of a line has as many behind its last `]`
pub behind_rest : (behind : ℕ) (text : List ℕ) (n : ℕ) → n ≤ length text → AreBehind behind text → AreBehind behind (drop n text)
behind_rest behind text n le are k within =
    ap (list_any is_close) (drop-drop k n text)
    ∙ are (n + k) (omega (arith, length-drop n text))
    ∙ ap (nat_lt behind) (omega (arith, length-drop n text))

-- ---- one byte more, as the code reads it

pub next_close : (text : List ℕ) (i behind next : ℕ) → i < length text → get_or text i 0 ≡ 93 → next ≡ 0 → AreBehind behind (take i text) → AreBehind next (take (i + 1) text) × (next ≤ i + 1)
next_close text i behind next lt byte none are =
    let here : AreBehind 0 (take i text ++ get_or text i 0 ∷ []) = behind_close behind (take i text) (get_or text i 0) (ap is_close byte) are in
    let all : AreBehind 0 (take (i + 1) text) = subst (AreBehind 0) (sym (take_more text i 0 lt)) here in
    (subst (λ (n : ℕ). AreBehind n (take (i + 1) text)) (sym none) all, omega arith)

pub next_other : (text : List ℕ) (i behind next : ℕ) → i < length text → (get_or text i 0 ≡ 93 → ⊥) → next ≡ behind + 1 → behind ≤ i → AreBehind behind (take i text)
    → AreBehind next (take (i + 1) text) × (next ≤ i + 1)
next_other text i behind next lt byte more few are =
    let here : AreBehind (behind + 1) (take i text ++ get_or text i 0 ∷ []) = behind_other behind (take i text) (get_or text i 0) (ne_eqb (get_or text i 0) 93 byte) are in
    let all : AreBehind (behind + 1) (take (i + 1) text) = subst (AreBehind (behind + 1)) (sym (take_more text i 0 lt)) here in
    (subst (λ (n : ℕ). AreBehind n (take (i + 1) text)) (sym more) all, omega arith)
