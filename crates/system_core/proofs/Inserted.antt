-- A write among others, in the order of their paths.
use Rattle.std.proofs.Common.{◌≡◌, ◌⊎◌, inl, inr, ⊎_elim, ℕ, zero, suc, ◌<◌, Bool, true, false, ◌||◌, not, cond, List, [], ◌∷◌, ◌++◌, length, take, drop, get_or, All, Contains, refl, sym, subst, arith, take-append-drop, ap, ◌∙◌}
use Rattle.std.specs.declared.cmp.Ordering.TheVariants.{Less}
use Rattle.std.proofs.lemmas.List.Elements.{All-cons, All-head, All-nil, All-tail, Contains-append_left, Contains-append_right, Contains-append_cases, Contains-get_or}
use Rattle.rollback_stack.specs.journal-log.declared.put.Put.{Put}
use Rattle.rollback_stack.specs.journal-log.WriteSet.{ComesBefore, Rises}
use Rattle.rollback_stack.specs.journal-log.Targets.{is_target}
use Rattle.rollback_stack.proofs.tree-disk.Laws.{same_itself}
use Rattle.rollback_stack.specs.tree-disk.Tree.{Name, same_name}
use Rattle.local_db.specs.Steps.{IsUnion}
use Rattle.system_core.specs.Inserting.{without}
use Rattle.tree_journal.proofs.WriteSets.{first_before}
use Rattle.tree_journal.proofs.tree-disk.Order.{name_cmp}
use Rattle.conflict_plan.proofs.Order.{placed}

abbrev IsBefore : Put → Put → Type 0
IsBefore q p = name_cmp p.path q.path ≡ Less

abbrev IsNotBehind : Put → Put → Type 0
IsNotBehind q p = name_cmp q.path p.path ≡ Less → ⊥

rises_with : (q : Put) (front back : List Put) → Rises (front ++ back) → All (IsBefore q) front → ((d : Put) → 0 < length back → name_cmp q.path (get_or back 0 d).path ≡ Less) → Rises (front ++ q ∷ back)
rises_with q [] [] rises before behind = (tt, tt)
rises_with q [] (b ∷ back) rises before behind = (behind b (omega arith), rises)
rises_with q (a ∷ []) back rises before behind = (All-head (IsBefore q) a [] before, rises_with q [] back rises.1 (All-nil (IsBefore q)) behind)
rises_with q (a ∷ b ∷ front) back rises before behind = (rises.0, rises_with q (b ∷ front) back rises.1 (All-tail (IsBefore q) a (b ∷ front) before) behind)

union_with : (q : Put) (front back : List Put) → Rises (front ++ q ∷ back) → IsUnion (front ++ q ∷ back) (front ++ back) (q ∷ [])
union_with q front back rises = record {
  rises = rises;
  some_in = λ k d lt. in_all (get_or (front ++ back) k d) (Contains-get_or (front ++ back) k d lt);
  more_in = All-cons (Contains (front ++ q ∷ back)) q [] own (All-nil (Contains (front ++ q ∷ back)));
  no_other = λ k d lt. no_other (get_or (front ++ q ∷ back) k d) (Contains-get_or (front ++ q ∷ back) k d lt);
}
  where
    in_all : (p : Put) → Contains (front ++ back) p → Contains (front ++ q ∷ back) p
    in_all p there = ⊎_elim
        (λ a. Contains-append_left front (q ∷ back) p a)
        (λ b. Contains-append_right front (q ∷ back) p (Contains-append_right (q ∷ []) back p b))
        (Contains-append_cases front back p there)

    own : Contains (front ++ q ∷ back) q
    own = Contains-append_right front (q ∷ back) q (Contains-append_left (q ∷ []) back q (0, omega arith, refl))

    no_other : (p : Put) → Contains (front ++ q ∷ back) p → Contains (front ++ back) p ⊎ Contains (q ∷ []) p
    no_other p there = ⊎_elim
        (λ a. inl (Contains-append_left front back p a))
        (λ rest. ⊎_elim
        (λ one. inr one)
        (λ b. inl (Contains-append_right front back p b))
        (Contains-append_cases (q ∷ []) back p rest))
        (Contains-append_cases front (q ∷ back) p there)

-- a write that isn't behind another one, and isn't at its path, is before it
before_it : (q p : Put) (puts : List Put) → is_target (p ∷ puts) q.path ≡ false → IsNotBehind q p → IsBefore q p
before_it q p puts out not_behind = ⊎_elim
    (λ less. less)
    (λ other. ⊎_elim
    (λ same. absurd (hits same))
    (λ less. absurd (not_behind less)) other)
    (placed p.path q.path)
  where
    first : (b : Bool) → (b || is_target puts q.path) ≡ false → b ≡ false
    first true h = absurd (cc h)
    first false h = refl

    hits : p.path ≡ q.path → ⊥
    hits same = absurd (cc (first (same_name q.path p.path) out, subst (λ (n : Name). same_name q.path n ≡ true) (sym same) (same_itself q.path)))

rest_out : (q p : Put) (puts : List Put) → is_target (p ∷ puts) q.path ≡ false → is_target puts q.path ≡ false
rest_out q p puts out = at (same_name q.path p.path) out
  where
    at : (b : Bool) → (b || is_target puts q.path) ≡ false → is_target puts q.path ≡ false
    at true h = absurd (cc h)
    at false h = h

module _ (q : Put) where
  front_before : (puts : List Put) (at : ℕ) → is_target puts q.path ≡ false → All (IsNotBehind q) (take at puts) → All (IsBefore q) (take at puts)
  front_before [] zero out before = All-nil (IsBefore q)
  front_before [] (suc at) out before = All-nil (IsBefore q)
  front_before (p ∷ puts) zero out before = All-nil (IsBefore q)
  front_before (p ∷ puts) (suc at) out before = All-cons (IsBefore q) p (take at puts)
      (before_it q p puts out (All-head (IsNotBehind q) p (take at puts) before))
      (front_before puts at (rest_out q p puts out) (All-tail (IsNotBehind q) p (take at puts) before))

  first_behind : (puts : List Put) (at : ℕ) → ((d : Put) → at < length puts → name_cmp q.path (get_or puts at d).path ≡ Less)
      → (d : Put) → 0 < length (drop at puts) → name_cmp q.path (get_or (drop at puts) 0 d).path ≡ Less
  first_behind [] zero behind d some = absurd (omega arith)
  first_behind [] (suc at) behind d some = absurd (omega arith)
  first_behind (p ∷ puts) zero behind d some = behind d (omega arith)
  first_behind (p ∷ puts) (suc at) behind d some = first_behind puts at (λ d lt. behind d (omega (arith, lt))) d some

  module _ (puts : List Put) (at : ℕ) (rises : Rises puts) (out : is_target puts q.path ≡ false)
      (before : All (IsNotBehind q) (take at puts)) (behind : (d : Put) → at < length puts → name_cmp q.path (get_or puts at d).path ≡ Less) where
    pub rises_at : Rises (take at puts ++ q ∷ drop at puts)
    rises_at = rises_with q (take at puts) (drop at puts) (subst Rises (sym (take-append-drop at puts)) rises) (front_before puts at out before) (first_behind puts at behind)

    pub union_at : IsUnion (take at puts ++ q ∷ drop at puts) puts (q ∷ [])
    union_at = subst (λ (l : List Put). IsUnion (take at puts ++ q ∷ drop at puts) l (q ∷ [])) (take-append-drop at puts) (union_with q (take at puts) (drop at puts) rises_at)

-- ---- the writes but the one at a path

pub without_out : (path : Name) (puts : List Put) → is_target (without path puts) path ≡ false
without_out path [] = refl
without_out path (p ∷ puts) = at (same_name path p.path) refl (without_out path puts)
  where
    at : (b : Bool) → same_name path p.path ≡ b → is_target (without path puts) path ≡ false → is_target (cond (not b) (p ∷ without path puts) (without path puts)) path ≡ false
    at true is later = later
    at false is later = ap (λ (c : Bool). c || is_target (without path puts) path) is ∙ later

-- where none is at it, these are all
pub without_same : (path : Name) (puts : List Put) → is_target puts path ≡ false → without path puts ≡ puts
without_same path [] out = refl
without_same path (p ∷ puts) out = at (same_name path p.path) out (without_same path puts)
  where
    at : (b : Bool) → (b || is_target puts path) ≡ false → (is_target puts path ≡ false → without path puts ≡ puts) → cond (not b) (p ∷ without path puts) (without path puts) ≡ p ∷ puts
    at true out later = absurd (cc out)
    at false out later = ap (λ (l : List Put). p ∷ l) (later out)

comes_before : (path : Name) (p : Put) (puts : List Put) → ((q : Name) → is_target puts q ≡ true → name_cmp p.path q ≡ Less) → ComesBefore p (without path puts)
comes_before path p [] less = tt
comes_before path p (q ∷ puts) less = at (same_name path q.path) (comes_before path p puts (λ n is. less n (later (same_name n q.path) (is_target puts n) is)))
  where
    later : (a b : Bool) → b ≡ true → (a || b) ≡ true
    later true b is = refl
    later false b is = is

    at : (b : Bool) → ComesBefore p (without path puts) → ComesBefore p (cond (not b) (q ∷ without path puts) (without path puts))
    at true rest = rest
    at false rest = less q.path (ap (λ (c : Bool). c || is_target puts q.path) (same_itself q.path))

pub without_rises : (path : Name) (puts : List Put) → Rises puts → Rises (without path puts)
without_rises path [] rises = tt
without_rises path (p ∷ puts) rises = at (same_name path p.path) (without_rises path puts rises.1)
  where
    at : (b : Bool) → Rises (without path puts) → Rises (cond (not b) (p ∷ without path puts) (without path puts))
    at true rest = rest
    at false rest = (comes_before path p puts (first_before p puts rises), rest)
