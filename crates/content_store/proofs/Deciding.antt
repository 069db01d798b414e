-- How a change that may be refused follows from steps of a disk: one line at each exit.
use Rattle.std.proofs.Common.{◌≡◌, ℕ, ◌≤◌, Bool, Result, Ok, Err, refl, sym, ◌∙◌, ap, subst, arith}
use Rattle.std.specs.Prelude.{IfErr, IsTrue, IsErrAnd, OnOk}
use Rattle.tree_disk.specs.cny-base.declared.refusal.Refusal.{Refusal}
use Rattle.tree_disk.specs.cny-base.declared.stop.Stop.{Stop}
use Rattle.tree_disk.specs.cny-base.declared.stop.Stop.TheVariants.{Refused, Memory, Failed, Damaged, FarFailed, FarDamaged}
use Rattle.tree_disk.specs.Tree.{Name, Tree}
use Rattle.tree_disk.specs.Disk.{DiskModel, IsDisk}
use Rattle.tree_disk.proofs.Moments.{rose_before}
use Rattle.tree_disk.specs.Confined.{Among, Confined}
use Rattle.std.specs.FinMap.{get}
use Rattle.tree_disk.specs.Clear.{is_within, without_tree, IsBare}
use Rattle.tree_disk.proofs.ClearLaws.{bare_without}
use Rattle.tree_disk.proofs.ConfinedLaws.{confined_read, confined_start, confined_then, confined_wider}
use Rattle.tree_disk.specs.Steps.{IsDiskStop, Found, Tests, Ended, Makes, Within}
use Rattle.content_store.specs.Outcome.{if_passed, Decides, EndsWith, PutStops}

-- ---- how it ends

found_ends : (told : Bool) (test : Result Unit Refusal) (outcome : Result Tree Refusal) (old new : Tree) (r : Result Unit Stop) (a b : ℕ)
    → (IsTrue told → new ≡ old) → (IsTrue told → outcome ≡ if_passed old test) → Found (λ (u : Unit). u) told test r a b → EndsWith told outcome old new r a b
found_ends told test outcome old new (Ok u) a b same is found = λ tells. is tells ∙ ap (if_passed old) (found tells) ∙ ap Ok (sym (same tells))
found_ends told test outcome old new (Err (Refused refusal)) a b same is found = λ tells. (is tells ∙ ap (if_passed old) (found tells), same tells)
found_ends told test outcome old new (Err Failed) a b same is found = found
found_ends told test outcome old new (Err Memory) a b same is found = tt
found_ends told test outcome old new (Err (Damaged path)) a b same is found = found
found_ends told test outcome old new (Err FarFailed) a b same is found = found
found_ends told test outcome old new (Err (FarDamaged path)) a b same is found = found

made_ends : {X : Type 0} (told : Bool) (outcome : Result Tree Refusal) (old after new : Tree) (r : Result X Stop) (a b : ℕ)
    → (IsTrue told → outcome ≡ Ok after) → Ended told after new r a b → EndsWith told outcome old new r a b
made_ends told outcome old after new (Ok x) a b is ended = λ tells. is tells ∙ ap Ok (sym (ended tells))
made_ends told outcome old after new (Err (Refused refusal)) a b is ended = absurd ended
made_ends told outcome old after new (Err Failed) a b is ended = ended
made_ends told outcome old after new (Err Memory) a b is ended = tt
made_ends told outcome old after new (Err (Damaged path)) a b is ended = ended
made_ends told outcome old after new (Err FarFailed) a b is ended = ended
made_ends told outcome old after new (Err (FarDamaged path)) a b is ended = ended

ends_as : {X : Type 0} (told : Bool) (outcome goal : Result Tree Refusal) (mid old new : Tree) (r : Result X Stop) (a b c : ℕ) → a ≤ b
    → (IsTrue told → outcome ≡ goal) → (IsTrue told → mid ≡ old) → EndsWith told outcome mid new r b c → EndsWith told goal old new r a c
ends_as told outcome goal mid old new (Ok x) a b c le is same ends = λ tells. sym (is tells) ∙ ends tells
ends_as told outcome goal mid old new (Err (Refused refusal)) a b c le is same ends = λ tells. (sym (is tells) ∙ (ends tells).0, (ends tells).1 ∙ same tells)
ends_as told outcome goal mid old new (Err Failed) a b c le is same ends = rose_before a b c le ends
ends_as told outcome goal mid old new (Err Memory) a b c le is same ends = tt
ends_as told outcome goal mid old new (Err (Damaged path)) a b c le is same ends = ends
ends_as told outcome goal mid old new (Err FarFailed) a b c le is same ends = ends
ends_as told outcome goal mid old new (Err (FarDamaged path)) a b c le is same ends = ends

-- a stop that is passed on by `?`
ends_stop : (X : Type 0) {Z : Type 0} (told : Bool) (outcome : Result Tree Refusal) (old new : Tree) (e : Stop) (r : Result Z Stop) (a b : ℕ)
    → IsErrAnd r (λ s. s ≡ e) → EndsWith {X = X} told outcome old new (Err e) a b → EndsWith told outcome old new r a b
ends_stop X told outcome old new e (Ok z) a b is ends = absurd is
ends_stop X {Z = Z} told outcome old new e (Err s) a b is ends = subst (λ x. EndsWith {X = Z} told outcome old new (Err x) a b) (sym is) (by e ends)
  where
    by : (e : Stop) → EndsWith {X = X} told outcome old new (Err e) a b → EndsWith {X = Z} told outcome old new (Err e) a b
    by (Refused refusal) ends = ends
    by Failed ends = ends
    by Memory ends = ends
    by (Damaged path) ends = ends
    by FarFailed ends = ends
    by (FarDamaged path) ends = ends

-- a test that stopped
stop_ends : {X Y Z : Type 0} (view : X → Y) (told : Bool) (expected : Result Y Refusal) (outcome : Result Tree Refusal) (old new : Tree) (e : Stop) (r : Result Z Stop) (a b : ℕ)
    → IsDiskStop e → IsErrAnd r (λ s. s ≡ e) → Found view told expected (Err e) a b → EndsWith told outcome old new r a b
stop_ends view told expected outcome old new e (Ok z) a b stop is found = absurd is
stop_ends {Z = Z} view told expected outcome old new e (Err s) a b stop is found = subst (λ x. EndsWith {X = Z} told outcome old new (Err x) a b) (sym is) (by e stop found)
  where
    by : (e : Stop) → IsDiskStop e → Found view told expected (Err e) a b → EndsWith {X = Z} told outcome old new (Err e) a b
    by (Refused refusal) stop found = absurd stop
    by Failed stop found = found
    by Memory stop found = tt
    by (Damaged path) stop found = absurd stop
    by FarFailed stop found = absurd stop
    by (FarDamaged path) stop found = absurd stop

memory_ends : {Z : Type 0} (told : Bool) (outcome : Result Tree Refusal) (old new : Tree) (r : Result Z Stop) (a b : ℕ) → IsErrAnd r (λ s. s ≡ Memory)
    → EndsWith told outcome old new r a b
memory_ends told outcome old new (Ok z) a b is = absurd is
memory_ends {Z = Z} told outcome old new (Err s) a b is = subst (λ x. EndsWith {X = Z} told outcome old new (Err x) a b) (sym is) tt

-- ---- why it stops

test_stop : {X Y : Type 0} (view : X → Y) (told : Bool) (expected : Result Y Refusal) (may : Refusal → Type 0) (e : Stop) (a b : ℕ)
    → IsDiskStop e → Found view told expected (Err e) a b → PutStops may a b e
test_stop view told expected may (Refused refusal) a b stop found = absurd stop
test_stop view told expected may Failed a b stop found = found
test_stop view told expected may Memory a b stop found = tt
test_stop view told expected may (Damaged path) a b stop found = absurd stop
test_stop view told expected may FarFailed a b stop found = absurd stop
test_stop view told expected may (FarDamaged path) a b stop found = absurd stop

later_stop : (may : Refusal → Type 0) (a b c : ℕ) (e : Stop) → a ≤ b → PutStops may b c e → PutStops may a c e
later_stop may a b c (Refused refusal) le stops = stops
later_stop may a b c Failed le stops = rose_before a b c le stops
later_stop may a b c Memory le stops = tt
later_stop may a b c (Damaged path) le stops = stops
later_stop may a b c FarFailed le stops = stops
later_stop may a b c (FarDamaged path) le stops = stops

made_stop : {X : Type 0} (told : Bool) (after new : Tree) (may : Refusal → Type 0) (r : Result X Stop) (a b : ℕ)
    → Ended told after new r a b → IfErr r (PutStops may a b)
made_stop told after new may (Ok x) a b ended = tt
made_stop told after new may (Err (Refused refusal)) a b ended = absurd ended
made_stop told after new may (Err Failed) a b ended = ended
made_stop told after new may (Err Memory) a b ended = tt
made_stop told after new may (Err (Damaged path)) a b ended = ended
made_stop told after new may (Err FarFailed) a b ended = ended
made_stop told after new may (Err (FarDamaged path)) a b ended = ended

-- a stop, passed on by `?`
pub stops_passed : {Z : Type 0} (P : Stop → Type 0) {e : Stop} (r : Result Z Stop) → P e → IsErrAnd r (λ s. s ≡ e) → IfErr r P
stops_passed P (Ok z) holds is = absurd is
stops_passed P (Err s) holds is = subst P (sym is) holds

-- after calls that came before
pub stops_later : {Z : Type 0} (may : Refusal → Type 0) {a b : ℕ} (c : ℕ) (r : Result Z Stop) → a ≤ b → IfErr r (PutStops may b c) → IfErr r (PutStops may a c)
stops_later may c (Ok z) le stops = tt
stops_later may {a = a} {b = b} c (Err e) le stops = later_stop may a b c e le stops

module _ {D : Type 0} {disk : DiskModel D} where
  -- a test that stopped, passed on by `?`
  pub stops_test : {X Y Z : Type 0} {view : X → Y} {test : Tree → Result Y Refusal} (may : Refusal → Type 0) {old new : D} {e : Stop} (r : Result Z Stop)
      → Tests disk view test old new (Err e) → IsDiskStop e → IsErrAnd r (λ s. s ≡ e) → IfErr r (PutStops may (disk.faults old) (disk.faults new))
  stops_test {view = view} may {old = old} {new = new} {e = e} r tested stop is =
      stops_passed (PutStops may (disk.faults old) (disk.faults new)) r (test_stop view disk.tells _ may e _ _ stop tested.found) is

  -- a change that stopped
  pub stops_makes : {X : Type 0} {few : Name → Bool} {change : Tree → Tree} (may : Refusal → Type 0) {old new : D} {r : Result X Stop}
      → Makes disk few change old new r → IfErr r (PutStops may (disk.faults old) (disk.faults new))
  stops_makes may {r = r} made = made_stop disk.tells _ _ may r _ _ made.ended

  -- a change that isn't refused
  pub decides_makes : {X : Type 0} {few : Name → Bool} {names : Tree → Name → Bool} {change : Tree → Tree} {outcome : Tree → Result Tree Refusal} {old new : D} {r : Result X Stop}
      → Makes disk few change old new r → (IsTrue disk.tells → Within few (names (disk.reads old))) → (IsTrue disk.tells → outcome (disk.reads old) ≡ Ok (change (disk.reads old)))
      → Decides disk names outcome old new r
  decides_makes {r = r} made within is = record {
    later = made.later;
    ends = made_ends disk.tells _ _ _ _ r _ _ is made.ended;
    confined = λ tells. confined_wider (within tells) (made.confined tells);
  }

  -- the same, said otherwise
  pub decides_as : {X : Type 0} {names many : Tree → Name → Bool} {outcome goal : Tree → Result Tree Refusal} {old new : D} {r : Result X Stop}
      → Decides disk names outcome old new r → (IsTrue disk.tells → Within (names (disk.reads old)) (many (disk.reads old)))
      → (IsTrue disk.tells → outcome (disk.reads old) ≡ goal (disk.reads old)) → Decides disk many goal old new r
  decides_as {r = r} decided within is = record {
    later = decided.later;
    ends = ends_as disk.tells _ _ _ _ _ r _ _ _ (omega arith) is (λ tells. refl) decided.ends;
    confined = λ tells. confined_wider (within tells) (decided.confined tells);
  }

  -- an answer without another call
  pub decides_ok : {X Z : Type 0} {names : Tree → Name → Bool} {outcome : Tree → Result Tree Refusal} {old new : D} {x : X} (z : Z)
      → Decides disk names outcome old new (Ok x) → Decides disk names outcome old new (Ok z)
  decides_ok z decided = record { later = decided.later; ends = decided.ends; confined = decided.confined }

  -- a stop, passed on by `?`
  pub decides_stop : {X Z : Type 0} {names : Tree → Name → Bool} {outcome : Tree → Result Tree Refusal} {old new : D} {e : Stop} {r : Result Z Stop}
      → Decides {X = X} disk names outcome old new (Err e) → IsErrAnd r (λ s. s ≡ e) → Decides disk names outcome old new r
  decides_stop {X = X} {e = e} {r = r} decided is = record {
    later = decided.later;
    ends = ends_stop X disk.tells _ _ _ e r _ _ is decided.ends;
    confined = decided.confined;
  }

  -- what the tree then is, where it ended well
  pub decided_tree : {X : Type 0} {names : Tree → Name → Bool} {outcome : Tree → Result Tree Refusal} {old new : D} {x : X}
      → Decides disk names outcome old new (Ok x) → IsTrue disk.tells → outcome (disk.reads old) ≡ Ok (disk.reads new)
  decided_tree decided tells = decided.ends tells

  -- what stands at a name that was cleared, and below it
  pub cleared_bare : {old new : D} {r : Result (Unit {0}) Stop} {p : Name} (goal : Name) → p ≡ goal
      → Makes disk (is_within p) (λ tree. without_tree tree p) old new r → IsTrue disk.tells → OnOk r (IsBare (disk.reads new) goal)
  cleared_bare {old = old} {new = new} {r = r} {p = p} goal is made tells = subst (λ (n : Name). OnOk r (IsBare (disk.reads new) n)) is (by r made.ended)
    where
      by : (r : Result (Unit {0}) Stop) → Ended disk.tells (without_tree (disk.reads old) p) (disk.reads new) r (disk.faults old) (disk.faults new) → OnOk r (IsBare (disk.reads new) p)
      by (Ok u) ended = λ q within. ap (λ tree. get tree q) (ended tells) ∙ bare_without (disk.reads old) p q within
      by (Err e) ended = tt

  module _ (laws : IsDisk disk) where
    -- a test that decides, and nothing is changed
    pub decides_test : {names : Tree → Name → Bool} {test : Tree → Result Unit Refusal} {outcome : Tree → Result Tree Refusal} {old new : D} {r : Result Unit Stop}
        → Tests disk (λ (u : Unit). u) test old new r → (IsTrue disk.tells → outcome (disk.reads old) ≡ if_passed (disk.reads old) (test (disk.reads old)))
        → Decides disk names outcome old new r
    decides_test {names = names} {old = old} {r = r} tested is = record {
      later = tested.later;
      ends = found_ends disk.tells _ _ _ _ r _ _ (λ tells. (tested.same tells).same.reads) is tested.found;
      confined = λ tells. confined_read laws (Among (names (disk.reads old))) (tested.same tells);
    }

    -- a test that stopped, passed on by `?`
    pub decides_test_stop : {X Y Z : Type 0} {view : X → Y} {test : Tree → Result Y Refusal} {names : Tree → Name → Bool} {outcome : Tree → Result Tree Refusal} {old new : D} {e : Stop} {r : Result Z Stop}
        → Tests disk view test old new (Err e) → IsDiskStop e → IsErrAnd r (λ s. s ≡ e) → Decides disk names outcome old new r
    decides_test_stop {view = view} {names = names} {old = old} {e = e} {r = r} tested stop is = record {
      later = tested.later;
      ends = stop_ends view disk.tells _ _ _ _ e r _ _ stop is tested.found;
      confined = λ tells. confined_read laws (Among (names (disk.reads old))) (tested.same tells);
    }

    -- want of memory before any call
    pub decides_memory : {Z : Type 0} {names : Tree → Name → Bool} {outcome : Tree → Result Tree Refusal} {r : Result Z Stop} (d : D)
        → IsErrAnd r (λ s. s ≡ Memory) → Decides disk names outcome d d r
    decides_memory {names = names} {r = r} d is = record {
      later = omega arith;
      ends = memory_ends disk.tells _ _ _ r _ _ is;
      confined = λ tells. confined_start laws (Among (names (disk.reads d))) d;
    }

    -- after a test that passed
    pub decides_after : {X Y Z : Type 0} {view : X → Y} {test : Tree → Result Y Refusal} {names : Tree → Name → Bool} {outcome : Tree → Result Tree Refusal} {old mid new : D} {x : X} {r : Result Z Stop}
        → Tests disk view test old mid (Ok x) → Decides disk names outcome mid new r → Decides disk names outcome old new r
    decides_after {names = names} {outcome = outcome} {old = old} {mid = mid} {new = new} {r = r} tested decided = record {
      later = omega (arith, tested.later, decided.later);
      ends = ends_as disk.tells _ _ _ _ _ r _ _ _ tested.later (λ tells. ap outcome (tested.same tells).same.reads) (λ tells. (tested.same tells).same.reads) decided.ends;
      confined = λ tells. confined_then (confined_read laws (Among (names (disk.reads old))) (tested.same tells))
          (subst (λ (t : Tree). Confined disk (Among (names t)) mid new) (tested.same tells).same.reads (decided.confined tells));
    }
