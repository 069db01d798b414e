-- What a tree's files hold is one list of commits, and stays where they do.
use Rattle.std.proofs.Common.{◌≡◌, ℕ, ◌+◌, ◌<◌, ◌≤◌, List, [], ◌∷◌, ◌++◌, length, Option, Some, None, refl, sym, ◌∙◌, ap, subst, arith}
use Rattle.std.specs.FinMap.{get}
use Rattle.journal_log.specs.tree-disk.Tree.{Tree}
use Rattle.content_store.specs.Store.{file_bytes}
use Rattle.repo_load.specs.State.{Commit}
use Rattle.repo_load.specs.Files.{commit_file, HoldsCommit, HoldsFirst, HoldsCommits, IsCommitStream}

-- bytes are the stream of one commit
abbrev pub CommitsDiffer : Type 0
CommitsDiffer = (one other : Commit) (bytes : List ℕ) → IsCommitStream one bytes → IsCommitStream other bytes → one ≡ other

pub some_bytes : (a b : List ℕ) (o : Option (List ℕ)) → o ≡ Some a → o ≡ Some b → a ≡ b
some_bytes a b None one other = absurd (cc one)
some_bytes a b (Some c) one other = cc (one, other)

pub one_held : CommitsDiffer → (x : Tree) (n : ℕ) (a b : Commit) → HoldsCommit x n a → HoldsCommit x n b → a ≡ b
one_held differ x n a b one other =
    differ a b one.bytes one.stream (subst (IsCommitStream b) (some_bytes other.bytes one.bytes (file_bytes (get x (commit_file n))) other.file one.file) other.stream)

-- where a commit is held something stands
pub held_stands : (x : Tree) (n : ℕ) (c : Commit) → HoldsCommit x n c → get x (commit_file n) ≡ None → ⊥
held_stands x n c held none = absurd (cc (held.file, ap file_bytes none))

-- of two lists of first commits one is the beginning of the other
pub data Prefix (a b : List Commit) : Type 0 where
  equal_lists : a ≡ b → Prefix a b
  is_longer : (c : Commit) (rest : List Commit) → a ≡ b ++ c ∷ rest → Prefix a b
  is_shorter : (c : Commit) (rest : List Commit) → b ≡ a ++ c ∷ rest → Prefix a b

prefix_more : (c d : Commit) (a b : List Commit) → c ≡ d → Prefix a b → Prefix (c ∷ a) (d ∷ b)
prefix_more c d a b is (equal_lists e) = equal_lists (λ i. is i ∷ e i)
prefix_more c d a b is (is_longer f rest e) = is_longer f rest (λ i. is i ∷ e i)
prefix_more c d a b is (is_shorter f rest e) = is_shorter f rest (λ i. sym is i ∷ e i)

pub prefix_of : CommitsDiffer → (x : Tree) (n : ℕ) (a b : List Commit) → HoldsFirst x n a → HoldsFirst x n b → Prefix a b
prefix_of differ x n [] [] one other = equal_lists refl
prefix_of differ x n [] (d ∷ b) one other = is_shorter d b refl
prefix_of differ x n (c ∷ a) [] one other = is_longer c a refl
prefix_of differ x n (c ∷ a) (d ∷ b) one other =
    prefix_more c d a b (one_held differ x n c d one.0 other.0) (prefix_of differ x (n + 1) a b one.1 other.1)

-- the commit at a place
pub held_at : (x : Tree) (n : ℕ) (a : List Commit) (c : Commit) (b : List Commit) → HoldsFirst x n (a ++ c ∷ b) → HoldsCommit x (n + length a) c
held_at x n [] c b holds = let here : n ≡ n + 0 = omega arith in subst (λ (k : ℕ). HoldsCommit x k c) here holds.0
held_at x n (d ∷ a) c b holds =
    let there : n + 1 + length a ≡ n + length (d ∷ a) = omega arith in subst (λ (k : ℕ). HoldsCommit x k c) there (held_at x (n + 1) a c b holds.1)

swap_sum : (n : ℕ) → 1 + n ≡ n + 1
swap_sum n = omega arith

pub next_held : (x : Tree) (a : List Commit) (c : Commit) (b : List Commit) → HoldsFirst x 1 (a ++ c ∷ b) → HoldsCommit x (length a + 1) c
next_held x a c b holds = subst (λ (k : ℕ). HoldsCommit x k c) (swap_sum (length a)) (held_at x 1 a c b holds)

one_of : (x : Tree) (a b : List Commit) → HoldsCommits x a → HoldsCommits x b → Prefix a b → a ≡ b
one_of x a b one other (equal_lists e) = e
one_of x a b one other (is_longer c rest e) = absurd (held_stands x (length b + 1) c (next_held x b c rest (subst (HoldsFirst x 1) e one.first)) other.last)
one_of x a b one other (is_shorter c rest e) = absurd (held_stands x (length a + 1) c (next_held x a c rest (subst (HoldsFirst x 1) e other.first)) one.last)

pub one_list : CommitsDiffer → (x : Tree) (a b : List Commit) → HoldsCommits x a → HoldsCommits x b → a ≡ b
one_list differ x a b one other = one_of x a b one other (prefix_of differ x 1 a b one.first other.first)

-- ---- one more

first_push_at : (x : Tree) (n : ℕ) (a : List Commit) (c : Commit) → HoldsFirst x n a → HoldsCommit x (n + length a) c → HoldsFirst x n (a ++ c ∷ [])
first_push_at x n [] c first held = let here : n + 0 ≡ n = omega arith in (subst (λ (k : ℕ). HoldsCommit x k c) here held, tt)
first_push_at x n (d ∷ a) c first held =
    let there : n + length (d ∷ a) ≡ n + 1 + length a = omega arith in
    (first.0, first_push_at x (n + 1) a c first.1 (subst (λ (k : ℕ). HoldsCommit x k c) there held))

pub first_push : (x : Tree) (a : List Commit) (c : Commit) → HoldsFirst x 1 a → HoldsCommit x (length a + 1) c → HoldsFirst x 1 (a ++ c ∷ [])
first_push x a c first held = first_push_at x 1 a c first (subst (λ (k : ℕ). HoldsCommit x k c) (sym (swap_sum (length a))) held)

-- ---- other trees

pub held_stays : (x y : Tree) (n : ℕ) (c : Commit) → get y (commit_file n) ≡ get x (commit_file n) → HoldsCommit x n c → HoldsCommit y n c
held_stays x y n c same held = record { bytes = held.bytes; file = ap file_bytes same ∙ held.file; stream = held.stream }

pub first_stays : (x y : Tree) (n : ℕ) (a : List Commit) → ((k : ℕ) → n ≤ k → k < n + length a → get y (commit_file k) ≡ get x (commit_file k)) → HoldsFirst x n a → HoldsFirst y n a
first_stays x y n [] same holds = tt
first_stays x y n (c ∷ a) same holds = (
  held_stays x y n c (same n (omega arith) (omega arith)) holds.0,
  first_stays x y (n + 1) a (λ k low high. same k (omega (arith, low)) (omega (arith, high))) holds.1,
)
