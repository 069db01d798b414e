-- How many troves each commit has, file by file.
use Rattle.std.proofs.Common.{◌≡◌, ℕ, zero, suc, ◌+◌, ◌<◌, List, [], ◌∷◌, ◌++◌, length, map, refl, sym, ◌∙◌, ap, subst, arith, length-append}
use Rattle.journal_log.specs.tree-disk.Tree.{Tree}
use Rattle.repo_index.specs.Catalogue.{CatalogueParts}
use Rattle.repo_load.specs.State.{Commit}
use Rattle.repo_load.specs.Files.{HoldsCatalogue, HoldsCommit, HoldsFirst}
use Rattle.repo_load.proofs.Holding.{CommitsDiffer, one_held, next_held}
use Rattle.repo_load.specs.Loading.{HasCount}
use Rattle.repo_load.proofs.Resolved.{size_of}

-- the last of a list
record IsLast (commits : List Commit) : Type 0 where
  front : List Commit
  last : Commit
  is : commits ≡ front ++ last ∷ []

last_of : (c : Commit) (commits : List Commit) → IsLast (c ∷ commits)
last_of c [] = record { front = []; last = c; is = refl }
last_of c (d ∷ commits) = let rest = last_of d commits in record { front = c ∷ rest.front; last = rest.last; is = ap (λ (l : List Commit). c ∷ l) rest.is }

last_if : (commits : List Commit) (n : ℕ) → length commits ≡ n + 1 → IsLast commits
last_if [] n long = absurd (omega (arith, long))
last_if (c ∷ commits) n long = last_of c commits

first_front : (tree : Tree) (n : ℕ) (a b : List Commit) → HoldsFirst tree n (a ++ b) → HoldsFirst tree n a
first_front tree n [] b holds = tt
first_front tree n (c ∷ a) b holds = (holds.0, first_front tree (n + 1) a b holds.1)

sizes_push : (a : List Commit) (c : Commit) → map size_of (a ++ c ∷ []) ≡ map size_of a ++ length c ∷ []
sizes_push [] c = refl
sizes_push (d ∷ a) c = ap (λ (l : List ℕ). length d ∷ l) (sizes_push a c)

-- one commit more
pub one_counted : CommitsDiffer → (tree : Tree) (counts : List ℕ) (before number count : ℕ) → number ≡ before + 1
    → ((commits : List Commit) → HoldsFirst tree 1 commits → length commits ≡ before → counts ≡ map size_of commits) → HasCount number tree count
    → (new : List ℕ) → new ≡ counts ++ count ∷ []
    → (commits : List Commit) → HoldsFirst tree 1 commits → length commits ≡ before + 1 → new ≡ map size_of commits
one_counted differ tree counts before number count number_is so_far counted new new_is commits holds long =
    let split = last_if commits before long in
    let whole : HoldsFirst tree 1 (split.front ++ split.last ∷ []) = subst (HoldsFirst tree 1) split.is holds in
    let all : length commits ≡ length split.front + 1 = ap length split.is ∙ length-append split.front (split.last ∷ []) in
    let front_long : length split.front ≡ before = omega (arith, all, long) in
    let here : number ≡ length split.front + 1 = omega (arith, number_is, front_long) in
    let held : HoldsCommit tree (length split.front + 1) split.last = next_held tree split.front split.last [] whole in
    let same : counted.0 ≡ split.last = one_held differ tree (length split.front + 1) counted.0 split.last (subst (λ (n : ℕ). HoldsCommit tree n counted.0) here counted.1) held in
    let size : count ≡ length split.last = counted.2 ∙ ap size_of same in
    new_is ∙ ap (λ (l : List ℕ). l ++ count ∷ []) (so_far split.front (first_front tree 1 split.front (split.last ∷ []) whole) front_long)
    ∙ ap (λ (n : ℕ). map size_of split.front ++ n ∷ []) size ∙ sym (sizes_push split.front split.last) ∙ ap (map size_of) (sym split.is)

-- a commit stands at each number
held_at_number : (tree : Tree) (n : ℕ) (commits : List Commit) (before : ℕ) → HoldsFirst tree n commits → before < length commits → (troves : Commit) × HoldsCommit tree (n + before) troves
held_at_number tree n [] before holds few = absurd (omega (arith, few))
held_at_number tree n (c ∷ commits) zero holds few = let here : n ≡ n + 0 = omega arith in (c, subst (λ (k : ℕ). HoldsCommit tree k c) here holds.0)
held_at_number tree n (c ∷ commits) (suc before) holds few =
    let rest = held_at_number tree (n + 1) commits before holds.1 (omega (arith, few)) in
    let there : n + 1 + before ≡ n + suc before = omega arith in
    (rest.0, subst (λ (k : ℕ). HoldsCommit tree k rest.0) there rest.1)

pub commits_are : (tree : Tree) (catalogue : CatalogueParts) (holds : HoldsCatalogue tree catalogue) → catalogue.commits ≡ length holds.commits
commits_are tree catalogue holds = ap (λ (c : CatalogueParts). c.commits) holds.is

pub not_lacking : (tree : Tree) (catalogue : CatalogueParts) (before number : ℕ) → HoldsCatalogue tree catalogue → before < catalogue.commits → number ≡ before + 1
    → ((troves : Commit) → HoldsCommit tree number troves → ⊥) → ⊥
not_lacking tree catalogue before number holds few number_is lacks =
    let found = held_at_number tree 1 holds.commits before holds.holds.first (omega (arith, few, commits_are tree catalogue holds)) in
    let here : 1 + before ≡ number = omega (arith, number_is) in
    lacks found.0 (subst (λ (k : ℕ). HoldsCommit tree k found.0) here found.1)
