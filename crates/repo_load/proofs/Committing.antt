-- Two states that one tree stores are equal; and what a further commit makes of the tree.
use Rattle.std.proofs.Common.{◌≡◌, ℕ, ◌+◌, ◌<◌, ◌≤◌, ◌^◌, List, [], ◌∷◌, ◌++◌, length, Option, Some, None, All, refl, sym, ◌∙◌, ap, subst, arith, length-append}
use Rattle.std.specs.Prelude.{IsTrue}
use Rattle.std.specs.FinMap.{get}
use Rattle.repo_index.specs.cny-base.declared.limits.TheConstants.{COMMITS_LIMIT}
use Rattle.journal_log.specs.tree-disk.Tree.{Tree}
use Rattle.journal_log.proofs.tree-disk.Laws.{get_put_here, get_put_other}
use Rattle.journal_log.specs.Targets.{with_targets, node_of}
use Rattle.content_store.specs.Store.{content_path, file_bytes, stored}
use Rattle.repo_index.specs.trove-stream.Trove.{IsTrove}
use Rattle.repo_load.specs.State.{AreFollowing, Commit, troves_of, records_content, RepositoryState, IsRepository}
use Rattle.repo_load.specs.Files.{commit_bytes, commit_file, contents_dir, FitsTrove, HoldsCommit, HoldsFirst, StoresRepository}
use Rattle.repo_load.specs.Steps.{commit_put, IsCommitReady}
use Rattle.repo_load.proofs.FileNames.{commit_differs, content_differs}
use Rattle.repo_load.proofs.Holding.{CommitsDiffer, first_push, first_stays, one_list, some_bytes as some_equal}
use Rattle.repo_load.proofs.Following.{following_at}

-- ---- one state

-- what the one state has under a name the other has too
has : (x : Tree) (r s : RepositoryState) → StoresRepository x r → StoresRepository x s → r.commits ≡ s.commits → (name bytes : List ℕ) → r.contents name ≡ Some bytes → s.contents name ≡ Some bytes
has x r s one other commits name bytes is =
    let named = one.repository.named name bytes is in
    let there = other.repository.there name (length bytes) (subst (λ (l : List Commit). IsTrue (records_content name (length bytes) (troves_of l))) commits named.1) in
    let same = some_equal bytes there.0 (stored x contents_dir name) (one.contents name bytes is) (other.contents name there.0 there.1) in
    there.1 ∙ ap Some (sym same)

same_option : (a b : Option (List ℕ)) → ((bytes : List ℕ) → a ≡ Some bytes → b ≡ Some bytes) → ((bytes : List ℕ) → b ≡ Some bytes → a ≡ Some bytes) → a ≡ b
same_option None None left right = refl
same_option None (Some y) left right = right y refl
same_option (Some x) b left right = sym (left x refl)

pub one_state : CommitsDiffer → (x : Tree) (r s : RepositoryState) → StoresRepository x r → StoresRepository x s → r ≡ s
one_state differ x r s one other =
    let commits : r.commits ≡ s.commits = one_list differ x r.commits s.commits one.commits other.commits in
    let contents : (name : List ℕ) → r.contents name ≡ s.contents name =
    λ name. same_option (r.contents name) (s.contents name) (has x r s one other commits name) (has x s r other one (sym commits) name) in
    λ i. record { commits = commits i; contents = λ name. contents name i }

-- ---- one more commit

pub commit_before : (x x1 : Tree) (r new : RepositoryState) → StoresRepository x r → IsCommitReady r new x x1 → StoresRepository x1 r
commit_before x x1 r new h ready = record {
  repository = h.repository;
  commits = record {
    first = first_stays x x1 1 r.commits (λ k low high. ready.commits k (omega (arith, high))) h.commits.first;
    last = ready.commits (length r.commits + 1) (omega arith) ∙ h.commits.last;
  };
  contents = λ name bytes is. ap file_bytes (ready.kept name bytes is) ∙ h.contents name bytes is;
}

abbrev pub made : Tree → RepositoryState → ℕ → Commit → Tree
made x1 r mode troves = with_targets (commit_put (length r.commits + 1) mode troves ∷ []) x1

pub new_held : (x1 : Tree) (r : RepositoryState) (mode : ℕ) (troves : Commit) → (troves ≡ [] → ⊥) → All IsTrove troves → All FitsTrove troves → HoldsCommit (made x1 r mode troves) (length r.commits + 1) troves
new_held x1 r mode troves full are fits = record {
  bytes = commit_bytes troves;
  file = ap file_bytes (get_put_here x1 (commit_file (length r.commits + 1)) (node_of (commit_put (length r.commits + 1) mode troves).want));
  stream = record { full = full; troves_are = are; fits = fits; text = refl };
}

pub other_file : (x1 : Tree) (r : RepositoryState) (mode : ℕ) (troves : Commit) (k : ℕ) → length r.commits + 1 < 2 ^ 64 → k < 2 ^ 64 → (k ≡ length r.commits + 1 → ⊥)
    → get (made x1 r mode troves) (commit_file k) ≡ get x1 (commit_file k)
other_file x1 r mode troves k fits small other =
    get_put_other x1 (commit_file (length r.commits + 1)) (node_of (commit_put (length r.commits + 1) mode troves).want) (commit_file k) (commit_differs k (length r.commits + 1) small fits other)

pub commit_after : (x x1 : Tree) (r new : RepositoryState) (troves : Commit) (mode : ℕ) → StoresRepository x r → IsCommitReady r new x x1
    → IsRepository new → new.commits ≡ r.commits ++ troves ∷ [] → All FitsTrove troves
    → StoresRepository (with_targets (commit_put (length r.commits + 1) mode troves ∷ []) x1) new
commit_after x x1 r new troves mode h ready is commits fits =
    let y : Tree = made x1 r mode troves in
    let last : ℕ = length r.commits + 1 in
    let long : length new.commits ≡ last = ap length commits ∙ length-append r.commits (troves ∷ []) in
    let few : last ≤ COMMITS_LIMIT = omega (arith, long, is.commits_are.few) in
    let follow = following_at [] r.commits troves [] (subst (AreFollowing []) commits is.commits_are.following) in
    let kept = first_stays x y 1 r.commits (λ k low high. other_file x1 r mode troves k (omega (arith, few)) (omega (arith, few, high)) (λ e. omega (arith, high, e)) ∙ ready.commits k (omega (arith, high))) h.commits.first in
    record {
      repository = is;
      commits = record {
        first = subst (HoldsFirst y 1) (sym commits) (first_push y r.commits troves kept (new_held x1 r mode troves follow.full follow.troves_are fits));
        last = let behind : length new.commits + 1 ≡ length r.commits + 2 = omega (arith, long) in
            ap (λ (k : ℕ). get y (commit_file k)) behind
            ∙ other_file x1 r mode troves (length r.commits + 2) (omega (arith, few)) (omega (arith, few)) (λ e. omega (arith, e)) ∙ ready.nothing_behind;
      };
      contents = λ name bytes there.
          ap file_bytes (get_put_other x1 (commit_file last) (node_of (commit_put last mode troves).want) (content_path contents_dir name) (content_differs name last)) ∙ ready.added name bytes there;
    }
