-- The catalogue after a further commit, and that of a tree which stores the same.
use Rattle.std.proofs.Common.{◌≡◌, ℕ, ◌+◌, ◌<◌, ◌≤◌, ◌^◌, Bool, true, false, cond, List, [], ◌∷◌, ◌++◌, length, find, Some, All, refl, sym, ◌∙◌, ap, subst, arith, length-append, ⊎_elim, inl, inr}
use Rattle.std.specs.Prelude.{IsSome}
use Rattle.std.specs.FinMap.{get}
use Rattle.std.proofs.lemmas.List.Elements.{All-append, All-weaker}
use Rattle.repo_index.specs.cny-base.declared.limits.TheConstants.{COMMITS_LIMIT}
use Rattle.repo_index.specs.trove-parts.declared.id.TroveId.{TroveId}
use Rattle.repo_index.specs.trove-stream.declared.parts.TroveParts.{TroveParts}
use Rattle.journal_log.specs.tree-disk.Tree.{Name, Tree}
use Rattle.journal_log.proofs.tree-disk.Laws.{get_put_here, get_put_other}
use Rattle.journal_log.specs.Own.{StoresSame}
use Rattle.journal_log.specs.Targets.{with_targets, node_of}
use Rattle.content_store.specs.Store.{content_path, file_bytes}
use Rattle.repo_index.specs.Catalogue.{has_id, found, CatalogueParts}
use Rattle.repo_load.specs.State.{AreCommits, Commit, catalogue_of, troves_of, HasRefs, IsCommit, RepositoryState}
use Rattle.repo_load.specs.Files.{commit_bytes, commit_file, contents_dir, repository_base, FitsTrove, HoldsCatalogue, HoldsCommit, HoldsCommits, HoldsFirst, StoresRepository}
use Rattle.repo_load.specs.Damage.{HasMissingRef, IsBadCommit, IsDamagedCommit}
use Rattle.repo_load.proofs.Following.{following_push, troves_push}
use Rattle.repo_load.proofs.Holding.{CommitsDiffer, first_push, first_stays, held_stays, one_list}
use Rattle.repo_load.specs.Steps.{catalogue_with, commit_put, KeepsCommits, MayFollow}
use Rattle.repo_load.proofs.FileNames.{commit_differs}
use Rattle.repo_load.proofs.CountedNames.{commit_not_own, content_not_own}

-- ---- one catalogue

pub one_catalogue : CommitsDiffer → (x : Tree) (one other : CatalogueParts) → HoldsCatalogue x one → HoldsCatalogue x other → one ≡ other
one_catalogue differ x one other h g = h.is ∙ ap catalogue_of (one_list differ x h.commits g.commits h.holds g.holds) ∙ sym g.is

-- ---- before the commit

pub kept_before : (x x1 : Tree) (c : CatalogueParts) → HoldsCatalogue x c → KeepsCommits c.commits x x1 → HoldsCatalogue x1 c
kept_before x x1 c h kept =
    let count : c.commits ≡ length h.commits = ap (λ (d : CatalogueParts). d.commits) h.is in record {
      commits = h.commits;
      holds = record {
        first = first_stays x x1 1 h.commits (λ k low high. kept.same k (omega (arith, high, count))) h.holds.first;
        last = kept.same (length h.commits + 1) (omega (arith, count)) ∙ h.holds.last;
      };
      rules = h.rules;
      is = h.is;
    }

-- ---- after the commit

-- what is found stays found behind which others stand
some_found : (test : TroveParts → Bool) (a b : List TroveParts) → IsSome (find test a) → IsSome (find test (a ++ b))
some_found test [] b some = absurd (cc some)
some_found test (t ∷ a) b some = by (test t) some (some_found test a b)
  where
    by : (p : Bool) → IsSome (cond p (Some t) (find test a)) → (IsSome (find test a) → IsSome (find test (a ++ b))) → IsSome (cond p (Some t) (find test (a ++ b)))
    by true is rest = refl
    by false is rest = rest is

refs_stay : (a b : List TroveParts) (t : TroveParts) → HasRefs a t → HasRefs (a ++ b) t
refs_stay a b t refs = All-weaker (λ (id : TroveId). IsSome (found id a)) (λ (id : TroveId). IsSome (found id (a ++ b))) (λ id. some_found (has_id id) a b) t.refs refs

pub rules_after : (commits : List Commit) (troves : Commit) → AreCommits commits → MayFollow (catalogue_of commits) troves → AreCommits (commits ++ troves ∷ [])
rules_after commits troves rules may =
    let all = troves_push commits troves in record {
      few = let long = length-append commits (troves ∷ []) in omega (arith, long, may.few);
      following = following_push [] commits troves rules.following may.commit;
      refs = subst (λ (l : List TroveParts). All (HasRefs l) l) (sym all)
          (All-append (HasRefs (troves_of commits ++ troves)) (troves_of commits) troves
          (All-weaker (HasRefs (troves_of commits)) (HasRefs (troves_of commits ++ troves)) (refs_stay (troves_of commits) troves) (troves_of commits) rules.refs) may.refs);
    }

abbrev pub made : Tree → ℕ → ℕ → Commit → Tree
made x1 n mode troves = with_targets (commit_put n mode troves ∷ []) x1

new_held : (x1 : Tree) (n mode : ℕ) (troves : Commit) (before : List TroveParts) → IsCommit before troves → All FitsTrove troves → HoldsCommit (made x1 n mode troves) n troves
new_held x1 n mode troves before is fits = record {
  bytes = commit_bytes troves;
  file = ap file_bytes (get_put_here x1 (commit_file n) (node_of (commit_put n mode troves).want));
  stream = record { full = is.full; troves_are = is.troves_are; fits = fits; text = refl };
}

other_file : (x1 : Tree) (n mode : ℕ) (troves : Commit) (k : ℕ) → n < 2 ^ 64 → k < 2 ^ 64 → (k ≡ n → ⊥) → get (made x1 n mode troves) (commit_file k) ≡ get x1 (commit_file k)
other_file x1 n mode troves k fits small other = get_put_other x1 (commit_file n) (node_of (commit_put n mode troves).want) (commit_file k) (commit_differs k n small fits other)

after_of : (x x1 : Tree) (commits : List Commit) (troves : Commit) (mode : ℕ) → HoldsCommits x commits → AreCommits commits → KeepsCommits (length commits) x x1
    → MayFollow (catalogue_of commits) troves → All FitsTrove troves → HoldsCatalogue (made x1 (length commits + 1) mode troves) (catalogue_with troves (catalogue_of commits))
after_of x x1 commits troves mode h rules kept may fits =
    let n : ℕ = length commits + 1 in
    let y : Tree = made x1 n mode troves in
    let few : n ≤ COMMITS_LIMIT = may.few in
    let long : length (commits ++ troves ∷ []) ≡ n = length-append commits (troves ∷ []) in
    let first = first_stays x y 1 commits (λ k low high. other_file x1 n mode troves k (omega (arith, few)) (omega (arith, few, high)) (λ e. omega (arith, high, e)) ∙ kept.same k (omega (arith, high))) h.first in record {
      commits = commits ++ troves ∷ [];
      holds = record {
        first = first_push y commits troves first (new_held x1 n mode troves (troves_of commits) may.commit fits);
        last = let behind : length (commits ++ troves ∷ []) + 1 ≡ length commits + 2 = omega (arith, long) in
            ap (λ (k : ℕ). get y (commit_file k)) behind ∙ other_file x1 n mode troves (length commits + 2) (omega (arith, few)) (omega (arith, few)) (λ e. omega (arith, e)) ∙ kept.nothing_behind;
      };
      rules = rules_after commits troves rules may;
      is = λ i. record { commits = sym long i; troves = sym (troves_push commits troves) i };
    }

pub held_after : (x x1 : Tree) (c : CatalogueParts) (troves : Commit) (mode : ℕ) → HoldsCatalogue x c → KeepsCommits c.commits x x1 → MayFollow c troves → All FitsTrove troves
    → HoldsCatalogue (made x1 (c.commits + 1) mode troves) (catalogue_with troves c)
held_after x x1 c troves mode h kept may fits =
    subst (λ (d : CatalogueParts). HoldsCatalogue (made x1 (d.commits + 1) mode troves) (catalogue_with troves d)) (sym h.is)
    (after_of x x1 h.commits troves mode h.holds h.rules (subst (λ (d : CatalogueParts). KeepsCommits d.commits x x1) h.is kept) (subst (λ (d : CatalogueParts). MayFollow d troves) h.is may) fits)

-- ---- trees that store the same for the journal

module _ (x y : Tree) (same : StoresSame repository_base x y) where
  same_commit : (n : ℕ) → get y (commit_file n) ≡ get x (commit_file n)
  same_commit n = sym (same (commit_file n) (commit_not_own n))

  same_first : (commits : List Commit) → HoldsFirst x 1 commits → HoldsFirst y 1 commits
  same_first commits first = first_stays x y 1 commits (λ k low high. same_commit k) first

  same_commits : (commits : List Commit) → HoldsCommits x commits → HoldsCommits y commits
  same_commits commits h = record { first = same_first commits h.first; last = same_commit (length commits + 1) ∙ h.last }

  pub same_state : (r : RepositoryState) → StoresRepository x r → StoresRepository y r
  same_state r h = record {
    repository = h.repository;
    commits = same_commits r.commits h.commits;
    contents = λ name bytes is. ap file_bytes (sym (same (content_path contents_dir name) (content_not_own name))) ∙ h.contents name bytes is;
  }

  pub same_catalogue : (c : CatalogueParts) → HoldsCatalogue x c → HoldsCatalogue y c
  same_catalogue c h = record { commits = h.commits; holds = same_commits h.commits h.holds; rules = h.rules; is = h.is }

  same_bad : (path : Name) → IsBadCommit x path → IsBadCommit y path
  same_bad path h =
      let n : ℕ = length h.commits + 1 in record {
        commits = h.commits;
        first = same_first h.commits h.first;
        few = h.few;
        following = h.following;
        here = h.here;
        stands = λ none. h.stands (ap (get x) h.here ∙ sym (same_commit n) ∙ ap (get y) (sym h.here) ∙ none);
        none = λ troves few holds. h.none troves few (held_stays y x n troves (sym (same_commit n)) holds);
      }

  same_missing : (path : Name) → HasMissingRef x path → HasMissingRef y path
  same_missing path h = record {
    before = h.before;
    commit = h.commit;
    after = h.after;
    holds = same_commits (h.before ++ h.commit ∷ h.after) h.holds;
    few = h.few;
    following = h.following;
    here = h.here;
    resolved = h.resolved;
    missing = h.missing;
  }

  pub same_damage : (path : Name) → IsDamagedCommit x path → IsDamagedCommit y path
  same_damage path damage = ⊎_elim (λ bad. inl (same_bad path bad)) (λ missing. inr (same_missing path missing)) damage
