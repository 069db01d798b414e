-- Commits read one after another.
use Rattle.std.proofs.Common.{◌≡◌, ◌≢◌, inr, ℕ, ◌+◌, ◌≤◌, ◌<◌, Bool, IsTrue, List, [], ◌∷◌, ◌++◌, length, map, All, Option, Some, None, refl, sym, ◌∙◌, ap, subst, arith, length-append}
use Rattle.std.proofs.lemmas.List.{map-append}
use Rattle.std.specs.FinMap.{get}
use Rattle.repo_index.specs.cny-base.declared.limits.TheConstants.{COMMITS_LIMIT}
use Rattle.repo_index.specs.cny-base.declared.node.Node.{Node}
use Rattle.repo_index.specs.trove-stream.declared.parts.TroveParts.{TroveParts}
use Rattle.journal_log.specs.tree-disk.Tree.{Name, Tree}
use Rattle.content_store.specs.Store.{file_bytes}
use Rattle.repo_index.specs.Catalogue.{CatalogueParts, no_commits}
use Rattle.repo_load.specs.State.{Commit, troves_of, AreFollowing, HasRefs, IsCommit}
use Rattle.repo_load.specs.Files.{commit_file, HoldsCommit, HoldsFirst}
use Rattle.repo_load.proofs.Following.{troves_push, following_push}
use Rattle.repo_load.proofs.Holding.{first_push}
use Rattle.repo_load.specs.Damage.{IsBadCommit, IsDamagedCommit}
use Rattle.repo_load.specs.Loading.{kept, kept_catalogue, AreRead, IsFirstUnresolved, LacksCommit}
use Rattle.repo_load.proofs.Kept.{back, may_follow, same_ids, HaveSameIds}
use Rattle.repo_load.proofs.Resolved.{size_of}

pub none_read : (whole told : Bool) (tree : Tree) (catalogue : CatalogueParts) (counts : List ℕ) → catalogue ≡ no_commits → counts ≡ [] → AreRead whole told tree catalogue counts
none_read whole told tree catalogue counts none no_counts = record {
  commits = [];
  first = λ tells. tt;
  few = omega arith;
  following = tt;
  is = none;
  counts_are = no_counts;
}

module _ (whole told : Bool) (tree : Tree) (catalogue : CatalogueParts) (counts : List ℕ) (read : AreRead whole told tree catalogue counts) where
  pub number_is : catalogue.commits ≡ length read.commits
  number_is = ap (λ (c : CatalogueParts). c.commits) read.is

  pub troves_are : catalogue.troves ≡ map (kept whole) (troves_of read.commits)
  troves_are = ap (λ (c : CatalogueParts). c.troves) read.is

  -- they have the ids of what is kept of them
  have_same_ids : HaveSameIds catalogue.troves (troves_of read.commits)
  have_same_ids = subst (λ (l : List TroveParts). HaveSameIds l (troves_of read.commits)) (sym troves_are) (same_ids whole (troves_of read.commits))

  pub few_read : catalogue.commits ≤ COMMITS_LIMIT
  few_read = subst (λ (n : ℕ). n ≤ COMMITS_LIMIT) (sym number_is) read.few

  next_number : (number : ℕ) → number ≡ catalogue.commits + 1 → number ≡ length read.commits + 1
  next_number number is = is ∙ ap (λ (n : ℕ). n + 1) number_is

  -- a further commit
  pub one_read : (troves : Commit) (number : ℕ) (new : CatalogueParts) (new_counts : List ℕ) → number ≡ catalogue.commits + 1 → catalogue.commits < COMMITS_LIMIT
      → (IsTrue told → HoldsCommit tree number troves) → IsCommit catalogue.troves troves
      → new ≡ record { commits = catalogue.commits + 1; troves = catalogue.troves ++ map (kept whole) troves } → new_counts ≡ counts ++ length troves ∷ []
      → AreRead whole told tree new new_counts
  one_read troves number new new_counts number_same few held commit new_is counts_is = record {
    commits = read.commits ++ troves ∷ [];
    first = λ tells. first_push tree read.commits troves (read.first tells) (subst (λ (n : ℕ). HoldsCommit tree n troves) (next_number number number_same) (held tells));
    few = let long : length (read.commits ++ troves ∷ []) ≡ length read.commits + length (troves ∷ []) = length-append read.commits (troves ∷ []) in omega (arith, long, few, number_is);
    following = following_push [] read.commits troves read.following (may_follow catalogue.troves (troves_of read.commits) troves have_same_ids commit);
    is = new_is ∙ both;
    counts_are = counts_is ∙ ap (λ (l : List ℕ). l ++ length troves ∷ []) read.counts_are ∙ sym (sizes read.commits);
  }
    where
      sizes : (l : List Commit) → map size_of (l ++ troves ∷ []) ≡ map size_of l ++ length troves ∷ []
      sizes [] = refl
      sizes (c ∷ l) = ap (λ (m : List ℕ). length c ∷ m) (sizes l)

      number_both : catalogue.commits + 1 ≡ length (read.commits ++ troves ∷ [])
      number_both = ap (λ (n : ℕ). n + 1) number_is ∙ sym (length-append read.commits (troves ∷ []))

      troves_both : catalogue.troves ++ map (kept whole) troves ≡ map (kept whole) (troves_of (read.commits ++ troves ∷ []))
      troves_both = ap (λ (l : List TroveParts). l ++ map (kept whole) troves) troves_are ∙ sym (map-append (kept whole) (troves_of read.commits) troves)
          ∙ ap (map (kept whole)) (sym (troves_push read.commits troves))

      both : (let c : CatalogueParts = record { commits = catalogue.commits + 1; troves = catalogue.troves ++ map (kept whole) troves } in c)
          ≡ kept_catalogue whole (read.commits ++ troves ∷ [])
      both = λ i. record { commits = number_both i; troves = troves_both i }

  -- what stands at the next number is no commit that follows
  pub bad_commit : (path : Name) (number : ℕ) → number ≡ catalogue.commits + 1 → IsTrue told → path ≡ commit_file number → get tree path ≢ None
      → ((troves : Commit) → catalogue.commits < COMMITS_LIMIT → HoldsCommit tree number troves → IsCommit catalogue.troves troves → ⊥) → IsBadCommit tree path
  bad_commit path number number_same tells here stands none = record {
    commits = read.commits;
    first = read.first tells;
    few = read.few;
    following = read.following;
    here = here ∙ ap commit_file (next_number number number_same);
    stands = stands;
    none = λ troves few held commit. none troves (omega (arith, few, number_is))
        (subst (λ (n : ℕ). HoldsCommit tree n troves) (sym (next_number number number_same)) held)
        (may_follow (troves_of read.commits) catalogue.troves troves (back catalogue.troves (troves_of read.commits) have_same_ids) commit);
  }

  -- the same of a file that holds no commit at all
  pub bad_file : (path : Name) (number : ℕ) → number ≡ catalogue.commits + 1 → IsTrue told → LacksCommit number tree path → IsBadCommit tree path
  bad_file path number number_same tells lacks = bad_commit path number number_same tells lacks.here lacks.stands (λ troves few held commit. lacks.none troves held)

  -- the same of a commit
  pub bad_held : (path : Name) (number : ℕ) (troves : Commit) → number ≡ catalogue.commits + 1 → IsTrue told → path ≡ commit_file number → HoldsCommit tree number troves
      → ((others : Commit) → HoldsCommit tree number others → others ≡ troves) → (catalogue.commits < COMMITS_LIMIT → IsCommit catalogue.troves troves → ⊥) → IsBadCommit tree path
  bad_held path number troves number_same tells here held only never = bad_commit path number number_same tells here
      (λ none. stands (get tree (commit_file number)) held.bytes held.file (subst (λ (p : Name). get tree p ≡ None) here none))
      (λ others few its commit. never few (subst (IsCommit catalogue.troves) (only others its) commit))
    where
      stands : (o : Option Node) (bytes : List ℕ) → file_bytes o ≡ Some bytes → o ≡ None → ⊥
      stands o bytes some none = absurd (cc (some, ap file_bytes none))

  -- ---- at the end

  pub missing_ref : (path : Name) (number : ℕ) → IsTrue told → get tree (commit_file (catalogue.commits + 1)) ≡ None → IsFirstUnresolved read.commits number → path ≡ commit_file number
      → IsDamagedCommit tree path
  missing_ref path number tells last first here = inr (record {
    before = first.before;
    commit = first.commit;
    after = first.after;
    holds = record {
      first = subst (HoldsFirst tree 1) first.is (read.first tells);
      last = subst (λ (l : List Commit). get tree (commit_file (length l + 1)) ≡ None) first.is (subst (λ (n : ℕ). get tree (commit_file (n + 1)) ≡ None) number_is last);
    };
    few = subst (λ (l : List Commit). length l ≤ COMMITS_LIMIT) first.is read.few;
    following = subst (AreFollowing []) first.is read.following;
    here = here ∙ ap commit_file first.here;
    resolved = subst (λ (l : List Commit). All (HasRefs (troves_of l)) (troves_of first.before)) first.is first.resolved;
    missing = λ all. first.missing (subst (λ (l : List Commit). All (HasRefs (troves_of l)) first.commit) (sym first.is) all);
  })
