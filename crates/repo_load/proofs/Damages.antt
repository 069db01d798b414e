-- A damaged file is the first one, and then the tree stores no repository.
use Rattle.std.proofs.Common.{◌≡◌, inl, inr, ◌+◌, ◌≤◌, List, [], ◌∷◌, ◌++◌, length, All, refl, sym, ◌∙◌, ap, subst, arith, length-append}
use Rattle.std.specs.FinMap.{get}
use Rattle.repo_index.specs.cny-base.declared.limits.TheConstants.{COMMITS_LIMIT}
use Rattle.repo_index.specs.trove-stream.declared.parts.TroveParts.{TroveParts}
use Rattle.journal_log.specs.tree-disk.Tree.{Name, Tree}
use Rattle.repo_load.specs.State.{Commit, troves_of, AreFollowing, AreCommits, HasRefs}
use Rattle.repo_load.specs.Files.{commit_file, HoldsFirst, HoldsCommits}
use Rattle.repo_load.specs.Damage.{IsBadCommit, HasMissingRef, IsDamagedCommit}
use Rattle.repo_load.proofs.Holding.{CommitsDiffer, Prefix, equal_lists, is_longer, is_shorter, prefix_of, next_held, one_list, held_stands}
use Rattle.repo_load.proofs.Following.{troves_append, following_at}
use Rattle.journal_log.proofs.cny-base.Lists.{left_all, right_all}

-- ---- lists

-- the troves of one commit among those of all
pub of_commit : (P : TroveParts → Type 0) (a : List Commit) (c : Commit) (b : List Commit) → All P (troves_of (a ++ c ∷ b)) → All P c
of_commit P a c b all =
    left_all P c (troves_of b) (right_all P (troves_of a) (c ++ troves_of b) (subst (All P) (troves_append a (c ∷ b)) all))

-- two places of one list: the same, or one before the other
data Places (a : List Commit) (c : Commit) (d : List Commit) (e : Commit) : Type 0 where
  same_place : a ≡ d → Places a c d e
  place_before : (rest : List Commit) → d ≡ a ++ c ∷ rest → Places a c d e
  place_behind : (rest : List Commit) → a ≡ d ++ e ∷ rest → Places a c d e

more_places : (x y : Commit) (a : List Commit) (c : Commit) (d : List Commit) (e : Commit) → x ≡ y → Places a c d e → Places (x ∷ a) c (y ∷ d) e
more_places x y a c d e is (same_place s) = same_place (λ i. is i ∷ s i)
more_places x y a c d e is (place_before rest s) = place_before rest (λ i. sym is i ∷ s i)
more_places x y a c d e is (place_behind rest s) = place_behind rest (λ i. is i ∷ s i)

places_of : (a : List Commit) (c : Commit) (b d : List Commit) (e : Commit) (f : List Commit) → a ++ c ∷ b ≡ d ++ e ∷ f → Places a c d e
places_of [] c b [] e f is = same_place refl
places_of [] c b (y ∷ d) e f is = let first : y ≡ c = cc in place_before d (λ i. first i ∷ d)
places_of (x ∷ a) c b [] e f is = let first : x ≡ e = cc in place_behind a (λ i. first i ∷ a)
places_of (x ∷ a) c b (y ∷ d) e f is =
    let first : x ≡ y = cc in
    let rest : a ++ c ∷ b ≡ d ++ e ∷ f = cc in
    more_places x y a c d e first (places_of a c b d e f rest)

-- ---- files that aren't good

few_more : (a rest : List Commit) (c : Commit) → length (a ++ c ∷ rest) ≤ COMMITS_LIMIT → length a + 1 ≤ COMMITS_LIMIT
few_more a rest c few = omega (arith, few, length-append a (c ∷ rest))

bad_in : (x : Tree) (path : Name) (cs : List Commit) (bad : IsBadCommit x path) → HoldsCommits x cs → length cs ≤ COMMITS_LIMIT → AreFollowing [] cs → Prefix bad.commits cs → ⊥
bad_in x path cs bad holds few follow (equal_lists e) =
    bad.stands (ap (get x) bad.here ∙ ap (λ (l : List Commit). get x (commit_file (length l + 1))) e ∙ holds.last)
bad_in x path cs bad holds few follow (is_longer c rest e) =
    held_stands x (length cs + 1) c (next_held x cs c rest (subst (HoldsFirst x 1) e bad.first)) holds.last
bad_in x path cs bad holds few follow (is_shorter c rest e) =
    bad.none c (few_more bad.commits rest c (subst (λ (l : List Commit). length l ≤ COMMITS_LIMIT) e few))
    (next_held x bad.commits c rest (subst (HoldsFirst x 1) e holds.first))
    (following_at [] bad.commits c rest (subst (AreFollowing []) e follow))

-- where files hold commits that follow one another none of them is bad
no_bad : CommitsDiffer → (x : Tree) (path : Name) (cs : List Commit) → IsBadCommit x path → HoldsCommits x cs → length cs ≤ COMMITS_LIMIT → AreFollowing [] cs → ⊥
no_bad differ x path cs bad holds few follow = bad_in x path cs bad holds few follow (prefix_of differ x 1 bad.commits cs bad.first holds.first)

no_missing : CommitsDiffer → (x : Tree) (path : Name) (cs : List Commit) → HasMissingRef x path → HoldsCommits x cs → AreCommits cs → ⊥
no_missing differ x path cs miss holds rules =
    let all : List Commit = miss.before ++ miss.commit ∷ miss.after in
    let is : cs ≡ all = one_list differ x cs all holds miss.holds in
    miss.missing (of_commit (HasRefs (troves_of all)) miss.before miss.commit miss.after
    (subst (λ (l : List Commit). All (HasRefs (troves_of l)) (troves_of l)) is rules.refs))

pub no_damage : CommitsDiffer → (x : Tree) (path : Name) (cs : List Commit) → IsDamagedCommit x path → HoldsCommits x cs → AreCommits cs → ⊥
no_damage differ x path cs (inl bad) holds rules = no_bad differ x path cs bad holds rules.few rules.following
no_damage differ x path cs (inr miss) holds rules = no_missing differ x path cs miss holds rules

-- ---- the first one

bad_before : (x : Tree) (path other : Name) (a : IsBadCommit x path) (b : IsBadCommit x other) (c : Commit) (rest : List Commit) → b.commits ≡ a.commits ++ c ∷ rest → ⊥
bad_before x path other a b c rest e =
    a.none c (few_more a.commits rest c (subst (λ (l : List Commit). length l ≤ COMMITS_LIMIT) e b.few))
    (next_held x a.commits c rest (subst (HoldsFirst x 1) e b.first))
    (following_at [] a.commits c rest (subst (AreFollowing []) e b.following))

one_bad : (x : Tree) (path other : Name) (a : IsBadCommit x path) (b : IsBadCommit x other) → Prefix a.commits b.commits → path ≡ other
one_bad x path other a b (equal_lists e) = a.here ∙ ap (λ (l : List Commit). commit_file (length l + 1)) e ∙ sym b.here
one_bad x path other a b (is_longer c rest e) = absurd (bad_before x other path b a c rest e)
one_bad x path other a b (is_shorter c rest e) = absurd (bad_before x path other a b c rest e)

missing_before : (x : Tree) (path other : Name) (a : HasMissingRef x path) (b : HasMissingRef x other) (rest : List Commit)
    → a.before ++ a.commit ∷ a.after ≡ b.before ++ b.commit ∷ b.after → b.before ≡ a.before ++ a.commit ∷ rest → ⊥
missing_before x path other a b rest is e =
    a.missing (of_commit (HasRefs (troves_of (a.before ++ a.commit ∷ a.after))) a.before a.commit rest
    (subst (λ (l : List Commit). All (HasRefs (troves_of (a.before ++ a.commit ∷ a.after))) (troves_of l)) e
    (subst (λ (l : List Commit). All (HasRefs (troves_of l)) (troves_of b.before)) (sym is) b.resolved)))

one_missing : (x : Tree) (path other : Name) (a : HasMissingRef x path) (b : HasMissingRef x other)
    → a.before ++ a.commit ∷ a.after ≡ b.before ++ b.commit ∷ b.after → Places a.before a.commit b.before b.commit → path ≡ other
one_missing x path other a b is (same_place e) = a.here ∙ ap (λ (l : List Commit). commit_file (length l + 1)) e ∙ sym b.here
one_missing x path other a b is (place_before rest e) = absurd (missing_before x path other a b rest is e)
one_missing x path other a b is (place_behind rest e) = absurd (missing_before x other path b a rest (sym is) e)

pub one_first : CommitsDiffer → (x : Tree) (path other : Name) → IsDamagedCommit x path → IsDamagedCommit x other → path ≡ other
one_first differ x path other (inl a) (inl b) = one_bad x path other a b (prefix_of differ x 1 a.commits b.commits a.first b.first)
one_first differ x path other (inl a) (inr b) = absurd (no_bad differ x path (b.before ++ b.commit ∷ b.after) a b.holds b.few b.following)
one_first differ x path other (inr a) (inl b) = absurd (no_bad differ x other (a.before ++ a.commit ∷ a.after) b a.holds a.few a.following)
one_first differ x path other (inr a) (inr b) =
    let is = one_list differ x (a.before ++ a.commit ∷ a.after) (b.before ++ b.commit ∷ b.after) a.holds b.holds in
    one_missing x path other a b is (places_of a.before a.commit a.after b.before b.commit b.after is)
