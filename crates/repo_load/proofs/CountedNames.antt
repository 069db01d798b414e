-- Names that count for what is stored, and names that are prepared for a commit.
use Rattle.std.proofs.Common.{◌≡◌, inl, inr, ⊎_elim, ℕ, ◌+◌, ◌<◌, ◌≤◌, ◌^◌, Bool, true, false, ◌||◌, List, [], ◌∷◌, ◌++◌, length, get_or, drop, Some, refl, sym, ◌∙◌, ap, subst, arith, length-append}
use Rattle.std.specs.Fmt.{decimal}
use Rattle.std.specs.Cmp.{second_so}
use Rattle.std.specs.List.{list_all, list_any}
use Rattle.std.specs.Str.{bytes_eq}
use Rattle.std.specs.FinMap.{get}
use Rattle.std.proofs.lemmas.List.Folds.{list_all-append}
use Rattle.hex.specs.Hex.{encode_lower}
use Rattle.repo_index.specs.cny-base.Below.{is_below}
use Rattle.repo_index.proofs.cny-base.Below.{below_rest}
use Rattle.repo_index.specs.cny-stream.declared.record.FileRec.{FileRec}
use Rattle.repo_index.specs.cny-stream.declared.record.FileRec.TheVariants.{Dir, File, Link}
use Rattle.repo_index.specs.cny-stream.Record.{has_name_and_size}
use Rattle.repo_index.specs.trove-stream.declared.parts.TroveParts.{TroveParts}
use Rattle.journal_log.specs.tree-disk.Tree.{Name, Tree, same_name}
use Rattle.journal_log.specs.tree-disk.Laws.{same_means}
use Rattle.journal_log.specs.tree-disk.Clear.{is_within}
use Rattle.journal_log.proofs.tree-disk.ClearLaws.{or_cases}
use Rattle.journal_log.specs.Own.{gate, is_own}
use Rattle.content_store.specs.Store.{content_path, file_bytes, IsContentName}
use Rattle.content_store.proofs.Digits.{digits_long}
use Rattle.content_store.proofs.Paths.{same_content_path}
use Rattle.repo_index.specs.Catalogue.{CatalogueParts, has_content, is_content, is_file_of, names_content}
use Rattle.repo_load.specs.Counts.{Counts, IsCommitName, IsContentOfState, IsPreparedName}
use Rattle.repo_load.specs.Files.{commit_file, contents_dir, repository_base, HoldsCommits, StoresRepository}
use Rattle.repo_load.proofs.Holding.{first_stays}
use Rattle.repo_load.specs.State.{catalogue_of, records_content, trove_records, Commit, IsRepository, RepositoryState, troves_of}
use Rattle.content_store.proofs.Digests.{digest_is_name}
use Rattle.repo_index.proofs.cny-stream.Digests.{digest_long}
use Rattle.repo_load.proofs.FileNames.{commit_differs}
use Rattle.journal_log.proofs.cny-base.FileNames.{is_low}
use Rattle.journal_log.proofs.tree-disk.Names.{within_rest}
use Rattle.journal_log.proofs.FileNames.{digits_low as decimal_low}

-- ---- trees that are equal where it counts

commit_name : (n k : ℕ) → k ≤ n + 1 → IsCommitName n (commit_file k)
commit_name n k few = record { number = k; few = few; is = refl }

pub counted_commits : (x y : Tree) (commits : List Commit) → HoldsCommits x commits → ((q : Name) → IsCommitName (length commits) q → get y q ≡ get x q) → HoldsCommits y commits
counted_commits x y commits h same = record {
  first = first_stays x y 1 commits (λ k low high. same (commit_file k) (commit_name (length commits) k (omega (arith, high)))) h.first;
  last = same (commit_file (length commits + 1)) (commit_name (length commits) (length commits + 1) (omega arith)) ∙ h.last;
}

pub counted_state : (x y : Tree) (r : RepositoryState) → StoresRepository x r → ((q : Name) → Counts r q → get y q ≡ get x q) → StoresRepository y r
counted_state x y r h same = record {
  repository = h.repository;
  commits = counted_commits x y r.commits h.commits (λ q is. same q (inl is));
  contents = λ name bytes is. ap file_bytes (same (content_path contents_dir name) (inr (record { name = name; bytes = bytes; holds = is; is = refl }))) ∙ h.contents name bytes is;
}

pub commit_not_own : (n : ℕ) → is_own repository_base (commit_file n) ≡ false
commit_not_own n = refl

pub content_not_own : (name : List ℕ) → is_own repository_base (content_path contents_dir name) ≡ false
content_not_own name = refl

pub counted_not_own : (r : RepositoryState) (q : Name) → Counts r q → is_own repository_base q ≡ false
counted_not_own r q (inl is) = ap (is_own repository_base) is.is ∙ commit_not_own is.number
counted_not_own r q (inr is) = ap (is_own repository_base) is.is ∙ content_not_own is.name

-- ---- the byte behind the base's slash, and those around it

-- what lies within a name below the base has its letter
within_letter : (c : ℕ) (more q : Name) → is_within (repository_base ++ 47 ∷ c ∷ more) q ≡ true → get_or q 12 0 ≡ c
within_letter c more q h = let r = within_rest (repository_base ++ 47 ∷ c ∷ more) q h in ap (λ (n : Name). get_or n 12 0) r.1

commit_letter : (n : ℕ) (q : Name) → q ≡ commit_file n → get_or q 12 0 ≡ 107
commit_letter n q is = ap (λ (n : Name). get_or n 12 0) is

content_letter : (name q : Name) → q ≡ content_path contents_dir name → get_or q 12 0 ≡ 99
content_letter name q is = ap (λ (n : Name). get_or n 12 0) is

clash : (a b : ℕ) → a ≡ 107 → a ≡ 99 → ⊥
clash a b one other = omega (arith, one, other)

-- ---- files of commits

no_slash : (a rest : List ℕ) → list_all is_low (a ++ 47 ∷ rest) ≡ true → ⊥
no_slash a rest all = absurd (cc (second_so (list_all is_low a) (list_all is_low (47 ∷ rest)) (sym (list_all-append is_low a (47 ∷ rest)) ∙ all)))

other_commit : (n k : ℕ) → n < 2 ^ 64 → k < 2 ^ 64 → (n ≡ k → ⊥) → is_within (commit_file k) (commit_file n) ≡ true → ⊥
other_commit n k n_fits k_fits other h = ⊎_elim
    (λ same. absurd (cc (same, commit_differs n k n_fits k_fits other)))
    (λ low. let r = below_rest (commit_file k) (commit_file n) low in
    no_slash (decimal k) r.0 (subst (λ (ds : List ℕ). list_all is_low ds ≡ true) (ap (drop 14) r.1) (decimal_low n n_fits)))
    (or_cases (same_name (commit_file n) (commit_file k)) (is_below (commit_file k) (commit_file n)) h)

base_is_short : (n : ℕ) (q : Name) → q ≡ repository_base → get_or q 11 0 ≡ 47 → ⊥
base_is_short n q is slash = let zero : 0 ≡ 47 = sym (ap (λ (n : Name). get_or n 11 0) is) ∙ slash in omega (arith, zero)

pub prepared_commits : (c : CatalogueParts) (q : Name) → c.commits + 2 < 2 ^ 64 → IsPreparedName c q → IsCommitName c.commits q → ⊥
prepared_commits c q fits (inl base) commit = base_is_short 0 q base (ap (λ (n : Name). get_or n 11 0) commit.is)
prepared_commits c q fits (inr (inl dir)) commit = clash (get_or q 12 0) 0 (commit_letter commit.number q commit.is) (ap (λ (n : Name). get_or n 12 0) dir)
prepared_commits c q fits (inr (inr (inl content))) commit =
    clash (get_or q 12 0) 0 (commit_letter commit.number q commit.is) (within_letter 99 (47 ∷ encode_lower content.name) q content.within)
prepared_commits c q fits (inr (inr (inr behind))) commit =
    let few = commit.few in
    other_commit commit.number (c.commits + 2) (omega (arith, fits, few)) fits (λ e. omega (arith, few, e)) (subst (λ (n : Name). is_within (commit_file (c.commits + 2)) n ≡ true) commit.is behind)

-- ---- contents

any_weaker : {A : Type 0} (P Q : A → Bool) (xs : List A) → ((x : A) → P x ≡ true → Q x ≡ true) → list_any P xs ≡ true → list_any Q xs ≡ true
any_weaker P Q [] weaker h = h
any_weaker P Q (x ∷ xs) weaker h = by (P x) (Q x) (weaker x) (any_weaker P Q xs weaker) h
  where
    by : (a b : Bool) → (a ≡ true → b ≡ true) → (list_any P xs ≡ true → list_any Q xs ≡ true) → (a || list_any P xs) ≡ true → (b || list_any Q xs) ≡ true
    by true b first rest h = ap (λ v. v || list_any Q xs) (first refl)
    by false true first rest h = refl
    by false false first rest h = rest h

sized_is_named : (name : List ℕ) (size : ℕ) (rec : FileRec) → has_name_and_size name size rec ≡ true → is_content name rec ≡ true
sized_is_named name size (Dir mode owner) h = absurd (cc h)
sized_is_named name size (File mode owner flags of_size of_name) h = second_so _ (bytes_eq of_name name) h
sized_is_named name size (Link target) h = absurd (cc h)

pub recorded_is_named : (name : List ℕ) (size : ℕ) (troves : List TroveParts) → records_content name size troves ≡ true → has_content name troves ≡ true
recorded_is_named name size troves h = any_weaker (trove_records name size) (names_content name) troves
    (λ t. any_weaker _ (is_file_of name) t.files (λ file. sized_is_named name size file.rec)) h

-- a name whose content is there is recorded, and is that of a digest
pub is_named : (r : RepositoryState) (name bytes : List ℕ) → IsRepository r → r.contents name ≡ Some bytes → has_content name (troves_of r.commits) ≡ true
is_named r name bytes is holds = recorded_is_named name (length bytes) (troves_of r.commits) (is.named name bytes holds).1

pub is_name : (r : RepositoryState) (name bytes : List ℕ) → IsRepository r → r.contents name ≡ Some bytes → IsContentName name
is_name r name bytes is holds = subst IsContentName (is.named name bytes holds).0 (digest_is_name bytes (digest_long bytes))

-- contents of two names stand apart
pub content_apart : (a b : List ℕ) → IsContentName a → IsContentName b → is_within (content_path contents_dir a) (content_path contents_dir b) ≡ true → a ≡ b
content_apart a b a_is b_is h = ⊎_elim
    (λ same. sym (same_content_path contents_dir b a b_is.bytes a_is.bytes (same_means (content_path contents_dir b) (content_path contents_dir a) same)))
    (λ low. let r = below_rest (content_path contents_dir a) (content_path contents_dir b) low in
    let longer : encode_lower b ≡ encode_lower a ++ 47 ∷ r.0 = ap (drop 14) r.1 in
    absurd (omega (arith, ap length longer, length-append (encode_lower a) (47 ∷ r.0), digits_long a a_is.long, digits_long b b_is.long)))
    (or_cases (same_name (content_path contents_dir b) (content_path contents_dir a)) (is_below (content_path contents_dir a) (content_path contents_dir b)) h)

dir_is_short : (q : Name) → q ≡ contents_dir → get_or q 13 0 ≡ 47 → ⊥
dir_is_short q is slash = let zero : 0 ≡ 47 = sym (ap (λ (n : Name). get_or n 13 0) is) ∙ slash in omega (arith, zero)

prepared_content : (r : RepositoryState) (q : Name) → IsRepository r → IsPreparedName (catalogue_of r.commits) q → IsContentOfState r q → ⊥
prepared_content r q is (inl base) content = base_is_short 0 q base (ap (λ (n : Name). get_or n 11 0) content.is)
prepared_content r q is (inr (inl dir)) content = dir_is_short q dir (ap (λ (n : Name). get_or n 13 0) content.is)
prepared_content r q is (inr (inr (inl other))) content =
    let same : other.name ≡ content.name = content_apart other.name content.name other.name_is (is_name r content.name content.bytes is content.holds)
    (subst (λ (n : Name). is_within (content_path contents_dir other.name) n ≡ true) content.is other.within) in
    absurd (cc (is_named r content.name content.bytes is content.holds, other.unnamed, same))
prepared_content r q is (inr (inr (inr behind))) content =
    clash (get_or q 12 0) 0 (within_letter 107 (46 ∷ decimal (length r.commits + 2)) q behind) (content_letter content.name q content.is)

pub prepared_state : (r : RepositoryState) (q : Name) → IsRepository r → IsPreparedName (catalogue_of r.commits) q → Counts r q → ⊥
prepared_state r q is prepared (inl commit) =
    let few = is.commits_are.few in prepared_commits (catalogue_of r.commits) q (omega (arith, few)) prepared commit
prepared_state r q is prepared (inr content) = prepared_content r q is prepared content

-- ---- the commit flag

pub prepared_flag : (c : CatalogueParts) → IsPreparedName c (gate repository_base) → ⊥
prepared_flag c (inl base) = base_is_short 0 (gate repository_base) base refl
prepared_flag c (inr (inl dir)) = let l : 103 ≡ 99 = ap (λ (n : Name). get_or n 12 0) dir in omega (arith, l)
prepared_flag c (inr (inr (inl content))) = let l : 103 ≡ 99 = within_letter 99 (47 ∷ encode_lower content.name) (gate repository_base) content.within in omega (arith, l)
prepared_flag c (inr (inr (inr behind))) = let l : 103 ≡ 107 = within_letter 107 (46 ∷ decimal (c.commits + 2)) (gate repository_base) behind in omega (arith, l)
