-- The names that change lie within the repository's directory.
use Rattle.std.proofs.Common.{◌≡◌, inl, inr, ⊎_elim, ℕ, ◌+◌, ◌≤◌, true, false, ◌||◌, IsTrue, List, All, Contains, get_or, refl, ◌∙◌, ap, arith}
use Rattle.std.proofs.lemmas.List.Elements.{All-contains, All-weaker}
use Rattle.sha1.specs.Sha1.{sha1}
use Rattle.repo_load.specs.cny-base.declared.limits.TheConstants.{COMMITS_LIMIT}
use Rattle.repo_load.specs.cny-base.Below.{is_below}
use Rattle.repo_load.specs.trove-stream.declared.parts.TroveParts.{TroveParts}
use Rattle.repo_load.specs.tree-disk.Tree.{Name, same_name}
use Rattle.repo_load.specs.tree-disk.Laws.{same_means}
use Rattle.repo_load.proofs.tree-disk.Laws.{same_itself}
use Rattle.repo_load.specs.tree-disk.Clear.{is_within}
use Rattle.repo_load.proofs.tree-disk.ClearLaws.{below_trans, below_within, itself_within, or_cases, within_itself}
use Rattle.repo_load.specs.tree-disk.Disk.{DiskModel, HasRead, IsDisk}
use Rattle.repo_load.specs.tree-disk.Confined.{Among, Confined}
use Rattle.repo_load.proofs.tree-disk.ConfinedLaws.{confined_read, confined_then}
use Rattle.repo_load.specs.journal-log.Own.{gate, is_own, is_own_file, log, staged, work}
use Rattle.repo_load.specs.journal-log.Targets.{is_target}
use Rattle.tree_journal.specs.Apply.{is_own_or_target}
use Rattle.change_set.specs.declared.change.Carried.{Carried}
use Rattle.change_set.specs.declared.change.ChangeSet.{ChangeSet}
use Rattle.change_set.specs.ChangeSet.{HasContents, IsContentOf}
use Rattle.repo_load.specs.content-store.Store.{content_path, IsContentName}
use Rattle.repo_index.specs.Catalogue.{CatalogueParts, has_content}
use Rattle.repo_load.specs.Counts.{IsPreparedName}
use Rattle.repo_load.specs.Files.{commit_file, contents_dir, repository_base}
use Rattle.repo_load.proofs.CountedNames.{content_apart, prepared_commits}
use Rattle.repo_load.proofs.FileNames.{commit_differs}
use Rattle.repository.specs.Preparing.{base, behind, content, directory, file, is_dir_name, own, IsWrittenName}
use Rattle.repository.proofs.Applied.{puts_of}
use Rattle.repository.proofs.Putting.{carried_is_unnamed, is_name}
use Rattle.repository.proofs.Readying.{content_not_behind}

-- what lies within a name below the directory lies within the directory
lower : (p q : Name) → is_below repository_base p ≡ true → is_within p q ≡ true → is_within repository_base q ≡ true
lower p q low within = below_within repository_base q (⊎_elim
    (λ same. ap (is_below repository_base) (same_means q p same) ∙ low)
    (λ deep. below_trans repository_base p q low deep)
    (or_cases (same_name q p) (is_below p q) within))

pub prepared_within : (c : CatalogueParts) (q : Name) → IsPreparedName c q → IsTrue (is_within repository_base q)
prepared_within c q (inl is) = ap (is_within repository_base) is ∙ within_itself repository_base
prepared_within c q (inr (inl is)) = ap (is_within repository_base) is ∙ below_within repository_base contents_dir refl
prepared_within c q (inr (inr (inl is))) = lower (content_path contents_dir is.name) q refl is.within
prepared_within c q (inr (inr (inr is))) = lower (commit_file (c.commits + 2)) q refl is

own_within : (q : Name) → is_own repository_base q ≡ true → is_within repository_base q ≡ true
own_within q is = ⊎_elim
    (λ same. itself_within repository_base q same)
    (λ low. ⊎_elim (λ at. lower (gate repository_base) q refl at)
    (λ more. ⊎_elim (λ at. lower (log repository_base) q refl at)
    (λ more. ⊎_elim (λ at. lower (work repository_base) q refl at) (λ at. lower (staged repository_base) q refl at)
    (or_cases (is_within (work repository_base) q) (is_within (staged repository_base) q) more))
    (or_cases (is_within (log repository_base) q) (is_within (work repository_base) q || is_within (staged repository_base) q) more))
    (or_cases (is_within (gate repository_base) q) (is_within (log repository_base) q || (is_within (work repository_base) q || is_within (staged repository_base) q)) low))
    (or_cases (same_name q repository_base) (is_own_file repository_base q) is)

target_within : (c : CatalogueParts) (troves : List TroveParts) (q : Name) → is_target (puts_of c troves) q ≡ true → is_within repository_base q ≡ true
target_within c troves q target = ⊎_elim
    (λ same. lower (commit_file (c.commits + 1)) q refl (itself_within (commit_file (c.commits + 1)) q same))
    (λ none. absurd (cc none))
    (or_cases (same_name q (commit_file (c.commits + 1))) false target)

pub written_within : (c : CatalogueParts) (troves : List TroveParts) (q : Name) → Among (is_own_or_target repository_base (puts_of c troves)) q → Among (is_within repository_base) q
written_within c troves q among = ⊎_elim (own_within q) (target_within c troves q) (or_cases (is_own repository_base q) (is_target (puts_of c troves) q) among)

-- ---- the names that a commit writes

pub dirs_written : (c : CatalogueParts) (contents : List Carried) (q : Name) → Among is_dir_name q → IsWrittenName c contents q
dirs_written c contents q h = ⊎_elim
    (λ same. base (same_means q repository_base same))
    (λ same. directory (same_means q contents_dir same))
    (or_cases (same_name q repository_base) (same_name q contents_dir) h)

pub behind_written : (c : CatalogueParts) (contents : List Carried) (q : Name) → Among (is_within (commit_file (c.commits + 2))) q → IsWrittenName c contents q
behind_written c contents q h = behind h

pub applied_written : (c : CatalogueParts) (contents : List Carried) (troves : List TroveParts) (q : Name) → Among (is_own_or_target repository_base (puts_of c troves)) q → IsWrittenName c contents q
applied_written c contents troves q among = ⊎_elim
    (λ h. own h)
    (λ target. ⊎_elim (λ same. file (same_means q (commit_file (c.commits + 1)) same)) (λ none. absurd (cc none)) (or_cases (same_name q (commit_file (c.commits + 1))) false target))
    (or_cases (is_own repository_base q) (is_target (puts_of c troves) q) among)

pub hashes : (change : ChangeSet) → HasContents change → All (λ (one : Carried). one.name ≡ sha1 one.bytes) change.contents
hashes change has = All-weaker (IsContentOf change.parts) (λ (one : Carried). one.name ≡ sha1 one.bytes) (λ one is. is.hash) change.contents has.contents

same_from : (n k : ℕ) → commit_file n ≡ commit_file k → same_name (commit_file n) (commit_file k) ≡ true
same_from n k is = ap (λ (q : Name). same_name q (commit_file k)) is ∙ same_itself (commit_file k)

-- the file of a commit that is there isn't one of them
pub commit_kept : (c : CatalogueParts) (contents : List Carried) (n : ℕ) → c.commits ≤ COMMITS_LIMIT → n ≤ c.commits → All (λ (one : Carried). one.name ≡ sha1 one.bytes) contents → IsWrittenName c contents (commit_file n) → ⊥
commit_kept c contents n few below hash (base is) = prepared_commits c (commit_file n) (omega (arith, few)) (inl is) (record { number = n; few = omega (arith, below); is = refl })
commit_kept c contents n few below hash (directory is) = prepared_commits c (commit_file n) (omega (arith, few)) (inr (inl is)) (record { number = n; few = omega (arith, below); is = refl })
commit_kept c contents n few below hash (content is) =
    prepared_commits c (commit_file n) (omega (arith, few)) (inr (inr (inl (carried_is_unnamed c contents hash (commit_file n) is)))) (record { number = n; few = omega (arith, below); is = refl })
commit_kept c contents n few below hash (file is) =
    absurd (cc (same_from n (c.commits + 1) is, commit_differs n (c.commits + 1) (omega (arith, few, below)) (omega (arith, few)) (λ e. omega (arith, below, e))))
commit_kept c contents n few below hash (behind is) = prepared_commits c (commit_file n) (omega (arith, few)) (inr (inr (inr is))) (record { number = n; few = omega (arith, below); is = refl })
commit_kept c contents n few below hash (own is) = absurd (cc is)

-- nor that of a content, unless it is carried and no trove records it
pub content_kept : (c : CatalogueParts) (contents : List Carried) (name : List ℕ) → IsContentName name → All (λ (one : Carried). one.name ≡ sha1 one.bytes) contents
    → ((one : Carried) → Contains contents one → one.name ≡ name → has_content name c.troves ≡ true) → IsWrittenName c contents (content_path contents_dir name) → ⊥
content_kept c contents name name_is hash there (base is) = let one : 47 ≡ 0 = ap (λ (n : Name). get_or n 11 0) is in omega (arith, one)
content_kept c contents name name_is hash there (directory is) = let one : 47 ≡ 0 = ap (λ (n : Name). get_or n 13 0) is in omega (arith, one)
content_kept c contents name name_is hash there (content is) =
    let one = is.content in
    let own = All-contains (λ (other : Carried). other.name ≡ sha1 other.bytes) contents one hash is.among in
    let same : one.name ≡ name = content_apart one.name name (is_name one own) name_is is.put.within in
    absurd (cc (there one is.among same, is.put.unnamed, same))
content_kept c contents name name_is hash there (file is) = let one : 99 ≡ 107 = ap (λ (n : Name). get_or n 12 0) is in omega (arith, one)
content_kept c contents name name_is hash there (behind is) = absurd (cc (is, content_not_behind (c.commits + 2) name))
content_kept c contents name name_is hash there (own is) = absurd (cc is)

-- the tests, and then the writes
pub confined_writes : {D : Type 0} {disk : DiskModel D} (laws : IsDisk disk) {Answer : Type 0} {names : Name → Type 0} {old mid new : D} → HasRead disk old mid Answer → Confined disk names mid new → Confined disk names old new
confined_writes laws {names = names} read writes = confined_then (confined_read laws names read) writes
