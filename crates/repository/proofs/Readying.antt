-- A disk that is made ready for the file of a commit.
use Rattle.std.proofs.Common.{◌≡◌, ◌≢◌, inl, inr, ⊎_elim, ℕ, ◌+◌, Bool, true, false, cond, List, get_or, None, refl, sym, ◌∙◌, ap, arith}
use Rattle.repo_load.specs.journal-log.Own.{staged}
use Rattle.std.proofs.lemmas.Bool.{cases_Bool}
use Rattle.std.proofs.lemmas.List.Elements.{All-weaker}
use Rattle.std.specs.FinMap.{get}
use Rattle.repo_load.specs.cny-base.Below.{is_below}
use Rattle.repo_load.proofs.cny-base.Below.{below_rest}
use Rattle.repo_load.specs.cny-base.Path.{root}
use Rattle.repo_load.specs.tree-disk.Tree.{Name, Tree, same_name, is_dir}
use Rattle.repo_load.specs.tree-disk.Laws.{same_means}
use Rattle.repo_load.specs.tree-disk.Rows.{is_dir_at}
use Rattle.repo_load.specs.tree-disk.Clear.{is_within, without_tree}
use Rattle.repo_load.proofs.tree-disk.ClearLaws.{get-without_tree, or_cases, within_itself}
use Rattle.repo_load.specs.tree-disk.Disk.{one_name}
use Rattle.repo_load.specs.tree-disk.Confined.{AgreesExcept, Among}
use Rattle.repo_load.specs.tree-disk.Steps.{Within}
use Rattle.tree_journal.specs.Apply.{with_base}
use Rattle.tree_journal.proofs.OwnFiles.{base_stands, get-base_other}
use Rattle.change_set.specs.declared.change.Carried.{Carried}
use Rattle.repo_load.specs.content-store.Store.{content_path, file_bytes}
use Rattle.repo_index.specs.Catalogue.{CatalogueParts}
use Rattle.repo_load.specs.Counts.{IsPreparedName, IsUnnamedContent}
use Rattle.repo_load.specs.Files.{commit_file, contents_dir, repository_base}
use Rattle.repository.specs.Preparing.{is_dir_name, AreStored, IsPreparedFor, IsStored}
use Rattle.tree_journal.proofs.tree-disk.Without.{elsewhere}
use Rattle.change_rel.proofs.cny-base.Bools.{or_left, or_right}

pub base_within : Within (one_name repository_base) is_dir_name
base_within q h = or_left (same_name q repository_base) (same_name q contents_dir) h

pub dir_within : Within (one_name contents_dir) is_dir_name
dir_within q h = or_right (same_name q repository_base) (same_name q contents_dir) h

-- ---- prepared names

pub dirs_prepared : (c : CatalogueParts) (q : Name) → Among is_dir_name q → IsPreparedName c q
dirs_prepared c q h = ⊎_elim
    (λ base. inl (same_means q repository_base base))
    (λ dir. inr (inl (same_means q contents_dir dir)))
    (or_cases (same_name q repository_base) (same_name q contents_dir) h)

-- neither of them is staged
pub dirs_not_staged : (q : Name) → is_within (staged repository_base) q ≡ true → Among is_dir_name q → ⊥
dirs_not_staged q within h = ⊎_elim
    (λ base. absurd (cc (ap (is_within (staged repository_base)) (sym (same_means q repository_base base)) ∙ within)))
    (λ dir. absurd (cc (ap (is_within (staged repository_base)) (sym (same_means q contents_dir dir)) ∙ within)))
    (or_cases (same_name q repository_base) (same_name q contents_dir) h)

pub unnamed_prepared : (c : CatalogueParts) (q : Name) → IsUnnamedContent c q → IsPreparedName c q
unnamed_prepared c q is = inr (inr (inl is))

pub behind_prepared : (c : CatalogueParts) (q : Name) → Among (is_within (commit_file (c.commits + 2))) q → IsPreparedName c q
behind_prepared c q h = inr (inr (inr h))

pub commit_not_root : (n : ℕ) → commit_file n ≢ root
commit_not_root n is = let one : 99 ≡ 0 = ap (λ (q : Name). get_or q 1 0) is in absurd (omega (arith, one))

-- ---- what stays

-- a name that is shorter than 14 bytes, or that has another letter, isn't within the file of a commit
base_not_behind : (n : ℕ) → is_within (commit_file n) repository_base ≡ false
base_not_behind n = ⊎_elim (λ within. absurd (never within)) (λ none. none) (cases_Bool (is_within (commit_file n) repository_base))
  where
    never : is_within (commit_file n) repository_base ≡ true → ⊥
    never within = ⊎_elim
        (λ same. let one : 0 ≡ 47 = ap (λ (q : Name). get_or q 11 0) (same_means repository_base (commit_file n) same) in omega (arith, one))
        (λ low. let r = below_rest (commit_file n) repository_base low in let one : 0 ≡ 47 = ap (λ (q : Name). get_or q 11 0) r.1 in omega (arith, one))
        (or_cases (same_name repository_base (commit_file n)) (is_below (commit_file n) repository_base) within)

pub content_not_behind : (n : ℕ) (name : List ℕ) → is_within (commit_file n) (content_path contents_dir name) ≡ false
content_not_behind n name = ⊎_elim (λ within. absurd (never within)) (λ none. none) (cases_Bool (is_within (commit_file n) (content_path contents_dir name)))
  where
    never : is_within (commit_file n) (content_path contents_dir name) ≡ true → ⊥
    never within = ⊎_elim
        (λ same. let one : 99 ≡ 107 = ap (λ (q : Name). get_or q 12 0) (same_means (content_path contents_dir name) (commit_file n) same) in omega (arith, one))
        (λ low. let r = below_rest (commit_file n) (content_path contents_dir name) low in let one : 99 ≡ 107 = ap (λ (q : Name). get_or q 12 0) r.1 in omega (arith, one))
        (or_cases (same_name (content_path contents_dir name) (commit_file n)) (is_below (commit_file n) (content_path contents_dir name)) within)

base_not_content : (c : CatalogueParts) → IsUnnamedContent c repository_base → ⊥
base_not_content c is = ⊎_elim
    (λ same. let one : 0 ≡ 47 = ap (λ (q : Name). get_or q 11 0) (same_means repository_base (content_path contents_dir is.name) same) in omega (arith, one))
    (λ low. let r = below_rest (content_path contents_dir is.name) repository_base low in let one : 0 ≡ 47 = ap (λ (q : Name). get_or q 11 0) r.1 in omega (arith, one))
    (or_cases (same_name repository_base (content_path contents_dir is.name)) (is_below (content_path contents_dir is.name) repository_base) is.within)

-- the directories stand
pub base_made : (tree : Tree) → is_dir_at (with_base contents_dir (with_base repository_base tree)) repository_base ≡ true
base_made tree = ap is_dir (get-base_other contents_dir (with_base repository_base tree) repository_base apart) ∙ base_stands repository_base tree
  where
    apart : same_name repository_base contents_dir ≡ false
    apart = refl

pub dir_made : (tree : Tree) → is_dir_at (with_base contents_dir (with_base repository_base tree)) contents_dir ≡ true
dir_made tree = base_stands contents_dir (with_base repository_base tree)

pub is_ready : (c : CatalogueParts) (contents : List Carried) (old d1 d2 new : Tree) → d1 ≡ with_base contents_dir (with_base repository_base old) → AgreesExcept (IsUnnamedContent c) d2 d1 → AreStored c contents d2
    → new ≡ without_tree d2 (commit_file (c.commits + 2)) → IsPreparedFor c contents new
is_ready c contents old d1 d2 new made agrees stand cleared = record {
  base = ap (λ (t : Tree). is_dir_at t repository_base) cleared ∙ ap is_dir (elsewhere d2 (commit_file (c.commits + 2)) repository_base (base_not_behind (c.commits + 2)))
      ∙ ap is_dir (agrees repository_base (base_not_content c)) ∙ ap (λ (t : Tree). is_dir_at t repository_base) made ∙ base_made old;
  stand = All-weaker (λ (content : Carried). IsStored c content d2) (λ (content : Carried). IsStored c content new) (λ content was unnamed.
      ap (λ (t : Tree). file_bytes (get t (content_path contents_dir content.name))) cleared
      ∙ ap file_bytes (elsewhere d2 (commit_file (c.commits + 2)) (content_path contents_dir content.name) (content_not_behind (c.commits + 2) content.name)) ∙ was unnamed) contents stand;
  nothing_behind = ap (λ (t : Tree). get t (commit_file (c.commits + 2))) cleared ∙ get-without_tree d2 (commit_file (c.commits + 2)) (commit_file (c.commits + 2))
      ∙ ap (λ (b : Bool). cond b None (get d2 (commit_file (c.commits + 2)))) (within_itself (commit_file (c.commits + 2)));
}
