-- The names of the files are paths, and differ.
use Rattle.std.proofs.Common.{◌≡◌, ⊎_elim, ℕ, ◌<◌, ◌^◌, true, false, ◌||◌, List, [], ◌∷◌, length, get_or, drop, refl, ◌∙◌, ap, arith, length-append, lit<}
use Rattle.std.specs.Prelude.{codes}
use Rattle.std.specs.Cmp.{first_so, second_so}
use Rattle.std.specs.Fmt.{decimal}
use Rattle.std.specs.List.{list_all}
use Rattle.std.proofs.lemmas.Bool.{cases_Bool}
use Rattle.std.proofs.lemmas.Fmt.{decimal_injective, length-decimal-le}
use Rattle.hex.specs.Hex.{IsBytes}
use Rattle.repo_index.proofs.cny-base.Parent.{join_is_path}
use Rattle.repo_index.specs.cny-base.Path.{are_parts, has_slash, is_dots, is_path}
use Rattle.journal_log.specs.tree-disk.Tree.{Name, same_name}
use Rattle.journal_log.specs.tree-disk.Laws.{same_means}
use Rattle.content_store.specs.Store.{content_path}
use Rattle.repo_load.specs.Files.{repository_base, commit_file, contents_dir}
use Rattle.journal_log.proofs.cny-base.FileNames.{is_low, low_no_slash, parts}
use Rattle.journal_log.proofs.cny-base.Counts.{fits as at_most}
use Rattle.journal_log.proofs.FileNames.{digits_low as decimal_low}
use Rattle.content_store.proofs.Paths.{content_is_path as stands_at_path}

-- ---- paths

base_parts : are_parts (codes "conaryrepo") ≡ true
base_parts = parts (codes "conaryrepo") refl refl (omega arith) (omega arith)

pub base_is_path : is_path repository_base ≡ true
base_is_path = base_parts

pub contents_is_path : is_path contents_dir ≡ true
contents_is_path = join_is_path repository_base (codes "c") base_is_path (parts (codes "c") refl refl (omega arith) (omega arith)) refl

no_dots : (ds : List ℕ) → is_dots (107 ∷ 46 ∷ ds) ≡ false
no_dots [] = refl
no_dots (d ∷ ds) = refl

pub commit_is_path : (n : ℕ) → n < 2 ^ 64 → is_path (commit_file n) ≡ true
commit_is_path n fits =
    let long = length-decimal-le 20 n (lit< tt) (omega (arith, fits)) fits in
    let last : Name = 107 ∷ 46 ∷ decimal n in
    join_is_path repository_base last base_is_path (parts last (decimal_low n fits) (no_dots (decimal n)) (omega arith) (omega (arith, long)))
    (at_most (length (commit_file n)) (omega (arith, long, length-append repository_base (47 ∷ last))))

pub content_is_path : (name : List ℕ) → length name ≡ 20 → IsBytes name → is_path (content_path contents_dir name) ≡ true
content_is_path name long fits = stands_at_path contents_dir name contents_is_path (omega arith) long fits

-- ---- names that differ

pub content_differs : (name : List ℕ) (n : ℕ) → same_name (content_path contents_dir name) (commit_file n) ≡ false
content_differs name n = ⊎_elim
    (λ same. let k : 99 ≡ 107 = ap (λ q. get_or q 12 0) (same_means (content_path contents_dir name) (commit_file n) same) in absurd (omega (arith, k)))
    (λ other. other) (cases_Bool (same_name (content_path contents_dir name) (commit_file n)))

pub commit_differs : (m n : ℕ) → m < 2 ^ 64 → n < 2 ^ 64 → (m ≡ n → ⊥) → same_name (commit_file m) (commit_file n) ≡ false
commit_differs m n m_fits n_fits other = ⊎_elim
    (λ same. absurd (other (decimal_injective m n m_fits n_fits (ap (drop 14) (same_means (commit_file m) (commit_file n) same)))))
    (λ h. h) (cases_Bool (same_name (commit_file m) (commit_file n)))

-- ---- numbers have no slash

none_slash : (cs : List ℕ) → list_all is_low cs ≡ true → has_slash cs ≡ false
none_slash [] all = refl
none_slash (c ∷ cs) all =
    ap (λ b. b || has_slash cs) (low_no_slash c (first_so (is_low c) (list_all is_low cs) all)) ∙ none_slash cs (second_so (is_low c) (list_all is_low cs) all)

pub decimal_plain : (n : ℕ) → n < 2 ^ 64 → has_slash (107 ∷ 46 ∷ decimal n) ≡ false
decimal_plain n fits = none_slash (107 ∷ 46 ∷ decimal n) (decimal_low n fits)
