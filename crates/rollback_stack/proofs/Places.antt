-- Where the contents of a job are saved, and what stands apart from there.
use Rattle.std.proofs.Common.{◌≡◌, ◌≢◌, ⊎_elim, ℕ, ◌<◌, ◌^◌, true, false, List, [], ◌∷◌, ◌++◌, length, get_or, refl, ap, arith, length-append}
use Rattle.std.specs.Fmt.{decimal}
use Rattle.hex.specs.Hex.{encode_lower}
use Rattle.sha1.specs.Sha1.{sha1}
use Rattle.job_targets.specs.cny-base.Below.{is_below}
use Rattle.job_targets.proofs.cny-base.Below.{below_rest, rest_below, before_join}
use Rattle.job_targets.specs.cny-base.Path.{has_slash, join, or_root, parent, root}
use Rattle.job_targets.specs.cny-base.Reserved.{private_directory}
use Rattle.job_targets.specs.tree-disk.Tree.{Name, same_name}
use Rattle.job_targets.specs.tree-disk.Laws.{same_means}
use Rattle.job_targets.specs.tree-disk.Clear.{is_within}
use Rattle.job_targets.proofs.tree-disk.ClearLaws.{or_cases}
use Rattle.job_targets.specs.content-store.Store.{content_path}
use Rattle.local_db.specs.Names.{is_job_place, record_file, saved}
use Rattle.job_targets.proofs.content-store.Digits.{digits_long}
use Rattle.change_rel.proofs.cny-stream.Digests.{digest_long}
use Rattle.tree_scan.proofs.tree-disk.Names.{within_rest}
use Rattle.local_db.proofs.tree-journal.Staged.{decimal_plain as no_slash}
use Rattle.change_rel.proofs.cny-base.Bools.{not_true as not_so}

-- ---- the parent of the directory

plain : (n : ℕ) → n < 2 ^ 64 → has_slash (115 ∷ 46 ∷ decimal n) ≡ false
plain n fits = no_slash n fits

pub saved_parent : (n : ℕ) → n < 2 ^ 32 → parent (saved n) ≡ private_directory
saved_parent n fits = ap or_root (before_join private_directory (115 ∷ 46 ∷ decimal n) false (plain n (omega (arith, fits))))

-- ---- names apart

within_letter : (c : ℕ) (more q : Name) → is_within (private_directory ++ 47 ∷ c ∷ more) q ≡ true → get_or q 18 0 ≡ c
within_letter c more q h = let r = within_rest (private_directory ++ 47 ∷ c ∷ more) q h in ap (λ (n : Name). get_or n 18 0) r.1

pub record_not_saved : (n m : ℕ) (q : Name) → is_within (record_file n) q ≡ true → is_within (saved m) q ≡ false
record_not_saved n m q record_is = not_so (is_within (saved m) q) (λ saved_is.
    let one = within_letter 114 (46 ∷ decimal n) q record_is in
    let other = within_letter 115 (46 ∷ decimal m) q saved_is in
    omega (arith, one, other))

-- a name of at most 18 bytes is at no place of a job
short_not_place : (n : ℕ) (q : Name) → get_or q 18 0 ≡ 0 → is_job_place n q ≡ false
short_not_place n q short = not_so (is_job_place n q) (λ h. ⊎_elim
    (λ record_is. let one = within_letter 114 (46 ∷ decimal n) q record_is in omega (arith, one, short))
    (λ saved_is. let one = within_letter 115 (46 ∷ decimal n) q saved_is in omega (arith, one, short))
    (or_cases (is_within (record_file n) q) (is_within (saved n) q) h))

pub base_not_place : (n : ℕ) → is_job_place n private_directory ≡ false
base_not_place n = short_not_place n private_directory refl

pub above_not_place : (n : ℕ) → is_job_place n (parent private_directory) ≡ false
above_not_place n = short_not_place n (parent private_directory) refl

pub base_not_saved : (n : ℕ) → is_within (saved n) private_directory ≡ false
base_not_saved n = not_so (is_within (saved n) private_directory) (λ h.
    let one : 0 ≡ 115 = within_letter 115 (46 ∷ decimal n) private_directory h in omega (arith, one))

-- what stands at the places of a job isn't the private directory
pub place_not_base : (n : ℕ) (q : Name) → is_job_place n q ≡ true → same_name q private_directory ≡ false
place_not_base n q h = not_so (same_name q private_directory) (λ same.
    absurd (cc (h, ap (is_job_place n) (same_means q private_directory same), base_not_place n)))

pub record_not_root : (n : ℕ) → record_file n ≢ root
record_not_root n is = let one : 118 ≡ 0 = ap (λ (q : Name). get_or q 1 0) is in absurd (omega (arith, one))

pub saved_not_root : (n : ℕ) → saved n ≢ root
saved_not_root n is = let one : 118 ≡ 0 = ap (λ (q : Name). get_or q 1 0) is in absurd (omega (arith, one))

-- ---- contents

pub content_below : (n : ℕ) (name : List ℕ) → is_below (saved n) (content_path (saved n) name) ≡ true
content_below n name = rest_below (saved n) (encode_lower name)

longer : (p last : Name) → 1 < length last → length p < length (join p last)
longer [] last some = omega arith
longer (b ∷ []) last some = omega (arith, some)
longer (b ∷ c ∷ p) last some = omega (arith, length-append (b ∷ c ∷ p) (47 ∷ last))

pub content_not_dir : (dir bytes : List ℕ) → same_name (content_path dir (sha1 bytes)) dir ≡ false
content_not_dir dir bytes = not_so (same_name (content_path dir (sha1 bytes)) dir) (λ same.
    let digits = digits_long (sha1 bytes) (digest_long bytes) in
    let more = longer dir (encode_lower (sha1 bytes)) (omega (arith, digits)) in
    let is = ap length (same_means (content_path dir (sha1 bytes)) dir same) in
    omega (arith, more, is))

-- what lies below a name isn't the name
pub below_not_itself : (p q : Name) → is_below p q ≡ true → same_name q p ≡ false
below_not_itself p q low = not_so (same_name q p) (λ same.
    let r = below_rest p q low in
    let is = ap length (same_means q p same) in
    omega (arith, is, ap length r.1, length-append p (47 ∷ r.0)))
