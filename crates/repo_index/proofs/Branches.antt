-- Branches of one text are one branch, so that they have one depth.
use Rattle.std.proofs.Common.{◌≡◌, ℕ, ◌+◌, ◌<◌, ◌≤◌, ◌^◌, true, false, ◌&&◌, IsTrue, List, [], ◌∷◌, ◌++◌, length, None, nat_le, refl, ap, append-nil, length-append, arith}
use Rattle.std.specs.Cmp.{first_so, second_so}
use Rattle.std.specs.Fmt.{decimal}
use Rattle.std.specs.List.{list_all}
use Rattle.std.proofs.lemmas.Bool.Decides.{nat_tests}
use Rattle.std.proofs.lemmas.Fmt.{decimal_nonempty, length-decimal-le}
use Rattle.cny_version.specs.declared.revision.Revision.{Revision}
use Rattle.cny_version.specs.Revision.{count_text, build_text, revision_text, fits_32_bits, is_build, is_count, is_revision, is_upstream, ends_above_zero}
use Rattle.cny_version.specs.Version.{branch_text, depth, version_text, IsVersion, WholeVersion}

-- ---- a revision of three bytes, which fits each depth

abbrev plain : Revision
plain = record { upstream = 49 ∷ []; source = 1 ∷ []; build = None }

one_more : (d : ℕ) → nat_le 1 (d + 1) ≡ true
one_more d = grind (arith, nat_tests)

fits_each : (d : ℕ) → IsTrue (is_revision d plain)
fits_each d = rw (one_more d) refl

plain_len : length (revision_text plain) ≤ 3
plain_len =
    let one = length-decimal-le 1 1 (omega arith) (omega arith) (omega arith) in
    let all : length (decimal 1 ++ []) ≤ 1 = rw (append-nil (decimal 1)) one in
    omega (arith, all)

-- ---- no revision is shorter

first_count : (n : ℕ) (ns : List ℕ) → length (decimal n) ≤ length (count_text (n ∷ ns))
first_count n [] = omega arith
first_count n (m ∷ ns) = let all = length-append (decimal n) (46 ∷ count_text (m ∷ ns)) in omega (arith, all)

small : (n : ℕ) → fits_32_bits n ≡ true → n < 2 ^ 64
small n fits = let low : n < 2 ^ 32 = grind (arith, nat_tests) in omega arith

count_some : (d : ℕ) (ns : List ℕ) → is_count d ns ≡ true → 1 ≤ length (count_text ns)
count_some d [] is = let bad : false ≡ true = second_so (nat_le 0 (d + 1)) false is in absurd (cc bad)
count_some d (n ∷ ns) is =
    let rest = second_so (nat_le (length (n ∷ ns)) (d + 1)) (list_all fits_32_bits (n ∷ ns) && ends_above_zero (n ∷ ns)) is in
    let fits = first_so (list_all fits_32_bits (n ∷ ns)) (ends_above_zero (n ∷ ns)) rest in
    let one = first_so (fits_32_bits n) (list_all fits_32_bits ns) fits in
    let some = decimal_nonempty n (small n one) in
    let all = first_count n ns in
    omega (arith, some, all)

upstream_some : (u : List ℕ) → is_upstream u ≡ true → 1 ≤ length u
upstream_some [] is = absurd (cc is)
upstream_some (b ∷ bs) is = omega arith

revision_some : (d : ℕ) (r : Revision) → is_revision d r ≡ true → 3 ≤ length (revision_text r)
revision_some d r is =
    let upstream = upstream_some r.upstream (first_so (is_upstream r.upstream) (is_count d r.source && is_build d r.build) is) in
    let counts = second_so (is_upstream r.upstream) (is_count d r.source && is_build d r.build) is in
    let source = count_some d r.source (first_so (is_count d r.source) (is_build d r.build) counts) in
    let whole = length-append r.upstream (45 ∷ (count_text r.source ++ build_text r.build)) in
    let behind = length-append (count_text r.source) (build_text r.build) in
    omega (arith, upstream, source, whole, behind)

-- ---- branches

plain_version : (v : WholeVersion) → IsVersion v → IsVersion (record { branch = v.branch; revision = plain })
plain_version v is = record {
  branch = is.branch;
  revision = fits_each (depth v.branch);
  short =
      let some = revision_some (depth v.branch) v.revision is.revision in
      let old = length-append (branch_text v.branch) (47 ∷ revision_text v.revision) in
      let new = length-append (branch_text v.branch) (47 ∷ revision_text plain) in
      omega (arith, is.short, plain_len, old, new);
}

pub same_branch : ((v w : WholeVersion) → IsVersion v → IsVersion w → version_text v ≡ version_text w → v ≡ w) → (v w : WholeVersion) → IsVersion v → IsVersion w → branch_text v.branch ≡ branch_text w.branch → v.branch ≡ w.branch
same_branch distinct v w v_is w_is same =
    ap (λ (x : WholeVersion). x.branch)
    (distinct (record { branch = v.branch; revision = plain }) (record { branch = w.branch; revision = plain }) (plain_version v v_is) (plain_version w w_is)
    (ap (λ (l : List ℕ). l ++ 47 ∷ revision_text plain) same))
