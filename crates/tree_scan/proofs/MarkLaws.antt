-- Fingerprints that are the same are equal.
use Rattle.std.specs.Prelude.{◌≡◌, true, ◌&&◌, ◌==◌, refl}
use Rattle.std.proofs.Common.{ap}
use Rattle.std.specs.Cmp.{first_so, second_so}
use Rattle.std.specs.Cmp.Derive.{both_true}
use Rattle.std.specs.Cmp.Lexicographic.{nat_list_eq_equiv}
use Rattle.std.specs.Str.{bytes_eq}
use Rattle.tree_scan.specs.declared.mark.Mark.{Mark}
use Rattle.tree_scan.specs.declared.mark.Mark.TheVariants.{Nothing, Dir, File, Link}
use Rattle.tree_scan.specs.Marks.{same_mark}
use Rattle.tree_disk.proofs.cny-base.Below.{equal_test as number_same, test_equal as same_number}
use Rattle.tree_disk.proofs.cny-base.ByteLists.{bytes_mean as same_bytes}

pub same_mark_means : (a b : Mark) → same_mark a b ≡ true → a ≡ b
same_mark_means Nothing Nothing is = refl
same_mark_means Nothing (Dir n) is = absurd (cc is)
same_mark_means Nothing (File n t b) is = absurd (cc is)
same_mark_means Nothing (Link b) is = absurd (cc is)
same_mark_means (Dir m) Nothing is = absurd (cc is)
same_mark_means (Dir m) (Dir n) is = ap Dir (same_number m n is)
same_mark_means (Dir m) (File n t b) is = absurd (cc is)
same_mark_means (Dir m) (Link b) is = absurd (cc is)
same_mark_means (File m s a) Nothing is = absurd (cc is)
same_mark_means (File m s a) (Dir n) is = absurd (cc is)
same_mark_means (File m s a) (File n t b) is =
    let modes = same_number m n (first_so (m == n) (s == t && bytes_eq a b) is) in
    let rest = second_so (m == n) (s == t && bytes_eq a b) is in
    let sizes = same_number s t (first_so (s == t) (bytes_eq a b) rest) in
    let names = same_bytes a b (second_so (s == t) (bytes_eq a b) rest) in
    cc
same_mark_means (File m s a) (Link b) is = absurd (cc is)
same_mark_means (Link a) Nothing is = absurd (cc is)
same_mark_means (Link a) (Dir n) is = absurd (cc is)
same_mark_means (Link a) (File n t b) is = absurd (cc is)
same_mark_means (Link a) (Link b) is = ap Link (same_bytes a b is)

pub same_mark_itself : (a : Mark) → same_mark a a ≡ true
same_mark_itself Nothing = refl
same_mark_itself (Dir m) = number_same m
same_mark_itself (File m s a) = both_true (number_same m) (both_true (number_same s) (nat_list_eq_equiv.refl a))
same_mark_itself (Link a) = nat_list_eq_equiv.refl a
