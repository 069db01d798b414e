-- The item of a link: two `str` fields.
use Rattle.std.proofs.Common.{suc, Bool, ◌&&◌, nat_le, ⊎_elim, ◌≡◌, ℕ, ◌+◌, ◌<◌, ◌^◌, false, true, IsTrue, List, [], ◌∷◌, ◌++◌, length, drop, refl, sym, ◌∙◌, ap, arith, append-nil, length-append}
use Rattle.std.specs.Prelude.{slice_range, ◌==◌}
use Rattle.std.specs.List.{list_all}
use Rattle.std.specs.Str.{is_utf8}
use Rattle.std.proofs.lemmas.Bool.Decides.{nat_tests}
use Rattle.std.specs.Int.{w16, to_be_bytes, from_be_bytes}
use Rattle.std.proofs.Math.Seq.{drop-append_seam}
use Rattle.std.proofs.lemmas.Nat.{from_be_bytes-to_be_bytes_2}
use Rattle.tree_disk.specs.cny-base.StrField.{FitsStr, str}
use Rattle.tree_disk.specs.cny-base.Path.{is_path, are_parts}
use Rattle.tree_disk.specs.cny-base.Target.{is_target, is_shown}
use Rattle.tree_disk.specs.cny-base.declared.str_field.Span.{Span}
use Rattle.tree_disk.specs.Tree.{Name}
use Rattle.journal_log.specs.declared.put.Want.{Want}
use Rattle.journal_log.specs.declared.put.Want.TheVariants.{Nothing, Dir, File, Link, Staged}
use Rattle.journal_log.specs.declared.put.Put.{Put}
use Rattle.journal_log.specs.WriteSet.{IsFormed}
use Rattle.journal_log.specs.LogBytes.{put_tag, put_value}
use Rattle.journal_log.specs.PutItem.{IsPutItem}
use Rattle.journal_log.specs.TwoStrs.{AreTwoStrs}
use Rattle.tree_disk.proofs.cny-base.Bools.{tests_of}
use Rattle.tree_disk.proofs.cny-base.ItemLaws.{same_front}
use Rattle.tree_disk.proofs.cny-base.IdFields.{same_str}

pub same_two : (m n : ℕ) (r q : List ℕ) → m < 2 ^ 16 → n < 2 ^ 16 → to_be_bytes w16 m ++ r ≡ to_be_bytes w16 n ++ q → (m ≡ n) × (r ≡ q)
same_two m n r q m_fits n_fits e =
    let both = same_front (to_be_bytes w16 m) (to_be_bytes w16 n) r q refl e in
    (sym (from_be_bytes-to_be_bytes_2 m m_fits) ∙ ap (from_be_bytes w16) both.0 ∙ from_be_bytes-to_be_bytes_2 n n_fits, both.1)

-- what stands behind the first field
pub behind_str : (a b value : List ℕ) (to : ℕ) → value ≡ str a ++ b → to ≡ 2 + length a → drop to value ≡ b
behind_str a b value to is at =
    let long : length (str a) ≡ 2 + length a = length-append (to_be_bytes w16 (length a)) a in
    ap (λ (n : ℕ). drop n value) (at ∙ sym long) ∙ ap (drop (length (str a))) is ∙ drop-append_seam (str a) b

pub both_lengths : (a b value : List ℕ) → value ≡ str a ++ str b → length value ≡ 2 + length a + (2 + length b)
both_lengths a b value is =
    let first : length (str a) ≡ 2 + length a = length-append (to_be_bytes w16 (length a)) a in
    let second : length (str b) ≡ 2 + length b = length-append (to_be_bytes w16 (length b)) b in
    omega (arith, ap length is, length-append (str a) (str b), first, second)

-- ---- paths and targets are short

pub short : (n : ℕ) → nat_le n 1024 ≡ true → n < 2 ^ 16
short n h = grind (arith, nat_tests)

pub shorter : (n : ℕ) → nat_le n 1023 ≡ true → suc n < 2 ^ 16
shorter n h = grind (arith, nat_tests)

pub empty : (n : ℕ) → (n == 0) ≡ true → suc n < 2 ^ 16
empty n h = grind (arith, nat_tests)

pub fits_path : (path : Name) → IsTrue (is_path path) → FitsStr path
fits_path [] is = omega arith
fits_path (b ∷ bs) is = ⊎_elim (empty (length bs)) (shorter (length bs)) (tests_of (b == 47) (length bs == 0) (nat_le (length bs) 1023) (are_parts bs) is)

pub target_tests : (a n s u : Bool) → ((a && (n && s)) && u) ≡ true → n ≡ true
target_tests true true s u h = refl
target_tests true false s u h = absurd (cc h)
target_tests false n s u h = absurd (cc h)

pub fits_target : (target : List ℕ) → IsTrue (is_target target) → FitsStr target
fits_target target is = short (length target) (target_tests (nat_le 1 (length target)) (nat_le (length target) 1024) (list_all is_shown target) (is_utf8 target) is)

-- what an item of a link holds
pub record IsLink (path target value : List ℕ) : Type 0 where
  pub path_is : IsTrue (is_path path)
  pub target_is : IsTrue (is_target target)
  pub spelled : value ≡ str path ++ str target

pub link_of : (p : Put) (value : List ℕ) → IsPutItem p 0x32 value → (target : List ℕ) × IsLink p.path target value
link_of p value item = by p.want item.path item.formed item.tagged item.spelled
  where
    by : (w : Want) → IsTrue (is_path p.path) → IsFormed w → put_tag w ≡ 0x32 → put_value p.path w ≡ value → (target : List ℕ) × IsLink p.path target value
    by Nothing path formed tag spelled = absurd (omega arith)
    by (Dir mode) path formed tag spelled = absurd (omega arith)
    by (Link target) path formed tag spelled = (target, record { path_is = path; target_is = formed; spelled = sym spelled })
    by (File mode bytes) path formed tag spelled = absurd (omega arith)
    by (Staged mode number size name) path formed tag spelled = absurd (omega arith)

-- the values of an item's two fields are the path and the target of each put that it is the item of
pub link_parts : (p : Put) (value : List ℕ) (first second : Span) → AreTwoStrs value first second → IsPutItem p 0x32 value
    → IsTrue (is_path (slice_range value first.from first.to)) × IsTrue (is_target (slice_range value second.from second.to))
link_parts p value first second two item =
    let link = link_of p value item in
    let target = link.0 in
    let one = same_str (slice_range value first.from first.to) p.path (str (slice_range value second.from second.to)) (str target) two.first_fits (fits_path p.path link.1.path_is) (sym two.spelled ∙ link.1.spelled) in
    let other = same_str (slice_range value second.from second.to) target [] [] two.second_fits (fits_target target link.1.target_is) (append-nil (str (slice_range value second.from second.to)) ∙ one.1 ∙ sym (append-nil (str target))) in
    (ap is_path one.0 ∙ link.1.path_is, ap is_target other.0 ∙ link.1.target_is)
