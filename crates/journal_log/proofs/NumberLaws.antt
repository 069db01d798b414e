-- What numbering the files of writes keeps.
use Rattle.std.specs.Prelude.{◌≡◌, ℕ, ◌+◌, Bool, true, false, cond, ◌||◌, List, [], ◌∷◌, length, refl}
use Rattle.std.proofs.Common.{sym, ◌∙◌, ap, subst, arith, suc}
use Rattle.std.specs.List.{All}
use Rattle.std.proofs.lemmas.List.Elements.{All-head, All-tail, All-cons, All-weaker}
use Rattle.tree_disk.specs.Tree.{Name, same_name}
use Rattle.journal_log.specs.declared.put.Want.{Want}
use Rattle.journal_log.specs.declared.put.Want.TheVariants.{Nothing, Dir, File, Link, Staged}
use Rattle.journal_log.specs.declared.put.Put.{Put}
use Rattle.journal_log.specs.Targets.{is_dir_want, is_target}
use Rattle.journal_log.specs.WriteSet.{ComesBefore, Rises}
use Rattle.journal_log.specs.Staged.{is_file_want, HaveNoBytes}
use Rattle.journal_log.specs.Numbers.{staged_want, file_count, with_numbers, IsNumbered}
use Rattle.journal_log.proofs.FreeNumbers.{less as left}

-- ---- write by write

pub staged_dir : (n : ℕ) (w : Want) → is_dir_want (staged_want n w) ≡ is_dir_want w
staged_dir n Nothing = refl
staged_dir n (Dir mode) = refl
staged_dir n (File mode bytes) = refl
staged_dir n (Link target) = refl
staged_dir n (Staged mode m size name) = refl

pub staged_nothing : (n : ℕ) (w : Want) → w ≡ Nothing → staged_want n w ≡ Nothing
staged_nothing n w is = ap (staged_want n) is

pub no_bytes_staged : (n : ℕ) (w : Want) → is_file_want (staged_want n w) ≡ false
no_bytes_staged n Nothing = refl
no_bytes_staged n (Dir mode) = refl
no_bytes_staged n (File mode bytes) = refl
no_bytes_staged n (Link target) = refl
no_bytes_staged n (Staged mode m size name) = refl

-- ---- the paths stay

pub same_targets : (numbers : List ℕ) (puts : List Put) (q : Name) → is_target (with_numbers numbers puts) q ≡ is_target puts q
same_targets numbers [] q = refl
same_targets [] (p ∷ puts) q = refl
same_targets (n ∷ numbers) (p ∷ puts) q = ap (λ (b : Bool). same_name q p.path || b) (same_targets (cond (is_file_want p.want) numbers (n ∷ numbers)) puts q)

same_before : (numbers : List ℕ) (p : Put) (puts : List Put) (want : Want) → ComesBefore p puts → ComesBefore (record { path = p.path; want = want }) (with_numbers numbers puts)
same_before numbers p [] want before = tt
same_before [] p (q ∷ puts) want before = before
same_before (n ∷ numbers) p (q ∷ puts) want before = before

pub same_rises : (numbers : List ℕ) (puts : List Put) → Rises puts → Rises (with_numbers numbers puts)
same_rises numbers [] rises = tt
same_rises [] (p ∷ puts) rises = rises
same_rises (n ∷ numbers) (p ∷ puts) rises =
    let rest = cond (is_file_want p.want) numbers (n ∷ numbers) in
    (same_before rest p puts (staged_want n p.want) rises.0, same_rises rest puts rises.1)

pub same_count : (numbers : List ℕ) (puts : List Put) → length (with_numbers numbers puts) ≡ length puts
same_count numbers [] = refl
same_count [] (p ∷ puts) = refl
same_count (n ∷ numbers) (p ∷ puts) = ap suc (same_count (cond (is_file_want p.want) numbers (n ∷ numbers)) puts)

-- what holds of a write and stays true as its file's bytes are staged, holds of all
pub all_with_numbers : (P Q : Put → Type 0) → ((p : Put) → P p → Q p) → ((n : ℕ) (p : Put) → P p → Q (record { path = p.path; want = staged_want n p.want })) → (numbers : List ℕ) (puts : List Put) → All P puts → All Q (with_numbers numbers puts)
all_with_numbers P Q stays staged numbers [] all = λ k d lt. absurd (omega arith)
all_with_numbers P Q stays staged [] (p ∷ puts) all = All-weaker P Q stays (p ∷ puts) all
all_with_numbers P Q stays staged (n ∷ numbers) (p ∷ puts) all =
    All-cons Q (record { path = p.path; want = staged_want n p.want }) (with_numbers (cond (is_file_want p.want) numbers (n ∷ numbers)) puts)
    (staged n p (All-head P p puts all))
    (all_with_numbers P Q stays staged (cond (is_file_want p.want) numbers (n ∷ numbers)) puts (All-tail P p puts all))

-- ---- no bytes of a file are left

count_same : (b : Bool) (m n : ℕ) → n ≡ cond b 1 0 + m → b ≡ false → n ≡ m
count_same true m n is h = absurd (cc h)
count_same false m n is h = omega (arith, is)

no_files : (puts : List Put) → 0 ≡ file_count puts → HaveNoBytes puts
no_files [] none = λ k d lt. absurd (omega arith)
no_files (p ∷ puts) none = at (is_file_want p.want) refl (λ more. no_files puts more)
  where
    at : (b : Bool) → is_file_want p.want ≡ b → (0 ≡ file_count puts → HaveNoBytes puts) → HaveNoBytes (p ∷ puts)
    at true is rest = absurd (omega (arith, none ∙ ap (λ (b : Bool). cond b 1 0 + file_count puts) is))
    at false is rest = All-cons (λ (q : Put). is_file_want q.want ≡ false) p puts is (rest (count_same (is_file_want p.want) (file_count puts) 0 none is))

pub no_bytes_left : (numbers : List ℕ) (puts : List Put) → length numbers ≡ file_count puts → HaveNoBytes (with_numbers numbers puts)
no_bytes_left numbers [] enough = λ k d lt. absurd (omega arith)
no_bytes_left [] (p ∷ puts) enough = no_files (p ∷ puts) enough
no_bytes_left (n ∷ numbers) (p ∷ puts) enough =
    All-cons (λ (q : Put). is_file_want q.want ≡ false) (record { path = p.path; want = staged_want n p.want }) (with_numbers (cond (is_file_want p.want) numbers (n ∷ numbers)) puts)
    (no_bytes_staged n p.want)
    (no_bytes_left (cond (is_file_want p.want) numbers (n ∷ numbers)) puts (left (is_file_want p.want) n numbers (file_count puts) enough))

-- ---- the same, of numbered writes

pub numbered_no_bytes : (puts made : List Put) → IsNumbered puts made → HaveNoBytes made
numbered_no_bytes puts made is = subst HaveNoBytes (sym is.writes) (no_bytes_left is.numbers puts is.enough)

pub numbered_rises : (puts made : List Put) → IsNumbered puts made → Rises puts → Rises made
numbered_rises puts made is rises = subst Rises (sym is.writes) (same_rises is.numbers puts rises)

pub numbered_targets : (puts made : List Put) (q : Name) → IsNumbered puts made → is_target made q ≡ is_target puts q
numbered_targets puts made q is = ap (λ (l : List Put). is_target l q) is.writes ∙ same_targets is.numbers puts q
