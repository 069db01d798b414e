-- Whether a staged file has a path, by the length of its name.
use Rattle.std.proofs.Common.{◌≡◌, ℕ, ◌+◌, ◌<◌, ◌≤◌, ◌^◌, Bool, true, false, [], ◌∷◌, length, refl, sym, ◌∙◌, arith, length-append}
use Rattle.std.specs.Prelude.{nat_le}
use Rattle.std.specs.Fmt.{decimal}
use Rattle.std.proofs.lemmas.Bool.{cases_Bool}
use Rattle.std.proofs.lemmas.Bool.Decides.{nat_tests}
use Rattle.std.proofs.Common.{⊎_elim}
use Rattle.tree_disk.specs.cny-base.Path.{is_path}
use Rattle.tree_disk.specs.Tree.{Name}
use Rattle.journal_log.specs.Joined.{front_of}
use Rattle.journal_log.specs.Own.{staged_file}
use Rattle.journal_log.proofs.StagedLaws.{staged_is_path, staged_length}
use Rattle.tree_disk.proofs.cny-base.Counts.{fits}
use Rattle.tree_disk.proofs.Children.{path_short}

-- the slash behind the directory is counted, but for `/`
pub longer_front : (dir : Name) → is_path dir ≡ true → 1 < length dir → length (front_of dir) ≡ length dir + 1
longer_front [] path more = absurd (omega arith)
longer_front (b ∷ []) path more = absurd (omega arith)
longer_front (b ∷ c ∷ rest) path more = length-append (b ∷ c ∷ rest) (47 ∷ [])

pub root_front : (dir : Name) → is_path dir ≡ true → length dir ≤ 1 → length (front_of dir) ≡ length dir
root_front [] path less = absurd (cc path)
root_front (b ∷ []) path less = refl
root_front (b ∷ c ∷ rest) path less = absurd (omega arith)

within : (n : ℕ) → nat_le n 1024 ≡ true → n ≤ 1024
within n h = grind (arith, nat_tests)

pub length_decides : (base : Name) (number n : ℕ) → is_path base ≡ true → number < 2 ^ 32 → n ≡ length (front_of base) + 2 + length (decimal number) → nat_le n 1024 ≡ is_path (staged_file base number)
length_decides base number n path small is =
    let long : n ≡ length (staged_file base number) = is ∙ sym (staged_length base path number) in
    ⊎_elim
    (λ stands. let short = path_short (staged_file base number) stands in fits n (omega (arith, long, short)) ∙ sym stands)
    (λ none. at (nat_le n 1024) refl long none)
    (cases_Bool (is_path (staged_file base number)))
  where
    at : (b : Bool) → nat_le n 1024 ≡ b → n ≡ length (staged_file base number) → is_path (staged_file base number) ≡ false → nat_le n 1024 ≡ is_path (staged_file base number)
    at true le long none =
        let short = within n le in
        let stands = staged_is_path base path number small (omega (arith, long, short)) in
        absurd (cc (stands, none))
    at false le long none = le ∙ sym none
