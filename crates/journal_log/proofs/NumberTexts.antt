-- The last names of staged files that writes name, by their numbers.
use Rattle.std.proofs.Common.{◌≡◌, ℕ, ◌<◌, ◌^◌, ◌==◌, Bool, true, false, ◌||◌, List, [], ◌∷◌, Option, Some, None, refl, sym, ◌∙◌, ap, subst}
use Rattle.std.specs.Fmt.{decimal}
use Rattle.std.specs.List.{list_any}
use Rattle.std.specs.Str.{bytes_eq}
use Rattle.std.proofs.lemmas.Map.Text.{is_eq-slice_cmp}
use Rattle.tree_disk.specs.Tree.{same_name}
use Rattle.tree_disk.specs.Laws.{same_means}
use Rattle.tree_disk.proofs.Laws.{same_itself}
use Rattle.journal_log.specs.declared.put.Want.{Want}
use Rattle.journal_log.specs.declared.put.Want.TheVariants.{Nothing, Dir, File, Link, Staged}
use Rattle.journal_log.specs.declared.put.Put.{Put}
use Rattle.journal_log.specs.Staged.{is_staged_as, names_staged, is_staged_at, names_staged_at, AreStagedNumbers, NumbersFit}
use Rattle.tree_disk.proofs.cny-base.Bools.{or_left, or_right}
use Rattle.tree_disk.proofs.cny-base.Below.{equal_test as equal_itself, test_equal as same_number}

-- a number that the writes name, whose text is this
record HasNumber (puts : List Put) (last : List ℕ) (n : ℕ) : Type 0 where
  named : names_staged puts n ≡ true
  text : decimal n ≡ last

number_here : (last : List ℕ) (w : Want) → is_staged_at last w ≡ true → (n : ℕ) × (is_staged_as n w ≡ true) × (decimal n ≡ last)
number_here last Nothing h = absurd (cc h)
number_here last (Dir mode) h = absurd (cc h)
number_here last (File mode bytes) h = absurd (cc h)
number_here last (Link target) h = absurd (cc h)
number_here last (Staged mode n size name) h = (n, equal_itself n, same_means (decimal n) last h)

number_of : (puts : List Put) (last : List ℕ) → names_staged_at puts last ≡ true → (n : ℕ) × HasNumber puts last n
number_of [] last h = absurd (cc h)
number_of (p ∷ puts) last h = by (is_staged_at last p.want) refl h (λ more. number_of puts last more)
  where
    by : (b : Bool) → is_staged_at last p.want ≡ b → (b || names_staged_at puts last) ≡ true → (names_staged_at puts last ≡ true → (n : ℕ) × HasNumber puts last n) → (n : ℕ) × HasNumber (p ∷ puts) last n
    by true here either rest =
        let found = number_here last p.want here in
        (found.0, record { named = or_left (is_staged_as found.0 p.want) (names_staged puts found.0) found.1; text = found.2 })
    by false here either rest =
        let found = rest either in
        (found.0, record { named = or_right (is_staged_as found.0 p.want) (names_staged puts found.0) found.1.named; text = found.1.text })

text_here : (n : ℕ) (last : List ℕ) (w : Want) → is_staged_as n w ≡ true → decimal n ≡ last → is_staged_at last w ≡ true
text_here n last Nothing h is = absurd (cc h)
text_here n last (Dir mode) h is = absurd (cc h)
text_here n last (File mode bytes) h is = absurd (cc h)
text_here n last (Link target) h is = absurd (cc h)
text_here n last (Staged mode m size name) h is = ap (λ (t : List ℕ). same_name t last) (ap decimal (same_number m n h) ∙ is) ∙ same_itself last

text_of : (puts : List Put) (n : ℕ) (last : List ℕ) → names_staged puts n ≡ true → decimal n ≡ last → names_staged_at puts last ≡ true
text_of [] n last h is = absurd (cc h)
text_of (p ∷ puts) n last h is = by (is_staged_as n p.want) refl h (λ more. text_of puts n last more is)
  where
    by : (b : Bool) → is_staged_as n p.want ≡ b → (b || names_staged puts n) ≡ true → (names_staged puts n ≡ true → names_staged_at puts last ≡ true) → (is_staged_at last p.want || names_staged_at puts last) ≡ true
    by true here either rest = or_left (is_staged_at last p.want) (names_staged_at puts last) (text_here n last p.want here is)
    by false here either rest = or_right (is_staged_at last p.want) (names_staged_at puts last) (rest either)

not_so : (b : Bool) → (b ≡ true → ⊥) → false ≡ b
not_so true un = absurd (un refl)
not_so false un = refl

module _ (puts : List Put) (used last : List ℕ) (o : Option ℕ) (same : AreStagedNumbers puts used) (fit : NumbersFit used) (read : (n : ℕ) → n < 2 ^ 32 → last ≡ decimal n → o ≡ Some n) where
  -- the name that is named is read as its number
  read_named : names_staged_at puts last ≡ true → (n : ℕ) × HasNumber puts last n × (list_any (λ m. m == n) used ≡ true) × (o ≡ Some n)
  read_named h =
      let found = number_of puts last h in
      let used_is = same found.0 ∙ found.1.named in
      (found.0, found.1, used_is, read found.0 (fit found.0 used_is) (sym found.1.text))

  pub number_none : o ≡ None → false ≡ names_staged_at puts last
  number_none none = not_so (names_staged_at puts last) (λ h. let found = read_named h in let is = found.3 in cc (is, none))

  some_number : (k n : ℕ) → o ≡ Some k → o ≡ Some n → k ≡ n
  some_number k n a b = let both : ◌≡◌ {A = Option ℕ} (Some k) (Some n) = sym a ∙ b in cc both

  pub number_other : (k : ℕ) → o ≡ Some k → list_any (λ m. m == k) used ≡ false → false ≡ names_staged_at puts last
  number_other k is other = not_so (names_staged_at puts last) (λ h.
      let found = read_named h in
      let k_is = some_number k found.0 is found.3 in
      let has = subst (λ (n : ℕ). list_any (λ m. m == n) used ≡ true) (sym k_is) found.2 in
      cc (has, other))

  pub number_text : (k : ℕ) → o ≡ Some k → list_any (λ m. m == k) used ≡ true → (t : Bool) → t ≡ bytes_eq (decimal k) last → t ≡ names_staged_at puts last
  number_text k is has true eq = sym (text_of puts k last (sym (same k) ∙ has) (same_means (decimal k) last (is_eq-slice_cmp (decimal k) last ∙ sym eq)))
  number_text k is has false eq = not_so (names_staged_at puts last) (λ h.
      let found = read_named h in
      let k_is = some_number k found.0 is found.3 in
      let text : decimal k ≡ last = ap decimal k_is ∙ found.1.text in
      let alike : bytes_eq (decimal k) last ≡ true = sym (is_eq-slice_cmp (decimal k) last) ∙ ap (λ (t : List ℕ). same_name t last) text ∙ same_itself last in
      cc (eq, alike))
