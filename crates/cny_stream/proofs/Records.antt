-- Records and their bytes in either encoding: each way back, and no record's bytes begin another's.
use Rattle.std.proofs.Common.{◌≡◌, ℕ, ◌^◌, ◌<◌, ◌≤◌, Bool, true, false, not, cond, List, [], ◌∷◌, ◌++◌, length, take, drop, slice_index, nat_le, ◌&&◌, ◌||◌, ◌==◌, Option, Some, None, refl, sym, ap, ◌∙◌, subst, arith, inl, inr, ◌⊎◌}
use Rattle.std.specs.Cmp.{first_so, second_so}
use Rattle.std.specs.Cmp.Derive.{both_true}
use Rattle.std.specs.Int.{w16, w32, to_be_bytes, from_be_bytes}
use Rattle.std.specs.List.{list_all}
use Rattle.std.specs.Prelude.{option_and_then}
use Rattle.std.specs.Str.{is_utf8}
use Rattle.std.proofs.lemmas.Bool.{false≢true}
use Rattle.std.proofs.lemmas.List.{take-append-drop, length-take, length-drop, append_assoc, append-nil}
use Rattle.std.proofs.lemmas.Nat.{be_bytes_2, be_bytes_4, from_be_bytes-to_be_bytes_2, from_be_bytes-to_be_bytes_4}
use Rattle.std.proofs.lemmas.Option.{option_and_then_some}
use Rattle.cny_base.specs.declared.limits.TheConstants.{CONTENT_LIMIT}
use Rattle.cny_base.specs.StrField.{FitsStr, str}
use Rattle.cny_base.specs.Target.{is_shown, has_target_form, is_target}
use Rattle.cny_stream.specs.declared.encoding.Encoding.{Encoding}
use Rattle.cny_stream.specs.declared.encoding.Encoding.TheVariants.{Compact, Explicit}
use Rattle.cny_stream.specs.declared.record.Flags.{Flags}
use Rattle.cny_stream.specs.declared.record.FileRec.{FileRec}
use Rattle.cny_stream.specs.declared.record.FileRec.TheVariants.{Dir, File, Link}
use Rattle.cny_stream.specs.Owner.{OwnerNames, is_owner, is_root}
use Rattle.cny_stream.specs.Record.{IsFileRecord, is_owned_by_root, IsRecordBytes, flag_bits, form_of, head, owner_bytes, owned, names_owner, record_bytes}
use Rattle.cny_stream.specs.Reading.{flags_of, str_front, owner_at, same, is_named_rightly, dir_at, file_at, target_at, link_at, kind_at, owned_at, form_at, record_of}
use Rattle.cny_stream.proofs.Fields.{IsFront, guarded, chosen, no_bytes, bits_again, bits_taken, front_taken, front_again}
use Rattle.cny_stream.proofs.Owners.{same_itself, same_told, IsOwnerFront, owner_taken, owner_again, same_owner}
use Rattle.cny_base.proofs.StrFields.{IsBytes, drop_bytes, take_bytes}
use Rattle.cny_base.proofs.Counts.{at_most, is_at_most as most_at, number_same}
use Rattle.cny_base.proofs.Below.{test_equal as same_number}
use Rattle.cny_base.proofs.ItemLaws.{same_front as same_split}

-- ---- what is read is spelled so

-- a record that was read, and what stands for it
abbrev Spells : Encoding → List ℕ → FileRec → Type 0
Spells encoding bytes rec = IsFileRecord rec × (bytes ≡ record_bytes encoding rec)

module _ (encoding : Encoding) where
  dir_taken : (flags mode : ℕ) (owner : OwnerNames) (rest : List ℕ) (rec : FileRec) → is_owner owner ≡ true → dir_at flags mode owner rest ≡ Some rec
      → Spells encoding (owned (names_owner encoding owner) 100 flags mode owner rest) rec
  dir_taken flags mode owner rest rec valid e =
      let found = guarded (nat_le mode 4095 && (flags == 0 && length rest == 0)) (Dir mode owner) rec e in
      let others = second_so (nat_le mode 4095) (flags == 0 && length rest == 0) found.0 in
      let none : flags ≡ 0 = same_number flags 0 (first_so (flags == 0) (length rest == 0) others) in
      let end : rest ≡ [] = no_bytes rest (same_number (length rest) 0 (second_so (flags == 0) (length rest == 0) others)) in (
        subst IsFileRecord found.1 (at_most mode 4095 (first_so (nat_le mode 4095) (flags == 0 && length rest == 0) found.0), valid),
        ap (λ (n : ℕ). owned (names_owner encoding owner) 100 n mode owner rest) none ∙ ap (λ l. owned (names_owner encoding owner) 100 0 mode owner l) end ∙ ap (record_bytes encoding) found.1,
      )

  file_taken : (flags mode : ℕ) (owner : OwnerNames) (rest : List ℕ) (rec : FileRec) → is_owner owner ≡ true → IsBytes rest → file_at flags mode owner rest ≡ Some rec
      → Spells encoding (owned (names_owner encoding owner) 102 flags mode owner rest) rec
  file_taken flags mode owner rest rec valid fits e =
      let named = names_owner encoding owner in
      let size = from_be_bytes w32 (take 4 rest) in
      let small = nat_le size CONTENT_LIMIT in
      let whole = length rest == 24 in
      let found = guarded (nat_le mode 4095 && (nat_le flags 7 && (whole && small))) (File mode owner (flags_of flags) size (drop 4 rest)) rec e in
      let second = second_so (nat_le mode 4095) (nat_le flags 7 && (whole && small)) found.0 in
      let third = second_so (nat_le flags 7) (whole && small) second in
      let long : length rest ≡ 24 = same_number (length rest) 24 (first_so whole small third) in
      let bits : flag_bits (flags_of flags) ≡ flags = bits_taken flags (at_most flags 7 (first_so (nat_le flags 7) (whole && small) second)) in
      let told : to_be_bytes w32 size ≡ take 4 rest = be_bytes_4 (take 4 rest) size (omega (arith, length-take 4 rest)) (take_bytes 4 rest fits) refl in (
        subst IsFileRecord found.1
            (at_most mode 4095 (first_so (nat_le mode 4095) (nat_le flags 7 && (whole && small)) found.0), at_most size CONTENT_LIMIT (second_so whole small third), omega (arith, length-drop 4 rest), valid),
        ap (λ l. owned named 102 flags mode owner l) (sym (take-append-drop 4 rest) ∙ ap (λ l. l ++ drop 4 rest) (sym told))
            ∙ ap (λ (n : ℕ). owned named 102 n mode owner (to_be_bytes w32 size ++ drop 4 rest)) (sym bits) ∙ ap (record_bytes encoding) found.1,
      )

  link_taken : (flags mode : ℕ) (rest : List ℕ) (rec : FileRec) → IsBytes rest → link_at flags mode rest ≡ Some rec → Spells encoding (head false 108 flags mode ++ rest) rec
  link_taken flags mode rest rec fits e = by (chosen (flags == 0 && mode == 0) (option_and_then target_at (str_front rest)) None (Some rec) e)
    where
      with_target : (flags == 0 && mode == 0) ≡ true → (value behind : List ℕ) → IsFront rest value behind → ((length behind == 0 && is_target value) ≡ true) × (Link value ≡ rec)
          → Spells encoding (head false 108 flags mode ++ rest) rec
      with_target none value behind front found =
          let no_flags : flags ≡ 0 = same_number flags 0 (first_so (flags == 0) (mode == 0) none) in
          let no_mode : mode ≡ 0 = same_number mode 0 (second_so (flags == 0) (mode == 0) none) in
          let end : behind ≡ [] = no_bytes behind (same_number (length behind) 0 (first_so (length behind == 0) (is_target value) found.0)) in (
            subst IsFileRecord found.1 (second_so (length behind == 0) (is_target value) found.0),
            ap (λ (n : ℕ). head false 108 n mode ++ rest) no_flags ∙ ap (λ (n : ℕ). head false 108 0 n ++ rest) no_mode
                ∙ ap (λ l. head false 108 0 0 ++ l) (front.spelled ∙ ap (λ l. str value ++ l) end ∙ append-nil (str value)) ∙ ap (record_bytes encoding) found.1,
          )

      by : (((flags == 0 && mode == 0) ≡ true) × (option_and_then target_at (str_front rest) ≡ Some rec)) ⊎ (((flags == 0 && mode == 0) ≡ false) × (None ≡ Some rec))
          → Spells encoding (head false 108 flags mode ++ rest) rec
      by (inr found) = absurd (cc (found.1))
      by (inl found) =
          option_and_then_some target_at (str_front rest) rec found.1
          (λ front is made. with_target found.0 front.0 front.1 (front_taken rest front.0 front.1 fits is) (guarded (length front.1 == 0 && is_target front.0) (Link front.0) rec made))

  -- the owner is named as the encoding has it
  as_named : (named : Bool) (kind flags mode : ℕ) (owner : OwnerNames) (rest : List ℕ) (rec : FileRec) → same (names_owner encoding owner) named ≡ true
      → Spells encoding (owned (names_owner encoding owner) kind flags mode owner rest) rec → Spells encoding (owned named kind flags mode owner rest) rec
  as_named named kind flags mode owner rest rec right spells =
      subst (λ (b : Bool). Spells encoding (owned b kind flags mode owner rest) rec) (same_told (names_owner encoding owner) named right) spells

  not_named : (named : Bool) (flags mode : ℕ) (owner : OwnerNames) (rest : List ℕ) (rec : FileRec) → not named ≡ true
      → Spells encoding (head false 108 flags mode ++ rest) rec → Spells encoding (owned named 108 flags mode owner rest) rec
  not_named true flags mode owner rest rec right spells = absurd (false≢true right)
  not_named false flags mode owner rest rec right spells = spells

  kind_taken : (named : Bool) (kind flags mode : ℕ) (owner : OwnerNames) (rest : List ℕ) (rec : FileRec) → is_named_rightly encoding kind named owner ≡ true → is_owner owner ≡ true → IsBytes rest
      → kind_at kind flags mode owner rest ≡ Some rec → Spells encoding (owned named kind flags mode owner rest) rec
  unfolding kind_at
  kind_taken named kind flags mode owner rest rec right valid fits e =
      elim (chosen (kind == 100) (dir_at flags mode owner rest) _ (Some rec) e) [
        | inl dir ↦
            let is : kind ≡ 100 = same_number kind 100 dir.0 in
            at_kind 100 is (as_named named 100 flags mode owner rest rec (subst (λ (k : ℕ). is_named_rightly encoding k named owner ≡ true) is right) (dir_taken flags mode owner rest rec valid dir.1))
        | inr other ↦
            elim (chosen (kind == 102) (file_at flags mode owner rest) _ (Some rec) other.1) [
              | inl file ↦
                  let is : kind ≡ 102 = same_number kind 102 file.0 in
                  at_kind 102 is (as_named named 102 flags mode owner rest rec (subst (λ (k : ℕ). is_named_rightly encoding k named owner ≡ true) is right) (file_taken flags mode owner rest rec valid fits file.1))
              | inr last ↦
                  elim (chosen (kind == 108) (link_at flags mode rest) None (Some rec) last.1) [
                    | inl link ↦
                        let is : kind ≡ 108 = same_number kind 108 link.0 in
                        at_kind 108 is (not_named named flags mode owner rest rec (subst (λ (k : ℕ). is_named_rightly encoding k named owner ≡ true) is right) (link_taken flags mode rest rec fits link.1))
                    | inr none ↦ absurd (cc (none.1))
                  ]
            ]
      ]
    where
      at_kind : (k : ℕ) → kind ≡ k → Spells encoding (owned named k flags mode owner rest) rec → Spells encoding (owned named kind flags mode owner rest) rec
      at_kind k is spells = subst (λ (n : ℕ). Spells encoding (owned named n flags mode owner rest) rec) (sym is) spells

  form_taken : (named : Bool) (kind flags mode : ℕ) (rest : List ℕ) (rec : FileRec) → IsBytes rest → form_at encoding named kind flags mode rest ≡ Some rec → Spells encoding (head named kind flags mode ++ rest) rec
  unfolding form_at
  form_taken named kind flags mode rest rec fits e =
      option_and_then_some (owned_at encoding named kind flags mode) (owner_at named rest) rec e (λ found is made. with_owner found.0 found.1 (owner_taken named rest found.0 found.1 fits is) made)
    where
      with_owner : (owner : OwnerNames) (behind : List ℕ) → IsOwnerFront named rest owner behind → owned_at encoding named kind flags mode (owner, behind) ≡ Some rec → Spells encoding (head named kind flags mode ++ rest) rec
      with_owner owner behind front made =
          elim (chosen (is_named_rightly encoding kind named owner) (kind_at kind flags mode owner behind) None (Some rec) made) [
            | inl right ↦ subst (λ l. Spells encoding (head named kind flags mode ++ l) rec) (sym front.spelled) (kind_taken named kind flags mode owner behind rec right.0 front.valid front.behind right.1)
            | inr wrong ↦ absurd (cc (wrong.1))
          ]

  form_is : (a : ℕ) (one two : Bool) → (a == 1) ≡ one → (a == 2) ≡ two → (one || two) ≡ true → a ≡ form_of (a == 2)
  form_is a one true is_one is_two some = same_number a 2 is_two ∙ ap form_of (sym is_two)
  form_is a true false is_one is_two some = same_number a 1 is_one ∙ ap form_of (sym is_two)
  form_is a false false is_one is_two some = absurd (false≢true some)

  pub record_taken : (bytes : List ℕ) (rec : FileRec) → IsBytes bytes → record_of encoding bytes ≡ Some rec → Spells encoding bytes rec
  record_taken [] rec fits e = absurd (cc)
  record_taken (a ∷ []) rec fits e = absurd (cc)
  record_taken (a ∷ k ∷ []) rec fits e = absurd (cc)
  record_taken (a ∷ k ∷ f ∷ []) rec fits e = absurd (cc)
  record_taken (a ∷ k ∷ f ∷ h ∷ []) rec fits e = absurd (cc)
  record_taken (a ∷ k ∷ f ∷ h ∷ l ∷ rest) rec fits e =
      elim (chosen (nat_le 5 (length (a ∷ k ∷ f ∷ h ∷ l ∷ rest)) && (a == 1 || a == 2)) (form_at encoding (a == 2) k f (from_be_bytes w16 (h ∷ l ∷ [])) rest) None (Some rec) e) [
        | inr none ↦ absurd (cc (none.1))
        | inl found ↦
            let form : a ≡ form_of (a == 2) = form_is a (a == 1) (a == 2) refl refl (second_so (nat_le 5 (length (a ∷ k ∷ f ∷ h ∷ l ∷ rest))) (a == 1 || a == 2) found.0) in
            let pair : IsBytes (h ∷ l ∷ []) = take_bytes 2 (h ∷ l ∷ rest) (drop_bytes 3 (a ∷ k ∷ f ∷ h ∷ l ∷ rest) fits) in
            let told : to_be_bytes w16 (from_be_bytes w16 (h ∷ l ∷ [])) ≡ h ∷ l ∷ [] = be_bytes_2 (h ∷ l ∷ []) (from_be_bytes w16 (h ∷ l ∷ [])) refl pair refl in
            let spells = form_taken (a == 2) k f (from_be_bytes w16 (h ∷ l ∷ [])) rest rec (drop_bytes 5 (a ∷ k ∷ f ∷ h ∷ l ∷ rest) fits) found.1 in
            (spells.0, ap (λ (n : ℕ). n ∷ k ∷ f ∷ h ∷ l ∷ rest) form ∙ ap (λ m. form_of (a == 2) ∷ k ∷ f ∷ (m ++ rest)) (sym told) ∙ spells.1)
      ]

  -- ---- what is spelled so is read

  opened : (named : Bool) (kind flags mode : ℕ) (rest : List ℕ) → mode < 2 ^ 16 → record_of encoding (head named kind flags mode ++ rest) ≡ form_at encoding named kind flags mode rest
  opened true kind flags mode rest below =
      let tests : (nat_le 5 (length (head true kind flags mode ++ rest)) && true) ≡ true = both_true (most_at 5 (length (head true kind flags mode ++ rest)) (omega arith)) refl in
      let back : from_be_bytes w16 (to_be_bytes w16 mode) ≡ mode = from_be_bytes-to_be_bytes_2 mode below in
      ap (λ b. cond b (form_at encoding true kind flags (from_be_bytes w16 (to_be_bytes w16 mode)) rest) None) tests ∙ ap (λ (n : ℕ). form_at encoding true kind flags n rest) back
  opened false kind flags mode rest below =
      let tests : (nat_le 5 (length (head false kind flags mode ++ rest)) && true) ≡ true = both_true (most_at 5 (length (head false kind flags mode ++ rest)) (omega arith)) refl in
      let back : from_be_bytes w16 (to_be_bytes w16 mode) ≡ mode = from_be_bytes-to_be_bytes_2 mode below in
      ap (λ b. cond b (form_at encoding false kind flags (from_be_bytes w16 (to_be_bytes w16 mode)) rest) None) tests ∙ ap (λ (n : ℕ). form_at encoding false kind flags n rest) back

  -- a directory or a file, whose owner is named as the encoding has it
  reached : (kind flags mode : ℕ) (owner : OwnerNames) (rest : List ℕ) → (kind == 108) ≡ false → is_owner owner ≡ true → mode < 2 ^ 16
      → record_of encoding (owned (names_owner encoding owner) kind flags mode owner rest) ≡ kind_at kind flags mode owner rest
  unfolding form_at
  reached kind flags mode owner rest other valid below =
      let named = names_owner encoding owner in
      let right : is_named_rightly encoding kind named owner ≡ true = ap (λ b. same (not b && named) named) other ∙ same_itself named in
      opened named kind flags mode (owner_bytes named owner ++ rest) below ∙ ap (option_and_then (owned_at encoding named kind flags mode)) (owner_again encoding owner rest valid)
      ∙ ap (λ b. cond b (kind_at kind flags mode owner rest) None) right

  target_fits : (target : List ℕ) → is_target target ≡ true → FitsStr target
  target_fits target is =
      let shown = list_all is_shown target in
      let form = first_so (has_target_form target) (is_utf8 target) is in
      let short : length target ≤ 1024 = at_most (length target) 1024 (first_so (nat_le (length target) 1024) shown (second_so (nat_le 1 (length target)) (nat_le (length target) 1024 && shown) form)) in
      omega arith

  pub record_again : (rec : FileRec) → IsFileRecord rec → record_of encoding (record_bytes encoding rec) ≡ Some rec
  unfolding kind_at form_at
  record_again (Dir mode owner) is = reached 100 0 mode owner [] refl is.1 (omega (arith, is.0)) ∙ ap (λ b. cond (b && true) (Some (Dir mode owner)) None) (most_at mode 4095 is.0)
  record_again (File mode owner flags size name) is =
      let sized = to_be_bytes w32 size in
      let back : from_be_bytes w32 sized ≡ size = from_be_bytes-to_be_bytes_4 size (omega (arith, is.1)) in
      let bits = bits_again flags in
      let tests : (nat_le mode 4095 && (nat_le (flag_bits flags) 7 && (length (sized ++ name) == 24 && nat_le (from_be_bytes w32 sized) CONTENT_LIMIT))) ≡ true =
      both_true (most_at mode 4095 is.0) (both_true bits.0 (both_true (number_same (length (sized ++ name)) 24 (omega (arith, is.2))) (most_at (from_be_bytes w32 sized) CONTENT_LIMIT (omega (arith, back, is.1))))) in
      reached 102 (flag_bits flags) mode owner (sized ++ name) refl is.3 (omega (arith, is.0))
      ∙ ap (λ b. cond b (Some (File mode owner (flags_of (flag_bits flags)) (from_be_bytes w32 sized) name)) None) tests
      ∙ ap (λ f. Some (File mode owner f (from_be_bytes w32 sized) name)) bits.1 ∙ ap (λ (n : ℕ). Some (File mode owner flags n name)) back
  record_again (Link target) is =
      let whole : str_front (str target) ≡ Some (target, []) = ap str_front (sym (append-nil (str target))) ∙ front_again target [] (target_fits target is) in
      opened false 108 0 0 (str target) (omega arith) ∙ ap (option_and_then target_at) whole ∙ ap (λ b. cond b (Some (Link target)) None) is

  -- where no record is spelled, none is read
  pub none_found : (bytes : List ℕ) (found : Option FileRec) → record_of encoding bytes ≡ found → IsBytes bytes → ¬ IsRecordBytes encoding bytes → found ≡ None
  none_found bytes (Some rec) is fits outside = absurd (let spells = record_taken bytes rec fits is in outside (rec, spells.0, spells.1))
  none_found bytes None is fits outside = refl

-- ---- no record's bytes begin another's

same_forms : (named named' : Bool) → form_of named ≡ form_of named' → named ≡ named'
same_forms true true e = refl
same_forms true false e = absurd (omega (arith, e))
same_forms false true e = absurd (omega (arith, e))
same_forms false false e = refl

record SameHead (n : Bool) (k f m : ℕ) (r : List ℕ) (n' : Bool) (k' f' m' : ℕ) (r' : List ℕ) : Type 0 where
  named : n ≡ n'
  kind : k ≡ k'
  flags : f ≡ f'
  mode : m ≡ m'
  rest : r ≡ r'

same_head : (n : Bool) (k f m : ℕ) (r : List ℕ) (n' : Bool) (k' f' m' : ℕ) (r' : List ℕ) → m < 2 ^ 16 → m' < 2 ^ 16 → head n k f m ++ r ≡ head n' k' f' m' ++ r' → SameHead n k f m r n' k' f' m' r'
same_head n k f m r n' k' f' m' r' below below' e =
    let pair : to_be_bytes w16 m ≡ to_be_bytes w16 m' = ap (λ l. take 2 (drop 3 l)) e in
    record {
      named = same_forms n n' (ap (λ l. slice_index l 0) e);
      kind = ap (λ l. slice_index l 1) e;
      flags = ap (λ l. slice_index l 2) e;
      mode = sym (from_be_bytes-to_be_bytes_2 m below) ∙ ap (from_be_bytes w16) pair ∙ from_be_bytes-to_be_bytes_2 m' below';
      rest = ap (drop 5) e;
    }

-- the same record, and the same bytes behind it
abbrev pub SameFront : FileRec → FileRec → List ℕ → List ℕ → Type 0
SameFront a b x y = (a ≡ b) × (x ≡ y)

module _ (encoding encoding' : Encoding) where
  record SameOwned (k f m : ℕ) (o : OwnerNames) (r : List ℕ) (k' f' m' : ℕ) (o' : OwnerNames) (r' : List ℕ) : Type 0 where
    kind : k ≡ k'
    flags : f ≡ f'
    mode : m ≡ m'
    owner : o ≡ o'
    rest : r ≡ r'

  -- what stands behind a record stands behind its last part
  owned_more : (named : Bool) (k f m : ℕ) (o : OwnerNames) (r x : List ℕ) → owned named k f m o r ++ x ≡ owned named k f m o (r ++ x)
  owned_more named k f m o r x = append_assoc (head named k f m) (owner_bytes named o ++ r) x ∙ ap (λ l. head named k f m ++ l) (append_assoc (owner_bytes named o) r x)

  same_owned : (k f m : ℕ) (o : OwnerNames) (r x : List ℕ) (k' f' m' : ℕ) (o' : OwnerNames) (r' x' : List ℕ) → m < 2 ^ 16 → m' < 2 ^ 16 → is_owner o ≡ true → is_owner o' ≡ true
      → owned (names_owner encoding o) k f m o r ++ x ≡ owned (names_owner encoding' o') k' f' m' o' r' ++ x' → SameOwned k f m o (r ++ x) k' f' m' o' (r' ++ x')
  same_owned k f m o r x k' f' m' o' r' x' below below' valid valid' e =
      let front =
      same_head (names_owner encoding o) k f m (owner_bytes (names_owner encoding o) o ++ (r ++ x)) (names_owner encoding' o') k' f' m' (owner_bytes (names_owner encoding' o') o' ++ (r' ++ x')) below below'
      (sym (owned_more (names_owner encoding o) k f m o r x) ∙ e ∙ owned_more (names_owner encoding' o') k' f' m' o' r' x') in
      let owners = same_owner encoding encoding' o o' (r ++ x) (r' ++ x') valid valid' front.named front.rest in
      record { kind = front.kind; flags = front.flags; mode = front.mode; owner = owners.0; rest = owners.1 }

  same_dirs : (mode : ℕ) (owner : OwnerNames) (mode' : ℕ) (owner' : OwnerNames) (x y : List ℕ) → IsFileRecord (Dir mode owner) → IsFileRecord (Dir mode' owner')
      → record_bytes encoding (Dir mode owner) ++ x ≡ record_bytes encoding' (Dir mode' owner') ++ y → SameFront (Dir mode owner) (Dir mode' owner') x y
  same_dirs mode owner mode' owner' x y is is' e =
      let front = same_owned 100 0 mode owner [] x 100 0 mode' owner' [] y (omega (arith, is.0)) (omega (arith, is'.0)) is.1 is'.1 e in
      let modes = front.mode in
      let owners = front.owner in
      (λ i. Dir (modes i) (owners i), front.rest)

  same_files : (mode : ℕ) (owner : OwnerNames) (flags : Flags) (size : ℕ) (name : List ℕ) (mode' : ℕ) (owner' : OwnerNames) (flags' : Flags) (size' : ℕ) (name' x y : List ℕ)
      → IsFileRecord (File mode owner flags size name) → IsFileRecord (File mode' owner' flags' size' name')
      → record_bytes encoding (File mode owner flags size name) ++ x ≡ record_bytes encoding' (File mode' owner' flags' size' name') ++ y
      → SameFront (File mode owner flags size name) (File mode' owner' flags' size' name') x y
  same_files mode owner flags size name mode' owner' flags' size' name' x y is is' e =
      let front = same_owned 102 (flag_bits flags) mode owner (to_be_bytes w32 size ++ name) x 102 (flag_bits flags') mode' owner' (to_be_bytes w32 size' ++ name') y (omega (arith, is.0)) (omega (arith, is'.0)) is.3 is'.3 e in
      let sized : to_be_bytes w32 size ≡ to_be_bytes w32 size' = ap (take 4) front.rest in
      let sizes : size ≡ size' = sym (from_be_bytes-to_be_bytes_4 size (omega (arith, is.1))) ∙ ap (from_be_bytes w32) sized ∙ from_be_bytes-to_be_bytes_4 size' (omega (arith, is'.1)) in
      let flagged : flags ≡ flags' = sym (bits_again flags).1 ∙ ap flags_of front.flags ∙ (bits_again flags').1 in
      let named = same_split name name' x y (is.2 ∙ sym is'.2) (ap (drop 4) front.rest) in
      let modes = front.mode in
      let owners = front.owner in
      (λ i. File (modes i) (owners i) (flagged i) (sizes i) (named.0 i), named.1)

  same_links : (target target' x y : List ℕ) → is_target target ≡ true → is_target target' ≡ true → record_bytes encoding (Link target) ++ x ≡ record_bytes encoding' (Link target') ++ y
      → SameFront (Link target) (Link target') x y
  same_links target target' x y is is' e =
      let front = same_head false 108 0 0 (str target ++ x) false 108 0 0 (str target' ++ y) (omega arith) (omega arith) e in
      let lens : to_be_bytes w16 (length target) ≡ to_be_bytes w16 (length target') = ap (take 2) front.rest in
      let long : length target ≡ length target' =
      sym (from_be_bytes-to_be_bytes_2 (length target) (target_fits encoding target is)) ∙ ap (from_be_bytes w16) lens ∙ from_be_bytes-to_be_bytes_2 (length target') (target_fits encoding' target' is') in
      let parts = same_split target target' x y long (ap (drop 2) front.rest) in
      (ap Link parts.0, parts.1)

  pub same_front : (a b : FileRec) (x y : List ℕ) → IsFileRecord a → IsFileRecord b → record_bytes encoding a ++ x ≡ record_bytes encoding' b ++ y → SameFront a b x y
  same_front (Dir mode owner) (Dir mode' owner') x y is is' e = same_dirs mode owner mode' owner' x y is is' e
  same_front (Dir mode owner) (File mode' owner' flags' size' name') x y is is' e = absurd (let kinds : 100 ≡ 102 = ap (λ l. slice_index l 1) e in omega (arith, kinds))
  same_front (Dir mode owner) (Link target') x y is is' e = absurd (let kinds : 100 ≡ 108 = ap (λ l. slice_index l 1) e in omega (arith, kinds))
  same_front (File mode owner flags size name) (Dir mode' owner') x y is is' e = absurd (let kinds : 102 ≡ 100 = ap (λ l. slice_index l 1) e in omega (arith, kinds))
  same_front (File mode owner flags size name) (File mode' owner' flags' size' name') x y is is' e = same_files mode owner flags size name mode' owner' flags' size' name' x y is is' e
  same_front (File mode owner flags size name) (Link target') x y is is' e = absurd (let kinds : 102 ≡ 108 = ap (λ l. slice_index l 1) e in omega (arith, kinds))
  same_front (Link target) (Dir mode' owner') x y is is' e = absurd (let kinds : 108 ≡ 100 = ap (λ l. slice_index l 1) e in omega (arith, kinds))
  same_front (Link target) (File mode' owner' flags' size' name') x y is is' e = absurd (let kinds : 108 ≡ 102 = ap (λ l. slice_index l 1) e in omega (arith, kinds))
  same_front (Link target) (Link target') x y is is' e = same_links target target' x y is is' e

-- ---- both encodings

-- where the encodings agree on the owner, they agree
named_alike : (kind flags mode : ℕ) (owner : OwnerNames) (rest : List ℕ) → is_root owner ≡ false → owned (names_owner Compact owner) kind flags mode owner rest ≡ owned (names_owner Explicit owner) kind flags mode owner rest
named_alike kind flags mode owner rest is = ap (λ b. owned (not b) kind flags mode owner rest) is

pub encoded_alike : (rec : FileRec) → is_owned_by_root rec ≡ false → record_bytes Compact rec ≡ record_bytes Explicit rec
encoded_alike (Dir mode owner) is = named_alike 100 0 mode owner [] is
encoded_alike (File mode owner flags size name) is = named_alike 102 (flag_bits flags) mode owner (to_be_bytes w32 size ++ name) is
encoded_alike (Link target) is = refl

-- what root owns has the form 1 in the one, and the form 2 in the other
forms_differ : (owner : OwnerNames) (v : Bool) → is_root owner ≡ v → form_of (names_owner Compact owner) ≡ form_of (names_owner Explicit owner) → v ≡ false
forms_differ owner true is e = absurd (omega (arith, ap (λ b. form_of (not b)) is, e))
forms_differ owner false is e = refl

pub not_root : (rec : FileRec) → record_bytes Compact rec ≡ record_bytes Explicit rec → is_owned_by_root rec ≡ false
not_root (Dir mode owner) e = forms_differ owner (is_root owner) refl (ap (λ l. slice_index l 0) e)
not_root (File mode owner flags size name) e = forms_differ owner (is_root owner) refl (ap (λ l. slice_index l 0) e)
not_root (Link target) e = refl
