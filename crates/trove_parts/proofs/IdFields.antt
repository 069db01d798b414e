-- The fields of an id: their bytes, and how they stand one behind the other.
use Rattle.std.proofs.Common.{◌≡◌, ℕ, ◌+◌, ◌-◌, ◌≤◌, true, not, ◌&&◌, nat_le, List, [], ◌∷◌, ◌++◌, length, take, drop, get_or, Option, Some, None, refl, sym, ap, ◌∙◌, arith, inl, inr, append_assoc, length-append}
use Rattle.std.specs.Cmp.{first_so, second_so}
use Rattle.std.specs.Int.{w16, to_be_bytes}
use Rattle.std.specs.List.{list_all}
use Rattle.std.specs.Char.{is_ascii_alphanumeric}
use Rattle.std.specs.Str.{IsUtf8}
use Rattle.std.proofs.lemmas.Bool.{and_from, cases_lt, leb-true}
use Rattle.std.proofs.lemmas.Bool.Decides.{nat_tests}
use Rattle.std.proofs.lemmas.List.{get_or-take, get_or-drop, length-take, length-drop, drop-drop}
use Rattle.std.proofs.lemmas.List.Quantifiers.{position-Some}
use Rattle.std.proofs.lemmas.Str.{IsUtf8-from_ascii}
use Rattle.std.proofs.Math.Seq.{drop-append_seam}
use Rattle.cny_version.specs.cny-base.Name.{is_word_byte, is_word, is_colon, colon_place, begins_as_group, has_words, is_name}
use Rattle.cny_version.specs.cny-base.StrField.{FitsStr, str}
use Rattle.cny_version.proofs.cny-base.Utf8Laws.{name_ascii}
use Rattle.cny_dep.specs.declared.parts.Parts.{Parts}
use Rattle.cny_dep.specs.Canonical.{is_flavor, flavor_text}
use Rattle.cny_dep.proofs.Utf8.{flavor_ascii}
use Rattle.cny_version.specs.Version.{WholeVersion, IsVersion, version_text}
use Rattle.trove_parts.specs.declared.id.TroveId.{TroveId}
use Rattle.trove_parts.specs.declared.stream.PartSpans.{PartSpans}
use Rattle.trove_parts.specs.Id.{IsTroveId, id_bytes, IsIdAt}
use Rattle.trove_parts.specs.Parts.{AreTextsOf, Lacks, three_strs, name_in, version_in, flavor_in, AreStrsAt}
use Rattle.cny_dep.proofs.Cuts.{lacks_by}
use Rattle.trove_parts.proofs.FlavorLength.{flavor_short}
use Rattle.trove_parts.proofs.VersionBytes.{version_utf8}
use Rattle.cny_version.proofs.cny-base.IdFields.{same_str}

-- ---- names have no `=`

pub letter_in_word : (b : ℕ) → is_ascii_alphanumeric b ≡ true → is_word_byte b ≡ true
letter_in_word b is = grind (arith, nat_tests)

word_lacks : (word : List ℕ) → is_word word ≡ true → Lacks 61 word
word_lacks [] is = absurd (cc is)
word_lacks (b ∷ bs) is =
    lacks_by is_word_byte 61 refl (b ∷ bs)
    (and_from (is_word_byte b) (list_all is_word_byte bs) (letter_in_word b (first_so (is_ascii_alphanumeric b) (list_all is_word_byte bs) is))
    (second_so (is_ascii_alphanumeric b) (list_all is_word_byte bs) is))

-- two texts with another byte between them
pub halves_lack : (c : ℕ) (bytes : List ℕ) (at : ℕ) → (get_or bytes at 0 ≡ c → ⊥) → Lacks c (take at bytes) → Lacks c (drop (at + 1) bytes) → Lacks c bytes
halves_lack c bytes at other front back i within e =
    elim (cases_lt i at) [
      | inl lt ↦ front i (omega (arith, length-take at bytes)) (rw (get_or-take at bytes i 0 lt) e)
      | inr le ↦
          elim (cases_lt at i) [
            | inl gt ↦
                let place : at + 1 + (i - (at + 1)) ≡ i = omega arith in
                back (i - (at + 1)) (omega (arith, length-drop (at + 1) bytes)) (get_or-drop (at + 1) bytes (i - (at + 1)) 0 ∙ ap (λ (n : ℕ). get_or bytes n 0) place ∙ e)
            | inr ge ↦ let same : i ≡ at = omega arith in other (ap (λ (n : ℕ). get_or bytes n 0) (sym same) ∙ e)
          ]
    ]

words_lack : (name : List ℕ) (place : Option ℕ) → colon_place name ≡ place → has_words name place ≡ true → Lacks 61 name
words_lack name None found is = word_lacks name is
words_lack name (Some at) found is =
    let rest = second_so (is_word (take at name)) (is_word (drop (at + 1) name) && not (begins_as_group name)) is in
    halves_lack 61 name at (colon_byte (get_or name at 0) (position-Some is_colon name at 0 found).1)
    (word_lacks (take at name) (first_so (is_word (take at name)) (is_word (drop (at + 1) name) && not (begins_as_group name)) is))
    (word_lacks (drop (at + 1) name) (first_so (is_word (drop (at + 1) name)) (not (begins_as_group name)) rest))
  where
    colon_byte : (b : ℕ) → is_colon b ≡ true → b ≡ 61 → ⊥
    colon_byte b is e = grind (arith, nat_tests)

pub name_lacks : (name : List ℕ) → is_name name ≡ true → Lacks 61 name
name_lacks name is = words_lack name (colon_place name) refl (second_so (nat_le (length name) 255) (has_words name (colon_place name)) is)

-- ---- what an id's fields hold

name_short : (name : List ℕ) → is_name name ≡ true → length name ≤ 255
name_short name is = leb-true (length name) 255 (first_so (nat_le (length name) 255) (has_words name (colon_place name)) is)

name_fits : (name : List ℕ) → is_name name ≡ true → FitsStr name
name_fits name is = omega (arith, name_short name is)

version_fits : (v : WholeVersion) → IsVersion v → FitsStr (version_text v)
version_fits v is = let short : length (version_text v) ≤ 512 = is.short in omega arith

pub flavor_fits : (p : Parts) → is_flavor p ≡ true → FitsStr (flavor_text p)
flavor_fits p is = omega (arith, flavor_short p is)

pub str_length : (value : List ℕ) → length (str value) ≡ 2 + length value
str_length value = length-append (to_be_bytes w16 (length value)) value

pub id_short : (id : TroveId) → IsTroveId id → length (id_bytes id) ≤ 17290
id_short id is =
    let version_short : length (version_text id.version) ≤ 512 = is.version.short in
    omega (
      arith,
      length-append (str id.name) (str (version_text id.version) ++ str (flavor_text id.flavor)),
      length-append (str (version_text id.version)) (str (flavor_text id.flavor)),
      str_length id.name,
      str_length (version_text id.version),
      str_length (flavor_text id.flavor),
      name_short id.name is.name,
      flavor_short id.flavor is.flavor,
    )

pub record Fields (P : List ℕ → Type 0) (id : TroveId) : Type 0 where
  pub name : P id.name
  pub version : P (version_text id.version)
  pub flavor : P (flavor_text id.flavor)

pub fields_fit : (id : TroveId) → IsTroveId id → Fields FitsStr id
fields_fit id is = record { name = name_fits id.name is.name; version = version_fits id.version is.version; flavor = flavor_fits id.flavor is.flavor }

pub fields_utf8 : (id : TroveId) → IsTroveId id → Fields IsUtf8 id
fields_utf8 id is =
    record {
      name = IsUtf8-from_ascii id.name (name_ascii id.name is.name);
      version = version_utf8 id.version is.version;
      flavor = IsUtf8-from_ascii (flavor_text id.flavor) (flavor_ascii id.flavor is.flavor);
    }

-- ---- fields, one behind the other

pub three_and : (a b c rest : List ℕ) → three_strs a b c ++ rest ≡ str a ++ (str b ++ (str c ++ rest))
three_and a b c rest = append_assoc (str a) (str b ++ str c) rest ∙ ap (λ l. str a ++ l) (append_assoc (str b) (str c) rest)

pub record SameFields (a b c x a' b' c' y : List ℕ) : Type 0 where
  pub first : a ≡ a'
  pub second : b ≡ b'
  pub third : c ≡ c'
  pub rest : x ≡ y

pub same_fields : (a b c x a' b' c' y : List ℕ) → FitsStr a → FitsStr b → FitsStr c → FitsStr a' → FitsStr b' → FitsStr c'
    → three_strs a b c ++ x ≡ three_strs a' b' c' ++ y → SameFields a b c x a' b' c' y
same_fields a b c x a' b' c' y fa fb fc fa' fb' fc' e =
    let one = same_str a a' (str b ++ (str c ++ x)) (str b' ++ (str c' ++ y)) fa fa' (sym (three_and a b c x) ∙ e ∙ three_and a' b' c' y) in
    let two = same_str b b' (str c ++ x) (str c' ++ y) fb fb' one.1 in
    let three = same_str c c' x y fc fc' two.1 in
    record { first = one.0; second = two.0; third = three.0; rest = three.1 }

-- what stands behind the field that begins there
pub behind_str : (bytes : List ℕ) (at to : ℕ) (a rest : List ℕ) → drop at bytes ≡ str a ++ rest → to ≡ at + 2 + length a → drop to bytes ≡ rest
behind_str bytes at to a rest is end =
    let long : length (str a) ≡ 2 + length a = length-append (to_be_bytes w16 (length a)) a in
    let place : to ≡ at + length (str a) = omega arith in
    ap (λ (n : ℕ). drop n bytes) place ∙ sym (drop-drop (length (str a)) at bytes) ∙ ap (drop (length (str a))) is ∙ drop-append_seam (str a) rest

-- ---- ids in a stream

pub fields_there : (bytes : List ℕ) (at : ℕ) (spans : PartSpans) (id : TroveId) (rest : List ℕ) → AreStrsAt bytes at spans → IsTroveId id → drop at bytes ≡ id_bytes id ++ rest
    → SameFields (name_in bytes spans) (version_in bytes spans) (flavor_in bytes spans) (drop spans.flavor.to bytes) id.name (version_text id.version) (flavor_text id.flavor) rest
fields_there bytes at spans id rest are is e =
    let fits = fields_fit id is in
    same_fields (name_in bytes spans) (version_in bytes spans) (flavor_in bytes spans) (drop spans.flavor.to bytes) id.name (version_text id.version) (flavor_text id.flavor) rest
    are.name_fits are.version_fits are.flavor_fits fits.name fits.version fits.flavor (sym are.spelled ∙ e)

-- the values that stand there are those of the id that begins there
pub texts_there : (bytes : List ℕ) (at : ℕ) (spans : PartSpans) (id : TroveId) (rest : List ℕ) → AreStrsAt bytes at spans → IsTroveId id → drop at bytes ≡ id_bytes id ++ rest
    → AreTextsOf id (name_in bytes spans) (version_in bytes spans) (flavor_in bytes spans)
texts_there bytes at spans id rest are is e =
    let same = fields_there bytes at spans id rest are is e in
    record { valid = is; name_is = same.first; version_is = same.second; flavor_is = same.third }

pub rest_there : (bytes : List ℕ) (at : ℕ) (spans : PartSpans) (id : TroveId) (rest : List ℕ) → AreStrsAt bytes at spans → IsTroveId id → drop at bytes ≡ id_bytes id ++ rest
    → drop spans.flavor.to bytes ≡ rest
rest_there bytes at spans id rest are is e = (fields_there bytes at spans id rest are is e).rest

pub id_there : (bytes : List ℕ) (at : ℕ) (spans : PartSpans) (id : TroveId) → AreStrsAt bytes at spans → AreTextsOf id (name_in bytes spans) (version_in bytes spans) (flavor_in bytes spans)
    → IsIdAt bytes at id spans.flavor.to
id_there bytes at spans id are texts =
    record {
      valid = texts.valid;
      order = are.begins;
      within = are.flavor_within;
      spelled =
          are.spelled
          ∙ ap (λ l. three_strs l (version_in bytes spans) (flavor_in bytes spans) ++ drop spans.flavor.to bytes) texts.name_is
          ∙ ap (λ l. three_strs id.name l (flavor_in bytes spans) ++ drop spans.flavor.to bytes) texts.version_is
          ∙ ap (λ l. three_strs id.name (version_text id.version) l ++ drop spans.flavor.to bytes) texts.flavor_is;
    }

-- ---- one id

pub one_id : (a b : TroveId) → a.name ≡ b.name → a.version ≡ b.version → a.flavor ≡ b.flavor → a ≡ b
one_id a b name version flavor = λ i. record { name = name i; version = version i; flavor = flavor i }
