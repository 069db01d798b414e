-- Label texts, and the labels that they write.
use Rattle.std.proofs.Common.{◌≡◌, ℕ, ◌≤◌, Bool, true, false, cond, not, ◌&&◌, eqb, leb, List, [], ◌∷◌, ◌++◌, length, Option, Some, None, refl, sym, ap, ◌∙◌, arith}
use Rattle.std.specs.List.{list_all}
use Rattle.std.specs.Char.{is_ascii_alphanumeric}
use Rattle.std.specs.Cmp.{first_so, second_so}
use Rattle.std.proofs.lemmas.Bool.{ne_eqb, and_from, leb-true}
use Rattle.std.proofs.lemmas.Bool.Decides.{nat_tests}
use Rattle.std.proofs.lemmas.List.Folds.{list_all-append}
use Rattle.cny_version.specs.Label.{LabelParts, label_text, is_label_byte, is_label_part, is_label}
use Rattle.cny_version.specs.Filled.{AbbreviatedLabel, whole, without_host, only_tag, abbreviated_label_text, filled_label}
use Rattle.cny_version.specs.Reading.{cut, checked_label, label_from, label_near, label_cut, label_found}
use Rattle.cny_version.proofs.TextPieces.{is_free, cut_at, cut_free, cut_some}

-- ---- bytes that a text has not

-- no byte of a list that passes a test is one that doesn't pass it
pub free_by_test : (c : ℕ) (test : ℕ → Bool) (bytes : List ℕ) → test c ≡ false → list_all test bytes ≡ true → is_free c bytes ≡ true
free_by_test c test [] absent all = refl
free_by_test c test (b ∷ bytes) absent all =
    and_from (not (eqb b c)) (is_free c bytes) (ap not (ne_eqb b c other)) (free_by_test c test bytes absent (second_so (test b) (list_all test bytes) all))
  where
    other : b ≡ c → ⊥
    other same =
        let yes : test b ≡ true = first_so (test b) (list_all test bytes) all in
        let never : test b ≡ false = ap test same ∙ absent in
        cc

pub is_free-append : (c : ℕ) (xs ys : List ℕ) → is_free c xs ≡ true → is_free c ys ≡ true → is_free c (xs ++ ys) ≡ true
is_free-append c xs ys front back = list_all-append (λ b. not (eqb b c)) xs ys ∙ and_from (is_free c xs) (is_free c ys) front back

alphanumeric_label : (b : ℕ) → is_ascii_alphanumeric b ≡ true → is_label_byte b ≡ true
alphanumeric_label b is = grind (arith, nat_tests)

label_bytes : (part : List ℕ) → is_label_part part ≡ true → list_all is_label_byte part ≡ true
label_bytes [] is = refl
label_bytes (b ∷ bs) is =
    and_from (is_label_byte b) (list_all is_label_byte bs) (alphanumeric_label b (first_so (is_ascii_alphanumeric b) (list_all is_label_byte bs) is))
    (second_so (is_ascii_alphanumeric b) (list_all is_label_byte bs) is)

part_free : (c : ℕ) → is_label_byte c ≡ false → (part : List ℕ) → is_label_part part ≡ true → is_free c part ≡ true
part_free c absent part is = free_by_test c is_label_byte part absent (label_bytes part is)

-- ---- the parts of a label

pub record HasLabelParts (host namespace tag : List ℕ) : Type 0 where
  pub host_is : is_label_part host ≡ true
  pub namespace_is : is_label_part namespace ≡ true
  pub tag_is : is_label_part tag ≡ true
  pub short : leb (length (host ++ 64 ∷ (namespace ++ 58 ∷ tag))) 255 ≡ true

pub label_parts : (l : LabelParts) → is_label l ≡ true → HasLabelParts l.host l.namespace l.tag
label_parts l is =
    let b : Bool = leb (length (label_text l)) 255 in
    let more : (is_label_part l.namespace && (is_label_part l.tag && b)) ≡ true = second_so (is_label_part l.host) (is_label_part l.namespace && (is_label_part l.tag && b)) is in
    let last : (is_label_part l.tag && b) ≡ true = second_so (is_label_part l.namespace) (is_label_part l.tag && b) more in
    record {
      host_is = first_so (is_label_part l.host) (is_label_part l.namespace && (is_label_part l.tag && b)) is;
      namespace_is = first_so (is_label_part l.namespace) (is_label_part l.tag && b) more;
      tag_is = first_so (is_label_part l.tag) b last;
      short = second_so (is_label_part l.tag) b last;
    }

pub label_short : (l : LabelParts) → is_label l ≡ true → length (label_text l) ≤ 255
label_short l is = leb-true (length (label_text l)) 255 (label_parts l is).short

near_free : (c : ℕ) → is_label_byte c ≡ false → eqb 58 c ≡ false → (host namespace tag : List ℕ) → HasLabelParts host namespace tag → is_free c (namespace ++ 58 ∷ tag) ≡ true
near_free c absent colon host namespace tag p =
    is_free-append c namespace (58 ∷ tag) (part_free c absent namespace p.namespace_is)
    (and_from (not (eqb 58 c)) (is_free c tag) (ap not colon) (part_free c absent tag p.tag_is))

pub label_text_no_slash : (l : LabelParts) → is_label l ≡ true → is_free 47 (label_text l) ≡ true
label_text_no_slash l is =
    let p = label_parts l is in
    is_free-append 47 l.host (64 ∷ (l.namespace ++ 58 ∷ l.tag)) (part_free 47 refl l.host p.host_is) (near_free 47 refl refl l.host l.namespace l.tag p)

pub abbreviated_no_slash : (previous : LabelParts) (a : AbbreviatedLabel) → is_label (filled_label previous a) ≡ true → is_free 47 (abbreviated_label_text a) ≡ true
abbreviated_no_slash previous (whole l) is = label_text_no_slash l is
abbreviated_no_slash previous (without_host namespace tag) is =
    near_free 47 refl refl previous.host namespace tag (label_parts (filled_label previous (without_host namespace tag)) is)
abbreviated_no_slash previous (only_tag tag) is =
    part_free 47 refl tag (label_parts (filled_label previous (only_tag tag)) is).tag_is

-- ---- a label's text is read as the label

checked : (host namespace tag : List ℕ) → is_label (record { host = host; namespace = namespace; tag = tag }) ≡ true
    → checked_label host namespace tag ≡ Some (record { host = host; namespace = namespace; tag = tag })
checked host namespace tag is =
    let l : LabelParts = record { host = host; namespace = namespace; tag = tag } in
    ap (λ t. cond t (Some l) None) is

pub whole_back : (any : Bool) (previous l : LabelParts) → is_label l ≡ true → label_found any previous (label_text l) ≡ Some l
whole_back any previous l is =
    let p = label_parts l is in
    ap (label_cut any previous (label_text l)) (cut_at 64 l.host (l.namespace ++ 58 ∷ l.tag) (part_free 64 refl l.host p.host_is))
    ∙ ap (label_from l.host) (cut_at 58 l.namespace l.tag (part_free 58 refl l.namespace p.namespace_is))
    ∙ checked l.host l.namespace l.tag is

pub label_back : (previous : LabelParts) (a : AbbreviatedLabel) → is_label (filled_label previous a) ≡ true
    → label_found false previous (abbreviated_label_text a) ≡ Some (filled_label previous a)
label_back previous (whole l) is = whole_back false previous l is
label_back previous (without_host namespace tag) is =
    let p = label_parts (filled_label previous (without_host namespace tag)) is in
    let text : List ℕ = namespace ++ 58 ∷ tag in
    ap (label_cut false previous text) (cut_free 64 text (near_free 64 refl refl previous.host namespace tag p))
    ∙ ap (label_near previous text) (cut_at 58 namespace tag (part_free 58 refl namespace p.namespace_is))
    ∙ checked previous.host namespace tag is
label_back previous (only_tag tag) is =
    let p = label_parts (filled_label previous (only_tag tag)) is in
    ap (label_cut false previous tag) (cut_free 64 tag (part_free 64 refl tag p.tag_is))
    ∙ ap (label_near previous tag) (cut_free 58 tag (part_free 58 refl tag p.tag_is))
    ∙ checked previous.host previous.namespace tag is

-- ---- what is read is the text of the label

pub record IsChecked (host namespace tag : List ℕ) (l : LabelParts) : Type 0 where
  pub same : record { host = host; namespace = namespace; tag = tag } ≡ l
  pub is : is_label l ≡ true

checked_is : (host namespace tag : List ℕ) (l : LabelParts) → checked_label host namespace tag ≡ Some l → IsChecked host namespace tag l
checked_is host namespace tag l found = at (is_label (record { host = host; namespace = namespace; tag = tag })) refl found
  where
    at : (t : Bool) → is_label (record { host = host; namespace = namespace; tag = tag }) ≡ t
        → cond t (Some (record { host = host; namespace = namespace; tag = tag })) None ≡ Some l → IsChecked host namespace tag l
    at true is found =
        let same : record { host = host; namespace = namespace; tag = tag } ≡ l = cc in
        record { same = same; is = ap is_label (sym same) ∙ is }
    at false is found = absurd (cc found)

-- a found label is by the rules, and an abbreviation of it is the text; in the whole reading that is its own text
pub record IsLabelFound (any : Bool) (previous : LabelParts) (text : List ℕ) (l : LabelParts) : Type 0 where
  pub is : is_label l ≡ true
  pub short_form : (a : AbbreviatedLabel) × (filled_label previous a ≡ l) × (abbreviated_label_text a ≡ text)
  pub whole_form : any ≡ true → label_text l ≡ text

found_whole : (any : Bool) (previous : LabelParts) (text host rest namespace tag : List ℕ) (l : LabelParts) → text ≡ host ++ 64 ∷ rest → rest ≡ namespace ++ 58 ∷ tag
    → checked_label host namespace tag ≡ Some l → IsLabelFound any previous text l
found_whole any previous text host rest namespace tag l front back found =
    let k = checked_is host namespace tag l found in
    let same : label_text l ≡ text = ap label_text (sym k.same) ∙ ap (λ (x : List ℕ). host ++ 64 ∷ x) (sym back) ∙ sym front in
    record { is = k.is; short_form = (whole l, refl, same); whole_form = λ _. same }

found_from : (any : Bool) (previous : LabelParts) (text host rest : List ℕ) (l : LabelParts) → text ≡ host ++ 64 ∷ rest → (o : Option (List ℕ × List ℕ)) → cut 58 rest ≡ o
    → label_from host o ≡ Some l → IsLabelFound any previous text l
found_from any previous text host rest l front None is found = absurd (cc found)
found_from any previous text host rest l front (Some p) is found =
    found_whole any previous text host rest p.0 p.1 l front (cut_some 58 rest p.0 p.1 is).whole found

found_near : (previous : LabelParts) (text : List ℕ) (l : LabelParts) (o : Option (List ℕ × List ℕ)) → cut 58 text ≡ o
    → label_near previous text o ≡ Some l → IsLabelFound false previous text l
found_near previous text l None is found =
    let k = checked_is previous.host previous.namespace text l found in
    record { is = k.is; short_form = (only_tag text, k.same, refl); whole_form = λ e. absurd (cc e) }
found_near previous text l (Some p) is found =
    let k = checked_is previous.host p.0 p.1 l found in
    record { is = k.is; short_form = (without_host p.0 p.1, k.same, sym (cut_some 58 text p.0 p.1 is).whole); whole_form = λ e. absurd (cc e) }

found_cut : (any : Bool) (previous : LabelParts) (text : List ℕ) (l : LabelParts) (o : Option (List ℕ × List ℕ)) → cut 64 text ≡ o
    → label_cut any previous text o ≡ Some l → IsLabelFound any previous text l
found_cut any previous text l (Some p) is found = found_from any previous text p.0 p.1 l (cut_some 64 text p.0 p.1 is).whole (cut 58 p.1) refl found
found_cut true previous text l None is found = absurd (cc found)
found_cut false previous text l None is found = found_near previous text l (cut 58 text) refl found

pub label_sound : (any : Bool) (previous : LabelParts) (text : List ℕ) (l : LabelParts) → label_found any previous text ≡ Some l → IsLabelFound any previous text l
label_sound any previous text l found = found_cut any previous text l (cut 64 text) refl found
