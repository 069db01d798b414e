-- What is told at the front of some bytes, and the entry that is made of it.
use Rattle.std.proofs.Common.{◌≡◌, ℕ, ◌+◌, IsTrue, List, [], ◌∷◌, ◌++◌, length, drop, get_or, sym, ◌∙◌, ap, subst, arith, append_assoc, append-nil, length-append}
use Rattle.std.specs.Prelude.{slice_range}
use Rattle.std.specs.Int.{w16, w32, to_be_bytes}
use Rattle.std.proofs.lemmas.List.{length-drop, drop-drop, drop_all, drop_at}
use Rattle.local_db.specs.cny-base.Path.{is_path}
use Rattle.local_db.specs.cny-base.StrField.{IsStrAt, str}
use Rattle.tree_scan.specs.declared.mark.Mark.TheVariants.{Nothing, Dir, File, Link}
use Rattle.local_db.specs.declared.record.Told.{Told}
use Rattle.local_db.specs.declared.record.Told.TheVariants.{Listed, Own}
use Rattle.local_db.specs.declared.record.ToldEntry.{ToldEntry}
use Rattle.local_db.specs.RecordText.{told_text, IsTold, IsToldEntry}
use Rattle.job_record.specs.Reading.{HasFileFields, IsEntryText, IsToldFront}
use Rattle.job_record.proofs.Once.{same_told}
use Rattle.change_rel.proofs.trove-parts.ItemFields.{path_fits as fits_path}
use Rattle.change_rel.proofs.cny-base.IdFields.{same_str}

-- ---- a file's fingerprint

pub file_told : (rest : List ℕ) (t : Told) (r : List ℕ) → IsTold t → 102 ∷ rest ≡ told_text t ++ r → (mode size : ℕ) × (name : List ℕ) × HasFileFields rest mode size name
file_told rest Listed r is e = absurd (let k : 102 ≡ 61 = ap (λ l. get_or l 0 0) e in omega (arith, k))
file_told rest (Own Nothing) r is e = absurd (let k : 102 ≡ 110 = ap (λ l. get_or l 0 0) e in omega (arith, k))
file_told rest (Own (Dir mode)) r is e = absurd (let k : 102 ≡ 100 = ap (λ l. get_or l 0 0) e in omega (arith, k))
file_told rest (Own (Link target)) r is e = absurd (let k : 102 ≡ 108 = ap (λ l. get_or l 0 0) e in omega (arith, k))
file_told rest (Own (File mode size name)) r is e =
    let text : rest ≡ to_be_bytes w16 mode ++ (to_be_bytes w32 size ++ (name ++ r)) =
    ap (drop 1) e ∙ ap (λ (l : List ℕ). to_be_bytes w16 mode ++ l) (append_assoc (to_be_bytes w32 size) name r) in
    let twenty = is.2 in
    let long : length rest ≡ 26 + length r = omega (arith, ap length text, twenty, length-append name r) in
    let behind : drop 26 rest ≡ r = ap (drop 26) text ∙ drop_at name r 20 twenty in (
      mode,
      size,
      name,
      record {
        mode_fits = is.0;
        size_fits = is.1;
        name_long = twenty;
        long = omega (arith, long);
        spelled = text ∙ ap (λ (l : List ℕ). to_be_bytes w16 mode ++ (to_be_bytes w32 size ++ (name ++ l))) (sym behind);
      },
    )

-- ---- the parts of an entry

pub tolds_behind : (value : List ℕ) (from to : ℕ) (e : ToldEntry) → IsStrAt value 0 from to → IsEntryText value e → drop to value ≡ told_text e.before ++ told_text e.after
tolds_behind value from to e at is =
    (same_str (slice_range value from to) e.path (drop to value) (told_text e.before ++ told_text e.after) at.fits (fits_path e.path is.entry_is.path_is) (sym at.spelled ∙ is.text)).1

pub second_behind : (behind : List ℕ) (s : Told) (m : ℕ) (e : ToldEntry) → IsToldFront behind s m → IsToldEntry e → behind ≡ told_text e.before ++ told_text e.after → drop m behind ≡ told_text e.after
second_behind behind s m e front is text =
    (same_told s e.before (drop m behind) (told_text e.after) front.told_is is.before_is (sym front.spelled ∙ text)).1

pub nothing_behind : (behind : List ℕ) (t : Told) (n : ℕ) (e : ToldEntry) → IsToldFront behind t n → IsToldEntry e → behind ≡ told_text e.after → length behind ≡ n
nothing_behind behind t n e front is text =
    let none = (same_told t e.after (drop n behind) [] front.told_is is.after_is (sym front.spelled ∙ text ∙ sym (append-nil (told_text e.after)))).1 in
    let within = front.within in
    omega (arith, ap length none, length-drop n behind, within)

pub entry_here : (value path : List ℕ) (from to : ℕ) (one two : List ℕ) (s t : Told) (m n : ℕ) → IsStrAt value 0 from to → path ≡ slice_range value from to → IsTrue (is_path (slice_range value from to))
    → one ≡ drop to value → IsToldFront one s m → two ≡ drop (to + m) value → IsToldFront two t n → to + m + n ≡ length value → IsEntryText value (record { path = path; before = s; after = t })
entry_here value path from to one two s t m n at path_is is_path_ one_is first two_is second long =
    let end : drop n two ≡ [] = ap (drop n) two_is ∙ drop-drop n (to + m) value ∙ drop_all (to + m + n) value (omega (arith, long)) in
    record {
      entry_is = record {
        path_is = subst (λ (p : List ℕ). IsTrue (is_path p)) (sym path_is) is_path_;
        before_is = first.told_is;
        after_is = second.told_is;
      };
      text = at.spelled ∙ (λ i. str ((sym path_is) i) ++ drop to value)
          ∙ ap (λ (l : List ℕ). str path ++ l) (sym one_is ∙ first.spelled
          ∙ ap (λ (l : List ℕ). told_text s ++ l) (ap (drop m) one_is ∙ drop-drop m to value ∙ sym two_is ∙ second.spelled ∙ ap (λ (l : List ℕ). told_text t ++ l) end ∙ append-nil (told_text t)));
    }
