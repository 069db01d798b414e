-- Numbers of two and four bytes, with the high byte first.
use Rattle.std.proofs.Common.{◌≡◌, ℕ, ◌≤◌, List, ◌++◌, length, take, drop, sym, ◌∙◌, ap, subst, arith}
use Rattle.std.specs.Int.{w16, w32, to_be_bytes, from_be_bytes}
use Rattle.std.proofs.lemmas.List.{length-take, length-drop, take-append-drop, drop-drop}
use Rattle.job_record.specs.Reading.{HasFileFields}
use Rattle.change_rel.proofs.cny-base.StrFields.{IsBytes, drop_bytes}
use Rattle.local_db.proofs.journal-log.Tails.{four, small}

-- a mode, a size and a name, behind each other
pub file_here : (value behind rest name : List ℕ) (mode size : ℕ) → IsBytes value → mode ≤ 4095 → value ≡ to_be_bytes w16 mode ++ drop 2 value → behind ≡ drop 2 value → 4 ≤ length behind
    → size ≡ from_be_bytes w32 (take 4 behind) → rest ≡ drop 4 behind → name ≡ take 20 rest → 20 ≤ length rest → HasFileFields value mode size name
file_here value behind rest name mode size bytes mode_fits mode_is behind_is long size_is rest_is name_is longer =
    let behind_bytes : IsBytes behind = subst IsBytes (sym behind_is) (drop_bytes 2 value bytes) in
    record {
      mode_fits = mode_fits;
      size_fits = small behind size behind_bytes size_is;
      name_long = ap length name_is ∙ omega (arith, length-take 20 rest, longer);
      long = omega (arith, longer, ap length rest_is, length-drop 4 behind, ap length behind_is, length-drop 2 value);
      spelled = mode_is ∙ ap (λ (l : List ℕ). to_be_bytes w16 mode ++ l)
          (sym behind_is ∙ four behind size behind_bytes long size_is
          ∙ ap (λ (l : List ℕ). to_be_bytes w32 size ++ l)
          (sym rest_is ∙ sym (take-append-drop 20 rest)
          ∙ (λ i. (sym name_is) i ++ drop 20 rest)
          ∙ ap (λ (l : List ℕ). name ++ l) (ap (drop 20) (rest_is ∙ ap (drop 4) behind_is ∙ drop-drop 4 2 value) ∙ drop-drop 20 6 value)));
    }
