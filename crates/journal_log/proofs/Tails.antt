-- The number, the size and the digest of a staged file, behind each other.
use Rattle.std.proofs.Common.{◌≡◌, ℕ, ◌<◌, ◌≤◌, ◌^◌, List, ◌++◌, length, take, drop, sym, ◌∙◌, ap, subst, arith}
use Rattle.std.specs.Int.{w16, w32, to_be_bytes, from_be_bytes}
use Rattle.std.proofs.lemmas.List.{length-take, take-append-drop}
use Rattle.std.proofs.lemmas.Nat.{be_bytes_4}
use Rattle.std.specs.Prelude.{IsTrue, slice_range}
use Rattle.std.proofs.Math.Seq.{drop-append_seam}
use Rattle.tree_disk.specs.cny-base.Path.{is_path}
use Rattle.tree_disk.specs.cny-base.StrField.{str, IsStrAt}
use Rattle.journal_log.specs.declared.put.Want.{Want}
use Rattle.journal_log.specs.declared.put.Want.TheVariants.{Nothing, Dir, File, Link, Staged}
use Rattle.journal_log.specs.declared.put.Put.{Put}
use Rattle.journal_log.specs.LogBytes.{put_tag, put_value}
use Rattle.journal_log.specs.PutItem.{IsPutItem}
use Rattle.journal_log.specs.TwoStrs.{HasTail}
use Rattle.journal_log.specs.WriteSet.{IsFormed}
use Rattle.journal_log.proofs.Links.{fits_path}
use Rattle.tree_disk.proofs.cny-base.StrFields.{IsBytes, drop_bytes, take_bytes}
use Rattle.cny_stream.proofs.Items.{head_below as below}
use Rattle.tree_disk.proofs.cny-base.IdFields.{same_str}

pub four : (value : List ℕ) (number : ℕ) → IsBytes value → 4 ≤ length value → number ≡ from_be_bytes w32 (take 4 value) → value ≡ to_be_bytes w32 number ++ drop 4 value
four value number bytes long is =
    sym (take-append-drop 4 value) ∙ ap (λ (l : List ℕ). l ++ drop 4 value) (sym (be_bytes_4 (take 4 value) number (omega (arith, length-take 4 value, long)) (take_bytes 4 value bytes) is))

pub small : (value : List ℕ) (number : ℕ) → IsBytes value → number ≡ from_be_bytes w32 (take 4 value) → number < 2 ^ 32
small value number bytes is = let lt = below (take 4 value) (take_bytes 4 value bytes) in omega (arith, lt, is)

pub tail_here : (value rest name : List ℕ) (number size : ℕ) → IsBytes value → 4 ≤ length value → number ≡ from_be_bytes w32 (take 4 value) → rest ≡ drop 4 value → 4 ≤ length rest → size ≡ from_be_bytes w32 (take 4 rest) → name ≡ drop 4 rest → length name ≡ 20
    → HasTail value number size name
tail_here value rest name number size bytes long is rest_is longer size_is name_is twenty =
    let rest_bytes : IsBytes rest = subst IsBytes (sym rest_is) (drop_bytes 4 value bytes) in
    record {
      number_fits = small value number bytes is;
      size_fits = small rest size rest_bytes size_is;
      name_long = twenty;
      spelled = four value number bytes long is
          ∙ ap (λ (l : List ℕ). to_be_bytes w32 number ++ l) (sym rest_is ∙ four rest size rest_bytes longer size_is ∙ ap (λ (l : List ℕ). to_be_bytes w32 size ++ l) (sym name_is));
    }

-- what stands behind the path in the item of a staged file
pub tail_of : (p : Put) (value : List ℕ) (from to : ℕ) → IsStrAt value 2 from to → IsPutItem p 0x34 value → (number size : ℕ) × (name : List ℕ) × HasTail (drop to value) number size name
tail_of p value from to at item = by p.want item.path item.formed item.tagged item.spelled
  where
    by : (w : Want) → IsTrue (is_path p.path) → IsFormed w → put_tag w ≡ 0x34 → put_value p.path w ≡ value → (number size : ℕ) × (name : List ℕ) × HasTail (drop to value) number size name
    by Nothing path formed tag spelled = absurd (omega arith)
    by (Dir mode) path formed tag spelled = absurd (omega arith)
    by (Link target) path formed tag spelled = absurd (omega arith)
    by (File mode bytes) path formed tag spelled = absurd (omega arith)
    by (Staged mode number size name) path formed tag spelled =
        let tail : List ℕ = to_be_bytes w32 number ++ (to_be_bytes w32 size ++ name) in
        let behind : drop 2 value ≡ str p.path ++ tail = ap (drop 2) (sym spelled) ∙ drop-append_seam (to_be_bytes w16 mode) (str p.path ++ tail) in
        let same = same_str p.path (slice_range value from to) tail (drop to value) (fits_path p.path path) at.fits (sym behind ∙ at.spelled) in
        (number, size, name, record { number_fits = formed.number_fits; size_fits = formed.size_fits; name_long = formed.name_long; spelled = sym same.1 })
