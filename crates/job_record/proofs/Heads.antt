-- The magic and the number of a record.
use Rattle.std.proofs.Common.{◌≡◌, ℕ, ◌<◌, ◌≤◌, ◌^◌, true, nat_eq, List, [], ◌∷◌, ◌++◌, length, take, drop, sym, ◌∙◌, ap, subst}
use Rattle.std.specs.Int.{w32, to_be_bytes, from_be_bytes}
use Rattle.std.specs.Cmp.Lexicographic.{pointwise}
use Rattle.std.proofs.Math.Seq.{drop-append_seam}
use Rattle.local_db.proofs.cny-base.Below.{begun}
use Rattle.cny_stream.specs.Item.{item_bytes}
use Rattle.cny_stream.proofs.ItemLaws.{same_four}
use Rattle.local_db.specs.declared.format.Format.{Format}
use Rattle.local_db.specs.declared.format.Format.TheVariants.{One, Two}
use Rattle.local_db.specs.Formats.{record_magic}
use Rattle.change_rel.proofs.cny-base.StrFields.{IsBytes, drop_bytes}
use Rattle.change_rel.proofs.cny-base.ByteLists.{begins_by}
use Rattle.local_db.proofs.journal-log.Tails.{four}

abbrev pub with_head : Format → ℕ → List ℕ → List ℕ
with_head f number rest = record_magic f ++ (item_bytes 0x60 (to_be_bytes w32 number) ++ rest)

-- bytes with a head have one number, and one rest
pub one_number : (f : Format) (m n : ℕ) (r s : List ℕ) → m < 2 ^ 32 → n < 2 ^ 32 → with_head f m r ≡ with_head f n s → (m ≡ n) × (r ≡ s)
one_number One m n r s m_fits n_fits e = same_four m n r s m_fits n_fits (ap (drop 13) e)
one_number Two m n r s m_fits n_fits e = same_four m n r s m_fits n_fits (ap (drop 13) e)

-- ---- a front that is taken off

pub stripped : (front bytes rest : List ℕ) → pointwise nat_eq (take (length front) bytes) front ≡ true → rest ≡ drop (length front) bytes → bytes ≡ front ++ rest
stripped front bytes rest same rest_is =
    let more = begun front bytes (sym (begins_by front bytes) ∙ same) in
    more.1 ∙ ap (λ (l : List ℕ). front ++ l) (sym (rest_is ∙ ap (drop (length front)) more.1 ∙ drop-append_seam front more.0))

pub number_here : (f : Format) (bytes behind rest : List ℕ) (number : ℕ) → IsBytes bytes → bytes ≡ record_magic f ++ behind → behind ≡ (0x60 ∷ 0 ∷ 0 ∷ 0 ∷ 4 ∷ []) ++ rest → 4 ≤ length rest
    → number ≡ from_be_bytes w32 (take 4 rest) → bytes ≡ with_head f number (drop 17 bytes)
number_here One bytes behind rest number all is more long number_is =
    let text : bytes ≡ record_magic One ++ ((0x60 ∷ 0 ∷ 0 ∷ 0 ∷ 4 ∷ []) ++ rest) = is ∙ ap (λ (l : List ℕ). record_magic One ++ l) more in
    let rest_bytes : IsBytes rest = subst IsBytes (ap (drop 13) text) (drop_bytes 13 bytes all) in
    let here = four rest number rest_bytes long number_is in
    text ∙ ap (λ (l : List ℕ). record_magic One ++ ((0x60 ∷ 0 ∷ 0 ∷ 0 ∷ 4 ∷ []) ++ l)) (here ∙ ap (λ (l : List ℕ). to_be_bytes w32 number ++ l) (sym (ap (drop 17) text)))
number_here Two bytes behind rest number all is more long number_is =
    let text : bytes ≡ record_magic Two ++ ((0x60 ∷ 0 ∷ 0 ∷ 0 ∷ 4 ∷ []) ++ rest) = is ∙ ap (λ (l : List ℕ). record_magic Two ++ l) more in
    let rest_bytes : IsBytes rest = subst IsBytes (ap (drop 13) text) (drop_bytes 13 bytes all) in
    let here = four rest number rest_bytes long number_is in
    text ∙ ap (λ (l : List ℕ). record_magic Two ++ ((0x60 ∷ 0 ∷ 0 ∷ 0 ∷ 4 ∷ []) ++ l)) (here ∙ ap (λ (l : List ℕ). to_be_bytes w32 number ++ l) (sym (ap (drop 17) text)))
