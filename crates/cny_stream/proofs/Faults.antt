-- Where the fault lies as an item's bytes come.
use Rattle.std.proofs.Common.{◌≡◌, ℕ, zero, suc, ◌<◌, true, false, IsTrue, All, List, [], ◌∷◌, ◌++◌, length, drop, sym, ap, ◌∙◌, arith, append_assoc, length-append}
use Rattle.std.specs.Prelude.{not}
use Rattle.std.proofs.Math.Seq.{drop-append_seam}
use Rattle.std.proofs.lemmas.Bool.{cond-true, cond-false, not_from_true}
use Rattle.cny_stream.specs.Item.{item_bytes, is_expected, begins_unexpected}
use Rattle.cny_stream.specs.Decided.{Decided, Undecided, LacksItem}

behind : (whole front more : List ℕ) → drop (length whole) ((whole ++ front) ++ more) ≡ front ++ more
behind whole front more = ap (drop (length whole)) (append_assoc whole front more) ∙ drop-append_seam whole (front ++ more)

pub still : (tags front more : List ℕ) → begins_unexpected tags front ≡ true → begins_unexpected tags (front ++ more) ≡ true
still tags [] more other = absurd (cc)
still tags (t ∷ front) more other = other

goes_on : (tags front : List ℕ) (tag : ℕ) → IsTrue (is_expected tags tag) → begins_unexpected tags front ≡ false → begins_unexpected tags (front ++ tag ∷ []) ≡ false
goes_on tags [] tag expected begins = not_from_true (is_expected tags tag) expected
goes_on tags (t ∷ front) tag expected begins = begins

pub no_item : (tags bytes : List ℕ) → begins_unexpected tags bytes ≡ true → (tag : ℕ) (value rest : List ℕ) → IsTrue (is_expected tags tag) → bytes ≡ item_bytes tag value ++ rest → ⊥
no_item tags bytes other tag value rest expected spelled =
    let first : not (is_expected tags tag) ≡ true = sym (ap (begins_unexpected tags) spelled) ∙ other in
    let same = not_from_true (is_expected tags tag) expected in
    absurd (cc)

pub unexpected : (tags whole front : List ℕ) → begins_unexpected tags front ≡ true → Decided (LacksItem tags (length whole)) (whole ++ front) (length whole)
unexpected tags whole front other more bytes =
    let rest = behind whole front more in
    let first : begins_unexpected tags (drop (length whole) ((whole ++ front) ++ more)) ≡ true = ap (begins_unexpected tags) rest ∙ still tags front more other in
    record {
      none = λ tag value after expected fits spelled. no_item tags (drop (length whole) ((whole ++ front) ++ more)) first tag value after expected spelled;
      place = sym (cond-true (begins_unexpected tags (drop (length whole) ((whole ++ front) ++ more))) (length whole) (length ((whole ++ front) ++ more)) first);
    }

-- where no first byte is unexpected, the place is where the bytes end
at_end : (tags whole front more : List ℕ) (lies : ℕ) → begins_unexpected tags (front ++ more) ≡ false → LacksItem tags (length whole) ((whole ++ front) ++ more) lies → lies ≡ length ((whole ++ front) ++ more)
at_end tags whole front more lies begins fault =
    fault.place ∙ cond-false (begins_unexpected tags (drop (length whole) ((whole ++ front) ++ more))) (length whole) (length ((whole ++ front) ++ more)) (ap (begins_unexpected tags) (behind whole front more) ∙ begins)

pub no_bytes : All (λ (byte : ℕ). byte < 256) []
no_bytes k d low = absurd (omega arith)

pub one_byte : (b : ℕ) → b < 256 → All (λ (byte : ℕ). byte < 256) (b ∷ [])
one_byte b small zero d low = small
one_byte b small (suc k) d low = absurd (omega arith)

nothing_more : (tags front : List ℕ) → begins_unexpected tags front ≡ false → begins_unexpected tags (front ++ []) ≡ false
nothing_more tags [] begins = begins
nothing_more tags (t ∷ front) begins = begins

pub open_still : (tags whole front : List ℕ) (tag : ℕ) → IsTrue (is_expected tags tag) → tag < 256 → begins_unexpected tags front ≡ false → Undecided (LacksItem tags (length whole)) (whole ++ front)
open_still tags whole front tag expected small begins lies decided =
    let now = at_end tags whole front [] lies (nothing_more tags front begins) (decided [] no_bytes) in
    let later = at_end tags whole front (tag ∷ []) lies (goes_on tags front tag expected begins) (decided (tag ∷ []) (one_byte tag small)) in
    omega (arith, now, later, length-append (whole ++ front) [], length-append (whole ++ front) (tag ∷ []))
