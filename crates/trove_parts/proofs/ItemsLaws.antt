-- Where the items of one tag end, and what stands between equal bytes.
use Rattle.std.specs.Prelude.{◌≡◌, ℕ, false, ◌==◌, List, [], ◌∷◌, ◌++◌, length, refl}
use Rattle.std.proofs.Common.{ap, arith, length-append}
use Rattle.trove_parts.specs.Items.{items_bytes, begins_with_tag}
use Rattle.cny_version.proofs.cny-base.ItemLaws.{same_front}

-- bytes that begin with items of another tag, or with none and then with what doesn't begin with this tag
pub other_tag : {A : Type 0} (value : A → List ℕ) (tag other : ℕ) (xs : List A) (rest : List ℕ) → (other == tag) ≡ false
    → begins_with_tag tag rest ≡ false → begins_with_tag tag (items_bytes value other xs ++ rest) ≡ false
other_tag value tag other [] rest differ ended = ended
other_tag value tag other (x ∷ xs) rest differ ended = differ

-- what stands between equal fronts and equal ends
pub same_middle : (front xs ys rest : List ℕ) → front ++ (xs ++ rest) ≡ front ++ (ys ++ rest) → xs ≡ ys
same_middle front xs ys rest e =
    let behind = (same_front front front (xs ++ rest) (ys ++ rest) refl e).1 in
    let long : length xs ≡ length ys = omega (arith, ap length behind, length-append xs rest, length-append ys rest) in
    (same_front xs ys rest rest long behind).0
