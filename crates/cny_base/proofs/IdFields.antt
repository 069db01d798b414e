-- Shared lemmas: id fields.
use Rattle.cny_base.proofs.ItemLaws.{same_front as same_split}
use Rattle.cny_base.specs.StrField.{FitsStr, str}
use Rattle.std.proofs.Common.{List, ap, append_assoc, length, refl, sym, ℕ, ◌++◌, ◌∙◌, ◌≡◌}
use Rattle.std.proofs.lemmas.Nat.{from_be_bytes-to_be_bytes_2}
use Rattle.std.specs.Int.{from_be_bytes, to_be_bytes, w16}

pub same_str : (a b x y : List ℕ) → FitsStr a → FitsStr b → str a ++ x ≡ str b ++ y → (a ≡ b) × (x ≡ y)
same_str a b x y a_fits b_fits e =
    let fronts = same_split (to_be_bytes w16 (length a)) (to_be_bytes w16 (length b)) (a ++ x) (b ++ y) refl
    (sym (append_assoc (to_be_bytes w16 (length a)) a x) ∙ e ∙ append_assoc (to_be_bytes w16 (length b)) b y) in
    let lengths : length a ≡ length b = sym (from_be_bytes-to_be_bytes_2 (length a) a_fits) ∙ ap (from_be_bytes w16) fronts.0 ∙ from_be_bytes-to_be_bytes_2 (length b) b_fits in
    same_split a b x y lengths fronts.1
