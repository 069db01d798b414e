-- Labels: the place where versions are made.
use Rattle.std.specs.Prelude.{◌≡◌, IsTrue, ℕ, Bool, false, ◌&&◌, ◌||◌, List, [], ◌∷◌, ◌++◌, length, ◌==◌, nat_le}
use Rattle.std.specs.Char.{is_ascii_alphanumeric}
use Rattle.std.specs.List.{list_all}

pub record LabelParts : Type 0 where
  pub host : List ℕ
  pub namespace : List ℕ
  pub tag : List ℕ

-- `host@namespace:tag`
abbrev pub label_text : LabelParts → List ℕ
label_text l = l.host ++ 64 ∷ (l.namespace ++ 58 ∷ l.tag)

-- an ASCII letter or digit, or one of `. _ -`
abbrev pub is_label_byte : ℕ → Bool
is_label_byte b = is_ascii_alphanumeric b || (b == 46 || (b == 95 || b == 45))

-- one or more of these bytes, the first a letter or digit
abbrev pub is_label_part : List ℕ → Bool
is_label_part [] = false
is_label_part (b ∷ bs) = is_ascii_alphanumeric b && list_all is_label_byte bs

-- three parts of that form; at most 255 bytes in all
abbrev pub is_label : LabelParts → Bool
is_label l = is_label_part l.host && (is_label_part l.namespace && (is_label_part l.tag && nat_le (length (label_text l)) 255))

-- the text of a label
abbrev pub IsLabelText : List ℕ → Type 0
IsLabelText text = (l : LabelParts) × IsTrue (is_label l) × (text ≡ label_text l)
