-- The grammar of words and of trove names, on bytes.
use Rattle.std.specs.Prelude.{ℕ, Bool, false, ◌&&◌, ◌||◌, not, List, [], ◌∷◌, length, take, drop, ◌+◌, ◌==◌, nat_le, if◌then◌else◌, codes, Option, Some, None, is_some}
use Rattle.std.specs.Char.{is_ascii_alphanumeric}
use Rattle.std.specs.List.{list_all, position}
use Rattle.cny_base.specs.Below.{begins_with}
use Rattle.cny_base.specs.declared.limits.TheConstants.{NAME_LIMIT}
use Rattle.cny_base.specs.declared.name.NameKind.{NameKind}
use Rattle.cny_base.specs.declared.name.NameKind.TheVariants.{Component, Package, Group}

-- an ASCII letter or digit, or one of `_ - . +`
abbrev pub is_word_byte : ℕ → Bool
is_word_byte b = is_ascii_alphanumeric b || (b == 95 || (b == 45 || (b == 46 || b == 43)))

-- it begins with a letter or digit
abbrev pub begins_alphanumeric : List ℕ → Bool
begins_alphanumeric [] = false
begins_alphanumeric (b ∷ bs) = is_ascii_alphanumeric b

-- one or more bytes that pass a test, the first a letter or digit
abbrev pub is_word_by : (ℕ → Bool) → List ℕ → Bool
is_word_by test [] = false
is_word_by test (b ∷ bs) = is_ascii_alphanumeric b && list_all test bs

abbrev pub is_word : List ℕ → Bool
is_word bytes = is_word_by is_word_byte bytes

abbrev pub is_colon : ℕ → Bool
is_colon b = b == 58

-- where the first colon of a name stands
abbrev pub colon_place : List ℕ → Option ℕ
colon_place bytes = position is_colon bytes

abbrev pub begins_as_group : List ℕ → Bool
begins_as_group bytes = begins_with (codes "group-") bytes

-- a word, or with a colon at that place two words, the first of which isn't that of a group
abbrev pub has_words : List ℕ → Option ℕ → Bool
has_words bytes None = is_word bytes
has_words bytes (Some at) = is_word (take at bytes) && (is_word (drop (at + 1) bytes) && not (begins_as_group bytes))

-- a word, or two words with a colon between them; at most 255 bytes
abbrev pub is_name : List ℕ → Bool
is_name bytes = nat_le (length bytes) NAME_LIMIT && has_words bytes (colon_place bytes)

-- what a name stands for: with a colon a component, with `group-` in front a group, else a package
abbrev pub kind_of_name : List ℕ → NameKind
kind_of_name bytes = if is_some (colon_place bytes) then Component else (if begins_as_group bytes then Group else Package)
