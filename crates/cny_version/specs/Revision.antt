-- Revisions: the upstream version, the source count and, for what was built, the build count.
use Rattle.std.specs.Prelude.{ℕ, ◌+◌, ◌^◌, Bool, true, false, ◌&&◌, ◌||◌, not, List, [], ◌∷◌, ◌++◌, length, map, ◌==◌, nat_le, nat_lt, Option, Some, None}
use Rattle.std.specs.Char.{is_ascii_alphanumeric}
use Rattle.std.specs.Fmt.{decimal}
use Rattle.std.specs.List.{list_all, join_with_byte}
use Rattle.cny_version.specs.declared.revision.Revision.{Revision}

-- ---- texts

-- the numbers in decimal digits, joined by `.`
abbrev pub count_text : List ℕ → List ℕ
count_text numbers = join_with_byte 46 (map decimal numbers)

-- the build count after its `-`, where there is one
abbrev pub build_text : Option (List ℕ) → List ℕ
build_text None = []
build_text (Some numbers) = 45 ∷ count_text numbers

-- `upstream-source` or `upstream-source-build`
abbrev pub revision_text : Revision → List ℕ
revision_text r = r.upstream ++ 45 ∷ (count_text r.source ++ build_text r.build)

-- ---- rules

-- an ASCII letter or digit, or one of `. _ + ~`
abbrev pub is_upstream_byte : ℕ → Bool
is_upstream_byte b = is_ascii_alphanumeric b || (b == 46 || (b == 95 || (b == 43 || b == 126)))

-- one or more of these bytes, the first a letter or digit
abbrev pub is_upstream : List ℕ → Bool
is_upstream [] = false
is_upstream (b ∷ bs) = is_ascii_alphanumeric b && list_all is_upstream_byte bs

-- there is a last number, and it isn't 0
abbrev pub ends_above_zero : List ℕ → Bool
ends_above_zero [] = false
ends_above_zero (n ∷ []) = not (n == 0)
ends_above_zero (n ∷ m ∷ numbers) = ends_above_zero (m ∷ numbers)

abbrev pub fits_32_bits : ℕ → Bool
fits_32_bits n = nat_lt n (2 ^ 32)

-- 1 to depth + 1 numbers of 32 bits, the last not 0
abbrev pub is_count : ℕ → List ℕ → Bool
is_count depth numbers = nat_le (length numbers) (depth + 1) && (list_all fits_32_bits numbers && ends_above_zero numbers)

-- no build count, or one by the rule
abbrev pub is_build : ℕ → Option (List ℕ) → Bool
is_build depth None = true
is_build depth (Some numbers) = is_count depth numbers

-- what a revision may be at a depth
abbrev pub is_revision : ℕ → Revision → Bool
is_revision depth r = is_upstream r.upstream && (is_count depth r.source && is_build depth r.build)
