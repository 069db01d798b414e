-- Bytes that are two `str` fields, or the number, the size and the digest of a staged file.
use Rattle.std.specs.Prelude.{◌≡◌, ℕ, ◌≤◌, ◌<◌, ◌^◌, List, ◌++◌, length, slice_range}
use Rattle.std.specs.Int.{w32, to_be_bytes}
use Rattle.tree_disk.specs.cny-base.StrField.{FitsStr, str}
use Rattle.tree_disk.specs.cny-base.declared.str_field.Span.{Span}

-- the values of the two fields stand there
pub record AreTwoStrs (bytes : List ℕ) (first second : Span) : Type 0 where
  pub first_order : first.from ≤ first.to
  pub first_within : first.to ≤ length bytes
  pub second_order : second.from ≤ second.to
  pub second_within : second.to ≤ length bytes
  pub first_fits : FitsStr (slice_range bytes first.from first.to)
  pub second_fits : FitsStr (slice_range bytes second.from second.to)
  pub spelled : bytes ≡ str (slice_range bytes first.from first.to) ++ str (slice_range bytes second.from second.to)

-- the bytes are two numbers of four bytes and a digest
pub record HasTail (bytes : List ℕ) (number size : ℕ) (name : List ℕ) : Type 0 where
  pub number_fits : number < 2 ^ 32
  pub size_fits : size < 2 ^ 32
  pub name_long : length name ≡ 20
  pub spelled : bytes ≡ to_be_bytes w32 number ++ (to_be_bytes w32 size ++ name)
