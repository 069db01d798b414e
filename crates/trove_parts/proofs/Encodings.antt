-- Lists of files in both encodings.
use Rattle.std.proofs.Common.{◌≡◌, ◌↔◌, ℕ, ◌+◌, ◌≤◌, Bool, true, false, List, [], ◌∷◌, ◌++◌, length, All, refl, ap, ◌∙◌, arith, length-append}
use Rattle.std.specs.Int.{w32, to_be_bytes}
use Rattle.std.specs.Prelude.{not}
use Rattle.std.proofs.lemmas.Bool.{false≢true}
use Rattle.std.proofs.lemmas.List.Elements.{All-nil, All-cons, All-head, All-tail}
use Rattle.cny_version.specs.cny-base.StrField.{str}
use Rattle.cny_stream.specs.Item.{item_bytes}
use Rattle.cny_stream.specs.declared.encoding.Encoding.TheVariants.{Compact, Explicit}
use Rattle.cny_stream.specs.declared.record.FileRec.{FileRec}
use Rattle.cny_stream.specs.declared.record.FileRec.TheVariants as rec
use Rattle.cny_stream.specs.Owner.{OwnerNames, is_root}
use Rattle.cny_stream.specs.Record.{is_owned_by_root, worth, head, owner_bytes, names_owner, owned, record_bytes, flag_bits}
use Rattle.trove_parts.specs.declared.files.FileAt.{FileAt}
use Rattle.trove_parts.specs.Files.{file_value, files_bytes, HasOtherOwner}
use Rattle.trove_parts.proofs.IdFields.{str_length}

-- ---- the explicit encoding is longer exactly by the owners that are root

pub owned_length : (named : Bool) (kind flags mode : ℕ) (owner : OwnerNames) (rest : List ℕ) → length (owned named kind flags mode owner rest) ≡ 5 + (length (owner_bytes named owner) + length rest)
owned_length named kind flags mode owner rest = omega (arith, length-append (head named kind flags mode) (owner_bytes named owner ++ rest), length-append (owner_bytes named owner) rest)

owner_longer : (owner : OwnerNames) (v : Bool) → is_root owner ≡ v → worth v 1 + length (owner_bytes (names_owner Compact owner) owner) ≤ length (owner_bytes true owner)
owner_longer owner true is =
    let none : length (owner_bytes (names_owner Compact owner) owner) ≡ 0 = ap (λ b. length (owner_bytes (not b) owner)) is in
    omega (arith, none, length-append (str owner.user) (str owner.group), str_length owner.user)
owner_longer owner false is =
    let same : length (owner_bytes (names_owner Compact owner) owner) ≡ length (owner_bytes true owner) = ap (λ b. length (owner_bytes (not b) owner)) is in
    omega (arith, same)

owned_longer : (kind flags mode : ℕ) (owner : OwnerNames) (rest : List ℕ) (v : Bool) → is_root owner ≡ v
    → worth v 1 + length (owned (names_owner Compact owner) kind flags mode owner rest) ≤ length (owned true kind flags mode owner rest)
owned_longer kind flags mode owner rest v is =
    omega (arith, owned_length (names_owner Compact owner) kind flags mode owner rest, owned_length true kind flags mode owner rest, owner_longer owner v is)

record_longer : (r : FileRec) (v : Bool) → is_owned_by_root r ≡ v → worth v 1 + length (record_bytes Compact r) ≤ length (record_bytes Explicit r)
record_longer (rec.Dir mode owner) v is = owned_longer 100 0 mode owner [] v is
record_longer (rec.File mode owner flags size name) v is = owned_longer 102 (flag_bits flags) mode owner (to_be_bytes w32 size ++ name) v is
record_longer (rec.Link target) true is = absurd (false≢true is)
record_longer (rec.Link target) false is = omega arith

pub item_length : (tag : ℕ) (value : List ℕ) → length (item_bytes tag value) ≡ 5 + length value
item_length tag value = length-append (tag ∷ to_be_bytes w32 (length value)) value

item_longer : (tag : ℕ) (file : FileAt) (v : Bool) → is_owned_by_root file.rec ≡ v
    → worth v 1 + length (item_bytes tag (file_value Compact file)) ≤ length (item_bytes tag (file_value Explicit file))
item_longer tag file v is =
    omega (
      arith,
      item_length tag (file_value Compact file),
      item_length tag (file_value Explicit file),
      length-append (str file.path) (record_bytes Compact file.rec),
      length-append (str file.path) (record_bytes Explicit file.rec),
      record_longer file.rec v is,
    )

no_longer : (tag : ℕ) (files : List FileAt) → length (files_bytes Compact tag files) ≤ length (files_bytes Explicit tag files)
no_longer tag [] = omega arith
no_longer tag (file ∷ files) =
    omega (
      arith,
      length-append (item_bytes tag (file_value Compact file)) (files_bytes Compact tag files),
      length-append (item_bytes tag (file_value Explicit file)) (files_bytes Explicit tag files),
      item_longer tag file (is_owned_by_root file.rec) refl,
      no_longer tag files,
    )

-- ---- where both are equal

-- where the explicit encoding isn't longer, root owns none
none_of_root : (tag : ℕ) (files : List FileAt) → length (files_bytes Explicit tag files) ≤ length (files_bytes Compact tag files) → All HasOtherOwner files
none_of_root tag [] short = All-nil HasOtherOwner
none_of_root tag (file ∷ files) short =
    let one = length-append (item_bytes tag (file_value Compact file)) (files_bytes Compact tag files) in
    let other = length-append (item_bytes tag (file_value Explicit file)) (files_bytes Explicit tag files) in
    All-cons HasOtherOwner file files (by one other (is_owned_by_root file.rec) refl) (none_of_root tag files (omega (arith, one, other, short, item_longer tag file (is_owned_by_root file.rec) refl)))
  where
    by : length (files_bytes Compact tag (file ∷ files)) ≡ length (item_bytes tag (file_value Compact file)) + length (files_bytes Compact tag files)
        → length (files_bytes Explicit tag (file ∷ files)) ≡ length (item_bytes tag (file_value Explicit file)) + length (files_bytes Explicit tag files)
        → (v : Bool) → is_owned_by_root file.rec ≡ v → v ≡ false
    by one other true is = absurd (omega (arith, one, other, short, item_longer tag file true is, no_longer tag files))
    by one other false is = refl

alike : ((r : FileRec) → is_owned_by_root r ≡ false → record_bytes Compact r ≡ record_bytes Explicit r) → (tag : ℕ) (files : List FileAt) → All HasOtherOwner files
    → files_bytes Compact tag files ≡ files_bytes Explicit tag files
alike same tag [] others = refl
alike same tag (file ∷ files) others =
    ap (λ l. item_bytes tag (str file.path ++ l) ++ files_bytes Compact tag files) (same file.rec (All-head HasOtherOwner file files others))
    ∙ ap (λ l. item_bytes tag (file_value Explicit file) ++ l) (alike same tag files (All-tail HasOtherOwner file files others))

pub encodings_equal : ((r : FileRec) → (record_bytes Compact r ≡ record_bytes Explicit r) ↔ (is_owned_by_root r ≡ false)) → (tag : ℕ) (files : List FileAt)
    → (files_bytes Compact tag files ≡ files_bytes Explicit tag files) ↔ All HasOtherOwner files
encodings_equal both tag files = (
  λ e. none_of_root tag files (omega (arith, ap length e)),
  λ others. alike (λ r. (both r).1) tag files others,
)
