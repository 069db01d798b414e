-- What fits a database of format 1 fits one of format 2, whose limit is twice that of format 1: it has at most twice the bytes.
use Rattle.std.proofs.Common.{◌≡◌, ⊎_elim, ℕ, ◌+◌, ◌*◌, ◌≤◌, Bool, true, false, not, List, [], ◌∷◌, ◌++◌, length, refl, ap, arith, length-append}
use Rattle.std.specs.Int.{w32, to_be_bytes}
use Rattle.std.specs.Str.{bytes_eq}
use Rattle.std.proofs.lemmas.Bool.{cases_Bool}
use Rattle.std.proofs.lemmas.Slice.Eq.{bytes_eq-Decides}
use Rattle.job_targets.specs.cny-base.StrField.{str}
use Rattle.job_targets.specs.cny-base.declared.limits.TheConstants.{DATABASE_LIMIT, FORMAT_1_DATABASE_LIMIT}
use Rattle.job_targets.specs.cny-stream.Item.{item_bytes}
use Rattle.job_targets.specs.cny-stream.declared.encoding.Encoding.TheVariants.{Compact, Explicit}
use Rattle.job_targets.specs.cny-stream.declared.record.FileRec.{FileRec}
use Rattle.job_targets.specs.cny-stream.declared.record.FileRec.TheVariants.{Dir, File, Link}
use Rattle.job_targets.specs.cny-stream.Owner.{OwnerNames, is_root, root}
use Rattle.job_targets.specs.cny-stream.Record.{flag_bits, names_owner, owned, owner_bytes, record_bytes}
use Rattle.local_db.specs.Formats.{Fits, database_bytes, database_magic, trove_text}
use Rattle.local_db.specs.declared.format.Format.TheVariants.{One, Two}
use Rattle.job_targets.specs.trove-parts.declared.files.FileAt.{FileAt}
use Rattle.job_targets.specs.trove-parts.Deps.{deps_bytes}
use Rattle.job_targets.specs.trove-parts.Files.{file_value, files_bytes}
use Rattle.job_targets.specs.trove-parts.Items.{items_bytes}
use Rattle.job_targets.specs.trove-parts.Refs.{refs_bytes}
use Rattle.job_targets.specs.trove-stream.Stream.{head_bytes, lists_bytes}
use Rattle.job_targets.specs.trove-stream.declared.parts.TroveParts.{TroveParts}
use Rattle.change_rel.proofs.cny-base.Doubling.{both as both_true}
use Rattle.change_rel.proofs.trove-parts.Encodings.{item_length as item_long, owned_length as owned_long}
use Rattle.change_rel.proofs.trove-parts.IdFields.{str_length as str_long}

-- ---- fields

-- ---- records of files

root_long : (owner : OwnerNames) → is_root owner ≡ true → length (owner_bytes true owner) ≡ 12
root_long owner is =
    let both = both_true (bytes_eq owner.user root) (bytes_eq owner.group root) is in
    let user : length owner.user ≡ 4 = ap length ((bytes_eq-Decides owner.user root).0 both.0) in
    let group : length owner.group ≡ 4 = ap length ((bytes_eq-Decides owner.group root).0 both.1) in
    omega (arith, length-append (str owner.user) (str owner.group), str_long owner.user, str_long owner.group, user, group)

-- with the owner named where it needn't be, 12 bytes more at most
owner_more : (kind flags mode : ℕ) (owner : OwnerNames) (rest : List ℕ) → length (owned (names_owner Explicit owner) kind flags mode owner rest) ≤ 12 + length (owned (names_owner Compact owner) kind flags mode owner rest)
owner_more kind flags mode owner rest = ⊎_elim
    (λ is. omega (
      arith,
      owned_long true kind flags mode owner rest,
      owned_long false kind flags mode owner rest,
      root_long owner is,
      ap (λ (b : Bool). length (owned (not b) kind flags mode owner rest)) is,
    ))
    (λ isnt. omega (arith, ap (λ (b : Bool). length (owned (not b) kind flags mode owner rest)) isnt))
    (cases_Bool (is_root owner))

owned_least : (named : Bool) (kind flags mode : ℕ) (owner : OwnerNames) (rest : List ℕ) → 5 ≤ length (owned named kind flags mode owner rest)
owned_least named kind flags mode owner rest = omega (arith, owned_long named kind flags mode owner rest)

record_more : (rec : FileRec) → length (record_bytes Explicit rec) ≤ 12 + length (record_bytes Compact rec)
record_more (Dir mode owner) = owner_more 100 0 mode owner []
record_more (File mode owner flags size name) = owner_more 102 (flag_bits flags) mode owner (to_be_bytes w32 size ++ name)
record_more (Link target) = omega arith

record_least : (rec : FileRec) → 5 ≤ length (record_bytes Compact rec)
record_least (Dir mode owner) = owned_least (names_owner Compact owner) 100 0 mode owner []
record_least (File mode owner flags size name) = owned_least (names_owner Compact owner) 102 (flag_bits flags) mode owner (to_be_bytes w32 size ++ name)
record_least (Link target) = omega arith

file_twice : (tag : ℕ) (file : FileAt) → length (item_bytes tag (file_value Explicit file)) ≤ 2 * length (item_bytes tag (file_value Compact file))
file_twice tag file = omega (
  arith,
  item_long tag (file_value Explicit file),
  item_long tag (file_value Compact file),
  length-append (str file.path) (record_bytes Explicit file.rec),
  length-append (str file.path) (record_bytes Compact file.rec),
  str_long file.path,
  record_more file.rec,
  record_least file.rec,
)

-- ---- lists of items

items_twice : {A : Type 0} (tag : ℕ) (value other : A → List ℕ) → ((x : A) → length (item_bytes tag (value x)) ≤ 2 * length (item_bytes tag (other x))) → (xs : List A)
    → length (items_bytes value tag xs) ≤ 2 * length (items_bytes other tag xs)
items_twice tag value other each [] = omega arith
items_twice tag value other each (x ∷ xs) = omega (
  arith,
  each x,
  items_twice tag value other each xs,
  length-append (item_bytes tag (value x)) (items_bytes value tag xs),
  length-append (item_bytes tag (other x)) (items_bytes other tag xs),
)

-- ---- troves and databases

both_twice : (a b c d : List ℕ) → length a ≤ 2 * length c → length b ≤ 2 * length d → length (a ++ b) ≤ 2 * length (c ++ d)
both_twice a b c d first second = omega (arith, length-append a b, length-append c d, first, second)

same_twice : (a : List ℕ) → length a ≤ 2 * length a
same_twice a = omega arith

trove_twice : (t : TroveParts) → length (trove_text Two t) ≤ 2 * length (trove_text One t)
trove_twice t =
    let rest = refs_bytes 5 t.refs ++ (deps_bytes 6 t.requires_ ++ deps_bytes 7 t.provides) in
    both_twice (head_bytes t.id) (lists_bytes Explicit t) (head_bytes t.id) (lists_bytes Compact t) (same_twice (head_bytes t.id))
    (both_twice (files_bytes Explicit 4 t.files) rest (files_bytes Compact 4 t.files) rest
    (items_twice 4 (file_value Explicit) (file_value Compact) (file_twice 4) t.files) (same_twice rest))

trove_item_twice : (t : TroveParts) → length (item_bytes 0x50 (trove_text Two t)) ≤ 2 * length (item_bytes 0x50 (trove_text One t))
trove_item_twice t = omega (arith, item_long 0x50 (trove_text Two t), item_long 0x50 (trove_text One t), trove_twice t)

database_twice : (list : List TroveParts) → length (database_bytes Two list 0 0) ≤ 2 * length (database_bytes One list 0 0)
database_twice list =
    let ends = item_bytes 0x51 (to_be_bytes w32 0 ++ to_be_bytes w32 0) ++ item_bytes 0x5F [] in
    let magic : length (database_magic Two) ≡ length (database_magic One) = refl in
    both_twice (database_magic Two) (items_bytes (trove_text Two) 0x50 list ++ ends) (database_magic One) (items_bytes (trove_text One) 0x50 list ++ ends) (omega (arith, magic))
    (both_twice (items_bytes (trove_text Two) 0x50 list) ends (items_bytes (trove_text One) 0x50 list) ends
    (items_twice 0x50 (trove_text Two) (trove_text One) trove_item_twice list) (same_twice ends))

pub fits_two : (list : List TroveParts) → Fits One list → Fits Two list
fits_two list fits = record {
  told = all_told list;
  short = let limits : DATABASE_LIMIT ≡ 2 * FORMAT_1_DATABASE_LIMIT = refl in let short = fits.short in omega (arith, database_twice list, short, limits);
}
  where
    all_told : (list : List TroveParts) → Rattle.std.proofs.Common.All (λ (t : TroveParts). Unit {0}) list
    all_told list = λ k d lt. tt
