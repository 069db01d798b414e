-- How long the values of items may be.
use Rattle.std.proofs.Common.{suc, Bool, ◌&&◌, nat_le, ⊎_elim, ◌≡◌, ℕ, ◌+◌, ◌*◌, ◌≤◌, false, true, IsTrue, List, [], ◌∷◌, ◌++◌, length, arith, length-append}
use Rattle.std.specs.Cmp.{first_so, second_so}
use Rattle.std.specs.Prelude.{◌==◌, codes}
use Rattle.std.specs.Int.{w32, to_be_bytes}
use Rattle.std.specs.List.{list_all, join_with_byte}
use Rattle.std.specs.Str.{is_utf8}
use Rattle.std.proofs.lemmas.Bool.{leb-true}
use Rattle.std.proofs.lemmas.Bool.Decides.{nat_tests}
use Rattle.cny_version.specs.cny-base.StrField.{str}
use Rattle.cny_version.specs.cny-base.Name.{is_word}
use Rattle.cny_version.specs.cny-base.Path.{is_path, are_parts}
use Rattle.cny_version.specs.cny-base.Target.{is_target, is_shown, has_target_form}
use Rattle.cny_dep.specs.declared.class.Class.{Class}
use Rattle.cny_dep.specs.declared.class.Class.TheVariants.{Abi, File, Trove, Soname, UserInfo, GroupInfo, Python, Perl}
use Rattle.cny_dep.specs.Dep.{Dependency, IsDependency, class_text, flags_text, dep_text}
use Rattle.cny_dep.specs.Part.{is_part_byte, is_dep_name, is_flag}
use Rattle.cny_stream.specs.declared.record.FileRec.{FileRec}
use Rattle.cny_stream.specs.declared.record.FileRec.TheVariants as rec
use Rattle.cny_stream.specs.declared.encoding.Encoding.{Encoding}
use Rattle.cny_stream.specs.Owner.{OwnerNames, is_owner_word, is_owner}
use Rattle.cny_stream.specs.Record.{IsFileRecord, flag_bits, head, owner_bytes, names_owner, owned, record_bytes}
use Rattle.trove_parts.specs.declared.files.FileAt.{FileAt}
use Rattle.trove_parts.specs.Files.{IsFileAt, file_value}
use Rattle.trove_parts.proofs.IdFields.{str_length}
use Rattle.cny_version.proofs.cny-base.Bools.{tests_of}

-- ---- paths and files

at_most : (n : ℕ) → nat_le n 1023 ≡ true → suc n ≤ 1024
at_most n h = grind (arith, nat_tests)

empty : (n : ℕ) → (n == 0) ≡ true → suc n ≤ 1024
empty n h = grind (arith, nat_tests)

pub path_short : (path : List ℕ) → IsTrue (is_path path) → length path ≤ 1024
path_short [] is = omega arith
path_short (b ∷ bs) is = ⊎_elim (empty (length bs)) (at_most (length bs)) (tests_of (b == 47) (length bs == 0) (nat_le (length bs) 1023) (are_parts bs) is)

target_short : (target : List ℕ) → IsTrue (is_target target) → length target ≤ 1024
target_short target is =
    let form = first_so (has_target_form target) (is_utf8 target) is in
    leb-true (length target) 1024 (first_so (nat_le (length target) 1024) (list_all is_shown target) (second_so (nat_le 1 (length target)) (nat_le (length target) 1024 && list_all is_shown target) form))

owner_word_short : (word : List ℕ) → is_owner_word word ≡ true → length word ≤ 32
owner_word_short word is = leb-true (length word) 32 (first_so (nat_le (length word) 32) (is_word word) is)

owner_short : (named : Bool) (owner : OwnerNames) → is_owner owner ≡ true → length (owner_bytes named owner) ≤ 68
owner_short true owner is =
    omega (
      arith,
      length-append (str owner.user) (str owner.group),
      str_length owner.user,
      str_length owner.group,
      owner_word_short owner.user (first_so (is_owner_word owner.user) (is_owner_word owner.group) is),
      owner_word_short owner.group (second_so (is_owner_word owner.user) (is_owner_word owner.group) is),
    )
owner_short false owner is = omega arith

owned_short : (named : Bool) (kind flags mode : ℕ) (owner : OwnerNames) (rest : List ℕ) → is_owner owner ≡ true → length (owned named kind flags mode owner rest) ≤ 73 + length rest
owned_short named kind flags mode owner rest is =
    omega (arith, length-append (head named kind flags mode) (owner_bytes named owner ++ rest), length-append (owner_bytes named owner) rest, owner_short named owner is)

record_short : (encoding : Encoding) (r : FileRec) → IsFileRecord r → length (record_bytes encoding r) ≤ 1031
record_short encoding (rec.Dir mode owner) is = omega (arith, owned_short (names_owner encoding owner) 100 0 mode owner [] is.1)
record_short encoding (rec.File mode owner flags size name) is =
    omega (arith, is.2, owned_short (names_owner encoding owner) 102 (flag_bits flags) mode owner (to_be_bytes w32 size ++ name) is.3, length-append (to_be_bytes w32 size) name)
record_short encoding (rec.Link target) is = omega (arith, length-append (head false 108 0 0) (str target), str_length target, target_short target is)

pub file_short : (encoding : Encoding) (file : FileAt) → IsFileAt file → length (file_value encoding file) ≤ 2057
file_short encoding file is = omega (arith, length-append (str file.path) (record_bytes encoding file.rec), str_length file.path, path_short file.path is.path, record_short encoding file.rec is.rec)

-- ---- dependencies

class_short : (c : Class) → length (class_text c) ≤ 9
class_short Abi = omega arith
class_short File = omega arith
class_short Trove = omega arith
class_short Soname = omega arith
class_short UserInfo = omega arith
class_short GroupInfo = omega arith
class_short Python = omega arith
class_short Perl = omega arith

name_short : (name : List ℕ) → is_dep_name name ≡ true → length name ≤ 1024
name_short name is = leb-true (length name) 1024 (first_so (nat_le (length name) 1024) (list_all is_part_byte name) (second_so (nat_le 1 (length name)) (nat_le (length name) 1024 && list_all is_part_byte name) is))

flag_short : (flag : List ℕ) → is_flag flag ≡ true → length flag ≤ 255
flag_short flag is = leb-true (length flag) 255 (first_so (nat_le (length flag) 255) (list_all is_part_byte flag) (second_so (nat_le 1 (length flag)) (nat_le (length flag) 255 && list_all is_part_byte flag) is))

joined_short : (flags : List (List ℕ)) → list_all is_flag flags ≡ true → length (join_with_byte 32 flags) ≤ 256 * length flags
joined_short [] all = omega arith
joined_short (x ∷ []) all = omega (arith, flag_short x (first_so (is_flag x) (list_all is_flag []) all))
joined_short (x ∷ y ∷ flags) all =
    omega (arith, length-append x (32 ∷ join_with_byte 32 (y ∷ flags)), flag_short x (first_so (is_flag x) (list_all is_flag (y ∷ flags)) all), joined_short (y ∷ flags) (second_so (is_flag x) (list_all is_flag (y ∷ flags)) all))

flags_short : (flags : List (List ℕ)) → list_all is_flag flags ≡ true → length (flags_text flags) ≤ 256 * length flags + 2
flags_short [] all = omega arith
flags_short (x ∷ flags) all = omega (arith, length-append (40 ∷ join_with_byte 32 (x ∷ flags)) (41 ∷ []), joined_short (x ∷ flags) all)

pub dep_short : (dep : Dependency) → IsDependency dep → length (dep_text dep) ≤ 17421
dep_short dep is =
    let few = is.few in
    omega (
      arith,
      length-append (class_text dep.class) (codes ": " ++ (dep.name ++ flags_text dep.flags)),
      length-append (codes ": ") (dep.name ++ flags_text dep.flags),
      length-append dep.name (flags_text dep.flags),
      class_short dep.class,
      name_short dep.name is.name,
      flags_short dep.flags is.flags,
    )
