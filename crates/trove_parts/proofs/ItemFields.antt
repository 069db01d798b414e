-- What the values of items are: their fields, and that they are UTF-8.
use Rattle.std.proofs.Common.{◌≡◌, ℕ, ◌<◌, true, List, [], ◌∷◌, ◌++◌, length, drop, lit<, IsTrue, nat_le, ◌&&◌, refl, sym, ◌∙◌, arith}
use Rattle.std.specs.Cmp.{first_so, second_so}
use Rattle.std.specs.List.{list_all, join_with_byte}
use Rattle.std.specs.Prelude.{slice_range, codes}
use Rattle.std.specs.Str.{IsUtf8, IsAscii}
use Rattle.std.proofs.lemmas.Bool.Decides.{nat_tests}
use Rattle.std.proofs.lemmas.Str.{IsAscii-append, IsUtf8-from_ascii}
use Rattle.std.proofs.lemmas.Str.Ascii.{IsAscii-nil, IsAscii-cons}
use Rattle.cny_version.specs.cny-base.Path.{is_path}
use Rattle.cny_version.specs.cny-base.StrField.{FitsStr, IsStrAt}
use Rattle.cny_dep.specs.declared.class.Class.{Class}
use Rattle.cny_dep.specs.declared.class.Class.TheVariants.{Abi, File, Trove, Soname, UserInfo, GroupInfo, Python, Perl}
use Rattle.cny_dep.specs.Dep.{Dependency, IsDependency, class_text, flags_text, dep_text}
use Rattle.cny_dep.specs.Part.{is_part_byte, is_dep_name, is_flag}
use Rattle.cny_stream.specs.declared.encoding.Encoding.{Encoding}
use Rattle.cny_stream.specs.Record.{record_bytes}
use Rattle.trove_parts.specs.declared.files.FileAt.{FileAt}
use Rattle.trove_parts.specs.Files.{IsFileAt, file_value}
use Rattle.trove_parts.proofs.Lengths.{path_short}
use Rattle.cny_dep.proofs.PartBytes.{bytes_ascii as part_ascii}
use Rattle.cny_version.proofs.cny-base.IdFields.{same_str}

-- ---- files

pub path_fits : (path : List ℕ) → IsTrue (is_path path) → FitsStr path
path_fits path is = omega (arith, path_short path is)

pub file_there : (encoding : Encoding) (bytes : List ℕ) (from to : ℕ) (file : FileAt) → IsStrAt bytes 0 from to → IsFileAt file → bytes ≡ file_value encoding file
    → (slice_range bytes from to ≡ file.path) × (drop to bytes ≡ record_bytes encoding file.rec)
file_there encoding bytes from to file field valid same =
    same_str (slice_range bytes from to) file.path (drop to bytes) (record_bytes encoding file.rec) field.fits (path_fits file.path valid.path) (sym field.spelled ∙ same)

-- ---- dependencies

name_ascii : (name : List ℕ) → is_dep_name name ≡ true → IsAscii name
name_ascii name is = part_ascii name (second_so (nat_le (length name) 1024) (list_all is_part_byte name) (second_so (nat_le 1 (length name)) (nat_le (length name) 1024 && list_all is_part_byte name) is))

flag_ascii : (flag : List ℕ) → is_flag flag ≡ true → IsAscii flag
flag_ascii flag is = part_ascii flag (second_so (nat_le (length flag) 255) (list_all is_part_byte flag) (second_so (nat_le 1 (length flag)) (nat_le (length flag) 255 && list_all is_part_byte flag) is))

joined_ascii : (flags : List (List ℕ)) → list_all is_flag flags ≡ true → IsAscii (join_with_byte 32 flags)
joined_ascii [] all = IsAscii-nil
joined_ascii (x ∷ []) all = flag_ascii x (first_so (is_flag x) (list_all is_flag []) all)
joined_ascii (x ∷ y ∷ flags) all =
    IsAscii-append x (32 ∷ join_with_byte 32 (y ∷ flags)) (flag_ascii x (first_so (is_flag x) (list_all is_flag (y ∷ flags)) all))
    (IsAscii-cons 32 (join_with_byte 32 (y ∷ flags)) (lit< tt) (joined_ascii (y ∷ flags) (second_so (is_flag x) (list_all is_flag (y ∷ flags)) all)))

flags_ascii : (flags : List (List ℕ)) → list_all is_flag flags ≡ true → IsAscii (flags_text flags)
flags_ascii [] all = IsAscii-nil
flags_ascii (x ∷ flags) all =
    IsAscii-append (40 ∷ join_with_byte 32 (x ∷ flags)) (41 ∷ []) (IsAscii-cons 40 (join_with_byte 32 (x ∷ flags)) (lit< tt) (joined_ascii (x ∷ flags) all)) (IsAscii-cons 41 [] (lit< tt) IsAscii-nil)

-- lowercase letters alone
letters : (bytes : List ℕ) → list_all (λ b. nat_le b 122) bytes ≡ true → IsAscii bytes
letters [] all = IsAscii-nil
letters (b ∷ bytes) all = IsAscii-cons b bytes (low b (first_so (nat_le b 122) (list_all (λ c. nat_le c 122) bytes) all)) (letters bytes (second_so (nat_le b 122) (list_all (λ c. nat_le c 122) bytes) all))
  where
    low : (c : ℕ) → nat_le c 122 ≡ true → c < 128
    low c is = grind (arith, nat_tests)

class_ascii : (c : Class) → IsAscii (class_text c)
class_ascii Abi = letters (class_text Abi) refl
class_ascii File = letters (class_text File) refl
class_ascii Trove = letters (class_text Trove) refl
class_ascii Soname = letters (class_text Soname) refl
class_ascii UserInfo = letters (class_text UserInfo) refl
class_ascii GroupInfo = letters (class_text GroupInfo) refl
class_ascii Python = letters (class_text Python) refl
class_ascii Perl = letters (class_text Perl) refl

pub dep_is_utf8 : (dep : Dependency) → IsDependency dep → IsUtf8 (dep_text dep)
dep_is_utf8 dep is =
    IsUtf8-from_ascii (dep_text dep)
    (IsAscii-append (class_text dep.class) (codes ": " ++ (dep.name ++ flags_text dep.flags)) (class_ascii dep.class)
    (IsAscii-append (codes ": ") (dep.name ++ flags_text dep.flags) (letters (codes ": ") refl)
    (IsAscii-append dep.name (flags_text dep.flags) (name_ascii dep.name is.name) (flags_ascii dep.flags is.flags))))
