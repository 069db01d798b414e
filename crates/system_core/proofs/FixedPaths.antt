-- The texts of the fixed directories are those of paths.
use Rattle.std.proofs.Common.{◌≡◌, ℕ, true, List, refl, codes}
use Rattle.std.specs.List.{list_all}
use Rattle.std.specs.Str.{is_utf8}
use Rattle.std.proofs.lemmas.Str.{IsUtf8-from_ascii, is_utf8-from_IsUtf8}
use Rattle.local_db.proofs.cny-base.FileNames.{ascii, is_low}

low_text : (cs : List ℕ) → list_all is_low cs ≡ true → is_utf8 cs ≡ true
low_text cs all = is_utf8-from_IsUtf8 cs (IsUtf8-from_ascii cs (ascii cs all))

pub var_text : is_utf8 (codes "var") ≡ true
var_text = low_text (codes "var") refl

pub lib_text : is_utf8 (codes "lib") ≡ true
lib_text = low_text (codes "lib") refl
