-- The text of the configuration file's path is a path.
use Rattle.std.proofs.Common.{◌≡◌, ℕ, true, List, refl, codes}
use Rattle.std.specs.List.{list_all}
use Rattle.std.specs.Str.{is_utf8}
use Rattle.std.proofs.lemmas.Str.{IsUtf8-from_ascii, is_utf8-from_IsUtf8}
use Rattle.cny_version.proofs.cny-base.FileNames.{ascii, is_low}
use Rattle.repo_index.specs.cny-base.Path.{is_path}
use Rattle.trove_spec.specs.RootConfig.{config_path}

low_text : (cs : List ℕ) → list_all is_low cs ≡ true → is_utf8 cs ≡ true
low_text cs all = is_utf8-from_IsUtf8 cs (IsUtf8-from_ascii cs (ascii cs all))

dir_text : is_utf8 (codes "etc") ≡ true
dir_text = low_text (codes "etc") refl

file_text : is_utf8 (codes "conaryrc") ≡ true
file_text = low_text (codes "conaryrc") refl

pub path_text : is_path config_path ≡ true
path_text = rw (dir_text, file_text) refl
