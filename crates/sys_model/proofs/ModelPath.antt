-- The text of the model file's path is a path.
use Rattle.std.proofs.Common.{◌≡◌, ℕ, true, List, refl, codes}
use Rattle.std.specs.Str.{is_utf8}
use Rattle.std.proofs.lemmas.Str.{IsUtf8-from_ascii, is_utf8-from_IsUtf8}
use Rattle.repo_index.specs.cny-base.Name.{is_word}
use Rattle.repo_index.specs.cny-base.Path.{is_path}
use Rattle.repo_index.proofs.cny-base.Utf8Laws.{word_ascii}
use Rattle.sys_model.specs.RootModel.{model_path}

word_text : (word : List ℕ) → is_word word ≡ true → is_utf8 word ≡ true
word_text word is = is_utf8-from_IsUtf8 word (IsUtf8-from_ascii word (word_ascii word is))

etc_text : is_utf8 (codes "etc") ≡ true
etc_text = word_text (codes "etc") refl

conary_text : is_utf8 (codes "conary") ≡ true
conary_text = word_text (codes "conary") refl

file_text : is_utf8 (codes "system-model") ≡ true
file_text = word_text (codes "system-model") refl

pub path_text : is_path model_path ≡ true
path_text = rw (etc_text, conary_text, file_text) refl
