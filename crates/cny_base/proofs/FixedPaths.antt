-- Shared lemmas: fixed paths.
use Rattle.std.proofs.Common.{true, ◌≡◌, lit<}
use Rattle.std.proofs.lemmas.Str.{IsUtf8-from_ascii, is_utf8-from_IsUtf8}
use Rattle.std.specs.Str.{is_utf8}
use Rattle.std.proofs.lemmas.Str.Ascii.{IsAscii-cons, IsAscii-nil}
use Rattle.std.specs.Prelude.{[], codes}

pub p_utf8 : is_utf8 (codes "p") ≡ true
p_utf8 = is_utf8-from_IsUtf8 (codes "p") (IsUtf8-from_ascii (codes "p") (IsAscii-cons 112 [] (lit< tt) IsAscii-nil))
