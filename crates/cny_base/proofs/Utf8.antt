-- What is in a grammar is UTF-8.
use Rattle.std.proofs.Common.{◌≡◌, ℕ, Bool, true, false, ◌&&◌, List, refl, sym, ◌∙◌, ap}
use Rattle.std.proofs.Math.Bool.{and-true}
use Rattle.std.proofs.lemmas.Str.{is_utf8-from_IsUtf8, IsUtf8-from_is_utf8}
use Rattle.std.specs.Str.{IsUtf8, is_utf8}
use Rattle.cny_base.specs.Name.{is_name}
use Rattle.cny_base.specs.Path.{is_path}
use Rattle.cny_base.specs.Target.{is_target}
use Rattle.cny_base.proofs.Utf8Laws.{path_utf8, name_utf8, target_utf8}

-- so the test for it changes nothing
pub with_utf8 : (test : Bool) (bytes : List ℕ) → IsUtf8 bytes → test ≡ (test && is_utf8 bytes)
with_utf8 test bytes utf8 = sym (ap (λ b. test && b) (is_utf8-from_IsUtf8 bytes utf8) ∙ and-true test)

pub no_utf8 : (bytes : List ℕ) → (IsUtf8 bytes → ⊥) → is_utf8 bytes ≡ false
no_utf8 bytes none = at (is_utf8 bytes) refl
  where
    at : (v : Bool) → is_utf8 bytes ≡ v → is_utf8 bytes ≡ false
    at true e = absurd (none (IsUtf8-from_is_utf8 bytes e))
    at false e = e

-- and bytes that aren't UTF-8 are in none of the grammars
not_true : (test utf8 : Bool) → (test ≡ true → utf8 ≡ true) → utf8 ≡ false → test ≡ false
not_true true utf8 implied none = absurd (cc (implied refl, none))
not_true false utf8 implied none = refl

pub no_path : (bytes : List ℕ) → is_utf8 bytes ≡ false → is_path bytes ≡ false
no_path bytes none = not_true (is_path bytes) (is_utf8 bytes) (path_utf8 bytes) none

pub no_name : (bytes : List ℕ) → is_utf8 bytes ≡ false → is_name bytes ≡ false
no_name bytes none = not_true (is_name bytes) (is_utf8 bytes) (name_utf8 bytes) none

pub no_target : (bytes : List ℕ) → is_utf8 bytes ≡ false → is_target bytes ≡ false
no_target bytes none = not_true (is_target bytes) (is_utf8 bytes) (target_utf8 bytes) none
