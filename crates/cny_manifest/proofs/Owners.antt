-- What isn't UTF-8 is no owner's name.
use Rattle.std.proofs.Common.{◌≡◌, ℕ, Bool, true, false, List, None, length, nat_le, refl}
use Rattle.std.specs.Cmp.{second_so}
use Rattle.std.specs.Str.{is_utf8}
use Rattle.std.proofs.lemmas.Str.{IsUtf8-from_ascii, is_utf8-from_IsUtf8}
use Rattle.manifest_troves.specs.cny-base.Name.{is_word}
use Rattle.manifest_troves.proofs.cny-base.Utf8Laws.{word_ascii}
use Rattle.manifest_troves.specs.cny-stream.Owner.{is_owner_word}
use Rattle.cny_manifest.specs.Entries.{names_if}
use Rattle.cny_version.proofs.cny-base.Bools.{and_false}

not_word : (word : List ℕ) (v u : Bool) → is_owner_word word ≡ v → is_utf8 word ≡ u → u ≡ false → is_owner_word word ≡ false
not_word word false u e utf8 none = e
not_word word true u e utf8 none =
    let text : is_utf8 word ≡ true = is_utf8-from_IsUtf8 word (IsUtf8-from_ascii word (word_ascii word (second_so (nat_le (length word) 32) (is_word word) e))) in
    absurd (cc (text, utf8, none))

pub user_not_text : (user group : List ℕ) → is_utf8 user ≡ false → names_if (user, group) ≡ None
user_not_text user group none =
    let user_not = not_word user (is_owner_word user) (is_utf8 user) refl refl none in
    rw user_not refl

pub group_not_text : (user group : List ℕ) → is_utf8 group ≡ false → names_if (user, group) ≡ None
group_not_text user group none =
    let group_not = not_word group (is_owner_word group) (is_utf8 group) refl refl none in
    rw (and_false (is_owner_word user) (is_owner_word group) group_not) refl
