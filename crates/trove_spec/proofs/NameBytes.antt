-- The bytes of names.
use Rattle.std.proofs.Common.{◌≡◌, ℕ, ◌+◌, true, false, not, ◌&&◌, nat_le, List, [], ◌∷◌, length, take, drop, get_or, Option, Some, None, refl, sym, ap, ◌∙◌}
use Rattle.std.specs.Cmp.{first_so, second_so}
use Rattle.std.specs.List.{list_all}
use Rattle.std.specs.Char.{is_ascii_alphanumeric}
use Rattle.std.proofs.lemmas.Bool.{and_from, false≢true}
use Rattle.std.proofs.lemmas.List.Quantifiers.{position-Some}
use Rattle.repo_index.specs.cny-base.Name.{is_word_byte, is_word, is_colon, colon_place, begins_as_group, has_words, is_name}
use Rattle.repo_index.specs.trove-parts.Parts.{Lacks}
use Rattle.repo_index.proofs.trove-parts.IdFields.{halves_lack, letter_in_word}
use Rattle.repo_index.proofs.cny-dep.Cuts.{lacks_by}

word_lacks : (c : ℕ) → is_word_byte c ≡ false → (word : List ℕ) → is_word word ≡ true → Lacks c word
word_lacks c fails [] is = absurd (cc is)
word_lacks c fails (b ∷ bs) is =
    lacks_by is_word_byte c fails (b ∷ bs)
    (and_from (is_word_byte b) (list_all is_word_byte bs) (letter_in_word b (first_so (is_ascii_alphanumeric b) (list_all is_word_byte bs) is))
    (second_so (is_ascii_alphanumeric b) (list_all is_word_byte bs) is))

colon_other : (c : ℕ) → is_colon c ≡ false → (b : ℕ) → is_colon b ≡ true → b ≡ c → ⊥
colon_other c fails b is e = false≢true (sym fails ∙ ap is_colon (sym e) ∙ is)

words_lack : (c : ℕ) → is_word_byte c ≡ false → is_colon c ≡ false → (name : List ℕ) (place : Option ℕ) → colon_place name ≡ place → has_words name place ≡ true → Lacks c name
words_lack c fails no_colon name None found is = word_lacks c fails name is
words_lack c fails no_colon name (Some at) found is =
    let rest = second_so (is_word (take at name)) (is_word (drop (at + 1) name) && not (begins_as_group name)) is in
    halves_lack c name at (colon_other c no_colon (get_or name at 0) (position-Some is_colon name at 0 found).1)
    (word_lacks c fails (take at name) (first_so (is_word (take at name)) (is_word (drop (at + 1) name) && not (begins_as_group name)) is))
    (word_lacks c fails (drop (at + 1) name) (first_so (is_word (drop (at + 1) name)) (not (begins_as_group name)) rest))

-- a byte that is none of a word and no colon isn't in a name
pub name_lacks : (c : ℕ) → is_word_byte c ≡ false → is_colon c ≡ false → (name : List ℕ) → is_name name ≡ true → Lacks c name
name_lacks c fails no_colon name is = words_lack c fails no_colon name (colon_place name) refl (second_so (nat_le (length name) 255) (has_words name (colon_place name)) is)
