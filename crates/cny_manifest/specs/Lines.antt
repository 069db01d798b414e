-- Lines, their fields, and contents.
use Rattle.std.specs.Prelude.{ℕ, ◌+◌, Bool, nat_lt, ◌==◌, List, [], ◌∷◌, ◌++◌, length, take, drop, get_or, Option, Some, None, Result, Ok, Err, if◌then◌else◌, codes}
use Rattle.std.specs.List.{position}
use Rattle.std.specs.Str.{bytes_eq}
use Rattle.manifest_troves.specs.cny-base.Number.{is_octal_text, octal_value, is_decimal, decimal_value}
use Rattle.cny_manifest.specs.declared.fault.Unread.{Unread}
use Rattle.cny_manifest.specs.declared.fault.Unread.TheVariants.{At}
use Rattle.cny_manifest.specs.declared.words.Word.{Word}
use Rattle.cny_manifest.specs.declared.words.Word.TheVariants as word
use Rattle.cny_manifest.specs.declared.words.WholeLine.TheVariants as whole

infixl 10 ◌&>◌
abbrev pub ◌&>◌ : {A B : Type 0} → Option A → (A → Option B) → Option B
(Some x) &> f = f x
None &> f = None

-- ---- lines and contents at the front of some bytes, each with what is behind it

abbrev pub is_line_feed : ℕ → Bool
is_line_feed b = b == 10

-- a line has fewer bytes, its line feed not counted
abbrev pub line_room : ℕ
line_room = 2049

-- a line, or a content, and its line feed
abbrev pub with_feed : List ℕ → List ℕ
with_feed text = text ++ 10 ∷ []

abbrev pub cut_at : List ℕ → Option ℕ → Option (List ℕ × List ℕ)
cut_at text None = None
cut_at text (Some i) = Some (take i text, drop (i + 1) text)

-- Where no line feed is in the room of a line, the line is at fault at its first byte, or where the bytes end in it at their end.
abbrev pub line_by : List ℕ → Option ℕ → Result (List ℕ × List ℕ) Unread
line_by bytes (Some i) = Ok (take i bytes, drop (i + 1) bytes)
line_by bytes None = if nat_lt (length bytes) line_room then Err (At 0) else Err (At (length bytes))

unfoldable pub line_at : List ℕ → Result (List ℕ × List ℕ) Unread
line_at bytes = line_by bytes (position is_line_feed (take line_room bytes))

-- So many bytes and a line feed. Where the bytes end in them the content is at fault at their end, else at its first byte.
unfoldable pub content_at : ℕ → List ℕ → Result (List ℕ × List ℕ) Unread
content_at size bytes =
    if nat_lt (length bytes) (size + 1) then Err (At 0)
    else if get_or bytes size 0 == 10 then Ok (take size bytes, drop (size + 1) bytes)
    else Err (At (length bytes))

-- ---- fields

abbrev pub is_space : ℕ → Bool
is_space b = b == 32

-- the field at the front, and what is behind the space after it
unfoldable pub field_at : List ℕ → Option (List ℕ × List ℕ)
field_at text = cut_at text (position is_space text)

-- what is behind a word
abbrev pub after : List ℕ → List ℕ → Option (List ℕ)
after front text = if bytes_eq (take (length front) text) front then Some (drop (length front) text) else None

unfoldable pub mode_of : List ℕ → Option ℕ
mode_of text = if is_octal_text text then Some (octal_value text) else None

unfoldable pub size_of : List ℕ → Option ℕ
size_of text = if is_decimal text then Some (decimal_value text) else None

-- ---- the word of a line behind the version's

unfoldable pub word_of : List ℕ → Option Word
word_of text =
    if bytes_eq text (codes "dir") then Some (word.Whole whole.Dir)
    else if bytes_eq text (codes "file") then Some word.File
    else if bytes_eq text (codes "link") then Some word.Link
    else if bytes_eq text (codes "requires") then Some (word.Whole whole.Requires)
    else if bytes_eq text (codes "provides") then Some (word.Whole whole.Provides)
    else if bytes_eq text (codes "ref") then Some (word.Whole whole.Ref)
    else if bytes_eq text (codes "flavor") then Some (word.Whole whole.Flavor)
    else None

-- the word of a line, and its fields
abbrev pub word_at : List ℕ → Option (Word × List ℕ)
word_at text = field_at text &> λ front. word_of front.0 &> λ word. Some (word, front.1)
