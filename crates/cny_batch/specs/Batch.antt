-- The bytes that are a batch.
use Rattle.std.specs.Prelude.{◌≡◌, ℕ, ◌<◌, ◌≤◌, Bool, false, ◌==◌, IsTrue, List, [], ◌∷◌, ◌++◌, length, get_or, Option, Some, None}
use Rattle.cny_batch.specs.declared.limits.TheConstants.{LINES_LIMIT, LINE_ROOM}
use Rattle.cny_batch.specs.declared.line.Line.{Line}
use Rattle.cny_batch.specs.Words.{are_words, input_size, words_of}

abbrev pub is_feed : ℕ → Bool
is_feed b = b == 10

-- a line, or an input, and its line feed
abbrev pub with_feed : List ℕ → List ℕ
with_feed text = text ++ 10 ∷ []

-- A line of words: fewer bytes than a line has room for, none of them a line feed.
pub record IsLine (text : List ℕ) : Type 0 where
  pub short : length text < LINE_ROOM
  pub no_feed : (k : ℕ) → k < length text → is_feed (get_or text k 0) ≡ false
  pub words : IsTrue (are_words text)

-- Behind a line that tells a size stand so many bytes, its input, and a line feed; the input of another line is empty.
abbrev pub IsInput : Option ℕ → List ℕ → List ℕ → Type 0
IsInput None input behind = (input ≡ []) × (behind ≡ [])
IsInput (Some size) input behind = (length input ≡ size) × (behind ≡ with_feed input)

-- a line with its words and its input, and the bytes that spell it
pub record IsSpelling (line : Line) (bytes : List ℕ) : Type 0 where
  pub text : List ℕ
  pub behind : List ℕ
  pub valid : IsLine text
  pub words : line.words ≡ words_of text
  pub input : IsInput (input_size text) line.input behind
  pub spelled : bytes ≡ with_feed text ++ behind

-- the bytes spell the lines, one behind the other
abbrev pub AreSpellings : List Line → List ℕ → Type 0
AreSpellings [] bytes = bytes ≡ []
AreSpellings (line ∷ lines) bytes =
    (front rest : List ℕ) × (bytes ≡ front ++ rest) × IsSpelling line front × AreSpellings lines rest

pub record IsBatch (lines : List Line) (bytes : List ℕ) : Type 0 where
  pub few : length lines ≤ LINES_LIMIT
  pub spelled : AreSpellings lines bytes
