-- What the reader answers, step by step from the front.
use Rattle.std.specs.Prelude.{◌≡◌, ℕ, ◌+◌, ◌-◌, ◌≤◌, zero, suc, true, false, nat_lt, nat_le, List, [], ◌∷◌, ◌++◌, length, take, drop, get_or, Option, Some, None, Result, Ok, Err, if◌then◌else◌}
use Rattle.std.specs.List.{position, list_any, list_all}
use Rattle.cny_base.specs.declared.refusal.Refusal.TheVariants.{Malformed}
use Rattle.cny_base.specs.declared.refusal.Fault.{Fault}
use Rattle.cny_base.specs.declared.refusal.Fault.TheVariants as fault
use Rattle.cny_base.specs.declared.text.TextFault.{TextFault}
use Rattle.cny_base.specs.declared.text.TextFault.TheVariants as text
use Rattle.cny_batch.specs.declared.fault.ReadError.{ReadError}
use Rattle.cny_batch.specs.declared.fault.ReadError.TheVariants as errors
use Rattle.cny_batch.specs.declared.limits.TheConstants.{LINE_ROOM}
use Rattle.cny_batch.specs.declared.words.Command.{Command}
use Rattle.cny_batch.specs.declared.line.Line.{Line}
use Rattle.cny_batch.specs.Words.{is_close, is_word, parts_of, last_size, without_size}
use Rattle.cny_batch.specs.Batch.{is_feed}

-- ---- what is read of the bytes that are left: a value and what is behind it, or how many bytes stand from the fault on

infixl 10 ◌&>◌
abbrev pub ◌&>◌ : {A B : Type 0} → Result A ℕ → (A → Result B ℕ) → Result B ℕ
(Ok x) &> f = f x
(Err left) &> f = Err left

abbrev pub text_by : List ℕ → Option ℕ → Result (List ℕ × List ℕ) ℕ
text_by rest (Some i) = Ok (take i rest, drop (i + 1) rest)
text_by rest None = if nat_lt (length rest) LINE_ROOM then Err 0 else Err (length rest)

-- the text of a line
unfoldable pub text_at : List ℕ → Result (List ℕ × List ℕ) ℕ
text_at rest = text_by rest (position is_feed (take LINE_ROOM rest))

-- the words of a line and the size that it tells, by its parts
abbrev pub command_by : List (List ℕ) → Option Command
command_by parts =
    if list_all is_word parts then Some (record { words = without_size (last_size parts) parts; size = last_size parts }) else None

unfoldable pub command_of : List ℕ → Option Command
command_of line = command_by (parts_of line)

abbrev pub with_command : List ℕ → List ℕ → Option Command → Result (Command × List ℕ) ℕ
with_command rest behind None = Err (length rest)
with_command rest behind (Some command) = Ok (command, behind)

-- the command of a line
unfoldable pub command_at : List ℕ → Result (Command × List ℕ) ℕ
command_at rest = text_at rest &> λ front. with_command rest front.1 (command_of front.0)

-- the input of a line
unfoldable pub input_at : Option ℕ → List ℕ → Result (List ℕ × List ℕ) ℕ
input_at None rest = Ok ([], rest)
input_at (Some size) rest =
    if nat_le (length rest) size then Err 0
    else if is_feed (get_or rest size 0) then Ok (take size rest, drop (size + 1) rest)
    else Err (length rest)

abbrev pub with_input : Command → List ℕ × List ℕ → Result (Line × List ℕ) ℕ
with_input command input = Ok (record { words = command.words; input = input.0 }, input.1)

-- a line with its words and its input
unfoldable pub line_at : List ℕ → Result (Line × List ℕ) ℕ
line_at rest = command_at rest &> λ head. input_at head.0.size head.1 &> with_input head.0

-- the lines, so many at most
unfoldable pub lines_at : ℕ → List ℕ → Result (List Line) ℕ
lines_at more [] = Ok []
lines_at zero (b ∷ bs) = Err (length (b ∷ bs))
lines_at (suc more) (b ∷ bs) = line_at (b ∷ bs) &> λ front. lines_at more front.1 &> λ lines. Ok (front.0 ∷ lines)

-- ---- what functions answer

-- a value, seen by view, is what is read, or memory ran out
abbrev pub Fails : {Y : Type 0} → ReadError → Result Y ℕ → Type 0
Fails errors.Memory read = Unit {0}
Fails (errors.Malformed left) read = read ≡ Err left

abbrev pub Gives : {X Y : Type 0} → (X → Y) → Result X ReadError → Result Y ℕ → Type 0
Gives view (Ok x) read = read ≡ Ok (view x)
Gives view (Err error) read = Fails error read

-- What was read is what is there, or nothing is, or memory ran out.
abbrev pub ReadsAs : {X : Type 0} → Option X → Result X TextFault → Type 0
ReadsAs found (Ok x) = found ≡ Some x
ReadsAs found (Err text.Bad) = found ≡ None
ReadsAs found (Err text.Memory) = Unit {0}

abbrev pub fault_of : ℕ → ReadError → Fault
fault_of total (errors.Malformed left) = fault.Refused (Malformed (total - left))
fault_of total errors.Memory = fault.Memory

-- ---- words

-- From each place on a `]` follows where more than so many bytes do: behind the last `]` are so many, or in all where there is none.
abbrev pub AreBehind : ℕ → List ℕ → Type 0
AreBehind behind text = (k : ℕ) → k ≤ length text → list_any is_close (drop k text) ≡ nat_lt behind (length text - k)

-- the part of a line is a word, and was added at the end
pub record IsPushed (before : List (List ℕ)) (part : List ℕ) (after : List (List ℕ)) : Type 0 where
  pub valid : is_word part ≡ true
  pub added : after ≡ before ++ part ∷ []

abbrev pub IsNoWord : List ℕ → TextFault → Type 0
IsNoWord part text.Bad = is_word part ≡ false
IsNoWord part text.Memory = Unit {0}
