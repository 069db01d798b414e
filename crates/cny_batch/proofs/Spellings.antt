-- What is read as lines is spelled so, and what spells lines is read as them.
use Rattle.std.proofs.Common.{◌≡◌, ℕ, ◌<◌, ◌≤◌, zero, suc, Bool, true, false, cond, List, [], ◌∷◌, ◌++◌, length, Option, Some, None, Result, Ok, Err, IsTrue, refl, sym, ap, ◌∙◌, subst, arith, append_assoc, length-append}
use Rattle.std.proofs.lemmas.List.{length_push}
use Rattle.cny_batch.specs.declared.line.Line.{Line}
use Rattle.cny_batch.specs.declared.words.Command.{Command}
use Rattle.cny_batch.specs.Words.{are_words, input_size, words_of}
use Rattle.cny_batch.specs.Batch.{with_feed, IsLine, IsInput, IsSpelling, AreSpellings}
use Rattle.cny_batch.specs.Reading.{command_of, with_command, with_input, text_at, command_at, input_at, line_at, lines_at, ◌&>◌}
use Rattle.cny_batch.proofs.Cuts.{ok_is, no_ok, text_again, text_cut, input_again, input_cut}
use Rattle.cny_batch.proofs.Lines.{after_lines, lines_none, lines_step}

-- ---- the command of a line

-- the command of a line of words
unfoldable pub command_in : List ℕ → Command
command_in text = record { words = words_of text; size = input_size text }

pub command_again : (text : List ℕ) → IsTrue (are_words text) → command_of text ≡ Some (command_in text)
unfolding command_of are_words words_of input_size command_in
command_again text words = rw words refl

command_if : (b : Bool) (x command : Command) → cond b (Some x) None ≡ Some command → (b ≡ true) × (x ≡ command)
command_if true x command e = (refl, cc)
command_if false x command e = absurd cc

pub command_is : (text : List ℕ) (command : Command) → command_of text ≡ Some command → IsTrue (are_words text) × (command_in text ≡ command)
unfolding command_of are_words words_of input_size command_in
command_is text command e = command_if _ _ command e

-- a text at the front that is a line of words, and what is behind it
pub record IsCommandCut (bytes : List ℕ) (command : Command) (behind : List ℕ) : Type 0 where
  pub text : List ℕ
  pub valid : IsLine text
  pub spelled : bytes ≡ with_feed text ++ behind
  pub command_is : command ≡ command_in text

command_found : (bytes text behind : List ℕ) (command : Command) (rest : List ℕ) (o : Option Command) → text_at bytes ≡ Ok (text, behind) → command_of text ≡ o
    → with_command bytes behind o ≡ Ok (command, rest) → IsCommandCut bytes command rest
command_found bytes text behind command rest None cut is e = no_ok (length bytes) (command, rest) e
command_found bytes text behind command rest (Some found) cut is e =
    let one = text_cut bytes text behind cut in
    let two = command_is text found is in
    let p : (found, behind) ≡ (command, rest) = ok_is _ _ e in
    subst (λ (g : Command × List ℕ). IsCommandCut bytes g.0 g.1) p
    (record { text = text; valid = record { short = one.short; no_feed = one.no_feed; words = two.0 }; spelled = one.spelled; command_is = sym two.1 })

command_then : (bytes : List ℕ) (command : Command) (rest : List ℕ) (r : Result (List ℕ × List ℕ) ℕ) → text_at bytes ≡ r
    → (r &> λ front. with_command bytes front.1 (command_of front.0)) ≡ Ok (command, rest) → IsCommandCut bytes command rest
command_then bytes command rest (Err left) is e = no_ok left (command, rest) e
command_then bytes command rest (Ok front) is e = command_found bytes front.0 front.1 command rest (command_of front.0) is refl e

pub command_cut : (bytes : List ℕ) (command : Command) (rest : List ℕ) → command_at bytes ≡ Ok (command, rest) → IsCommandCut bytes command rest
unfolding command_at
command_cut bytes command rest e = command_then bytes command rest (text_at bytes) refl e

pub command_read : (text rest : List ℕ) → IsLine text → command_at (with_feed text ++ rest) ≡ Ok (command_in text, rest)
unfolding command_at
command_read text rest is =
    let bytes = with_feed text ++ rest in
    ap (λ (r : Result (List ℕ × List ℕ) ℕ). r &> λ front. with_command bytes front.1 (command_of front.0)) (text_again text rest is.short is.no_feed)
    ∙ ap (with_command bytes rest) (command_again text is.words)

-- ---- the input of a line

-- what stands for the input at the front
pub record IsInputRead (size : Option ℕ) (bytes input behind : List ℕ) : Type 0 where
  pub part : List ℕ
  pub spelled : bytes ≡ part ++ behind
  pub is : IsInput size input part

pub input_taken : (size : Option ℕ) (bytes input behind : List ℕ) → input_at size bytes ≡ Ok (input, behind) → IsInputRead size bytes input behind
unfolding input_at
input_taken None bytes input behind e =
    let p : ([], bytes) ≡ (input, behind) = ok_is _ _ e in
    subst (λ (g : List ℕ × List ℕ). IsInputRead None bytes g.0 g.1) p (record { part = []; spelled = refl; is = (refl, refl) })
input_taken (Some size) bytes input behind e =
    let cut = input_cut size bytes input behind e in
    record { part = with_feed input; spelled = cut.spelled; is = (cut.sized, refl) }

pub input_given : (size : Option ℕ) (input part rest : List ℕ) → IsInput size input part → input_at size (part ++ rest) ≡ Ok (input, rest)
unfolding input_at
input_given None input part rest is = rw (is.0, is.1) refl
input_given (Some size) input part rest is = ap (λ (l : List ℕ). input_at (Some size) (l ++ rest)) is.1 ∙ input_again size input rest is.0

-- ---- a line with its input

-- a line at the front, and what is behind it
pub record IsLineCut (bytes : List ℕ) (line : Line) (behind : List ℕ) : Type 0 where
  pub front : List ℕ
  pub spelled : bytes ≡ front ++ behind
  pub is : IsSpelling line front

abbrev pub line_with : Command → List ℕ → Line
line_with command input = record { words = command.words; input = input }

line_made : (bytes text rest input behind : List ℕ) → IsLine text → bytes ≡ with_feed text ++ rest → input_at (input_size text) rest ≡ Ok (input, behind)
    → IsLineCut bytes (record { words = words_of text; input = input }) behind
line_made bytes text rest input behind valid spelled e =
    let read = input_taken (input_size text) rest input behind e in
    record {
      front = with_feed text ++ read.part;
      spelled = spelled ∙ ap (λ (l : List ℕ). with_feed text ++ l) read.spelled ∙ sym (append_assoc (with_feed text) read.part behind);
      is = record { text = text; behind = read.part; valid = valid; words = refl; input = read.is; spelled = refl };
    }

input_found : (bytes : List ℕ) (command : Command) (rest : List ℕ) (line : Line) (behind : List ℕ) (r : Result (List ℕ × List ℕ) ℕ) → IsCommandCut bytes command rest
    → input_at command.size rest ≡ r → (r &> with_input command) ≡ Ok (line, behind) → IsLineCut bytes line behind
unfolding command_in
input_found bytes command rest line behind (Err left) cut is e = no_ok left (line, behind) e
input_found bytes command rest line behind (Ok input) cut is e =
    let p : (line_with command input.0, input.1) ≡ (line, behind) = ok_is _ _ e in
    let size : command.size ≡ input_size cut.text = ap (λ (c : Command). c.size) cut.command_is in
    let words : line_with command input.0 ≡ record { words = words_of cut.text; input = input.0 } = ap (λ (c : Command). line_with c input.0) cut.command_is in
    let made = line_made bytes cut.text rest input.0 input.1 cut.valid cut.spelled (ap (λ (o : Option ℕ). input_at o rest) (sym size) ∙ is) in
    subst (λ (g : Line × List ℕ). IsLineCut bytes g.0 g.1) p (subst (λ (l : Line). IsLineCut bytes l input.1) (sym words) made)

line_then : (bytes : List ℕ) (line : Line) (behind : List ℕ) (r : Result (Command × List ℕ) ℕ) → command_at bytes ≡ r
    → (r &> λ head. input_at head.0.size head.1 &> with_input head.0) ≡ Ok (line, behind) → IsLineCut bytes line behind
line_then bytes line behind (Err left) is e = no_ok left (line, behind) e
line_then bytes line behind (Ok head) is e =
    input_found bytes head.0 head.1 line behind (input_at head.0.size head.1) (command_cut bytes head.0 head.1 is) refl e

pub line_cut : (bytes : List ℕ) (line : Line) (behind : List ℕ) → line_at bytes ≡ Ok (line, behind) → IsLineCut bytes line behind
unfolding line_at
line_cut bytes line behind e = line_then bytes line behind (command_at bytes) refl e

pub line_read : (text input part rest : List ℕ) → IsLine text → IsInput (input_size text) input part
    → line_at (with_feed text ++ (part ++ rest)) ≡ Ok (record { words = words_of text; input = input }, rest)
unfolding line_at command_in
line_read text input part rest valid is =
    ap (λ (r : Result (Command × List ℕ) ℕ). r &> λ head. input_at head.0.size head.1 &> with_input head.0) (command_read text (part ++ rest) valid)
    ∙ ap (λ (r : Result (List ℕ × List ℕ) ℕ). r &> with_input (command_in text)) (input_given (input_size text) input part rest is)

pub line_again : (line : Line) (front rest : List ℕ) → IsSpelling line front → line_at (front ++ rest) ≡ Ok (line, rest)
line_again line front rest is =
    ap (λ (l : List ℕ). line_at (l ++ rest)) is.spelled
    ∙ ap line_at (append_assoc (with_feed is.text) is.behind rest)
    ∙ line_read is.text line.input is.behind rest is.valid is.input
    ∙ ap (λ (w : List (List ℕ)). Ok (record { words = w; input = line.input }, rest)) (sym is.words)

-- ---- lines

pub some_bytes : (text rest : List ℕ) → 0 < length (with_feed text ++ rest)
some_bytes text rest = omega (arith, length-append (with_feed text) rest, length_push text 10)

pub spelling_some : (line : Line) (front rest : List ℕ) → IsSpelling line front → 0 < length (front ++ rest)
spelling_some line front rest is =
    subst (λ (l : List ℕ). 0 < length (l ++ rest)) (sym is.spelled)
    (subst (λ (l : List ℕ). 0 < length l) (sym (append_assoc (with_feed is.text) is.behind rest)) (some_bytes is.text (is.behind ++ rest)))

pub lines_again : (lines : List Line) (more : ℕ) (bytes : List ℕ) → length lines ≤ more → AreSpellings lines bytes → lines_at more bytes ≡ Ok lines
lines_again [] more bytes few is = ap (lines_at more) is ∙ lines_none more
lines_again (line ∷ lines) zero bytes few is = absurd (omega (arith, few))
lines_again (line ∷ lines) (suc more) bytes few is =
    let front = is.0 in let rest = is.1 in
    ap (lines_at (suc more)) is.2
    ∙ lines_step more (front ++ rest) rest line (spelling_some line front rest is.3) (line_again line front rest is.3)
    ∙ ap (after_lines (line ∷ [])) (lines_again lines more rest (omega (arith, few)) is.4)

pub record AreCut (more : ℕ) (bytes : List ℕ) (lines : List Line) : Type 0 where
  pub few : length lines ≤ more
  pub spelled : AreSpellings lines bytes

cut_first : (more : ℕ) (bytes rest : List ℕ) (line : Line) (lines : List Line) → IsLineCut bytes line rest → AreCut more rest lines → AreCut (suc more) bytes (line ∷ lines)
cut_first more bytes rest line lines cut others =
    record { few = omega (arith, others.few); spelled = (cut.front, rest, cut.spelled, cut.is, others.spelled) }

behind_cut : (bytes : List ℕ) (lines : List Line) (more : ℕ) (front : Line × List ℕ) (r : Result (List Line) ℕ) → line_at bytes ≡ Ok front → lines_at more front.1 ≡ r
    → (r &> λ others. Ok (front.0 ∷ others)) ≡ Ok lines
    → ((rest : List ℕ) (others : List Line) → lines_at more rest ≡ Ok others → AreCut more rest others) → AreCut (suc more) bytes lines
behind_cut bytes lines more front (Err left) is then e later = no_ok left lines e
behind_cut bytes lines more front (Ok others) is then e later =
    subst (AreCut (suc more) bytes) (ok_is (front.0 ∷ others) lines e)
    (cut_first more bytes front.1 front.0 others (line_cut bytes front.0 front.1 is) (later front.1 others then))

first_cut : (bytes : List ℕ) (lines : List Line) (more : ℕ) (r : Result (Line × List ℕ) ℕ) → line_at bytes ≡ r
    → (r &> λ front. lines_at more front.1 &> λ others. Ok (front.0 ∷ others)) ≡ Ok lines
    → ((rest : List ℕ) (others : List Line) → lines_at more rest ≡ Ok others → AreCut more rest others) → AreCut (suc more) bytes lines
first_cut bytes lines more (Err left) is e later = no_ok left lines e
first_cut bytes lines more (Ok front) is e later = behind_cut bytes lines more front (lines_at more front.1) is refl e later

pub lines_cut : (more : ℕ) (bytes : List ℕ) (lines : List Line) → lines_at more bytes ≡ Ok lines → AreCut more bytes lines
unfolding lines_at
lines_cut zero [] lines e = subst (AreCut zero []) (ok_is [] lines e) (record { few = omega arith; spelled = refl })
lines_cut (suc more) [] lines e = subst (AreCut (suc more) []) (ok_is [] lines e) (record { few = omega arith; spelled = refl })
lines_cut zero (b ∷ bs) lines e = no_ok (length (b ∷ bs)) lines e
lines_cut (suc more) (b ∷ bs) lines e =
    first_cut (b ∷ bs) lines more (line_at (b ∷ bs)) refl e (λ rest others is. lines_cut more rest others is)
