-- Where reading stops, good items stand in front and no good one follows; and the other way round.
use Rattle.std.proofs.Common.{◌≡◌, ◌≢◌, ℕ, ◌+◌, ◌<◌, zero, suc, Bool, true, false, cond, ◌&&◌, nat_lt, List, [], ◌∷◌, ◌++◌, length, Option, Some, None, Result, Ok, Err, refl, sym, ap, ◌∙◌, subst, arith, append_assoc}
use Rattle.std.specs.List.{flat_map}
use Rattle.std.proofs.lemmas.Bool.{lt-ltb, le-ltb}
use Rattle.cny_batch.specs.declared.limits.TheConstants.{LINES_LIMIT, LINE_ROOM}
use Rattle.cny_batch.specs.declared.line.Line.{Line}
use Rattle.cny_batch.specs.declared.words.Command.{Command}
use Rattle.cny_batch.specs.Words.{input_size, words_of}
use Rattle.cny_batch.specs.Batch.{with_feed, IsLine, IsInput}
use Rattle.cny_batch.specs.FirstFault.{Progress, AtLine, AtInput, behind_text, IsNext, Lead, NoneNext, GoesOn, has_feed, left_at}
use Rattle.cny_batch.specs.Reading.{command_of, with_command, with_input, text_at, command_at, input_at, line_at, lines_at, ◌&>◌}
use Rattle.cny_batch.proofs.Cuts.{ok_is, no_ok, err_is, no_err, IsNoText, text_again, text_fails, text_has_feed, input_again, input_cut, input_fails}
use Rattle.cny_batch.proofs.Lines.{after_lines, lines_full, lines_step, lines_fail}
use Rattle.cny_batch.proofs.Spellings.{command_in, command_again, IsCommandCut, command_cut, command_read, IsLineCut, line_cut, line_read, line_with, some_bytes}

-- ---- how many bytes are left at the fault

at_limit : (bytes : List ℕ) (lines : ℕ) → lines ≡ LINES_LIMIT → left_at (AtLine lines) bytes ≡ length bytes
unfolding left_at
at_limit bytes lines full = rw (le-ltb lines LINES_LIMIT (omega (arith, full))) refl

no_feed_left : (bytes : List ℕ) (lines left : ℕ) → lines < LINES_LIMIT → IsNoText bytes left → left ≡ left_at (AtLine lines) bytes
unfolding left_at
no_feed_left bytes lines left few none = none.left_is ∙ sym (rw (lt-ltb lines LINES_LIMIT few, none.none) (same (nat_lt (length bytes) LINE_ROOM)))
  where
    same : (b : Bool) → cond (b && true) 0 (length bytes) ≡ cond b 0 (length bytes)
    same true = refl
    same false = refl

no_words_left : (bytes : List ℕ) (lines : ℕ) → has_feed bytes ≡ true → length bytes ≡ left_at (AtLine lines) bytes
unfolding left_at
no_words_left bytes lines found = sym (rw found (same (nat_lt lines LINES_LIMIT) (nat_lt (length bytes) LINE_ROOM)))
  where
    same : (a b : Bool) → cond (a && (b && false)) 0 (length bytes) ≡ length bytes
    same true true = refl
    same true false = refl
    same false b = refl

input_left : (size : ℕ) (bytes : List ℕ) (lines left : ℕ) → input_at (Some size) bytes ≡ Err left → left ≡ left_at (AtInput lines size) bytes
unfolding left_at
input_left size bytes lines left e = input_fails size bytes left e

-- ---- no good item follows

-- what is left is no line of words, and how many bytes are left at the fault
record IsNoLine (bytes : List ℕ) (lines left : ℕ) : Type 0 where
  stops : NoneNext (AtLine lines) bytes
  left_is : left ≡ left_at (AtLine lines) bytes

no_line : (bytes : List ℕ) (lines : ℕ) → ((text behind : List ℕ) → IsLine text → bytes ≡ with_feed text ++ behind → ⊥) → NoneNext (AtLine lines) bytes
no_line bytes lines none text behind next spelled is = none text behind is.1 spelled

text_is : (bytes text behind : List ℕ) → IsLine text → bytes ≡ with_feed text ++ behind → text_at bytes ≡ Ok (text, behind)
text_is bytes text behind is spelled = ap text_at spelled ∙ text_again text behind is.short is.no_feed

no_text_here : (bytes : List ℕ) (lines left : ℕ) → lines < LINES_LIMIT → text_at bytes ≡ Err left → IsNoLine bytes lines left
no_text_here bytes lines left few e = record {
  stops = no_line bytes lines (λ text behind is spelled. no_ok left (text, behind) (sym e ∙ text_is bytes text behind is spelled));
  left_is = no_feed_left bytes lines left few (text_fails bytes left e);
}

no_words_here : (bytes text rest : List ℕ) (lines : ℕ) → text_at bytes ≡ Ok (text, rest) → command_of text ≡ None → IsNoLine bytes lines (length bytes)
no_words_here bytes text rest lines e none = record {
  stops = no_line bytes lines (λ other behind is spelled.
      let p : (text, rest) ≡ (other, behind) = ok_is _ _ (sym e ∙ text_is bytes other behind is spelled) in
      let same : text ≡ other = ap (λ (g : List ℕ × List ℕ). g.0) p in
      never (command_in other) (sym none ∙ ap command_of same ∙ command_again other is.words));
  left_is = no_words_left bytes lines (text_has_feed bytes text rest e);
}
  where
    never : {X : Type 0} (command : Command) → ◌≡◌ {A = Option Command} None (Some command) → X
    never command e' = absurd cc

no_words_by : (bytes text rest : List ℕ) (lines left : ℕ) (o : Option Command) → text_at bytes ≡ Ok (text, rest) → command_of text ≡ o
    → with_command bytes rest o ≡ Err left → IsNoLine bytes lines left
no_words_by bytes text rest lines left None e is fails = subst (IsNoLine bytes lines) (err_is (length bytes) left fails) (no_words_here bytes text rest lines e is)
no_words_by bytes text rest lines left (Some command) e is fails = no_err (command, rest) left fails

no_line_by : (bytes : List ℕ) (lines left : ℕ) (r : Result (List ℕ × List ℕ) ℕ) → lines < LINES_LIMIT → text_at bytes ≡ r
    → (r &> λ front. with_command bytes front.1 (command_of front.0)) ≡ Err left → IsNoLine bytes lines left
no_line_by bytes lines left (Err other) few is e = no_text_here bytes lines left few (is ∙ ap (λ (n : ℕ). Err n) (err_is {A = Command × List ℕ} other left e))
no_line_by bytes lines left (Ok front) few is e = no_words_by bytes front.0 front.1 lines left (command_of front.0) is refl e

no_command : (bytes : List ℕ) (lines left : ℕ) → lines < LINES_LIMIT → command_at bytes ≡ Err left → IsNoLine bytes lines left
unfolding command_at
no_command bytes lines left few e = no_line_by bytes lines left (text_at bytes) few refl e

no_input : (size : ℕ) (bytes : List ℕ) (lines left : ℕ) → input_at (Some size) bytes ≡ Err left → NoneNext (AtInput lines size) bytes
no_input size bytes lines left e = λ text behind next spelled is.
    no_ok left (text, behind) (sym e ∙ ap (input_at (Some size)) spelled ∙ input_again size text behind is.0)

-- ---- where reading stops

-- behind good items, where no good one follows and the batch hasn't just ended
pub record StopsFrom (here : Progress) (bytes : List ℕ) (left : ℕ) : Type 0 where
  pub items : List (List ℕ)
  pub rest : List ℕ
  pub last : Progress
  pub spelled : bytes ≡ flat_map with_feed items ++ rest
  pub good : Lead here items last
  pub stops : NoneNext last rest
  pub goes_on : GoesOn last rest
  pub left_is : left ≡ left_at last rest

stops_here : (here : Progress) (bytes : List ℕ) (left : ℕ) → NoneNext here bytes → GoesOn here bytes → left ≡ left_at here bytes → StopsFrom here bytes left
stops_here here bytes left none on left_is =
    record { items = []; rest = bytes; last = here; spelled = refl; good = refl; stops = none; goes_on = on; left_is = left_is }

stops_behind : (here next : Progress) (text bytes behind : List ℕ) (left : ℕ) → IsNext here text next → bytes ≡ with_feed text ++ behind → StopsFrom next behind left
    → StopsFrom here bytes left
stops_behind here next text bytes behind left is spelled more = record {
  items = text ∷ more.items;
  rest = more.rest;
  last = more.last;
  spelled = spelled ∙ ap (λ (l : List ℕ). with_feed text ++ l) more.spelled ∙ sym (append_assoc (with_feed text) (flat_map with_feed more.items) more.rest);
  good = (next, is, more.good);
  stops = more.stops;
  goes_on = more.goes_on;
  left_is = more.left_is;
}

-- behind a line and its input
stops_by_size : (size : Option ℕ) (text input part bytes behind : List ℕ) (lines left : ℕ) → lines < LINES_LIMIT → IsLine text → input_size text ≡ size → IsInput size input part
    → bytes ≡ with_feed text ++ (part ++ behind) → StopsFrom (AtLine (lines + 1)) behind left → StopsFrom (AtLine lines) bytes left
stops_by_size None text input part bytes behind lines left few valid size is spelled more =
    stops_behind (AtLine lines) (AtLine (lines + 1)) text bytes behind left (few, valid, sym (ap (behind_text lines) size))
    (spelled ∙ ap (λ (l : List ℕ). with_feed text ++ (l ++ behind)) is.1) more
stops_by_size (Some n) text input part bytes behind lines left few valid size is spelled more =
    stops_behind (AtLine lines) (AtInput lines n) text bytes (with_feed input ++ behind) left (few, valid, sym (ap (behind_text lines) size))
    (spelled ∙ ap (λ (l : List ℕ). with_feed text ++ (l ++ behind)) is.1)
    (stops_behind (AtInput lines n) (AtLine (lines + 1)) input (with_feed input ++ behind) behind left (is.0, refl) refl more)

stops_behind_line : (bytes behind : List ℕ) (line : Line) (lines left : ℕ) → lines < LINES_LIMIT → IsLineCut bytes line behind → StopsFrom (AtLine (lines + 1)) behind left
    → StopsFrom (AtLine lines) bytes left
stops_behind_line bytes behind line lines left few cut more =
    let is = cut.is in
    stops_by_size (input_size is.text) is.text line.input is.behind bytes behind lines left few is.valid refl is.input
    (cut.spelled ∙ ap (λ (l : List ℕ). l ++ behind) is.spelled ∙ append_assoc (with_feed is.text) is.behind behind) more

-- in a line or in its input
stops_in_input : (size : Option ℕ) (bytes text rest : List ℕ) (lines left : ℕ) → lines < LINES_LIMIT → IsLine text → input_size text ≡ size → bytes ≡ with_feed text ++ rest
    → input_at size rest ≡ Err left → StopsFrom (AtLine lines) bytes left
unfolding input_at
stops_in_input None bytes text rest lines left few valid size spelled e = no_err ([], rest) left e
stops_in_input (Some n) bytes text rest lines left few valid size spelled e =
    stops_behind (AtLine lines) (AtInput lines n) text bytes rest left (few, valid, sym (ap (behind_text lines) size)) spelled
    (stops_here (AtInput lines n) rest left (no_input n rest lines left e) tt (input_left n rest lines left e))

input_stops : (bytes : List ℕ) (command : Command) (rest : List ℕ) (lines left : ℕ) (r : Result (List ℕ × List ℕ) ℕ) → lines < LINES_LIMIT → IsCommandCut bytes command rest
    → input_at command.size rest ≡ r → (r &> with_input command) ≡ Err left → StopsFrom (AtLine lines) bytes left
unfolding command_in
input_stops bytes command rest lines left (Ok input) few cut is e = no_err (line_with command input.0, input.1) left e
input_stops bytes command rest lines left (Err other) few cut is e =
    let size : command.size ≡ input_size cut.text = ap (λ (c : Command). c.size) cut.command_is in
    let fails : input_at command.size rest ≡ Err left = is ∙ ap (λ (n : ℕ). Err n) (err_is {A = Line × List ℕ} other left e) in
    stops_in_input command.size bytes cut.text rest lines left few cut.valid (sym size) cut.spelled fails

some_left : (bytes : List ℕ) → 0 < length bytes → bytes ≢ []
some_left bytes some none = absurd (omega (arith, ap length none))

line_by : (bytes : List ℕ) (lines left : ℕ) (r : Result (Command × List ℕ) ℕ) → lines < LINES_LIMIT → 0 < length bytes → command_at bytes ≡ r
    → (r &> λ head. input_at head.0.size head.1 &> with_input head.0) ≡ Err left → StopsFrom (AtLine lines) bytes left
line_by bytes lines left (Err other) few some is e =
    let none = no_command bytes lines left few (is ∙ ap (λ (n : ℕ). Err n) (err_is {A = Line × List ℕ} other left e)) in
    stops_here (AtLine lines) bytes left none.stops (some_left bytes some) none.left_is
line_by bytes lines left (Ok head) few some is e =
    input_stops bytes head.0 head.1 lines left (input_at head.0.size head.1) few (command_cut bytes head.0 head.1 is) refl e

line_stops : (bytes : List ℕ) (lines left : ℕ) → lines < LINES_LIMIT → 0 < length bytes → line_at bytes ≡ Err left → StopsFrom (AtLine lines) bytes left
unfolding line_at
line_stops bytes lines left few some e = line_by bytes lines left (command_at bytes) few some refl e

full_stops : (bytes : List ℕ) (lines left : ℕ) → lines ≡ LINES_LIMIT → 0 < length bytes → length bytes ≡ left → StopsFrom (AtLine lines) bytes left
full_stops bytes lines left full some is =
    stops_here (AtLine lines) bytes left (λ text behind next spelled is'. let few = is'.0 in absurd (omega (arith, few, full))) (some_left bytes some)
    (sym is ∙ sym (at_limit bytes lines full))

line_behind : (bytes : List ℕ) (lines left more : ℕ) (front : Line × List ℕ) (r : Result (List Line) ℕ) → lines < LINES_LIMIT → line_at bytes ≡ Ok front → lines_at more front.1 ≡ r
    → (r &> λ others. Ok (front.0 ∷ others)) ≡ Err left
    → ((rest : List ℕ) → lines_at more rest ≡ Err left → StopsFrom (AtLine (lines + 1)) rest left) → StopsFrom (AtLine lines) bytes left
line_behind bytes lines left more front (Ok others) few is then e later = no_err (front.0 ∷ others) left e
line_behind bytes lines left more front (Err other) few is then e later =
    stops_behind_line bytes front.1 front.0 lines left few (line_cut bytes front.0 front.1 is)
    (later front.1 (then ∙ ap (λ (n : ℕ). Err n) (err_is {A = List Line} other left e)))

first_line : (bytes : List ℕ) (lines left more : ℕ) (r : Result (Line × List ℕ) ℕ) → lines < LINES_LIMIT → 0 < length bytes → line_at bytes ≡ r
    → (r &> λ front. lines_at more front.1 &> λ others. Ok (front.0 ∷ others)) ≡ Err left
    → ((rest : List ℕ) → lines_at more rest ≡ Err left → StopsFrom (AtLine (lines + 1)) rest left) → StopsFrom (AtLine lines) bytes left
first_line bytes lines left more (Err other) few some is e later =
    line_stops bytes lines left few some (is ∙ ap (λ (n : ℕ). Err n) (err_is {A = List Line} other left e))
first_line bytes lines left more (Ok front) few some is e later = line_behind bytes lines left more front (lines_at more front.1) few is refl e later

pub lines_stop : (more lines : ℕ) (bytes : List ℕ) (left : ℕ) → lines + more ≡ LINES_LIMIT → lines_at more bytes ≡ Err left → StopsFrom (AtLine lines) bytes left
unfolding lines_at
lines_stop zero lines [] left total e = no_err [] left e
lines_stop (suc more) lines [] left total e = no_err [] left e
lines_stop zero lines (b ∷ bs) left total e = full_stops (b ∷ bs) lines left (omega arith) (omega arith) (err_is (length (b ∷ bs)) left e)
lines_stop (suc more) lines (b ∷ bs) left total e =
    first_line (b ∷ bs) lines left more (line_at (b ∷ bs)) (omega arith) (omega arith) refl e (λ rest fails. lines_stop more (lines + 1) rest left (omega arith) fails)

-- ---- the other way round

-- the line at the front isn't read
in_line : (bytes : List ℕ) (lines left more : ℕ) (r : Result (Command × List ℕ) ℕ) → lines < LINES_LIMIT → 0 < length bytes → NoneNext (AtLine lines) bytes
    → left ≡ left_at (AtLine lines) bytes → command_at bytes ≡ r → lines_at (suc more) bytes ≡ Err left
unfolding line_at
in_line bytes lines left more (Ok head) few some none left_is is =
    let cut = command_cut bytes head.0 head.1 is in
    absurd (none cut.text head.1 (behind_text lines (input_size cut.text)) cut.spelled (few, cut.valid, refl))
in_line bytes lines left more (Err other) few some none left_is is =
    let stop = no_command bytes lines other few is in
    let same : other ≡ left = stop.left_is ∙ sym left_is in
    let fails : line_at bytes ≡ Err other = ap (λ (r : Result (Command × List ℕ) ℕ). r &> λ head. input_at head.0.size head.1 &> with_input head.0) is in
    lines_fail more bytes left some (fails ∙ ap (λ (n : ℕ). Err n) same)

at_line : (bytes : List ℕ) (lines left more : ℕ) → lines + more ≡ LINES_LIMIT → NoneNext (AtLine lines) bytes → bytes ≢ []
    → left ≡ left_at (AtLine lines) bytes → lines_at more bytes ≡ Err left
at_line [] lines left more total none on left_is = absurd (on refl)
at_line (b ∷ bs) lines left zero total none on left_is =
    lines_full (b ∷ bs) (omega arith) ∙ ap (λ (n : ℕ). Err n) (sym (left_is ∙ at_limit (b ∷ bs) lines (omega arith)))
at_line (b ∷ bs) lines left (suc more) total none on left_is =
    in_line (b ∷ bs) lines left more (command_at (b ∷ bs)) (omega arith) (omega arith) none left_is refl

-- the input at the front isn't read
in_input : (size : ℕ) (rest : List ℕ) (lines left : ℕ) (r : Result (List ℕ × List ℕ) ℕ) → NoneNext (AtInput lines size) rest → left ≡ left_at (AtInput lines size) rest
    → input_at (Some size) rest ≡ r → input_at (Some size) rest ≡ Err left
in_input size rest lines left (Ok found) none left_is is =
    let cut = input_cut size rest found.0 found.1 is in
    absurd (none found.0 found.1 (AtLine (lines + 1)) cut.spelled (cut.sized, refl))
in_input size rest lines left (Err other) none left_is is =
    is ∙ ap (λ (n : ℕ). Err n) (input_left size rest lines other is ∙ sym left_is)

with_no_input : (text rest : List ℕ) (left : ℕ) → IsLine text → input_at (input_size text) rest ≡ Err left → line_at (with_feed text ++ rest) ≡ Err left
unfolding line_at command_in
with_no_input text rest left valid e =
    ap (λ (r : Result (Command × List ℕ) ℕ). r &> λ head. input_at head.0.size head.1 &> with_input head.0) (command_read text rest valid)
    ∙ ap (λ (r : Result (List ℕ × List ℕ) ℕ). r &> with_input (command_in text)) e

-- a line is read, and what is behind it isn't
behind_read : (text input part behind : List ℕ) (left more : ℕ) → IsLine text → IsInput (input_size text) input part → lines_at more behind ≡ Err left
    → lines_at (suc more) (with_feed text ++ (part ++ behind)) ≡ Err left
behind_read text input part behind left more valid is e =
    lines_step more (with_feed text ++ (part ++ behind)) behind (record { words = words_of text; input = input }) (some_bytes text (part ++ behind)) (line_read text input part behind valid is)
    ∙ ap (after_lines (record { words = words_of text; input = input } ∷ [])) e

abbrev Reads : ℕ → List (List ℕ) → List ℕ → ℕ → Type 0
Reads more items rest left = lines_at more (flat_map with_feed items ++ rest) ≡ Err left

-- what stops behind the items, from here on
record Ends (rest : List ℕ) (last : Progress) (left : ℕ) : Type 0 where
  stops : NoneNext last rest
  goes_on : GoesOn last rest
  left_is : left ≡ left_at last rest

no_more : {X : Type 0} (lines : ℕ) → lines + 0 ≡ LINES_LIMIT → lines < LINES_LIMIT → X
no_more lines total few = absurd (omega (arith, total))

-- the text of a line is the last good item
last_text : (size : Option ℕ) (text rest : List ℕ) (last : Progress) (lines left more : ℕ) → Ends rest last left → IsLine text → input_size text ≡ size
    → Lead (behind_text lines size) [] last → (Lead (AtLine (lines + 1)) [] last → Reads more [] rest left) → lines_at (suc more) (with_feed text ++ rest) ≡ Err left
last_text None text rest last lines left more ends valid size good later =
    behind_read text [] [] rest left more valid (subst (λ (o : Option ℕ). IsInput o [] []) (sym size) (refl, refl)) (later good)
last_text (Some n) text rest last lines left more ends valid size good later =
    let here : Ends rest (AtInput lines n) left = subst (λ (p : Progress). Ends rest p left) (sym good) ends in
    let fails : input_at (Some n) rest ≡ Err left = in_input n rest lines left (input_at (Some n) rest) here.stops here.left_is refl in
    lines_fail more (with_feed text ++ rest) left (some_bytes text rest)
    (with_no_input text rest left valid (ap (λ (o : Option ℕ). input_at o rest) size ∙ fails))

-- behind the text of a line comes its input, or another line
next_items : (size : Option ℕ) (text input : List ℕ) (items : List (List ℕ)) (rest : List ℕ) (last : Progress) (lines left more : ℕ) → IsLine text → input_size text ≡ size
    → Lead (behind_text lines size) (input ∷ items) last
    → (Lead (AtLine (lines + 1)) (input ∷ items) last → Reads more (input ∷ items) rest left)
    → (Lead (AtLine (lines + 1)) items last → Reads more items rest left)
    → lines_at (suc more) (with_feed text ++ (flat_map with_feed (input ∷ items) ++ rest)) ≡ Err left
next_items None text input items rest last lines left more valid size good later behind =
    behind_read text [] [] (flat_map with_feed (input ∷ items) ++ rest) left more valid (subst (λ (o : Option ℕ). IsInput o [] []) (sym size) (refl, refl)) (later good)
next_items (Some n) text input items rest last lines left more valid size good later behind =
    let others : Lead (AtLine (lines + 1)) items last = subst (λ (p : Progress). Lead p items last) good.1.1 good.2 in
    ap (λ (l : List ℕ). lines_at (suc more) (with_feed text ++ l)) (append_assoc (with_feed input) (flat_map with_feed items) rest)
    ∙ behind_read text input (with_feed input) (flat_map with_feed items ++ rest) left more valid
    (subst (λ (o : Option ℕ). IsInput o input (with_feed input)) (sym size) (good.1.0, refl)) (behind others)

read_on : (items : List (List ℕ)) (rest : List ℕ) (last : Progress) (lines left more : ℕ) → Ends rest last left → lines + more ≡ LINES_LIMIT → Lead (AtLine lines) items last
    → Reads more items rest left
read_on [] rest last lines left more ends total good =
    let here : Ends rest (AtLine lines) left = subst (λ (p : Progress). Ends rest p left) (sym good) ends in
    at_line rest lines left more total here.stops here.goes_on here.left_is
read_on (text ∷ items) rest last lines left zero ends total good = no_more lines total good.1.0
read_on (text ∷ []) rest last lines left (suc more) ends total good =
    ap (λ (l : List ℕ). lines_at (suc more) l) (append_assoc (with_feed text) [] rest)
    ∙ last_text (input_size text) text rest last lines left more ends good.1.1 refl (subst (λ (p : Progress). Lead p [] last) good.1.2 good.2)
    (λ others. read_on [] rest last (lines + 1) left more ends (omega (arith, total)) others)
read_on (text ∷ input ∷ items) rest last lines left (suc more) ends total good =
    ap (λ (l : List ℕ). lines_at (suc more) l) (append_assoc (with_feed text) (flat_map with_feed (input ∷ items)) rest)
    ∙ next_items (input_size text) text input items rest last lines left more good.1.1 refl (subst (λ (p : Progress). Lead p (input ∷ items) last) good.1.2 good.2)
    (λ others. read_on (input ∷ items) rest last (lines + 1) left more ends (omega (arith, total)) others)
    (λ others. read_on items rest last (lines + 1) left more ends (omega (arith, total)) others)

pub stop_read : (more lines : ℕ) (bytes : List ℕ) (left : ℕ) → lines + more ≡ LINES_LIMIT → StopsFrom (AtLine lines) bytes left → lines_at more bytes ≡ Err left
stop_read more lines bytes left total stop =
    ap (lines_at more) stop.spelled
    ∙ read_on stop.items stop.rest stop.last lines left more (record { stops = stop.stops; goes_on = stop.goes_on; left_is = stop.left_is }) total stop.good
