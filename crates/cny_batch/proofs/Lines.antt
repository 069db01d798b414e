-- Lines that were read, and those that are still to be read.
use Rattle.std.proofs.Common.{◌≡◌, ℕ, ◌-◌, ◌<◌, ◌≤◌, zero, suc, Bool, true, false, ◌==◌, List, [], ◌∷◌, ◌++◌, length, Result, Ok, Err, refl, sym, ap, ◌∙◌, subst, arith, append_assoc}
use Rattle.std.proofs.lemmas.Bool.Decides.{nat_tests}
use Rattle.std.proofs.lemmas.List.{append-nil, length_push, nil_from_length}
use Rattle.cny_batch.specs.declared.limits.TheConstants.{LINES_LIMIT}
use Rattle.cny_batch.specs.declared.line.Line.{Line}
use Rattle.cny_batch.specs.declared.fault.ReadError.{ReadError}
use Rattle.cny_batch.specs.declared.fault.ReadError.TheVariants as errors
use Rattle.cny_batch.specs.Reading.{lines_at, line_at, Fails, ◌&>◌}

-- lines that were read, in front of what follows
abbrev pub after_lines : List Line → Result (List Line) ℕ → Result (List Line) ℕ
after_lines lines (Ok more) = Ok (lines ++ more)
after_lines lines (Err left) = Err left

after_more : (lines : List Line) (line : Line) (r : Result (List Line) ℕ) → after_lines lines (after_lines (line ∷ []) r) ≡ after_lines (lines ++ line ∷ []) r
after_more lines line (Err left) = refl
after_more lines line (Ok more) = ap (λ (l : List Line). Ok l) (sym (append_assoc lines (line ∷ []) more))

pub lines_none : (more : ℕ) → lines_at more [] ≡ Ok []
unfolding lines_at
lines_none zero = refl
lines_none (suc more) = refl

pub lines_full : (rest : List ℕ) → 0 < length rest → lines_at 0 rest ≡ Err (length rest)
unfolding lines_at
lines_full [] some = absurd (omega (arith, some))
lines_full (b ∷ bs) some = refl

in_front : (line : Line) (r : Result (List Line) ℕ) → (r &> λ lines. Ok (line ∷ lines)) ≡ after_lines (line ∷ []) r
in_front line (Ok lines) = refl
in_front line (Err left) = refl

pub lines_step : (more : ℕ) (rest behind : List ℕ) (line : Line) → 0 < length rest → line_at rest ≡ Ok (line, behind)
    → lines_at (suc more) rest ≡ after_lines (line ∷ []) (lines_at more behind)
unfolding lines_at
lines_step more [] behind line some e = absurd (omega (arith, some))
lines_step more (b ∷ bs) behind line some e =
    ap (λ (r : Result (Line × List ℕ) ℕ). r &> λ front. lines_at more front.1 &> λ lines. Ok (front.0 ∷ lines)) e
    ∙ in_front line (lines_at more behind)

pub lines_fail : (more : ℕ) (rest : List ℕ) (left : ℕ) → 0 < length rest → line_at rest ≡ Err left → lines_at (suc more) rest ≡ Err left
unfolding lines_at
lines_fail more [] left some e = absurd (omega (arith, some))
lines_fail more (b ∷ bs) left some e =
    ap (λ (r : Result (Line × List ℕ) ℕ). r &> λ front. lines_at more front.1 &> λ lines. Ok (front.0 ∷ lines)) e

-- ---- a turn of the reader

pub lines_on : (limit : ℕ) (bytes rest behind : List ℕ) (lines : List Line) (line : Line) → length lines < limit → 0 < length rest
    → line_at rest ≡ Ok (line, behind)
    → lines_at limit bytes ≡ after_lines lines (lines_at (limit - length lines) rest)
    → lines_at limit bytes ≡ after_lines (lines ++ line ∷ []) (lines_at (limit - length (lines ++ line ∷ [])) behind)
lines_on limit bytes rest behind lines line few some e so_far =
    let more = limit - length (lines ++ line ∷ []) in
    let one : limit - length lines ≡ suc more = omega (arith, length_push lines line) in
    so_far
    ∙ ap (λ (n : ℕ). after_lines lines (lines_at n rest)) one
    ∙ ap (after_lines lines) (lines_step more rest behind line some e)
    ∙ after_more lines line (lines_at more behind)

pub lines_fault : (limit : ℕ) (bytes rest : List ℕ) (lines : List Line) (left : ℕ) → length lines < limit → 0 < length rest
    → line_at rest ≡ Err left
    → lines_at limit bytes ≡ after_lines lines (lines_at (limit - length lines) rest)
    → lines_at limit bytes ≡ Err left
lines_fault limit bytes rest lines left few some e so_far =
    let more = limit - length lines - 1 in
    let one : limit - length lines ≡ suc more = omega arith in
    so_far
    ∙ ap (λ (n : ℕ). after_lines lines (lines_at n rest)) one
    ∙ ap (after_lines lines) (lines_fail more rest left some e)

pub too_many : (limit : ℕ) (bytes rest : List ℕ) (lines : List Line) → length lines ≡ limit → 0 < length rest
    → lines_at limit bytes ≡ after_lines lines (lines_at (limit - length lines) rest)
    → lines_at limit bytes ≡ Err (length rest)
too_many limit bytes rest lines full some so_far =
    let none : limit - length lines ≡ 0 = omega (arith, full) in
    so_far
    ∙ ap (λ (n : ℕ). after_lines lines (lines_at n rest)) none
    ∙ ap (after_lines lines) (lines_full rest some)

pub all_read : (limit : ℕ) (bytes : List ℕ) (lines : List Line)
    → lines_at limit bytes ≡ after_lines lines (lines_at (limit - length lines) [])
    → lines_at limit bytes ≡ Ok lines
all_read limit bytes lines so_far =
    so_far
    ∙ ap (after_lines lines) (lines_none (limit - length lines))
    ∙ ap (λ (l : List Line). Ok l) (append-nil lines)

pub from_start : (r : Result (List Line) ℕ) → r ≡ after_lines [] r
from_start (Ok lines) = refl
from_start (Err left) = refl

-- the lines at the front were read, and the rest is left
pub record AreRead (bytes : List ℕ) (lines : List Line) (rest : List ℕ) : Type 0 where
  pub few : length lines ≤ LINES_LIMIT
  pub read : lines_at LINES_LIMIT bytes ≡ after_lines lines (lines_at (LINES_LIMIT - length lines) rest)

pub none_read : (bytes : List ℕ) → AreRead bytes [] bytes
none_read bytes = record { few = omega arith; read = from_start (lines_at LINES_LIMIT bytes) }

pub one_read : (bytes rest behind : List ℕ) (lines : List Line) (line : Line) → AreRead bytes lines rest → length lines < LINES_LIMIT → 0 < length rest
    → line_at rest ≡ Ok (line, behind) → AreRead bytes (lines ++ line ∷ []) behind
one_read bytes rest behind lines line so_far few some e = record {
  few = omega (arith, few, length_push lines line);
  read = lines_on LINES_LIMIT bytes rest behind lines line few some e so_far.read;
}

-- nothing is left
pub none_left : (bytes rest : List ℕ) (lines : List Line) → AreRead bytes lines rest → rest ≡ [] → lines_at LINES_LIMIT bytes ≡ Ok lines
none_left bytes rest lines so_far none =
    all_read LINES_LIMIT bytes lines (subst (λ (l : List ℕ). lines_at LINES_LIMIT bytes ≡ after_lines lines (lines_at (LINES_LIMIT - length lines) l)) none so_far.read)

-- the next line isn't read
pub next_fails : (bytes rest : List ℕ) (lines : List Line) (error : ReadError) → AreRead bytes lines rest → length lines < LINES_LIMIT → 0 < length rest
    → Fails error (line_at rest) → Fails error (lines_at LINES_LIMIT bytes)
next_fails bytes rest lines errors.Memory so_far few some fails = tt
next_fails bytes rest lines (errors.Malformed left) so_far few some fails = lines_fault LINES_LIMIT bytes rest lines left few some fails so_far.read

-- ---- whether something is left

pub some_rest : (rest : List ℕ) (b : Bool) → b ≡ (length rest == 0) → b ≡ false → 0 < length rest
some_rest rest b is no_end = grind (arith, nat_tests)

pub no_rest : (rest : List ℕ) (b : Bool) → b ≡ (length rest == 0) → b ≡ true → rest ≡ []
no_rest rest b is end = let none : length rest ≡ 0 = grind (arith, nat_tests) in nil_from_length rest none
