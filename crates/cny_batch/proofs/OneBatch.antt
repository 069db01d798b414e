-- Bytes are a batch of one list of lines, or have one first fault, and never both.
use Rattle.std.proofs.Common.{◌≡◌, ℕ, ◌-◌, List, Some, Ok, Err, length, refl, sym, ap, ◌∙◌}
use Rattle.cny_base.specs.Refusals.{IsRefusalOrMemory}
use Rattle.cny_base.specs.declared.refusal.Refusal.TheVariants.{Malformed}
use Rattle.cny_base.specs.declared.refusal.Fault.TheVariants as fault
use Rattle.cny_batch.specs.declared.fault.ReadError.{ReadError}
use Rattle.cny_batch.specs.declared.fault.ReadError.TheVariants as errors
use Rattle.cny_batch.specs.declared.limits.TheConstants.{LINES_LIMIT}
use Rattle.cny_batch.specs.declared.line.Line.{Line}
use Rattle.cny_batch.specs.Batch.{IsBatch}
use Rattle.cny_batch.specs.FirstFault.{AtLine, left_at, IsFirstFault, IsFaultOf}
use Rattle.cny_batch.specs.Reading.{lines_at, Fails, fault_of}
use Rattle.cny_batch.proofs.Cuts.{ok_is, no_ok, err_is}
use Rattle.cny_batch.proofs.Spellings.{lines_again, lines_cut}
use Rattle.cny_batch.proofs.Stops.{StopsFrom, lines_stop, stop_read}

batch_read : (bytes : List ℕ) (lines : List Line) → IsBatch lines bytes → lines_at LINES_LIMIT bytes ≡ Ok lines
batch_read bytes lines is = lines_again lines LINES_LIMIT bytes is.few is.spelled

pub is_batch : (bytes : List ℕ) (lines : List Line) → lines_at LINES_LIMIT bytes ≡ Ok lines → IsBatch lines bytes
is_batch bytes lines read = let cut = lines_cut LINES_LIMIT bytes lines read in record { few = cut.few; spelled = cut.spelled }

-- how many bytes are left at the first fault
record IsLeft (bytes : List ℕ) (place : ℕ) : Type 0 where
  left : ℕ
  read : lines_at LINES_LIMIT bytes ≡ Err left
  at_place : place ≡ length bytes - left

fault_read : (bytes : List ℕ) (place : ℕ) → IsFirstFault bytes place → IsLeft bytes place
fault_read bytes place is =
    let stop : StopsFrom (AtLine 0) bytes (left_at is.last is.rest) = record { items = is.items; rest = is.rest; last = is.last; spelled = is.spelled; good = is.good; stops = is.stops; goes_on = is.goes_on; left_is = refl } in
    record { left = left_at is.last is.rest; read = stop_read LINES_LIMIT 0 bytes (left_at is.last is.rest) refl stop; at_place = is.at_place }

is_fault : (bytes : List ℕ) (left : ℕ) → lines_at LINES_LIMIT bytes ≡ Err left → IsFirstFault bytes (length bytes - left)
is_fault bytes left read =
    let stop = lines_stop LINES_LIMIT 0 bytes left refl read in
    record {
      items = stop.items;
      rest = stop.rest;
      last = stop.last;
      spelled = stop.spelled;
      good = stop.good;
      stops = stop.stops;
      goes_on = stop.goes_on;
      at_place = ap (λ (n : ℕ). length bytes - n) stop.left_is;
    }

-- ---- where lines were read

pub same_lines : (bytes : List ℕ) (lines other : List Line) → lines_at LINES_LIMIT bytes ≡ Ok lines → IsBatch other bytes → lines ≡ other
same_lines bytes lines other read is = ok_is lines other (sym read ∙ batch_read bytes other is)

pub no_fault : (bytes : List ℕ) (lines : List Line) (place : ℕ) → lines_at LINES_LIMIT bytes ≡ Ok lines → IsFirstFault bytes place → ⊥
no_fault bytes lines place read is = let left = fault_read bytes place is in no_ok left.left lines (sym left.read ∙ read)

-- ---- where none were

pub no_batch : (bytes : List ℕ) (total : ℕ) (error : ReadError) (lines : List Line) → Fails error (lines_at LINES_LIMIT bytes) → IsBatch lines bytes → fault_of total error ≡ fault.Memory
no_batch bytes total errors.Memory lines fails is = refl
no_batch bytes total (errors.Malformed left) lines fails is = no_ok left lines (sym fails ∙ batch_read bytes lines is)

pub first_fault : (bytes : List ℕ) (error : ReadError) → Fails error (lines_at LINES_LIMIT bytes) → IsFaultOf bytes (fault_of (length bytes) error)
first_fault bytes errors.Memory fails = tt
first_fault bytes (errors.Malformed left) fails = (length bytes - left, refl, is_fault bytes left fails)

pub same_fault : (bytes : List ℕ) (error : ReadError) (place : ℕ) → Fails error (lines_at LINES_LIMIT bytes) → IsFirstFault bytes place
    → IsRefusalOrMemory (Some (Malformed place)) (fault_of (length bytes) error)
same_fault bytes errors.Memory place fails is = tt
same_fault bytes (errors.Malformed left) place fails is =
    let own = fault_read bytes place is in
    let same : own.left ≡ left = err_is {A = List Line} own.left left (sym own.read ∙ fails) in
    ap (λ (n : ℕ). Some (Malformed n)) (own.at_place ∙ ap (λ (n : ℕ). length bytes - n) same)

-- ---- of bytes alone

pub one_list : (bytes : List ℕ) (a b : List Line) → IsBatch a bytes → IsBatch b bytes → a ≡ b
one_list bytes a b is other = same_lines bytes a b (batch_read bytes a is) other

pub no_batch_with_fault : (bytes : List ℕ) (a : List Line) (place : ℕ) → IsBatch a bytes → IsFirstFault bytes place → ⊥
no_batch_with_fault bytes a place is fault = no_fault bytes a place (batch_read bytes a is) fault

pub one_fault : (bytes : List ℕ) (p q : ℕ) → IsFirstFault bytes p → IsFirstFault bytes q → p ≡ q
one_fault bytes p q is other =
    let own = fault_read bytes p is in
    let far = fault_read bytes q other in
    let same : own.left ≡ far.left = err_is {A = List Line} own.left far.left (sym own.read ∙ far.read) in
    own.at_place ∙ ap (λ (n : ℕ). length bytes - n) same ∙ sym far.at_place
