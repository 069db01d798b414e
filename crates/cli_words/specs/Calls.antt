-- What the words of the command line call: one command, the lines of a batch, or those of the demo.
use Rattle.std.specs.Prelude.{◌≡◌, ℕ, ◌&&◌, nat_le, List, [], ◌∷◌, Option, Some, None, Result, Ok, Err, codes, if◌then◌else◌}
use Rattle.std.specs.Str.{bytes_eq}
use Rattle.cny_version.specs.cny-base.Number.{is_decimal, decimal_value}
use Rattle.cny_laws.specs.declared.failure.Failure.{Failure}
use Rattle.cny_laws.specs.declared.failure.Failure.TheVariants as failure
use Rattle.cli_words.specs.declared.call_words.Call.{Call}
use Rattle.cli_words.specs.declared.call_words.Call.TheVariants as call
use Rattle.cli_words.specs.declared.call_words.Kind.{Kind}
use Rattle.cli_words.specs.declared.call_words.Kind.TheVariants as kind
use Rattle.cli_words.specs.declared.words.Command.{Command}
use Rattle.cli_words.specs.Words.{alone, AreWords, behind, OrMemory, ReadsWords}

-- what the first word says
abbrev pub kind_of : List (List ℕ) → Kind
kind_of [] = kind.Single
kind_of (word ∷ words) =
    if bytes_eq word (codes "batch") then kind.Batch
    else if bytes_eq word (codes "demo") then kind.Demo
    else kind.Single

-- `batch` stands alone
abbrev pub batch_of : List (List ℕ) → Result Call Failure
batch_of words = alone call.Batch words

-- from 1 to 200, in decimal digits without a leading zero
abbrev pub package_count : List ℕ → Option ℕ
package_count word = if is_decimal word && (nat_le 1 (decimal_value word) && nat_le (decimal_value word) 200) then Some (decimal_value word) else None

abbrev pub demo_by : Option ℕ → Result Call Failure
demo_by None = Err failure.Usage
demo_by (Some packages) = Ok (call.Demo packages)

-- `demo`: a number of packages
abbrev pub demo_of : List (List ℕ) → Result Call Failure
demo_of [] = Err failure.Usage
demo_of (word ∷ []) = demo_by (package_count word)
demo_of (word ∷ other ∷ words) = Err failure.Usage

abbrev pub as_call : Result Command Failure → Result Call Failure
as_call (Ok c) = Ok (call.Single c)
as_call (Err e) = Err e

-- the words are one command, or none, for this reason
pub record IsSingle (words : List (List ℕ)) (expected : Result Call Failure) : Type 0 where
  pub command : Result Command Failure
  pub are : AreWords words command
  pub is : expected ≡ as_call command

abbrev pub AreOfKind : Kind → List (List ℕ) → Result Call Failure → Type 0
AreOfKind kind.Batch words expected = expected ≡ batch_of (behind words)
AreOfKind kind.Demo words expected = expected ≡ demo_of (behind words)
AreOfKind kind.Single words expected = IsSingle words expected

-- THE WORDS of the command line call this, or nothing, for this reason.
abbrev pub AreCall : List (List ℕ) → Result Call Failure → Type 0
AreCall words expected = AreOfKind (kind_of words) words expected

-- ---- how reading ends

-- The words were read as this, or memory ran out.
abbrev pub ReadsCall : Result Call Failure → Result Call Failure → Type 0
ReadsCall expected read = ReadsWords expected read

-- What was read is so, unless memory ran out.
abbrev pub IsCallOrMemory : (Result Call Failure → Type 0) → Result Call Failure → Type 0
IsCallOrMemory IsSo read = OrMemory IsSo read
