-- What words call, by what their first word says.
use Rattle.std.proofs.Common.{◌≡◌, ◌≤◌, ℕ, Bool, true, false, List, [], ◌∷◌, Option, Some, None, Result, Ok, Err, refl, sym, ap, ◌∙◌, subst}
use Rattle.std.specs.Prelude.{◌&&◌, nat_le, if◌then◌else◌}
use Rattle.cny_version.proofs.cny-base.Counts.{at_most}
use Rattle.cny_version.specs.cny-base.Number.{is_decimal, decimal_value}
use Rattle.cny_laws.specs.declared.failure.Failure.{Failure}
use Rattle.cny_laws.specs.declared.failure.Failure.TheVariants as failure
use Rattle.cli_words.specs.declared.call_words.Call.{Call}
use Rattle.cli_words.specs.declared.call_words.Call.TheVariants as call
use Rattle.cli_words.specs.declared.call_words.Kind.{Kind}
use Rattle.cli_words.specs.declared.call_words.Kind.TheVariants as kind
use Rattle.cli_words.specs.declared.words.Command.{Command}
use Rattle.cli_words.specs.Calls.{AreCall, AreOfKind, IsCallOrMemory, ReadsCall, as_call, batch_of, demo_by, demo_of, kind_of, package_count}
use Rattle.cli_words.specs.Words.{alone, AreWords, OrMemory, ReadsWords, behind}

of_kind : (words : List (List ℕ)) (k : Kind) → kind_of words ≡ k → (expected : Result Call Failure) → AreOfKind k words expected → AreCall words expected
of_kind words k is expected are = subst (λ (x : Kind). AreOfKind x words expected) (sym is) are

to_kind : (words : List (List ℕ)) (k : Kind) → kind_of words ≡ k → (expected : Result Call Failure) → AreCall words expected → AreOfKind k words expected
to_kind words k is expected are = subst (λ (x : Kind). AreOfKind x words expected) is are

-- what is so, is so or memory ran out
call_is : (IsSo : Result Call Failure → Type 0) (r : Result Call Failure) → IsSo r → IsCallOrMemory IsSo r
call_is IsSo (Ok c) h = h
call_is IsSo (Err failure.Memory) h = tt
call_is IsSo (Err failure.Usage) h = h
call_is IsSo (Err (failure.Refused r)) h = h
call_is IsSo (Err failure.InputFault) h = h
call_is IsSo (Err failure.OutputFault) h = h
call_is IsSo (Err failure.RootFault) h = h
call_is IsSo (Err failure.RepositoryFault) h = h
call_is IsSo (Err (failure.Damaged path)) h = h

-- what stands alone is so where the call and usage are
alone_so : (P : Result Call Failure → Type 0) (one : Call) → P (Ok one) → P (Err failure.Usage) → (words : List (List ℕ)) → P (alone one words)
alone_so P one ok usage [] = ok
alone_so P one ok usage (word ∷ words) = usage

-- ---- several lines

-- a call, or usage
abbrev IsPlain : Result Call Failure → Type 0
IsPlain (Ok c) = Unit {0}
IsPlain (Err failure.Usage) = Unit {0}
IsPlain (Err _) = ⊥

pub batch_plain : (words : List (List ℕ)) → IsPlain (batch_of words)
batch_plain words = alone_so IsPlain call.Batch tt tt words

by_plain : (count : Option ℕ) → IsPlain (demo_by count)
by_plain None = tt
by_plain (Some packages) = tt

pub demo_plain : (words : List (List ℕ)) → IsPlain (demo_of words)
demo_plain [] = tt
demo_plain (word ∷ []) = by_plain (package_count word)
demo_plain (word ∷ other ∷ words) = tt

plain_reads : (one : Result Call Failure) → IsPlain one → (expected : Result Call Failure) → expected ≡ one → ReadsCall expected one
plain_reads (Ok c) plain expected is = is
plain_reads (Err failure.Usage) plain expected is = is
plain_reads (Err _) plain expected is = absurd plain

-- the words of this kind were read as this, which is a call or usage
module _ (words : List (List ℕ)) (k : Kind) (first : kind_of words ≡ k) (read : Result Call Failure) where
  pub several_is : AreOfKind k words read → IsCallOrMemory (AreCall words) read
  several_is are = call_is (AreCall words) read (of_kind words k first read are)

  pub several_read : (expected meant : Result Call Failure) → AreCall words expected → (AreOfKind k words expected → expected ≡ meant) → IsPlain meant → read ≡ meant → ReadsCall expected read
  several_read expected meant are mean plain same = subst (ReadsCall expected) (sym same) (plain_reads meant plain expected (mean (to_kind words k first expected are)))

-- ---- one command

module _ (words : List (List ℕ)) (single : kind_of words ≡ kind.Single) where
  pub single_is : (c : Command) → AreWords words (Ok c) → AreCall words (Ok (call.Single c))
  single_is c are = of_kind words kind.Single single (Ok (call.Single c)) (record { command = Ok c; are = are; is = refl })

  pub single_err_is : (e : Failure) → OrMemory (AreWords words) (Err e) → IsCallOrMemory (AreCall words) (Err e)
  single_err_is failure.Memory is = tt
  single_err_is failure.Usage is = of_kind words kind.Single single (Err failure.Usage) (record { command = Err failure.Usage; are = is; is = refl })
  single_err_is (failure.Refused r) is = of_kind words kind.Single single (Err (failure.Refused r)) (record { command = Err (failure.Refused r); are = is; is = refl })
  single_err_is failure.InputFault is = of_kind words kind.Single single (Err failure.InputFault) (record { command = Err failure.InputFault; are = is; is = refl })
  single_err_is failure.OutputFault is = of_kind words kind.Single single (Err failure.OutputFault) (record { command = Err failure.OutputFault; are = is; is = refl })
  single_err_is failure.RootFault is = of_kind words kind.Single single (Err failure.RootFault) (record { command = Err failure.RootFault; are = is; is = refl })
  single_err_is failure.RepositoryFault is = of_kind words kind.Single single (Err failure.RepositoryFault) (record { command = Err failure.RepositoryFault; are = is; is = refl })
  single_err_is (failure.Damaged path) is = of_kind words kind.Single single (Err (failure.Damaged path)) (record { command = Err (failure.Damaged path); are = is; is = refl })

  pub single_read : (expected : Result Call Failure) → AreCall words expected → (c : Command) → ((own : Result Command Failure) → AreWords words own → own ≡ Ok c) → expected ≡ Ok (call.Single c)
  single_read expected are c read = let one = to_kind words kind.Single single expected are in one.is ∙ ap as_call (read one.command one.are)

  pub single_unread : (expected : Result Call Failure) → AreCall words expected → (e : Failure) → ((own : Result Command Failure) → AreWords words own → ReadsWords own (Err e)) → ReadsCall expected (Err e)
  single_unread expected are failure.Memory read = tt
  single_unread expected are failure.Usage read = let one = to_kind words kind.Single single expected are in one.is ∙ ap as_call (read one.command one.are)
  single_unread expected are (failure.Refused r) read = let one = to_kind words kind.Single single expected are in one.is ∙ ap as_call (read one.command one.are)
  single_unread expected are failure.InputFault read = let one = to_kind words kind.Single single expected are in read one.command one.are
  single_unread expected are failure.OutputFault read = let one = to_kind words kind.Single single expected are in read one.command one.are
  single_unread expected are failure.RootFault read = let one = to_kind words kind.Single single expected are in read one.command one.are
  single_unread expected are failure.RepositoryFault read = let one = to_kind words kind.Single single expected are in read one.command one.are
  single_unread expected are (failure.Damaged path) read = let one = to_kind words kind.Single single expected are in read one.command one.are

-- ---- the packages of a demo are few

abbrev pub IsFew : Result Call Failure → Type 0
IsFew (Ok (call.Demo packages)) = packages ≤ 200
IsFew (Ok _) = Unit {0}
IsFew (Err e) = Unit {0}

batch_few : (words : List (List ℕ)) → IsFew (batch_of words)
batch_few words = alone_so IsFew call.Batch tt tt words

counted_few : (a b c : Bool) (packages : ℕ) → (c ≡ true → packages ≤ 200) → IsFew (demo_by (if a && (b && c) then Some packages else None))
counted_few true true true packages few = few refl
counted_few true true false packages few = tt
counted_few true false c packages few = tt
counted_few false b c packages few = tt

demo_few : (words : List (List ℕ)) → IsFew (demo_of words)
demo_few [] = tt
demo_few (word ∷ []) = let packages = decimal_value word in counted_few (is_decimal word) (nat_le 1 packages) (nat_le packages 200) packages (λ is. at_most packages 200 is)
demo_few (word ∷ other ∷ words) = tt

single_few : (c : Result Command Failure) → IsFew (as_call c)
single_few (Ok c) = tt
single_few (Err e) = tt

kind_few : (k : Kind) (words : List (List ℕ)) (expected : Result Call Failure) → AreOfKind k words expected → IsFew expected
kind_few kind.Batch words expected is = subst IsFew (sym is) (batch_few (behind words))
kind_few kind.Demo words expected is = subst IsFew (sym is) (demo_few (behind words))
kind_few kind.Single words expected one = subst IsFew (sym one.is) (single_few one.command)

pub call_few : (words : List (List ℕ)) (expected : Result Call Failure) → AreCall words expected → IsFew expected
call_few words expected are = kind_few (kind_of words) words expected are
