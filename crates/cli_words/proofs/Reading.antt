-- How reading words ends, by how the reading of their parts ends.
use Rattle.std.proofs.Common.{◌≡◌, List, ℕ, IsTrue, Result, Ok, Err, refl, sym, ap, subst}
use Rattle.std.specs.Prelude.{IfOk, IsErrOf}
use Rattle.cny_version.specs.cny-base.declared.text.TextFault.{TextFault}
use Rattle.cny_version.specs.cny-base.declared.text.TextFault.TheVariants as text
use Rattle.cny_version.specs.Label.{is_label, IsLabelText, LabelParts, label_text}
use Rattle.trove_spec.specs.declared.spec.Spec.{Spec}
use Rattle.trove_spec.specs.Spec.{IsReadAs, IsSpecText}
use Rattle.cny_laws.specs.declared.failure.Failure.{Failure}
use Rattle.cny_laws.specs.declared.failure.Failure.TheVariants as failure
use Rattle.cli_words.specs.declared.words.Command.{Command}
use Rattle.cli_words.specs.declared.words.Form.{Form}
use Rattle.cli_words.specs.declared.words.Form.TheVariants as form
use Rattle.cli_words.specs.Words.{ReadsOnly, IsLabelWord, IsOrUsage, made_of, or_usage, IsSend, IsMove, IsUpdate, ReadsWords, OrMemory, AreOfForm, AreWords, AreSomething, form_of_words, behind, command_of}

-- where a part is none, the whole is none
pub passed_on : {A B : Type 0} (Is : A → Type 0) (Has : B → Type 0) → ((whole : B) → Has whole → (part : A) × Is part) → (e : Failure) → ReadsOnly Is (Err e) → ReadsOnly Has (Err e)
passed_on Is Has part_of failure.Usage reads = record { none = λ whole has. let part = part_of whole has in reads.none part.0 part.1 }
passed_on Is Has part_of failure.Memory reads = tt
passed_on Is Has part_of _ reads = absurd reads

as_read : (c d : Command) → c ≡ d → ◌≡◌ {A = Result Command Failure} (Ok d) (Ok c)
as_read c d same = ap (λ (x : Command). Ok x) (sym same)

as_usage : (e : Failure) → e ≡ failure.Usage → ◌≡◌ {A = Result Command Failure} (Err e) (Err failure.Usage)
as_usage e same = ap (λ (x : Failure). Err x) same

-- the only such command, or usage, is what the words are
pub reads_words : (Is : Command → Type 0) (r : Result Command Failure) → ReadsOnly Is r → (expected : Result Command Failure) → IsOrUsage Is expected → ReadsWords expected r
reads_words Is (Ok c) reads (Ok d) is = as_read c d (reads.only d is)
reads_words Is (Ok c) reads (Err e) is = absurd (is.1.none c reads.is)
reads_words Is (Err failure.Usage) reads (Ok d) is = absurd (reads.none d is)
reads_words Is (Err failure.Usage) reads (Err e) is = as_usage e is.0
reads_words Is (Err failure.Memory) reads expected is = tt
reads_words Is _ reads expected is = absurd reads

-- the words are of this form
pub of_form : (words : List (List ℕ)) (first : Form) → form_of_words words ≡ first → (expected : Result Command Failure) → AreWords words expected → AreOfForm first words expected
of_form words first is expected are = subst (λ (f : Form). AreOfForm f words expected) is are

pub of_this_form : (words : List (List ℕ)) (first : Form) → form_of_words words ≡ first → (r : Result Command Failure) → OrMemory (AreOfForm first words) r → OrMemory (AreWords words) r
of_this_form words first is r h = subst (λ (f : Form). OrMemory (AreOfForm f words) r) (sym is) h

-- ---- what was read, the words are

pub read_is : (Is : Command → Type 0) (r : Result Command Failure) → ReadsOnly Is r → OrMemory (IsOrUsage Is) r
read_is Is (Ok c) reads = reads.is
read_is Is (Err failure.Usage) reads = (refl, reads)
read_is Is (Err failure.Memory) reads = tt
read_is Is _ reads = absurd reads

pub other_is : (expected r : Result Command Failure) → ReadsWords expected r → OrMemory (λ (read : Result Command Failure). read ≡ expected) r
other_is expected (Ok c) reads = sym reads
other_is expected (Err failure.Usage) reads = sym reads
other_is expected (Err (failure.Refused r)) reads = sym reads
other_is expected (Err failure.Memory) reads = tt
other_is expected _ reads = absurd reads

-- ---- words behind the first one, which were read so

module _ (words rest : List (List ℕ)) (same : rest ≡ behind words) (Is : List (List ℕ) → Command → Type 0) (r : Result Command Failure) (reads : ReadsOnly (Is rest) r) where
  pub behind_read : (expected : Result Command Failure) → IsOrUsage (Is (behind words)) expected → ReadsWords expected r
  behind_read expected is = reads_words (Is rest) r reads expected (subst (λ (l : List (List ℕ)). IsOrUsage (Is l) expected) (sym same) is)

  pub behind_is : OrMemory (IsOrUsage (Is (behind words))) r
  behind_is = subst (λ (l : List (List ℕ)). OrMemory (IsOrUsage (Is l)) r) same (read_is (Is rest) r reads)

-- ---- the command of what was read

pub made_reads : {A : Type 0} (make : A → Command) (read : Result A Failure) (e : Failure) → ReadsWords read (Err e) → ReadsWords (made_of make read) (Err e)
made_reads make read failure.Memory reads = tt
made_reads make read failure.Usage reads = ap (made_of make) reads
made_reads make read (failure.Refused r) reads = ap (made_of make) reads
made_reads make read _ reads = absurd reads

-- ---- one text

pub spec_reads : (word : List ℕ) (r : Result Spec TextFault) → IfOk r (IsSpecText word) → ((meant : Spec) → IsSpecText word meant → IsReadAs r meant) → ReadsOnly (IsSpecText word) (or_usage r)
spec_reads word (Ok spec) found only = record { is = found; only = only }
spec_reads word (Err text.Bad) found only = record { none = λ spec is. only spec is }
spec_reads word (Err text.Memory) found only = tt

pub label_reads : (word : List ℕ) (r : Result LabelParts TextFault) → IfOk r (λ label. word ≡ label_text label) → IfOk r (λ label. IsTrue (is_label label))
    → ((label : LabelParts) → IsTrue (is_label label) → word ≡ label_text label → IfOk r (λ read. read ≡ label)) → (IsErrOf r text.Bad → ¬ IsLabelText word) → ReadsOnly (IsLabelWord word) (or_usage r)
label_reads word (Ok label) spelled valid only none = record { is = record { valid = valid; spelled = spelled }; only = λ other is. only other is.valid is.spelled }
label_reads word (Err text.Bad) spelled valid only none = record { none = λ label is. none refl (label, is.valid, is.spelled) }
label_reads word (Err text.Memory) spelled valid only none = tt

-- ---- words are something

some_or_usage : (Is : Command → Type 0) → ((expected : Result Command Failure) → IsOrUsage Is expected → ⊥) → ⊥
some_or_usage Is nothing = nothing (Err failure.Usage) (refl, record { none = λ c is. nothing (Ok c) is })

some_of_form : (f : Form) (words : List (List ℕ)) → ((expected : Result Command Failure) → AreOfForm f words expected → ⊥) → ⊥
some_of_form form.Specs words nothing = some_or_usage (IsSend (behind words)) nothing
some_of_form (form.LabelAndSpec onto) words nothing = some_or_usage (IsMove onto (behind words)) nothing
some_of_form form.Updates words nothing = some_or_usage (IsUpdate (behind words)) nothing
some_of_form form.Others words nothing = nothing (command_of words) refl

pub something : (words : List (List ℕ)) → AreSomething words
something words nothing = some_of_form (form_of_words words) words nothing
