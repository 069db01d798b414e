-- The words of the command line: which lists of them are commands.
use Rattle.std.specs.Prelude.{◌≡◌, ◌≤◌, IsTrue, Option, List, [], ◌∷◌, ℕ, length, nat_le, Bool, true, false, Some, None, Result, Ok, Err, if◌then◌else◌, ◌&&◌, ◌==◌, not, codes}
use Rattle.std.specs.List.{list_all}
use Rattle.std.specs.Str.{bytes_eq}
use Rattle.cny_version.specs.cny-base.Name.{is_name}
use Rattle.cny_version.specs.cny-base.Number.{is_decimal, decimal_value}
use Rattle.cny_version.specs.cny-base.declared.options.Options.{Options}
use Rattle.cny_version.specs.cny-base.declared.text.TextFault.{TextFault}
use Rattle.cny_version.specs.cny-base.declared.text.TextFault.TheVariants as text
use Rattle.cny_version.specs.Label.{LabelParts, label_text, is_label}
use Rattle.trove_spec.specs.Spec.{IsSpecText}
use Rattle.repo_shadow.specs.declared.way.Way.{Way}
use Rattle.repo_shadow.specs.declared.way.Way.TheVariants as way
use Rattle.trove_spec.specs.declared.given.GivenSpec.{GivenSpec}
use Rattle.cny_laws.specs.declared.failure.Failure.{Failure}
use Rattle.cny_laws.specs.declared.failure.Failure.TheVariants as failure
use Rattle.cli_words.specs.declared.words.Command.{Command}
use Rattle.cli_words.specs.declared.words.Command.TheVariants as command
use Rattle.cli_words.specs.declared.words.Form.{Form}
use Rattle.cli_words.specs.declared.words.Form.TheVariants as form
use Rattle.cli_words.specs.declared.words.UpdateOptions.{UpdateOptions}

-- ---- the options of a job

-- no option
abbrev pub no_options : Options
no_options = record { replace = false; keep = false }

-- With the first of the words, where it is an option that wasn't given before; and the words that are left.
abbrev pub option_at : Options → List (List ℕ) → Options × List (List ℕ)
option_at options [] = (options, [])
option_at options (word ∷ words) =
    if bytes_eq word (codes "--replace") && not options.replace then (record { replace = true; keep = options.keep }, words)
    else if bytes_eq word (codes "--keep") && not options.keep then (record { replace = options.replace; keep = true }, words)
    else (options, word ∷ words)

-- The options at the front of the words, and the words that are left: each at most once, in any order, so two words at most.
abbrev pub options_at : List (List ℕ) → Options × List (List ℕ)
options_at words = let first = option_at no_options words in option_at first.0 first.1

-- no option of `update`
abbrev pub no_update_options : UpdateOptions
no_update_options = record { job = no_options; resolve = false }

-- With the first of the words, where it is an option of `update` that wasn't given before; and the words that are left.
abbrev pub update_option_at : UpdateOptions → List (List ℕ) → UpdateOptions × List (List ℕ)
update_option_at options [] = (options, [])
update_option_at options (word ∷ words) =
    if bytes_eq word (codes "--resolve") && not options.resolve then (record { job = options.job; resolve = true }, words)
    else let read = option_at options.job (word ∷ words) in (record { job = read.0; resolve = options.resolve }, read.1)

-- The options of `update` at the front of the words, and the words that are left: each at most once, in any order, so three words at
-- most.
abbrev pub update_options_at : List (List ℕ) → UpdateOptions × List (List ℕ)
update_options_at words =
    let first = update_option_at no_update_options words in
    let second = update_option_at first.0 first.1 in
    update_option_at second.0 second.1

-- ---- the commands that take no specification

-- what takes no word, or none behind its options
abbrev pub alone : {A : Type 0} → A → List (List ℕ) → Result A Failure
alone one [] = Ok one
alone one (word ∷ words) = Err failure.Usage

-- `install`, with its options directly behind it
abbrev pub install_of : List (List ℕ) → Result Command Failure
install_of words = let read = options_at words in alone (command.Install read.0) read.1

-- `sync`, with its options directly behind it
abbrev pub sync_of : List (List ℕ) → Result Command Failure
sync_of words = let read = options_at words in alone (command.Sync read.0) read.1

-- each word is a name, and they aren't more than a command takes
abbrev pub are_names : List (List ℕ) → Bool
are_names words = nat_le (length words) 64 && list_all is_name words

-- at least one word, and they are names
abbrev pub are_some_names : List (List ℕ) → Bool
are_some_names [] = false
are_some_names (word ∷ words) = are_names (word ∷ words)

-- behind the option of `erase` stand names, at most 64
abbrev pub erase_with : Bool → List (List ℕ) → Result Command Failure
erase_with replace words = if are_some_names words then Ok (command.Erase words replace) else Err failure.Usage

-- `erase`: names, with `--replace` before them or not
abbrev pub erase_of : List (List ℕ) → Result Command Failure
erase_of [] = Err failure.Usage
erase_of (word ∷ words) = if bytes_eq word (codes "--replace") then erase_with true words else erase_with false (word ∷ words)

-- the number of a job: from 1 to 4,294,967,295, in decimal digits without a leading zero
abbrev pub is_job_number : List ℕ → Bool
is_job_number digits = is_decimal digits && (nat_le 1 (decimal_value digits) && nat_le (decimal_value digits) 4294967295)

-- a job: `r.` and its number
abbrev pub job_number : List ℕ → Option ℕ
job_number (first ∷ dot ∷ digits) =
    if first == 114 && (dot == 46 && is_job_number digits) then Some (decimal_value digits) else None
job_number _ = None

-- the jobs down to this one are rolled back
abbrev pub rollback_to : Option ℕ → Result Command Failure
rollback_to None = Err failure.Usage
rollback_to (Some number) = Ok (command.Rollback (Some number))

-- `rollback`: of the newest job, or of the jobs down to one
abbrev pub rollback_of : List (List ℕ) → Result Command Failure
rollback_of [] = Ok (command.Rollback None)
rollback_of (word ∷ []) = rollback_to (job_number word)
rollback_of (word ∷ other ∷ words) = Err failure.Usage

-- one name, or none; a further word is usage
abbrev pub name_or_none : List (List ℕ) → Result (Option (List ℕ)) Failure
name_or_none [] = Ok None
name_or_none (word ∷ []) = if is_name word then Ok (Some word) else Err failure.Usage
name_or_none (word ∷ other ∷ words) = Err failure.Usage

-- the command of what was read
abbrev pub made_of : {A : Type 0} → (A → Command) → Result A Failure → Result Command Failure
made_of make (Ok x) = Ok (make x)
made_of make (Err e) = Err e

-- `q`: all installed troves, or the one of a name
abbrev pub installed_of : List (List ℕ) → Result Command Failure
installed_of words = made_of command.ListInstalled (name_or_none words)

-- behind the option of `verify` stand names, at most 64, or none
abbrev pub verify_with : Bool → List (List ℕ) → Result Command Failure
verify_with full words = if are_names words then Ok (command.Verify full words) else Err failure.Usage

-- `verify`: names, or none, with `--full` before them or not
abbrev pub verify_of : List (List ℕ) → Result Command Failure
verify_of [] = verify_with false []
verify_of (word ∷ words) = if bytes_eq word (codes "--full") then verify_with true words else verify_with false (word ∷ words)

-- `localcs`: one name
abbrev pub local_of : List (List ℕ) → Result Command Failure
local_of [] = Err failure.Usage
local_of (word ∷ []) = if is_name word then Ok (command.LocalChanges word) else Err failure.Usage
local_of (word ∷ other ∷ words) = Err failure.Usage

-- `cook` stands alone, or with `--next` behind it
abbrev pub cook_of : List (List ℕ) → Result Command Failure
cook_of [] = Ok (command.Cook false)
cook_of (word ∷ []) = if bytes_eq word (codes "--next") then Ok (command.Cook true) else Err failure.Usage
cook_of (word ∷ other ∷ words) = Err failure.Usage

-- `rq`: all committed troves, or those of a name
abbrev pub list_of : List (List ℕ) → Result Command Failure
list_of words = made_of command.ListCommitted (name_or_none words)

-- `mirror`, with `ask` or `take` behind it
abbrev pub mirror_of : List (List ℕ) → Result Command Failure
mirror_of [] = Err failure.Usage
mirror_of (word ∷ []) =
    if bytes_eq word (codes "ask") then Ok command.AskMirror
    else if bytes_eq word (codes "take") then Ok command.TakeMirror
    else Err failure.Usage
mirror_of (word ∷ other ∷ words) = Err failure.Usage

-- the words are `-` alone
abbrev pub is_input : List (List ℕ) → Bool
is_input [] = false
is_input (word ∷ []) = bytes_eq word (codes "-")
is_input (word ∷ other ∷ words) = false

-- behind the options of `update` where no specifications are read: an input, which doesn't complete itself
abbrev pub update_with : UpdateOptions → List (List ℕ) → Result Command Failure
update_with options words = if is_input words && not options.resolve then Ok (command.UpdateByInput options.job) else Err failure.Usage

-- `update` where no specifications are read; of specifications it is another form
unfoldable pub update_of : List (List ℕ) → Result Command Failure
update_of words = let read = update_options_at words in update_with read.0 read.1

-- ---- all of these, by the first word

-- the commands of the repository, and the one that reads neither disk
unfoldable pub repository_of : List ℕ → List (List ℕ) → Result Command Failure
repository_of word words =
    if bytes_eq word (codes "showcs") then alone command.ShowChangeSet words
    else if bytes_eq word (codes "cook") then cook_of words
    else if bytes_eq word (codes "commit") then alone command.Commit words
    else if bytes_eq word (codes "rq") then list_of words
    else if bytes_eq word (codes "serve") then alone command.Serve words
    else if bytes_eq word (codes "mirror") then mirror_of words
    else Err failure.Usage

-- those that only read the root
unfoldable pub reading_of : List ℕ → List (List ℕ) → Result Command Failure
reading_of word words =
    if bytes_eq word (codes "q") then installed_of words
    else if bytes_eq word (codes "verify") then verify_of words
    else if bytes_eq word (codes "rblist") then alone command.ListJobs words
    else if bytes_eq word (codes "localcs") then local_of words
    else repository_of word words

-- those that change it
unfoldable pub changing_of : List ℕ → List (List ℕ) → Result Command Failure
changing_of word words =
    if bytes_eq word (codes "install") then install_of words
    else if bytes_eq word (codes "erase") then erase_of words
    else if bytes_eq word (codes "rollback") then rollback_of words
    else if bytes_eq word (codes "update") then update_of words
    else if bytes_eq word (codes "sync") then sync_of words
    else reading_of word words

-- The command that words are which hold no specification; all else is usage.
abbrev pub command_of : List (List ℕ) → Result Command Failure
command_of [] = Err failure.Usage
command_of (word ∷ words) = changing_of word words

-- ---- the commands that take specifications

-- a word that may be a specification
abbrev pub is_short_word : List ℕ → Bool
is_short_word word = nat_le (length word) 4096

-- the word is the text of a specification, which is kept with it
pub record IsGiven (word : List ℕ) (given : GivenSpec) : Type 0 where
  pub short : IsTrue (is_short_word word)
  pub spelled : IsSpecText word given.spec
  pub text_is : given.text ≡ word

-- the word is the text of a label
pub record IsLabelWord (word : List ℕ) (label : LabelParts) : Type 0 where
  pub valid : IsTrue (is_label label)
  pub spelled : word ≡ label_text label

-- behind `changeset`: one specification, or two
abbrev pub AreSpecs : List (List ℕ) → Option GivenSpec → GivenSpec → Type 0
AreSpecs (word ∷ []) None to = IsGiven word to
AreSpecs (word ∷ other ∷ []) (Some from) to = IsGiven word from × IsGiven other to
AreSpecs _ _ _ = ⊥

-- such words make this command
pub record IsSend (words : List (List ℕ)) (c : Command) : Type 0 where
  pub from : Option GivenSpec
  pub to : GivenSpec
  pub is : c ≡ command.SendChanges from to
  pub specs : AreSpecs words from to

-- behind `shadow` and `branch`: a label and a specification
abbrev pub AreLabelAndSpec : List (List ℕ) → LabelParts → GivenSpec → Type 0
AreLabelAndSpec (word ∷ other ∷ []) label given = IsLabelWord word label × IsGiven other given
AreLabelAndSpec _ _ _ = ⊥

-- such words make this command
pub record IsMove (onto : Way) (words : List (List ℕ)) (c : Command) : Type 0 where
  pub label : LabelParts
  pub given : GivenSpec
  pub is : c ≡ command.Move onto label given
  pub both : AreLabelAndSpec words label given

-- the words are these specifications, in their order
abbrev pub AreGivenSpecs : List (List ℕ) → List GivenSpec → Type 0
AreGivenSpecs [] [] = Unit {0}
AreGivenSpecs (word ∷ words) (given ∷ specs) = IsGiven word given × AreGivenSpecs words specs
AreGivenSpecs _ _ = ⊥

-- behind the options of `update`: at least one specification, and at most 64
pub record AreSomeGiven (words : List (List ℕ)) (specs : List GivenSpec) : Type 0 where
  pub some : 1 ≤ length words
  pub few : length words ≤ 64
  pub given : AreGivenSpecs words specs

-- such words behind these options make this command
pub record IsUpdateWith (options : UpdateOptions) (words : List (List ℕ)) (c : Command) : Type 0 where
  pub specs : List GivenSpec
  pub is : c ≡ command.Update specs options.job options.resolve
  pub given : AreSomeGiven words specs

-- such words behind `update` make this command
abbrev pub IsUpdate : List (List ℕ) → Command → Type 0
IsUpdate words c = let read = update_options_at words in IsUpdateWith read.0 read.1 c

-- there is none of these
pub record HasNone {A : Type 0} (Is : A → Type 0) : Type 0 where
  pub none : (other : A) → Is other → ⊥

-- such a command; and where there is none, usage
abbrev pub IsOrUsage : (Command → Type 0) → Result Command Failure → Type 0
IsOrUsage Is (Ok c) = Is c
IsOrUsage Is (Err e) = (e ≡ failure.Usage) × HasNone Is

-- ---- all words

-- what stands behind `update`: specifications, or something else
abbrev pub update_form : List (List ℕ) → Form
update_form words = let read = update_options_at words in if is_input read.1 then form.Others else form.Updates

-- what the first word says of the words behind it
abbrev pub form_of_words : List (List ℕ) → Form
form_of_words [] = form.Others
form_of_words (word ∷ words) =
    if bytes_eq word (codes "changeset") then form.Specs
    else if bytes_eq word (codes "shadow") then form.LabelAndSpec way.Shadow
    else if bytes_eq word (codes "branch") then form.LabelAndSpec way.Branch
    else if bytes_eq word (codes "update") then update_form words
    else form.Others

-- the words behind the first one
abbrev pub behind : List (List ℕ) → List (List ℕ)
behind [] = []
behind (word ∷ words) = words

abbrev pub AreOfForm : Form → List (List ℕ) → Result Command Failure → Type 0
AreOfForm form.Specs words expected = IsOrUsage (IsSend (behind words)) expected
AreOfForm (form.LabelAndSpec onto) words expected = IsOrUsage (IsMove onto (behind words)) expected
AreOfForm form.Updates words expected = IsOrUsage (IsUpdate (behind words)) expected
AreOfForm form.Others words expected = expected ≡ command_of words

-- the words are this command, or none, for this reason
abbrev pub AreWords : List (List ℕ) → Result Command Failure → Type 0
AreWords words expected = AreOfForm (form_of_words words) words expected

-- It can't be that words are nothing: neither a command nor none for a reason.
abbrev pub AreSomething : List (List ℕ) → Type 0
AreSomething words = ((expected : Result Command Failure) → AreWords words expected → ⊥) → ⊥

-- ---- how reading ends

-- this is one, and the only one
pub record IsOnly {A : Type 0} (Is : A → Type 0) (one : A) : Type 0 where
  pub is : Is one
  pub only : (other : A) → Is other → one ≡ other

-- The only one was read; there is none, and so it is usage; or memory ran out.
abbrev pub ReadsOnly : {A : Type 0} → (A → Type 0) → Result A Failure → Type 0
ReadsOnly Is (Ok one) = IsOnly Is one
ReadsOnly Is (Err failure.Usage) = HasNone Is
ReadsOnly Is (Err failure.Memory) = Unit {0}
ReadsOnly Is (Err _) = ⊥

-- what the reading of a text answers, where other texts are usage
abbrev pub or_usage : {A : Type 0} → Result A TextFault → Result A Failure
or_usage (Ok x) = Ok x
or_usage (Err text.Bad) = Err failure.Usage
or_usage (Err text.Memory) = Err failure.Memory

-- The words were read as this, or memory ran out.
abbrev pub ReadsWords : {A : Type 0} → Result A Failure → Result A Failure → Type 0
ReadsWords expected (Ok c) = expected ≡ Ok c
ReadsWords expected (Err failure.Memory) = Unit {0}
ReadsWords expected (Err failure.Usage) = expected ≡ Err failure.Usage
ReadsWords expected (Err (failure.Refused r)) = expected ≡ Err (failure.Refused r)
ReadsWords expected (Err _) = ⊥

-- What was read is so, unless memory ran out.
abbrev pub OrMemory : {A : Type 0} → (Result A Failure → Type 0) → Result A Failure → Type 0
OrMemory IsSo (Err failure.Memory) = Unit {0}
OrMemory IsSo read = IsSo read
