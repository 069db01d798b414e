-- The system model file, line by line. Its lines are those of the configuration file, without sections.
use Rattle.std.specs.Prelude.{◌≡◌, ℕ, ◌+◌, ◌<◌, Bool, false, not, ◌==◌, IsTrue, List, [], ◌∷◌, length, drop, take, map, filter, codes, slice_index_or}
use Rattle.std.specs.List.{slice_split, AllZip}
use Rattle.std.specs.Str.{is_utf8}
use Rattle.repo_index.specs.cny-base.Name.{is_name}
use Rattle.repo_index.specs.cny-base.declared.refusal.Fault.{Fault}
use Rattle.repo_index.specs.cny-base.declared.refusal.Fault.TheVariants.{Refused, Memory}
use Rattle.repo_index.specs.cny-base.declared.refusal.Refusal.TheVariants as refusal
use Rattle.trove_spec.specs.Config.{cleaned, has_key, without_front}
use Rattle.trove_spec.specs.Spec.{IsSpecText}
use Rattle.trove_spec.specs.declared.spec.Spec.{Spec}
use Rattle.sys_model.specs.declared.directive.ModelLine.{ModelLine}
use Rattle.sys_model.specs.declared.directive.ModelLine.TheVariants.{Install, Update, Erase}
use Rattle.sys_model.specs.declared.model.Model.{Model}

-- ---- lines

-- the pieces between the LFs
abbrev pub lines_of : List ℕ → List (List ℕ)
lines_of bytes = slice_split (λ b. b == 10) bytes

-- A line that is empty or begins with `#` says nothing.
abbrev pub is_read : List ℕ → Bool
is_read [] = false
is_read (b ∷ bytes) = not (b == 35)

-- what stands behind the first word, without the blanks before it
abbrev pub text_behind : List ℕ → List ℕ → List ℕ
text_behind word line = without_front (drop (length word) line)

abbrev pub install_word : List ℕ
install_word = codes "install"

abbrev pub update_word : List ℕ
update_word = codes "update"

abbrev pub erase_word : List ℕ
erase_word = codes "erase"

-- ---- what a line says

-- the text of this specification, which is kept as it stands
pub record IsSpecAs (text : List ℕ) (spec : Spec) (kept : List ℕ) : Type 0 where
  pub utf8 : IsTrue (is_utf8 text)
  pub is : IsSpecText text spec
  pub kept_is : kept ≡ text

-- the text of this name
abbrev pub IsNameAs : List ℕ → List ℕ → Type 0
IsNameAs text name = IsTrue (is_name text) × (name ≡ text)

-- what the text behind `install` says, that behind `update`, and that behind `erase`
abbrev pub IsInstall : List ℕ → ModelLine → Type 0
IsInstall text (Install spec kept) = IsSpecAs text spec kept
IsInstall text (Update spec kept) = ⊥
IsInstall text (Erase name) = ⊥

abbrev pub IsUpdate : List ℕ → ModelLine → Type 0
IsUpdate text (Install spec kept) = ⊥
IsUpdate text (Update spec kept) = IsSpecAs text spec kept
IsUpdate text (Erase name) = ⊥

abbrev pub IsErase : List ℕ → ModelLine → Type 0
IsErase text (Install spec kept) = ⊥
IsErase text (Update spec kept) = ⊥
IsErase text (Erase name) = IsNameAs text name

-- The first word says what is done with what the text behind it means.
abbrev pub IsDirective : List ℕ → ModelLine → Type 0
IsDirective line (Install spec kept) = IsTrue (has_key install_word line) × IsSpecAs (text_behind install_word line) spec kept
IsDirective line (Update spec kept) = IsTrue (has_key update_word line) × IsSpecAs (text_behind update_word line) spec kept
IsDirective line (Erase name) = IsTrue (has_key erase_word line) × IsNameAs (text_behind erase_word line) name

-- ---- the model

-- the lines that say something, without their CRs and without blanks at their ends
abbrev pub lines_read : List (List ℕ) → List (List ℕ)
lines_read lines = filter is_read (map cleaned lines)

-- Of the lines that say something, this is what they say, in their order.
abbrev pub IsModelOf : List (List ℕ) → Model → Type 0
IsModelOf lines model = AllZip IsDirective (lines_read lines) model.lines

-- behind so many lines, of which a model could be, there is one that should say something and says nothing
pub record IsFirstBad (lines : List (List ℕ)) (before : ℕ) : Type 0 where
  pub model : Model
  pub is : IsModelOf (take before lines) model
  pub within : before < length lines
  pub read : IsTrue (is_read (cleaned (slice_index_or lines before [])))
  pub bad : (said : ModelLine) → IsDirective (cleaned (slice_index_or lines before [])) said → ⊥

-- the number of the first bad line, counted from 1; or memory ran out
abbrev pub IsBadModelOrMemory : List (List ℕ) → Fault → Type 0
IsBadModelOrMemory lines (Refused refused) = (before : ℕ) × (refused ≡ refusal.BadModel (before + 1)) × IsFirstBad lines before
IsBadModelOrMemory lines Memory = Unit {0}
